use Rattle.two_nodes.specs.Worlds.{HasTwoCallers}
use Rattle.component_tests.proofs.driven_nodes.count_told.Given as goal

abbrev pub invariant-loop-line : goal.invariant-loop-line
invariant-loop-line l = HasTwoCallers l.nodes
