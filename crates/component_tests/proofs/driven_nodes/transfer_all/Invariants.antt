use Rattle.two_nodes.specs.Worlds.{HasTwoCallers}
use Rattle.component_tests.proofs.driven_nodes.transfer_all.Given as goal

abbrev pub invariant-loop : goal.invariant-loop
invariant-loop l = HasTwoCallers l.nodes
