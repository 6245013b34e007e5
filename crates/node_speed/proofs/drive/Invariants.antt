use Rattle.two_nodes.specs.Worlds.{HasTwoCallers}
use Rattle.node_speed.proofs.drive.Given as goal

abbrev pub invariant-loop : goal.invariant-loop
invariant-loop l = HasTwoCallers l.nodes
