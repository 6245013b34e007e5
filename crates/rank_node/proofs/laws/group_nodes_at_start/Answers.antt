use Rattle.rank_node.proofs.OpeningGroups.{opening-group-of}
use Rattle.rank_node.proofs.laws.group_nodes_at_start.Goals as goal

pub returns : goal.returns
returns c = λ w id n below stands. opening-group-of w id n below stands
