use Rattle.rank_node.proofs.OpeningNodes.{opening-node}
use Rattle.rank_node.proofs.nodes.Node.new.Goals as goal

pub returns : goal.returns
returns c = opening-node c.args.shape.now c.args.rank _ c.requires c.in_ok-new.ensures c.in_ok-new-2.ensures
