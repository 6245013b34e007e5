use Rattle.rank_node.specs.HeldNodes.{peer_of, group_of}
use Rattle.rank_node.proofs.FrontSteps.{front-outcome}
use Rattle.rank_node.proofs.HeldParts.{rank-outcome, no_rank-outcome}
use Rattle.rank_node.proofs.held_nodes.HeldNodes.outcome.Goals as goal

pub returns-in-Rank-clause-machine : goal.returns-in-Rank-clause-machine
returns-in-Rank-clause-machine c = λ s sound lends.
    front-outcome s c.args.self.now.own.value (peer_of c.args.self.now.other) (group_of c.args.self.now.other) c.args.t.now c.front_outcome.result c.requires
    (rank-outcome c.args.self.now.own.value c.deref.result.now c.args.self.now.other c.in-Rank.peer c.deref-in-Rank.result.now c.args.t.now c.front_outcome.result c.deref.ensures c.deref-in-Rank.ensures c.in-Rank.is c.front_outcome.ensures) sound lends

pub returns-in-Nothing-clause-machine : goal.returns-in-Nothing-clause-machine
returns-in-Nothing-clause-machine c = λ s sound lends.
    front-outcome s c.args.self.now.own.value (peer_of c.args.self.now.other) (group_of c.args.self.now.other) c.args.t.now c.front_outcome-in-Nothing.result c.requires
    (no_rank-outcome c.args.self.now.own.value c.deref-in-Nothing.result.now c.deref-in-Nothing-2.result.now c.args.self.now.other c.args.t.now c.front_outcome-in-Nothing.result c.deref-in-Nothing.ensures c.deref-in-Nothing-2.ensures c.in-Nothing.is c.front_outcome-in-Nothing.ensures) sound lends
