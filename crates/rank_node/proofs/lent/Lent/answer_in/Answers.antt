use Rattle.std.proofs.Common.{subst}
use Rattle.std.specs.Borrow.{MutBor}
use Rattle.std.specs.Prelude.{Option}
use Rattle.rank_node.specs.Lending.{AreLentFor, behind}
use Rattle.rank_node.specs.declared.nodes.GroupNode.{GroupNode}
use Rattle.rank_node.proofs.LentLooks.{lent-there, waiting-lent, waiting-own, waiting-found}
use Rattle.rank_node.proofs.lent.Lent.answer_in.Goals as goal

pub look_again-requires-clause-mine : goal.look_again-requires-clause-mine
look_again-requires-clause-mine c =
    let lent = c.requires.lent in
    waiting-own lent.state c.args.caller.rank c.args.call.now c.args.self.now.own.now (behind c.args.self.now.peer) c.in-Some.group.now c.args.caller.thread c.requires.pending.0 lent.sound c.requires.own c.requires.pending.1
    (lent-there lent.state c.args.call.now c.args.self.now.own.now (behind c.args.self.now.peer) c.args.self.now.group _ c.in-Some.is lent.lends)

pub unreachable-requires : goal.unreachable-requires
unreachable-requires c =
    waiting-lent c.args.call.now c.args.self.now.own.now (behind c.args.self.now.peer) c.args.caller.thread c.requires.pending.0 c.requires.pending.1
    (subst (λ (o : Option (MutBor GroupNode)). AreLentFor c.args.call.now c.args.self.now.own.now (behind c.args.self.now.peer) (behind o)) c.in-None.is c.requires.lent)

pub returns-clause-answer : goal.returns-clause-answer
returns-clause-answer c = λ s sound lends.
    let here = lent-there s c.args.call.now c.args.self.now.own.now (behind c.args.self.now.peer) c.args.self.now.group _ c.in-Some.is lends in
    waiting-found s c.args.caller.rank c.args.call.now c.args.self.now.own.now (behind c.args.self.now.peer) c.in-Some.group.now c.args.caller.thread c.requires.pending.0 c.look_again.result sound c.requires.own c.requires.pending.1 here c.look_again.ensures.finds
