use Rattle.std.proofs.Common.{None, refl}
use Rattle.rank_node.specs.HeldNodes.{peer_of}
use Rattle.rank_node.proofs.HeldParts.{group-lent, no_group-lent}
use Rattle.rank_node.proofs.LentLooks.{waiting-lent, waiting-own, waiting-found}
use Rattle.rank_node.proofs.held_nodes.HeldNodes.answer_in.Goals as goal

pub look_again-requires-clause-mine : goal.look_again-requires-clause-mine
look_again-requires-clause-mine c =
    let lent = c.requires.lent in
    let own = c.args.self.now.own.value in
    waiting-own lent.state c.args.caller.rank c.args.call.now own None c.deref.result.now c.args.caller.thread c.requires.pending.0 lent.sound c.requires.own c.requires.pending.1
    (group-lent lent.state c.args.call.now own own c.args.self.now.other c.in-Group.group c.deref.result.now refl c.deref.ensures c.in-Group.is lent.lends)

pub unreachable-requires : goal.unreachable-requires
unreachable-requires c =
    waiting-lent c.args.call.now c.args.self.now.own.value (peer_of c.args.self.now.other) c.args.caller.thread c.requires.pending.0 c.requires.pending.1
    (no_group-lent c.args.call.now c.args.self.now.own.value c.args.self.now.other c.in-Nothing.is c.requires.lent)

pub returns-clause-answer : goal.returns-clause-answer
returns-clause-answer c = λ s sound lends.
    let own = c.args.self.now.own.value in
    let here = group-lent s c.args.call.now own own c.args.self.now.other c.in-Group.group c.deref.result.now refl c.deref.ensures c.in-Group.is lends in
    waiting-found s c.args.caller.rank c.args.call.now own None c.deref.result.now c.args.caller.thread c.requires.pending.0 c.look_again.result sound c.requires.own c.requires.pending.1 here c.look_again.ensures.finds
