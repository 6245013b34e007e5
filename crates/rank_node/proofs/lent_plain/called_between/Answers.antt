use Rattle.std.proofs.Common.{Some, refl, ap, ◌∙◌}
use Rattle.rank_node.specs.Effects.{with_posts}
use Rattle.rank_node.proofs.CalledNodes.{granted-between}
use Rattle.rank_node.proofs.LeftNodes.{left-between}
use Rattle.rank_node.proofs.lent_plain.called_between.Goals as goal

pub record-requires-clause-event : goal.record-requires-clause-event
record-requires-clause-event c = (granted-between c.args.caller c.args.call c.args.reply c.args.own.now (Some c.args.peer.now) c.args.room.now c.requires.plain c.requires.step c.requires.room).event

pub record-requires-clause-memory : goal.record-requires-clause-memory
record-requires-clause-memory c = (granted-between c.args.caller c.args.call c.args.reply c.args.own.now (Some c.args.peer.now) c.args.room.now c.requires.plain c.requires.step c.requires.room).memory

pub returns : goal.returns
returns c = λ s t group is.
    left-between s t c.args.caller c.args.call c.args.reply c.args.place c.args.own.now _ c.args.peer.now _ group c.args.room.now c.requires.plain is c.requires.room c.record.ensures.posts refl c.record.ensures.memory
    (c.register_at.ensures ∙ ap (with_posts c.args.peer.now.posts) (c.registration-registration.ensures c.args.peer.now.posts.posts))
