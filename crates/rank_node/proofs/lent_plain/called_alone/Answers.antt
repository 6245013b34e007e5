use Rattle.std.proofs.Common.{None}
use Rattle.rank_node.proofs.CalledNodes.{granted-between}
use Rattle.rank_node.proofs.LeftNodes.{left-alone}
use Rattle.rank_node.proofs.lent_plain.called_alone.Goals as goal

pub record-requires-clause-event : goal.record-requires-clause-event
record-requires-clause-event c = (granted-between c.args.caller c.args.call c.args.reply c.args.own.now None c.args.room.now c.requires.plain c.requires.step c.requires.room).event

pub record-requires-clause-posts : goal.record-requires-clause-posts
record-requires-clause-posts c = (granted-between c.args.caller c.args.call c.args.reply c.args.own.now None c.args.room.now c.requires.plain c.requires.step c.requires.room).posts

pub record-requires-clause-memory : goal.record-requires-clause-memory
record-requires-clause-memory c = (granted-between c.args.caller c.args.call c.args.reply c.args.own.now None c.args.room.now c.requires.plain c.requires.step c.requires.room).memory

pub record-requires-clause-made : goal.record-requires-clause-made
record-requires-clause-made c = (granted-between c.args.caller c.args.call c.args.reply c.args.own.now None c.args.room.now c.requires.plain c.requires.step c.requires.room).made

pub returns : goal.returns
returns c = λ s t group is.
    left-alone s t c.args.caller c.args.call c.args.reply c.args.place c.args.own.now _ group c.args.room.now c.requires.plain is c.requires.room c.record.ensures.posts c.record.ensures.memory
