use Rattle.std.proofs.Common.{None}
use Rattle.rank_node.proofs.Fitting.{look-fits}
use Rattle.rank_node.proofs.PlainNodes.{looks-between}
use Rattle.rank_node.proofs.lent_plain.answer_alone.Goals as goal

pub look-requires-clause-corrupt : goal.look-requires-clause-corrupt
look-requires-clause-corrupt c = (looks-between c.args.invocation.now.call.now c.args.own.now None c.requires.lent).corrupt

pub look-requires-clause-capacity : goal.look-requires-clause-capacity
look-requires-clause-capacity c = (looks-between c.args.invocation.now.call.now c.args.own.now None c.requires.lent).capacity

pub returns-clause-fits : goal.returns-clause-fits
returns-clause-fits c = λ room is. look-fits c.args.own.now.posts c.args.own.now.memory c.args.own.now.memory.memory c.args.invocation.now.caller.thread c.args.invocation.now.call.now room c.look.result is c.look.ensures.answer
