use Rattle.std.proofs.Common.{rules}
use Rattle.plain_machine.specs.Machine.{state_in}
use Rattle.plain_machine.proofs.Fitting.{few_marks, short_at}
use Rattle.plain_machine.proofs.looking.look_plain.Goals as goal

pub look-requires-clause-corrupt : goal.look-requires-clause-corrupt
look-requires-clause-corrupt c = few_marks (state_in c.args.ranks.now c.args.memories.now) c.requires.whole.sound c.args.invocation.now.caller.rank c.at.result.now (search rules)

pub look-requires-clause-inbox : goal.look-requires-clause-inbox
look-requires-clause-inbox c =
    rw c.accessed_memory-memory.ensures (short_at (state_in c.args.ranks.now c.args.memories.now) c.args.invocation.now.caller.rank c.call_footprint-footprint.result c.requires.whole.sound)
