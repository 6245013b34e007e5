use Rattle.plain_schedule.proofs.Declared.{active-declared}
use Rattle.plain_schedule.proofs.moves.record_call.Goals as goal

pub record-requires-clause-declared : goal.record-requires-clause-declared
record-requires-clause-declared c = active-declared c.args.schedule.now.state _ _ c.requires.active
