use Rattle.plain_schedule.proofs.Declared.{active-declared}
use Rattle.plain_schedule.proofs.moves.join_group.Goals as goal

pub join-requires-clause-declared : goal.join-requires-clause-declared
join-requires-clause-declared c = active-declared c.args.schedule.now.state _ _ c.requires.active
