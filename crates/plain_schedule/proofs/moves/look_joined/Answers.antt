use Rattle.plain_schedule.proofs.Declared.{active-declared}
use Rattle.plain_schedule.proofs.moves.look_joined.Goals as goal

pub look-requires : goal.look-requires
look-requires c = active-declared c.args.schedule.now.state _ _ c.requires.active
