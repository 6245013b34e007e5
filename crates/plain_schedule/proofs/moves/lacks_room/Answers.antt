use Rattle.plain_schedule.proofs.Declared.{active-declared}
use Rattle.plain_schedule.proofs.moves.lacks_room.Goals as goal

pub lacks_room-requires : goal.lacks_room-requires
lacks_room-requires c = active-declared c.args.schedule.now.state _ _ c.requires.active
