use Rattle.plain_schedule.proofs.ScheduleLoop.{HasTurned}
use Rattle.plain_schedule.proofs.Work.{work}
use Rattle.plain_schedule.proofs.scheduling.schedule.Given as goal

abbrev pub invariant-loop-look : goal.invariant-loop-look
invariant-loop-look l = HasTurned l.fn.shape l.fn.scripts l.fn.seed l.fn.limit l.schedule

abbrev pub decreases-loop-look : goal.decreases-loop-look
decreases-loop-look l = work l.fn.limit l.schedule
