use Rattle.std.proofs.Common.{[]}
use Rattle.plain_schedule.specs.Schedule.{rank_starts}
use Rattle.call_journal.proofs.NumberRanges.{range-more}
use Rattle.plain_schedule.proofs.scheduling.starts.Goals as goal

pub loop-rank-preserved : goal.loop-rank-preserved
loop-rank-preserved c = range-more (rank_starts c.args.scripts.now) c.loop-rank.rank [] _ _ c.in_ok-add_starts.ensures c.loop-rank.invariant
