use Rattle.plain_schedule.specs.Schedule.{thread_starts}
use Rattle.call_journal.proofs.NumberRanges.{thread-more}
use Rattle.plain_schedule.proofs.scheduling.add_starts.Goals as goal

pub loop-thread-preserved : goal.loop-thread-preserved
loop-thread-preserved c =
    thread-more (thread_starts c.args.scripts.now) c.args.rank c.loop-thread.thread c.of.result c.of-in-loop-thread.result _ _ _ c.in_ok-add_start.ensures c.of.ensures c.of-in-loop-thread.ensures c.loop-thread.invariant
