use Rattle.std.proofs.Common.{arith}
use Rattle.journal_pictures.specs.Trace.{queue_name}
use Rattle.journal_pictures.proofs.Lines.{lines-more}
use Rattle.journal_pictures.proofs.tracing.write_rank_queues.Goals as goal

pub loop-queue-preserved : goal.loop-queue-preserved
loop-queue-preserved c =
    lines-more (queue_name c.args.rank) 0 c.loop-queue.queue _ c.loop-queue.queue _ _ _ (omega arith) (omega arith) c.in_ok-write_queue.ensures c.loop-queue.invariant
