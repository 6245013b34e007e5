use Rattle.journal_pictures.specs.Trace.{queue_names}
use Rattle.journal_pictures.proofs.Lines.{lists-more}
use Rattle.journal_pictures.proofs.tracing.write_queues.Goals as goal

pub loop-rank-preserved : goal.loop-rank-preserved
loop-rank-preserved c = lists-more (queue_names c.args.queues) c.loop-rank.rank _ _ _ c.in_ok-write_rank_queues.ensures c.loop-rank.invariant
