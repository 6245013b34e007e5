use Rattle.std.proofs.Common.{◌≡◌, ◌++◌}
use Rattle.journal_pictures.specs.JsonLines.{lines}
use Rattle.journal_pictures.specs.Trace.{queue_names}
use Rattle.journal_pictures.proofs.tracing.write_rank_queues.Given as goal

-- the lines so far
abbrev pub invariant-loop-queue : goal.invariant-loop-queue
invariant-loop-queue l = l.text ≡ l.fn.text ++ lines (queue_names l.queue l.rank)
