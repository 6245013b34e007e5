use Rattle.std.proofs.Common.{◌≡◌, ◌++◌}
use Rattle.std.specs.List.{flat_map, range_with_len}
use Rattle.journal_pictures.specs.JsonLines.{lines}
use Rattle.journal_pictures.specs.Trace.{queue_names}
use Rattle.journal_pictures.proofs.tracing.write_queues.Given as goal

-- the lines so far
abbrev pub invariant-loop-rank : goal.invariant-loop-rank
invariant-loop-rank l = l.text ≡ l.fn.text ++ lines (flat_map (queue_names l.queues) (range_with_len 0 l.rank))
