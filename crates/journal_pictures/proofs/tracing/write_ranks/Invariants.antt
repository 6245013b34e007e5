use Rattle.std.proofs.Common.{◌≡◌, ◌++◌, map}
use Rattle.std.specs.List.{range_with_len}
use Rattle.journal_pictures.specs.JsonLines.{lines}
use Rattle.journal_pictures.specs.Trace.{rank_name}
use Rattle.journal_pictures.proofs.tracing.write_ranks.Given as goal

-- the lines so far
abbrev pub invariant-loop-before : goal.invariant-loop-before
invariant-loop-before l = l.text ≡ l.fn.text ++ lines (map rank_name (range_with_len 1 l.before))
