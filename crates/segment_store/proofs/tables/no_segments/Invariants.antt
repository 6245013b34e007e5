use Rattle.std.proofs.Common.{◌≡◌, None, replicate}
use Rattle.segment_store.proofs.tables.no_segments.Given as goal

abbrev pub invariant-loop-segment : goal.invariant-loop-segment
invariant-loop-segment l = l.own ≡ replicate l._segment None
