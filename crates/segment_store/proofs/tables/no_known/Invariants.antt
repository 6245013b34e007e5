use Rattle.std.proofs.Common.{◌≡◌, None, replicate}
use Rattle.segment_store.proofs.tables.no_known.Given as goal

abbrev pub invariant-loop-rank : goal.invariant-loop-rank
invariant-loop-rank l = l.known ≡ replicate l._rank (replicate 32 None)
