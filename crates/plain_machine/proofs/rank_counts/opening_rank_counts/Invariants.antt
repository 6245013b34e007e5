use Rattle.std.proofs.Common.{◌≡◌, None, replicate}
use Rattle.plain_machine.proofs.rank_counts.opening_rank_counts.Given as goal

abbrev pub invariant-loop-rank : goal.invariant-loop-rank
invariant-loop-rank l = l.counts ≡ replicate l._rank None
