use Rattle.std.proofs.Common.{◌≡◌, length}
use Rattle.collective_engine.proofs.buffers.kept_contributions.Given as goal

abbrev pub invariant-loop-rank : goal.invariant-loop-rank
invariant-loop-rank l = length l.kept ≡ l._rank
