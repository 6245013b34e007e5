use Rattle.std.proofs.Common.{◌≡◌, map}
use Rattle.std.specs.List.{range_with_len}
use Rattle.gaspi_model.specs.State.{opening_extents}
use Rattle.gaspi_model.proofs.openings.opening_known.Given as goal

abbrev pub invariant-loop-rank : goal.invariant-loop-rank
invariant-loop-rank l = l.known ≡ map (opening_extents l.shape) (range_with_len 0 l.rank)
