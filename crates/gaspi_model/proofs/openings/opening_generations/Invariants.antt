use Rattle.std.proofs.Common.{◌≡◌, map}
use Rattle.std.specs.List.{range_with_len}
use Rattle.gaspi_model.specs.State.{declared_size, generations_used}
use Rattle.gaspi_model.proofs.openings.opening_generations.Given as goal

abbrev pub invariant-loop-segment : goal.invariant-loop-segment
invariant-loop-segment l = l.generations ≡ map (λ segment. generations_used (declared_size l.shape l.rank segment)) (range_with_len 0 l.segment)
