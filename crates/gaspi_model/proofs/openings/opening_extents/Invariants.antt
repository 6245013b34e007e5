use Rattle.std.proofs.Common.{◌≡◌, map}
use Rattle.std.specs.List.{range_with_len}
use Rattle.std.specs.Option.{option_map}
use Rattle.gaspi_model.specs.State.{declared_size}
use Rattle.gaspi_model.proofs.openings.opening_extents.Given as goal

abbrev pub invariant-loop-segment : goal.invariant-loop-segment
invariant-loop-segment l = l.extents ≡ map (λ segment. option_map (λ size. record { generation = 0; size = size }) (declared_size l.shape l.rank segment)) (range_with_len 0 l.segment)
