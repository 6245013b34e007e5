use Rattle.std.proofs.Common.{◌≡◌, map}
use Rattle.std.specs.List.{range_with_len}
use Rattle.std.specs.Option.{option_map}
use Rattle.gaspi_types.specs.Segments.{new_segment}
use Rattle.gaspi_model.specs.State.{declared_size}
use Rattle.plain_calls.proofs.openings.opening_segments.Given as goal

abbrev pub invariant-loop-segment : goal.invariant-loop-segment
invariant-loop-segment l = l.segments ≡ map (λ segment. option_map (new_segment 0) (declared_size l.shape l.rank segment)) (range_with_len 0 l.segment)
