use Rattle.std.proofs.Common.{◌≡◌, map}
use Rattle.std.specs.List.{range_with_len}
use Rattle.std.specs.Option.{option_map}
use Rattle.gaspi_model.specs.State.{declared_size, new_slots}
use Rattle.rank_node.proofs.openings.opening_slots.Given as goal

abbrev pub invariant-loop-segment : goal.invariant-loop-segment
invariant-loop-segment l = l.slots ≡ map (λ segment. option_map (λ size. new_slots l.shape.limits.notes) (declared_size l.shape l.rank segment)) (range_with_len 0 l.segment)
