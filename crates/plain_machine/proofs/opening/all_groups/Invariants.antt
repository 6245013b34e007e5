use Rattle.std.proofs.Common.{◌≡◌, map}
use Rattle.std.specs.List.{range_with_len}
use Rattle.gaspi_model.specs.State.{opening_group}
use Rattle.plain_machine.proofs.opening.all_groups.Given as goal

abbrev pub invariant-loop-group : goal.invariant-loop-group
invariant-loop-group l = l.groups ≡ map (opening_group l.shape.limits.ranks) (range_with_len 0 l.group)
