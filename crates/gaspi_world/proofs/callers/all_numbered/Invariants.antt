use Rattle.std.proofs.Common.{◌≡◌, map}
use Rattle.std.specs.List.{range_with_len}
use Rattle.gaspi_world.specs.Callers.{numbered}
use Rattle.gaspi_world.proofs.callers.all_numbered.Given as goal

abbrev pub invariant-loop-number : goal.invariant-loop-number
invariant-loop-number l = l.rows ≡ map (numbered l.callers) (range_with_len 0 l.number)
