use Rattle.std.proofs.Common.{◌≡◌, map}
use Rattle.std.specs.List.{range_with_len}
use Rattle.gaspi_model.specs.State.{opening_memory}
use Rattle.plain_machine.proofs.opening.all_memories.Given as goal

abbrev pub invariant-loop-rank : goal.invariant-loop-rank
invariant-loop-rank l = l.memories ≡ map (opening_memory l.shape) (range_with_len 0 l.rank)
