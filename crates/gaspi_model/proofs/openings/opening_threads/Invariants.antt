use Rattle.std.proofs.Common.{◌≡◌, map}
use Rattle.std.specs.List.{range_with_len}
use Rattle.gaspi_model.specs.State.{opening_thread}
use Rattle.gaspi_model.proofs.openings.opening_threads.Given as goal

abbrev pub invariant-loop-thread : goal.invariant-loop-thread
invariant-loop-thread l = l.threads ≡ map (opening_thread l.shape l.rank) (range_with_len 0 l.thread)
