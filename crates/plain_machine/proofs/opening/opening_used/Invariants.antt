use Rattle.std.proofs.Common.{◌≡◌, ◌≤◌, map, count_by}
use Rattle.std.specs.List.{range_with_len}
use Rattle.gaspi_model.specs.State.{opening_thread, is_running}
use Rattle.plain_machine.proofs.opening.opening_used.Given as goal

abbrev pub invariant-loop-thread : goal.invariant-loop-thread
invariant-loop-thread l = (l.running ≡ count_by is_running (map (opening_thread l.shape l.rank) (range_with_len 0 l.thread))) × (l.running ≤ l.thread)
