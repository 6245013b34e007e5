use Rattle.std.proofs.Common.{◌≡◌, map, count_by}
use Rattle.std.specs.List.{range_with_len}
use Rattle.gaspi_model.specs.State.{opening_thread, is_running}
use Rattle.plain_machine.proofs.opening.all_used.Given as goal

abbrev pub invariant-loop-rank : goal.invariant-loop-rank
invariant-loop-rank l = l.taken ≡ map (λ rank. count_by is_running (map (opening_thread l.shape rank) (range_with_len 0 4))) (range_with_len 0 l.rank)
