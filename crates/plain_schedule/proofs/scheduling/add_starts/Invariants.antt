use Rattle.std.proofs.Common.{◌≡◌, ◌++◌}
use Rattle.std.specs.List.{flat_map, range_with_len}
use Rattle.plain_schedule.specs.Schedule.{thread_starts}
use Rattle.plain_schedule.proofs.scheduling.add_starts.Given as goal

abbrev pub invariant-loop-thread : goal.invariant-loop-thread
invariant-loop-thread l = l.active ≡ l.fn.active ++ flat_map (thread_starts l.scripts l.rank) (range_with_len 0 l.thread)
