use Rattle.std.proofs.Common.{◌≡◌}
use Rattle.std.specs.List.{flat_map, range_with_len}
use Rattle.plain_schedule.specs.Schedule.{rank_starts}
use Rattle.plain_schedule.proofs.scheduling.starts.Given as goal

abbrev pub invariant-loop-rank : goal.invariant-loop-rank
invariant-loop-rank l = l.active ≡ flat_map (rank_starts l.scripts) (range_with_len 0 l.rank)
