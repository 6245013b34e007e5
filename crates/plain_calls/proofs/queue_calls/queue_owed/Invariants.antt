use Rattle.std.proofs.Common.{◌≡◌, take, sum_by}
use Rattle.gaspi_types.specs.Lanes.{lane_owed}
use Rattle.plain_calls.proofs.queue_calls.queue_owed.Given as goal

abbrev pub invariant-loop-lane : goal.invariant-loop-lane
invariant-loop-lane l = l.owed ≡ sum_by lane_owed (take l.lane-index l.q.lanes)
