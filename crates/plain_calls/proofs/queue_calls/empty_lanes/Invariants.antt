use Rattle.std.proofs.Common.{◌≡◌}
use Rattle.plain_calls.proofs.Emptied.{emptied_front}
use Rattle.plain_calls.proofs.queue_calls.empty_lanes.Given as goal

abbrev pub invariant-loop-target : goal.invariant-loop-target
invariant-loop-target l = l.lanes ≡ emptied_front l.target l.fn.lanes
