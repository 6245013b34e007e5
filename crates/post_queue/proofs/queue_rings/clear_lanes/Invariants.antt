use Rattle.std.proofs.Common.{◌≡◌}
use Rattle.post_queue.specs.QueueStates.{cleared_prefix}
use Rattle.post_queue.proofs.queue_rings.clear_lanes.Given as goal

abbrev pub invariant-loop-target : goal.invariant-loop-target
invariant-loop-target l = l.lanes ≡ cleared_prefix l.target l.fn.lanes
