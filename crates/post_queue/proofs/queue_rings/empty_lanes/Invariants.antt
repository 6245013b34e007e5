use Rattle.std.proofs.Common.{◌≡◌, [], replicate}
use Rattle.post_queue.proofs.queue_rings.empty_lanes.Given as goal

abbrev pub invariant-loop-rank : goal.invariant-loop-rank
invariant-loop-rank l = l.lanes ≡ replicate l._rank (record { depth = l.depth; entries = [] })
