use Rattle.std.proofs.Common.{◌≡◌, replicate}
use Rattle.post_queue.specs.QueueStates.{state_of}
use Rattle.post_queue.specs.LanesStates.{empty_queue}
use Rattle.post_queue.proofs.lanes.empty_queues.Given as goal

abbrev pub invariant-loop-queue : goal.invariant-loop-queue
invariant-loop-queue l = l.rings ≡ replicate l._queue (state_of l.depth (empty_queue l.ranks))
