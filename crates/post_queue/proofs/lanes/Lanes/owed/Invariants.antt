use Rattle.std.proofs.Common.{◌≡◌, ◌*◌, ◌≤◌, take}
use Rattle.std.specs.List.{sum_by}
use Rattle.gaspi_types.specs.Queues.{queue_owed}
use Rattle.post_queue.specs.QueueStates.{QueueState}
use Rattle.post_queue.proofs.lanes.Lanes.owed.Given as goal

abbrev pub invariant-loop-rings : goal.invariant-loop-rings
invariant-loop-rings l = record {
  sum : l.owed ≡ sum_by (λ (q : QueueState). queue_owed q.queue) (take l.rings-index l.rings-items);
  bound : l.owed ≤ l.rings-index * 16384;
}
