use Rattle.std.proofs.Common.{◌≡◌, ◌+◌, ◌≤◌, length}
use Rattle.gaspi_types.specs.Lanes.{posted_entries}
use Rattle.gaspi_types.specs.Queues.{with_entries}
use Rattle.post_queue.specs.QueueStates.{state_of}
use Rattle.post_queue.proofs.queue_rings.QueueRings.post.Given as goal

abbrev pub decreases-loop-draft : goal.decreases-loop-draft
decreases-loop-draft l = length l.entries

abbrev pub invariant-loop-draft : goal.invariant-loop-draft
invariant-loop-draft l = record {
  targets : length l.self.queue.lanes ≡ length l.fn.self.queue.lanes;
  room : l.self.queue.open_count + length l.entries ≤ l.self.depth;
  numbers : l.number + length l.entries ≡ l.fn.first + length l.fn.entries;
  state : state_of l.self.depth (with_entries l.fn.target (posted_entries l.number l.entries) l.self.queue) ≡ state_of l.fn.self.depth (with_entries l.fn.target (posted_entries l.fn.first l.fn.entries) l.fn.self.queue);
}
