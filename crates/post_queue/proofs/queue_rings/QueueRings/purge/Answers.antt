use Rattle.post_queue.proofs.Queues.{purged-queue, purged-state}
use Rattle.post_queue.proofs.Nonempty.{nonempty-none, none-cleared}
use Rattle.post_queue.proofs.queue_rings.QueueRings.purge.Goals as goal

pub invariant_of-self : goal.invariant_of-self
invariant_of-self c = record {
  queue = purged-queue c.self.inside.lanes c.clear_lanes.new.lanes c.new-self-inside.result c.self.invariant.queue c.clear_lanes.ensures c.new-self-inside.ensures;
  nonempty = nonempty-none c.clear_lanes.new.lanes (λ target. rw c.clear_lanes.ensures (none-cleared c.self.inside.lanes target));
}

pub returns : goal.returns
returns c = purged-state _ _ _ c.self.inside.lanes c.clear_lanes.new.lanes c.args.self.now c.self.view_is c.clear_lanes.ensures
