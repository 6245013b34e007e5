use Rattle.post_queue.proofs.Queues.{wait-ready}
use Rattle.post_queue.proofs.queue_rings.QueueRings.wait_ready.Goals as goal

pub returns : goal.returns
returns c = wait-ready _ _ _ _ _ c.args.self.now c.in_default.is c.self.invariant.queue.counts.tally.awaited c.self.view_is
