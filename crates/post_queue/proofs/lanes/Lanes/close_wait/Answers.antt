use Rattle.std.proofs.Common.{refl}
use Rattle.post_queue.specs.Steps.{closed_queue}
use Rattle.post_queue.proofs.MovableLanes.{marks-changed}
use Rattle.post_queue.proofs.Queues.{queues-changed}
use Rattle.post_queue.proofs.lanes.Lanes.close_wait.Goals as goal

pub invariant_of-self : goal.invariant_of-self
invariant_of-self c =
    marks-changed _ _ c.self.inside.movable c.movable_after-self-inside.result c.self.inside.queues c.args.queue c.at_mut.result.now c.close_wait.new.self closed_queue
    c.self.invariant c.at_mut.ensures.value c.close_wait.ensures refl c.movable_after-self-inside.ensures.here c.movable_after-self-inside.ensures.others

pub returns : goal.returns
returns c = queues-changed _ _ _ c.self.inside.queues c.args.queue c.at_mut.result.now c.close_wait.new.self c.args.self.now closed_queue c.at_mut.ensures.value c.close_wait.ensures c.self.view_is
