use Rattle.post_queue.specs.Steps.{carried_in}
use Rattle.post_queue.proofs.MovableLanes.{marks-changed, width-taken}
use Rattle.post_queue.proofs.Queues.{queues-changed}
use Rattle.post_queue.proofs.lanes.Lanes.mark_carried.Goals as goal

pub invariant_of-self : goal.invariant_of-self
invariant_of-self c =
    marks-changed _ _ c.self.inside.movable c.movable_after-self-inside.result c.self.inside.queues c.args.queue c.at_mut.result.now c.mark_carried.new.self (carried_in c.args.target c.args.bytes.now)
    c.self.invariant c.at_mut.ensures.value c.mark_carried.ensures (width-taken c.args.target c.args.bytes.now c.at_mut.result.now.queue) c.movable_after-self-inside.ensures.here c.movable_after-self-inside.ensures.others

pub returns : goal.returns
returns c = queues-changed _ _ _ c.self.inside.queues c.args.queue c.at_mut.result.now c.mark_carried.new.self c.args.self.now (carried_in c.args.target c.args.bytes.now) c.at_mut.ensures.value c.mark_carried.ensures c.self.view_is
