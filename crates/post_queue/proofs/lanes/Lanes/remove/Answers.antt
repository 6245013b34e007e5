use Rattle.post_queue.specs.Steps.{put_done_in}
use Rattle.post_queue.proofs.MovableLanes.{marks-changed, width-removed}
use Rattle.post_queue.proofs.Queues.{queues-changed}
use Rattle.post_queue.proofs.lanes.Lanes.remove.Goals as goal

pub invariant_of-self : goal.invariant_of-self
invariant_of-self c =
    marks-changed _ _ c.self.inside.movable c.movable_after-self-inside.result c.self.inside.queues c.args.queue c.at_mut.result.now c.remove.new.self (put_done_in c.args.target)
    c.self.invariant c.at_mut.ensures.value c.remove.ensures (width-removed c.args.target c.at_mut.result.now.queue) c.movable_after-self-inside.ensures.here c.movable_after-self-inside.ensures.others

pub returns : goal.returns
returns c = queues-changed _ _ _ c.self.inside.queues c.args.queue c.at_mut.result.now c.remove.new.self c.args.self.now (put_done_in c.args.target) c.at_mut.ensures.value c.remove.ensures c.self.view_is
