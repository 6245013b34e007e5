use Rattle.post_queue.specs.Steps.{posted_failed_in}
use Rattle.post_queue.proofs.MovableLanes.{marks-changed, width-posted_failed}
use Rattle.post_queue.proofs.Queues.{queues-changed}
use Rattle.post_queue.proofs.lanes.Lanes.fail_posted.Goals as goal

pub invariant_of-self : goal.invariant_of-self
invariant_of-self c =
    marks-changed _ _ c.self.inside.movable c.movable_after-self-inside.result c.self.inside.queues c.args.queue c.at_mut.result.now c.fail_posted.new.self (posted_failed_in c.args.target)
    c.self.invariant c.at_mut.ensures.value c.fail_posted.ensures (width-posted_failed c.args.target c.at_mut.result.now.queue) c.movable_after-self-inside.ensures.here c.movable_after-self-inside.ensures.others

pub returns : goal.returns
returns c = queues-changed _ _ _ c.self.inside.queues c.args.queue c.at_mut.result.now c.fail_posted.new.self c.args.self.now (posted_failed_in c.args.target) c.at_mut.ensures.value c.fail_posted.ensures c.self.view_is
