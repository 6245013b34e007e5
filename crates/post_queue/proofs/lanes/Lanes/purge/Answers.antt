use Rattle.post_queue.specs.Steps.{purged_queue}
use Rattle.post_queue.proofs.MovableLanes.{marks-changed, width-purged}
use Rattle.post_queue.proofs.Queues.{queues-changed}
use Rattle.post_queue.proofs.lanes.Lanes.purge.Goals as goal

pub invariant_of-self : goal.invariant_of-self
invariant_of-self c =
    marks-changed _ _ c.self.inside.movable c.movable_after-self-inside.result c.self.inside.queues c.args.queue c.at_mut.result.now c.purge.new.self purged_queue
    c.self.invariant c.at_mut.ensures.value c.purge.ensures (width-purged c.at_mut.result.now.queue) c.movable_after-self-inside.ensures.here c.movable_after-self-inside.ensures.others

pub returns-clause-ok : goal.returns-clause-ok
returns-clause-ok c = queues-changed _ _ _ c.self.inside.queues c.args.queue c.at_mut.result.now c.purge.new.self c.args.self.now purged_queue c.at_mut.ensures.value c.purge.ensures c.self.view_is
