use Rattle.std.proofs.Common.{ℕ, ◌+◌, ap}
use Rattle.gaspi_types.specs.Lanes.{posted_entries}
use Rattle.gaspi_types.specs.Queues.{with_entries}
use Rattle.post_queue.proofs.MovableLanes.{marks-changed, width-entries}
use Rattle.post_queue.proofs.Queues.{queues-posted}
use Rattle.post_queue.proofs.lanes.Lanes.post.Goals as goal

pub invariant_of-self : goal.invariant_of-self
invariant_of-self c =
    marks-changed _ _ c.self.inside.movable c.movable_after-self-inside.result c.self.inside.queues c.args.queue c.at_mut.result.now c.post.new.self (with_entries c.args.target (posted_entries c.self.inside.next c.args.entries))
    c.self.invariant c.at_mut.ensures.value c.post.ensures (width-entries c.args.target (posted_entries c.self.inside.next c.args.entries) c.at_mut.result.now.queue) c.movable_after-self-inside.ensures.here c.movable_after-self-inside.ensures.others

pub returns-clause-ok : goal.returns-clause-ok
returns-clause-ok c =
    queues-posted _ _ c.self.inside.next _ c.self.inside.queues c.args.queue c.args.target c.at_mut.result.now c.post.new.self c.args.self.now c.args.entries c.at_mut.ensures.value c.post.ensures (ap (λ (n : ℕ). c.self.inside.next + n) c.len-need.ensures) c.self.view_is
