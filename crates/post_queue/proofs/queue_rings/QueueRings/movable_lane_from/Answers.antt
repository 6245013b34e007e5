use Rattle.std.proofs.Common.{None, Some, sym, ◌∙◌}
use Rattle.post_queue.proofs.MovableLanes.{lanes-answer, lanes-broken, member-within}
use Rattle.post_queue.proofs.Queues.{not-broken}
use Rattle.post_queue.proofs.queue_rings.QueueRings.movable_lane_from.Goals as goal

pub of-requires : goal.of-requires
of-requires c = member-within c.self.inside.lanes c.self.inside.nonempty c.args.from c.in_ok-target.target c.self.invariant.queue.counts.few c.self.invariant.nonempty c.in_ok-target.ensures.bound c.in_ok-target.ensures.least

pub returns-then-is_some : goal.returns-then-is_some
returns-then-is_some c = lanes-broken _ _ c.self.inside.broken c.self.inside.lanes c.args.from c.args.self.now c.self.view_is (sym c.is_some.ensures ∙ c.if-is_some.true)

pub returns-in_err-target : goal.returns-in_err-target
returns-in_err-target c =
    rw c.from_residual.ensures (lanes-answer _ _ c.self.inside.broken c.self.inside.lanes c.self.inside.nonempty c.args.from c.args.self.now None c.self.view_is (not-broken c.self.inside.broken (sym c.is_some.ensures ∙ c.if-is_some.false)) c.self.invariant.queue.counts.few
    c.self.invariant.nonempty tt c.in_err-target.ensures.least)

pub returns : goal.returns
returns c =
    lanes-answer _ _ c.self.inside.broken c.self.inside.lanes c.self.inside.nonempty c.args.from c.args.self.now (Some _) c.self.view_is (not-broken c.self.inside.broken (sym c.is_some.ensures ∙ c.if-is_some.false)) c.self.invariant.queue.counts.few
    c.self.invariant.nonempty (rw c.of.ensures c.in_ok-target.ensures.bound) (rw c.of.ensures c.in_ok-target.ensures.least)
