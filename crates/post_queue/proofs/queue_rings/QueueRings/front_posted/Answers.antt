use Rattle.std.proofs.Common.{sym, ◌∙◌, arith}
use Rattle.post_queue.proofs.Queues.{whole-at, taken-read, taken-none, not-broken}
use Rattle.post_queue.proofs.queue_rings.QueueRings.front_posted.Goals as goal

pub carried_count-requires : goal.carried_count-requires
carried_count-requires c = whole-at c.self.inside.lanes c.index.result c.in_ok-lane.lane.now c.self.invariant.queue (not-broken c.self.inside.broken (sym c.is_some.ensures ∙ c.if-is_some.false)) (sym (c.in_ok-lane.ensures {u = tt}))

pub returns-then-carried_count-self : goal.returns-then-carried_count-self
returns-then-carried_count-self c =
    let full = c.if-carried_count-self.true in
    let count = c.carried_count.ensures in
    taken-none c.self.inside.depth _ _ c.self.inside.lanes c.index.result c.args.target c.in_ok-lane.lane.now c.args.self.now c.index.ensures.value (sym (c.in_ok-lane.ensures {u = tt})) (not-broken c.self.inside.broken (sym c.is_some.ensures ∙ c.if-is_some.false)) c.self.view_is (omega arith)

pub returns : goal.returns
returns c =
    let less = c.if-carried_count-self.false in
    let count = c.carried_count.ensures in
    c.front_posted.ensures
    ∙ taken-read c.self.inside.depth _ _ c.self.inside.lanes c.index.result c.args.target c.in_ok-lane.lane.now c.args.self.now c.index.ensures.value (sym (c.in_ok-lane.ensures {u = tt})) (not-broken c.self.inside.broken (sym c.is_some.ensures ∙ c.if-is_some.false)) c.self.view_is (omega arith)
