use Rattle.std.proofs.Common.{sym, ◌∙◌}
use Rattle.std.proofs.lemmas.Option.{IfSome_then}
use Rattle.post_queue.proofs.Queues.{whole-at, put-reads, head-read, not-broken}
use Rattle.post_queue.proofs.queue_rings.QueueRings.front_carried.Goals as goal

pub front_carried-requires : goal.front_carried-requires
front_carried-requires c = whole-at c.self.inside.lanes c.index.result c.in_ok-lane.lane.now c.self.invariant.queue (not-broken c.self.inside.broken (sym c.is_some.ensures ∙ c.if-is_some.false)) (sym (c.in_ok-lane.ensures {u = tt}))

pub returns-clause-answer : goal.returns-clause-answer
returns-clause-answer c =
    c.front_carried.ensures.first
    ∙ put-reads c.self.inside.depth _ _ c.self.inside.lanes c.index.result c.args.target c.in_ok-lane.lane.now c.args.self.now c.index.ensures.value (sym (c.in_ok-lane.ensures {u = tt})) (not-broken c.self.inside.broken (sym c.is_some.ensures ∙ c.if-is_some.false)) c.self.view_is

pub returns-clause-head : goal.returns-clause-head
returns-clause-head c =
    let read = head-read c.self.inside.depth _ _ c.self.inside.lanes c.index.result c.args.target c.in_ok-lane.lane.now c.args.self.now c.index.ensures.value (sym (c.in_ok-lane.ensures {u = tt})) c.self.view_is in
    IfSome_then c.front_carried.result c.front_carried.ensures.head (λ e at. read ∙ at)
