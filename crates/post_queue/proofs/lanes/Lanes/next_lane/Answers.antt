use Rattle.post_queue.proofs.MovableLanes.{none-movable, next-here, next-behind, lane-answered}
use Rattle.post_queue.proofs.lanes.Lanes.next_lane.Goals as goal

pub returns-in_err-first-clause-none : goal.returns-in_err-first-clause-none
returns-in_err-first-clause-none c = rw c.from_residual.ensures (λ queue target. none-movable c.args.self.now.queues queue target c.in_err-first.ensures)

pub returns-in-Some-clause-next : goal.returns-in-Some-clause-next
returns-in-Some-clause-next c = next-here c.args.self.now.queues c.args.after c.in-Some.later (rw c.number.ensures.value at c.in-Some.ensures)

pub returns-in_err-head-clause-none : goal.returns-in_err-head-clause-none
returns-in_err-head-clause-none c =
    absurd (lane-answered c.args.self.now.queues c.in_ok-first.first _ c.queue_from-2.result c.in_ok-first.ensures c.queue_from-2.ensures
    (rw (← c.unwrap_or-next.ensures) c.in_err-head.ensures))

pub returns-clause-next : goal.returns-clause-next
returns-clause-next c =
    rw c.unwrap_or-next.ensures (next-behind c.args.self.now.queues c.args.after c.in_ok-first.first c.in_ok-head.head c.queue_from-2.result c.in_ok-first.ensures
    (rw c.number-2.ensures.value at c.queue_from-2.ensures) (rw c.number.ensures.value at c.in_default.ensures) (rw (← c.unwrap_or-next.ensures) c.in_ok-head.ensures))
