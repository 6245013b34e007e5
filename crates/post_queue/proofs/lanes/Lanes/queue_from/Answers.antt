use Rattle.std.proofs.Common.{None, Some}
use Rattle.post_queue.proofs.MovableLanes.{queue-answer, queue-bound}
use Rattle.post_queue.proofs.lanes.Lanes.queue_from.Goals as goal

pub of-requires : goal.of-requires
of-requires c = queue-bound _ _ c.self.inside.queues c.self.inside.movable c.args.from c.in_ok-queue.queue c.self.invariant c.in_ok-queue.ensures.bound c.in_ok-queue.ensures.least

pub returns-in_err-queue : goal.returns-in_err-queue
returns-in_err-queue c = rw c.from_residual.ensures (queue-answer _ _ _ c.self.inside.queues c.self.inside.movable c.args.from c.args.self.now None c.self.view_is c.self.invariant tt c.in_err-queue.ensures.least)

pub returns : goal.returns
returns c = queue-answer _ _ _ c.self.inside.queues c.self.inside.movable c.args.from c.args.self.now (Some _) c.self.view_is c.self.invariant (rw c.of.ensures c.in_ok-queue.ensures.bound) (rw c.of.ensures c.in_ok-queue.ensures.least)
