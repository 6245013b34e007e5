use Rattle.std.proofs.Common.{sym}
use Rattle.post_queue.proofs.MovableLanes.{lane-answer, lane-missing}
use Rattle.post_queue.proofs.lanes.Lanes.lane_from.Goals as goal

pub returns-in_err-rings : goal.returns-in_err-rings
returns-in_err-rings c = rw c.from_residual.ensures (lane-missing _ _ _ c.self.inside.queues c.args.queue c.args.from c.args.self.now c.self.view_is (rw (← c.index.ensures.value) (sym (c.in_err-rings.ensures {u = tt}))))

pub returns : goal.returns
returns c = lane-answer _ _ _ c.self.inside.queues c.args.queue c.args.from c.in_ok-rings.rings.now c.args.self.now c.movable_lane_from.result c.self.view_is (rw (← c.index.ensures.value) (sym (c.in_ok-rings.ensures {u = tt}))) c.movable_lane_from.ensures
