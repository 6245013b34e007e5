use Rattle.std.proofs.Common.{◌≡◌, ℕ, suc, ◌+◌, List, length, ◌∙◌, ap, arith}
use Rattle.post_queue.specs.LaneStates.{LaneValue}
use Rattle.post_queue.specs.QueueStates.{cleared_prefix}
use Rattle.post_queue.proofs.Queues.{cleared-length, cleared-more}
use Rattle.post_queue.proofs.queue_rings.clear_lanes.Goals as goal

pub at_mut-requires : goal.at_mut-requires
at_mut-requires c =
    let is = ap (λ (lanes : List LaneValue). length lanes) c.loop-target.invariant in
    let long = cleared-length c.loop-target.target c.args.lanes.now in
    let test = c.loop-target-test.true in
    let end = c.len-target-end.ensures in
    omega arith

pub loop-target-preserved : goal.loop-target-preserved
loop-target-preserved c =
    let step : suc c.loop-target.target ≡ c.loop-target.target + 1 = omega arith in
    rw (c.clear.ensures, c.loop-target.invariant) (cleared-more c.loop-target.target c.args.lanes.now c.at_mut.result.now (rw c.loop-target.invariant at c.at_mut.ensures.value) ∙ ap (λ (n : ℕ). cleared_prefix n c.args.lanes.now) step)
