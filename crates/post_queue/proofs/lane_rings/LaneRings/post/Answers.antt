use Rattle.std.proofs.Common.{ap, arith}
use Rattle.gaspi_types.specs.Lanes.{is_posted}
use Rattle.post_queue.specs.LaneStates.{LaneValue}
use Rattle.post_queue.proofs.Rings.{count-waits, rings-posted, rings-bound}
use Rattle.post_queue.proofs.lane_rings.LaneRings.post.Goals as goal

pub append-requires : goal.append-requires
append-requires c =
    let depth = ap (λ (s : LaneValue). s.depth) c.self.view_is in
    let same = c.self.invariant.same in
    let count = count-waits c.self.invariant c.self.view_is in
    omega arith

pub invariant_of-self : goal.invariant_of-self
invariant_of-self c =
    let depth = ap (λ (s : LaneValue). s.depth) c.self.view_is in
    let same = c.self.invariant.same in
    let count = count-waits c.self.invariant c.self.view_is in
    rw c.append.ensures (rings-posted _ c.self.invariant (omega arith) (ap is_posted c.new.ensures))

pub returns-clause-bound : goal.returns-clause-bound
returns-clause-bound c = rings-bound (invariant_of-self c)
