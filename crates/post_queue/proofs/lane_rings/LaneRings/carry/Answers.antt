use Rattle.std.proofs.Common.{◌≡◌, length, sym, ◌∙◌, ap, arith}
use Rattle.gaspi_types.specs.Lanes.{is_posted}
use Rattle.gaspi_types.specs.declared.entries.Entry.{Entry}
use Rattle.gaspi_types.specs.declared.entries.Phase.TheVariants.{Carried}
use Rattle.post_queue.specs.Payloads.{payload_size}
use Rattle.post_queue.specs.LaneStates.{LaneValue}
use Rattle.post_queue.proofs.Rings.{first-waits, count-taken, rings-moved, lane-moved, some-from, at-some, if-some}
use Rattle.post_queue.proofs.lane_rings.LaneRings.carry.Goals as goal

pub unwrap-waiting-requires : goal.unwrap-waiting-requires
unwrap-waiting-requires c = rw (c.pop_front.ensures.value, ← first-waits c.self.invariant c.self.view_is) (some-from (λ (e : Entry). length c.args.bytes.now ≡ payload_size e.kind) _ c.requires.fits)

pub carried-requires : goal.carried-requires
carried-requires c =
    at-some (λ (e : Entry). length c.args.bytes.now ≡ payload_size e.kind) _ c.unwrap-waiting.result
    (first-waits c.self.invariant c.self.view_is ∙ (sym c.pop_front.ensures.value ∙ c.unwrap-waiting.ensures)) c.requires.fits

pub append-requires : goal.append-requires
append-requires c =
    let depth = ap (λ (s : LaneValue). s.depth) c.self.view_is in
    let count = count-taken c.self.invariant c.self.view_is c.requires.whole in
    let room = c.requires.room in
    omega arith

pub invariant_of-self : goal.invariant_of-self
invariant_of-self c =
    let depth = ap (λ (s : LaneValue). s.depth) c.self.view_is in
    let count = count-taken c.self.invariant c.self.view_is c.requires.whole in
    let room = c.requires.room in
    rw (c.append.ensures, c.pop_front.ensures.items) (rings-moved _ c.self.invariant (omega arith) (ap is_posted c.carried.ensures))

pub returns-clause-lane : goal.returns-clause-lane
returns-clause-lane c =
    rw (c.append.ensures, c.pop_front.ensures.items)
    (lane-moved c.unwrap-waiting.result c.carried.result (Carried c.args.bytes.now) c.self.invariant c.self.view_is (sym c.pop_front.ensures.value ∙ c.unwrap-waiting.ensures) c.carried.ensures)

pub returns-clause-kind : goal.returns-clause-kind
returns-clause-kind c =
    if-some (λ (e : Entry). c.kind-kind.result.now ≡ e.kind) _ c.unwrap-waiting.result
    (first-waits c.self.invariant c.self.view_is ∙ (sym c.pop_front.ensures.value ∙ c.unwrap-waiting.ensures)) c.kind-kind.ensures
