use Rattle.std.proofs.Common.{◌≡◌, refl, sym, ◌∙◌}
use Rattle.gaspi_types.specs.declared.entries.Entry.{Entry}
use Rattle.gaspi_types.specs.declared.entries.Phase.TheVariants.{Failed}
use Rattle.post_queue.proofs.Rings.{first-taken, head-taken, lane-failed, lent-some, lent-at, if-some}
use Rattle.post_queue.proofs.lane_rings.LaneRings.fail_carried.Goals as goal

pub unwrap-entry-requires : goal.unwrap-entry-requires
unwrap-entry-requires c =
    lent-some c.get_mut.result (rw (c.get_mut.ensures.value, ← first-taken c.self.invariant c.self.view_is c.requires.whole) c.requires.there)

pub returns-clause-lane : goal.returns-clause-lane
returns-clause-lane c =
    lane-failed c.self.inside.carried c.self.inside.posted c.unwrap-entry.result.now c.fail.new.entry Failed c.self.view_is (lent-at c.get_mut.result c.unwrap-entry.result _ c.unwrap-entry.ensures c.get_mut.ensures.value) c.fail.ensures

pub returns-clause-kind : goal.returns-clause-kind
returns-clause-kind c =
    if-some (λ (e : Entry). c.unwrap-entry.result.now.kind ≡ e.kind) _ c.unwrap-entry.result.now
    (first-taken c.self.invariant c.self.view_is c.requires.whole ∙ lent-at c.get_mut.result c.unwrap-entry.result _ c.unwrap-entry.ensures c.get_mut.ensures.value) refl

pub returns-clause-head : goal.returns-clause-head
returns-clause-head c =
    let first = first-taken c.self.invariant c.self.view_is c.requires.whole in
    head-taken c.self.inside.carried c.self.inside.posted c.self.view_is (rw first at c.requires.there) ∙ sym first
