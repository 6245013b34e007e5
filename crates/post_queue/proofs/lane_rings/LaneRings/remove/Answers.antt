use Rattle.std.proofs.Common.{◌≡◌, refl, sym, ◌∙◌}
use Rattle.gaspi_types.specs.declared.entries.Entry.{Entry}
use Rattle.post_queue.proofs.Rings.{first-taken, head-taken, rings-removed, if-some}
use Rattle.post_queue.proofs.lane_rings.LaneRings.remove.Goals as goal

pub unwrap-entry-requires : goal.unwrap-entry-requires
unwrap-entry-requires c = rw (c.pop_front.ensures.value, ← first-taken c.self.invariant c.self.view_is c.requires.whole) c.requires.there

pub invariant_of-self : goal.invariant_of-self
invariant_of-self c = rw c.pop_front.ensures.items (rings-removed c.self.invariant)

pub returns-clause-kind : goal.returns-clause-kind
returns-clause-kind c =
    if-some (λ (e : Entry). c.unwrap-entry.result.kind ≡ e.kind) _ c.unwrap-entry.result
    (first-taken c.self.invariant c.self.view_is c.requires.whole ∙ (sym c.pop_front.ensures.value ∙ c.unwrap-entry.ensures)) refl

pub returns-clause-head : goal.returns-clause-head
returns-clause-head c =
    let first = first-taken c.self.invariant c.self.view_is c.requires.whole in
    head-taken c.self.inside.carried c.self.inside.posted c.self.view_is (rw first at c.requires.there) ∙ sym first
