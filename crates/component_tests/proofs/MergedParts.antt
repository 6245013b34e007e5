-- Three events in two rank journals.
use Rattle.std.proofs.Common.{◌≡◌, zero, suc, ne_eqb, List, [], ◌∷◌, refl, arith}
use Rattle.gaspi_types.specs.declared.events.Event.{Event}
use Rattle.gaspi_types.specs.declared.events.PlacedEvent.{PlacedEvent}
use Rattle.gaspi_texts.specs.Merges.{AreCutOf, placed}

-- the first and the third of three events, and the second
abbrev pub two_parts : Event → Event → Event → List (List PlacedEvent)
two_parts first second third = (placed 0 first ∷ placed 2 third ∷ []) ∷ (placed 1 second ∷ []) ∷ []

-- each of the three has its place in one of the two lists
pub parts-cut : (first second third : Event) → AreCutOf (two_parts first second third) (first ∷ second ∷ third ∷ [])
parts-cut first second third zero = refl
parts-cut first second third (suc zero) = refl
parts-cut first second third (suc (suc zero)) = refl
parts-cut first second third (suc (suc (suc n))) =
    rw (
      ne_eqb (suc (suc (suc n))) 0 (λ (e : suc (suc (suc n)) ≡ 0). absurd (omega arith)),
      ne_eqb (suc (suc (suc n))) 2 (λ (e : suc (suc (suc n)) ≡ 2). absurd (omega arith)),
      ne_eqb (suc (suc (suc n))) 1 (λ (e : suc (suc (suc n)) ≡ 1). absurd (omega arith)),
    ) refl
