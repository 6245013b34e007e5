-- The events that a rank owns in a history, each at its place.
use Rattle.std.proofs.Common.{◌≡◌, ◌≢◌, ℕ, suc, ◌+◌, Bool, cond, eqb, eq-eqb, ne_eqb, List, [], ◌∷◌, ◌++◌, append_assoc, append-nil, length, sym, ap, ◌∙◌, arith}
use Rattle.gaspi_types.specs.declared.events.Event.{Event}
use Rattle.gaspi_types.specs.declared.events.PlacedEvent.{PlacedEvent}
use Rattle.gaspi_model.specs.Step.{owner_of}

-- an event with its place
abbrev pub placed_at : ℕ → Event → PlacedEvent
placed_at place e = record { place = place; event = e }

-- what an event at a place adds to the rank journal of a rank: itself, or nothing where another rank owns it
abbrev pub recorded_by : ℕ → ℕ → Event → List PlacedEvent
recorded_by rank place e = cond (eqb rank (owner_of e)) (placed_at place e ∷ []) []

-- the events of a rank in a history that begins at a place
abbrev pub journal_from : ℕ → ℕ → List Event → List PlacedEvent
journal_from rank place [] = []
journal_from rank place (e ∷ h) = recorded_by rank place e ++ journal_from rank (suc place) h

-- the rank journal of a rank after a history
abbrev pub journal_of : ℕ → List Event → List PlacedEvent
journal_of rank h = journal_from rank 0 h

-- one event after the others
from-last : (rank place : ℕ) (h : List Event) (e : Event) → journal_from rank place (h ++ e ∷ []) ≡ journal_from rank place h ++ recorded_by rank (place + length h) e
from-last rank place [] e = append-nil (recorded_by rank place e) ∙ ap (λ (k : ℕ). recorded_by rank k e) (omega arith)
from-last rank place (x ∷ h) e =
    ap (λ (l : List PlacedEvent). recorded_by rank place x ++ l) (from-last rank (suc place) h e ∙ ap (λ (k : ℕ). journal_from rank (suc place) h ++ recorded_by rank k e) (omega arith))
    ∙ sym (append_assoc (recorded_by rank place x) (journal_from rank (suc place) h) (recorded_by rank (place + length (x ∷ h)) e))

pub journal-last : (rank : ℕ) (h : List Event) (e : Event) → journal_of rank (h ++ e ∷ []) ≡ journal_of rank h ++ recorded_by rank (length h) e
journal-last rank h e = from-last rank 0 h e ∙ ap (λ (k : ℕ). journal_of rank h ++ recorded_by rank k e) (omega arith)

-- an event of another rank adds nothing
pub none-noted : (rank place : ℕ) (e : Event) → rank ≢ owner_of e → recorded_by rank place e ≡ []
none-noted rank place e ne = ap (λ (b : Bool). cond b (placed_at place e ∷ []) []) (ne_eqb rank (owner_of e) ne)

-- and an event of its own adds itself with its place
pub own-noted : (rank place : ℕ) (e : Event) → rank ≡ owner_of e → recorded_by rank place e ≡ placed_at place e ∷ []
own-noted rank place e is = ap (λ (b : Bool). cond b (placed_at place e ∷ []) []) (eq-eqb rank (owner_of e) is)
