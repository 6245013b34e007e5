-- Rank journals: the events of one owner, each with its place in the journal of the world. (own choice)
use Rattle.std.specs.Prelude.{◌≡◌, ◌≤◌, ◌==◌, ℕ, Bool, false, cond, List, [], ◌∷◌, ◌++◌, option_to_list, slice_get, Some}
use Rattle.std.proofs.Common.{suc}
use Rattle.std.specs.List.{flat_map}
use Rattle.gaspi_types.specs.declared.events.Event.{Event}
use Rattle.gaspi_types.specs.declared.events.PlacedEvent.{PlacedEvent}

-- the events at a place
abbrev pub with_place : ℕ → List PlacedEvent → List Event
with_place place [] = []
with_place place (x ∷ xs) = cond (place == x.place) (x.event ∷ with_place place xs) (with_place place xs)

-- the lists, one behind another
abbrev pub joined : List (List PlacedEvent) → List PlacedEvent
joined lists = flat_map (λ (list : List PlacedEvent). list) lists

-- the rank journals are those of a journal: they have each of its events once, at its place, and no other
abbrev pub AreCutOf : List (List PlacedEvent) → List Event → Type 0
AreCutOf lists journal = (place : ℕ) → with_place place (joined lists) ≡ option_to_list (slice_get journal place)

-- each place is greater than the one before it, and the first is at least this one
abbrev pub IsRisingFrom : ℕ → List PlacedEvent → Type 0
IsRisingFrom first [] = Unit {0}
IsRisingFrom first (x ∷ xs) = (first ≤ x.place) × IsRisingFrom (suc x.place) xs

-- the same of each of the lists
abbrev pub AreRisingFrom : ℕ → List (List PlacedEvent) → Type 0
AreRisingFrom first lists = (k : ℕ) (list : List PlacedEvent) → slice_get lists k ≡ Some list → IsRisingFrom first list

-- an event with its place
abbrev pub placed : ℕ → Event → PlacedEvent
placed place e = record { place = place; event = e }

-- the rank journal of an owner: its events in a history that begins at a place, each with its place
abbrev pub cut : (Event → ℕ) → ℕ → ℕ → List Event → List PlacedEvent
cut owner i place [] = []
cut owner i place (e ∷ history) = cond (i == owner e) (placed place e ∷ []) [] ++ cut owner i (suc place) history

-- whether a list begins with an event at that place
abbrev pub starts_at : ℕ → List PlacedEvent → Bool
starts_at place [] = false
starts_at place (x ∷ xs) = place == x.place

-- rank journals that are to be merged: how many there may be, and how many events there may be in all
pub record Merging : Type 0 where
  pub lists : List (List PlacedEvent)
  pub ranks : ℕ
  pub events : ℕ
