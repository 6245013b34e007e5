-- The passes of a world.
use Rattle.std.specs.Prelude.{◌≡◌, ℕ, ◌<◌, Bool, List, Some, slice_get}
use Rattle.std.specs.List.{list_all, list_any, range_with_len}
use Rattle.commit_table.specs.Calls.{PassValue}
use Rattle.commit_table.specs.Machine.{is_party}

module _ {S E : Type 0} where
  -- one of these passes has this number, which is its party
  abbrev pub has_number : List (PassValue S E) → ℕ → Bool
  has_number passes number = list_any (λ (p : PassValue S E). is_party number p.known.party) passes

  -- each number below the count is that of one of these passes
  abbrev pub are_all : ℕ → List (PassValue S E) → Bool
  are_all count passes = list_all (has_number passes) (range_with_len 0 count)

  -- the same as a statement: for each number below a bound there is a pass of that party
  abbrev pub AreAll : ℕ → List (PassValue S E) → Type 0
  AreAll count passes = (number : ℕ) → number < count → (place : ℕ) × (p : PassValue S E) × (slice_get passes place ≡ Some p) × (p.known.party ≡ Some number)
