-- Tables: lists by numbers, some with items that may be missing. The parameter `place` is an index.
use Rattle.std.specs.Prelude.{ℕ, List, Option, None, Some, slice_get, slice_set, option_and_then}

-- the item at an index of a table, where there is one
abbrev pub item_at : {A : Type 0} → List (Option A) → ℕ → Option A
item_at {A} table place = option_and_then (λ (x : Option A). x) (slice_get table place)

-- the table with the item at an index changed; the same table where it has no such index
abbrev pub changed_at : {A : Type 0} → List A → ℕ → (A → A) → List A
changed_at {A} table place change = set_to (slice_get table place)
  where
    set_to : Option A → List A
    set_to None = table
    set_to (Some x) = slice_set table place (change x)
