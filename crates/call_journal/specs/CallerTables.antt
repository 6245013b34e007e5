-- Tables by rank and thread, of the ranks and threads that there can be.
use Rattle.std.specs.Prelude.{◌≡◌, ℕ, List, length, slice_get, Some}

-- a row for each rank, with an item for each thread
pub record HasCallers {A : Type 0} (table : List (List A)) : Type 0 where
  pub ranks : length table ≡ 16
  pub threads : (rank : ℕ) (row : List A) → slice_get table rank ≡ Some row → length row ≡ 4

-- what the item of each caller is
pub record IsCallerTable {A : Type 0} (is : ℕ → ℕ → A → Type 0) (table : List (List A)) : Type 0 where
  pub callers : HasCallers table
  pub each : (rank : ℕ) (row : List A) → slice_get table rank ≡ Some row
      → (thread : ℕ) (item : A) → slice_get row thread ≡ Some item → is rank thread item
