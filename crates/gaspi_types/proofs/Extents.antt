-- What stands in tables of extents, and how the next generations grow.
use Rattle.std.proofs.Common.{◌≡◌, ℕ, zero, suc, ◌<◌, ◌≤◌, Bool, true, false, nat_lt, List, [], ◌∷◌, length, Option, None, Some, refl, sym, ap, ◌∙◌, arith, ◌⊎◌, inl, inr}
use Rattle.std.specs.List.{slice_get, slice_set}
use Rattle.gaspi_types.specs.SegmentTables.{extent_in, next_generation}
use Rattle.gaspi_types.specs.declared.segments.Extent.{Extent}
use Rattle.gaspi_types.proofs.Items.{slice_get-set}

-- Generations.

-- a number set in place of a smaller one makes no generation smaller
pub generation-grows : (generations : List ℕ) (segment value k : ℕ) → next_generation generations segment ≤ value → next_generation generations k ≤ next_generation (slice_set generations segment value) k
generation-grows [] segment value k less = omega arith
generation-grows (x ∷ generations) zero value zero less = less
generation-grows (x ∷ generations) zero value (suc k) less = omega arith
generation-grows (x ∷ generations) (suc segment) value zero less = omega arith
generation-grows (x ∷ generations) (suc segment) value (suc k) less = generation-grows generations segment value k less

-- a number set where one stands is the next generation there
pub generation-set : (generations : List ℕ) (segment value : ℕ) → segment < length generations → next_generation (slice_set generations segment value) segment ≡ value
generation-set [] segment value within = absurd (let no : ⊥ = omega arith in no)
generation-set (x ∷ generations) zero value within = refl
generation-set (x ∷ generations) (suc segment) value within = generation-set generations segment value (omega arith)

-- where all are at most so large, so is each next generation
pub generation-within : (generations : List ℕ) (bound segment : ℕ) → ((k n : ℕ) → slice_get generations k ≡ Some n → n ≤ bound) → next_generation generations segment ≤ bound
generation-within [] bound segment few = omega arith
generation-within (x ∷ generations) bound zero few = few 0 x refl
generation-within (x ∷ generations) bound (suc segment) few = generation-within generations bound segment (λ k n at. few (suc k) n at)

-- Tables.

pub extent-at : (table : List (Option Extent)) (segment : ℕ) (x : Extent) → extent_in table segment ≡ Some x → (nat_lt segment 32 ≡ true) × (slice_get table segment ≡ Some (Some x))
extent-at table segment x h = by-bound (nat_lt segment 32) refl
  where
    by-item : (o : Option (Option Extent)) → slice_get table segment ≡ o → nat_lt segment 32 ≡ true → (nat_lt segment 32 ≡ true) × (slice_get table segment ≡ Some (Some x))
    by-item None at less = absurd (let none : ◌≡◌ {A = Option Extent} None (Some x) = rw (less, at) at h in let no : ⊥ = cc in no)
    by-item (Some None) at less = absurd (let none : ◌≡◌ {A = Option Extent} None (Some x) = rw (less, at) at h in let no : ⊥ = cc in no)
    by-item (Some (Some y)) at less =
        let some : ◌≡◌ {A = Option Extent} (Some y) (Some x) = rw (less, at) at h in
        (less, at ∙ ap (λ (o : Option Extent). Some o) some)

    by-bound : (b : Bool) → nat_lt segment 32 ≡ b → (nat_lt segment 32 ≡ true) × (slice_get table segment ≡ Some (Some x))
    by-bound true is = by-item (slice_get table segment) refl is
    by-bound false is = absurd (let none : ◌≡◌ {A = Option Extent} None (Some x) = rw is at h in let no : ⊥ = cc in no)

pub at-extent : (table : List (Option Extent)) (segment : ℕ) (x : Extent) → nat_lt segment 32 ≡ true → slice_get table segment ≡ Some (Some x) → extent_in table segment ≡ Some x
at-extent table segment x less at = rw (less, at) refl

-- what is in a table after a change: at the number what was set, elsewhere what was there
pub extent-set : (table : List (Option Extent)) (segment : ℕ) (o : Option Extent) (k : ℕ) (x : Extent) → extent_in (slice_set table segment o) k ≡ Some x
    → ((k ≡ segment) × (o ≡ Some x)) ⊎ (extent_in table k ≡ Some x)
extent-set table segment o k x h = go (extent-at (slice_set table segment o) k x h)
  where
    parts : nat_lt k 32 ≡ true → ((k ≡ segment) × (Some x ≡ o)) ⊎ (slice_get table k ≡ Some (Some x)) → ((k ≡ segment) × (o ≡ Some x)) ⊎ (extent_in table k ≡ Some x)
    parts less (inl is) = inl (is.0, sym is.1)
    parts less (inr was) = inr (at-extent table k x less was)

    go : (nat_lt k 32 ≡ true) × (slice_get (slice_set table segment o) k ≡ Some (Some x)) → ((k ≡ segment) × (o ≡ Some x)) ⊎ (extent_in table k ≡ Some x)
    go (less, at) = parts less (slice_get-set table segment k o (Some x) at)
