-- What is owed after a change of the posts.
use Rattle.std.proofs.Common.{◌≡◌, ℕ, ◌+◌, ◌*◌, List, [], ◌∷◌, Some, length, slice_get, slice_set, remove, sum_by, refl, arith, subst}
use Rattle.std.proofs.lemmas.List.Sums.{sum_by-remove, sum_by-set, sum_by-cons}
use Rattle.std.proofs.lemmas.Option.{get_or_from_slice_get, slice_get_within}
use Rattle.gaspi_types.specs.Lanes.{lane_owed, entry_owed, posted_entries}
use Rattle.gaspi_types.specs.declared.entries.Kind.{Kind}
use Rattle.gaspi_types.specs.declared.entries.Phase.TheVariants.{Posted}

-- a sum with one item replaced
pub sum_by-put : {X : Type 0} (f : X → ℕ) (xs : List X) (i : ℕ) (x y : X) → slice_get xs i ≡ Some x → sum_by f (slice_set xs i y) + f x ≡ sum_by f xs + f y
sum_by-put {X} f xs i x y there =
    subst (λ (z : X). sum_by f (slice_set xs i y) + f z ≡ sum_by f xs + f y) (get_or_from_slice_get xs i x x there)
    (sum_by-set f xs i y x (slice_get_within xs i x there))

-- a post owes two events for each entry
pub lane_owed-posted : (number : ℕ) (kinds : List Kind) → lane_owed (posted_entries number kinds) ≡ 2 * length kinds
lane_owed-posted number [] = refl
lane_owed-posted number (kind ∷ kinds) =
    let more = lane_owed-posted (number + 1) kinds in
    let front = sum_by-cons entry_owed (record { number = number; kind = kind; phase = Posted }) (posted_entries (number + 1) kinds) in
    omega (arith, more, front)

-- a sum with one item taken out
pub sum_by-taken : {X : Type 0} (f : X → ℕ) (xs : List X) (i : ℕ) (x : X) → slice_get xs i ≡ Some x → sum_by f (remove xs i) + f x ≡ sum_by f xs
sum_by-taken {X} f xs i x there =
    subst (λ (z : X). sum_by f (remove xs i) + f z ≡ sum_by f xs) (get_or_from_slice_get xs i x x there)
    (sum_by-remove f xs i x (slice_get_within xs i x there))
