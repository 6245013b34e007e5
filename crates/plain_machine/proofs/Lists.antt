-- Lists made from the items of a list, where one item changed.
use Rattle.std.proofs.Common.{◌≡◌, ℕ, zero, suc, ◌+◌, List, [], ◌∷◌, ◌++◌, Option, None, Some, map, slice_get, slice_set, refl, ap, ◌∙◌}
use Rattle.std.specs.List.{flat_map, enumerate_from}
use Rattle.std.proofs.lemmas.List.{map-set}
use Rattle.std.proofs.lemmas.Option.{slice_get-map}
use Rattle.gaspi_types.specs.Tables.{changed_at}
use Rattle.gaspi_types.proofs.Items.{changed_at-found, set-there}

-- a fact about a list that one item decides
pub map_kept : {X : Type 0} (f : X → ℕ) (xs : List X) (i : ℕ) (x y : X) → slice_get xs i ≡ Some x → f y ≡ f x → map f (slice_set xs i y) ≡ map f xs
map_kept f xs i x y there same =
    map-set f xs i y ∙ set-there (map f xs) i (f y) (slice_get-map f xs i ∙ rw there rw same refl)

-- what is made of each item, where the changed one gives the same
pub same_in : {X Y : Type 0} (h : ℕ × X → List Y) (n i : ℕ) (xs : List X) (x y : X) → slice_get xs i ≡ Some x → ((j : ℕ) → h (j, y) ≡ h (j, x))
    → flat_map h (enumerate_from n (slice_set xs i y)) ≡ flat_map h (enumerate_from n xs)
same_in h n i [] x y there same = refl
same_in {X} {Y} h n zero (z ∷ xs) x y there same =
    let is : x ≡ z = cc in
    ap (λ (ys : List Y). ys ++ flat_map h (enumerate_from (n + 1) xs)) (same n ∙ ap (λ (w : X). h (n, w)) is)
same_in {X} {Y} h n (suc i) (z ∷ xs) x y there same = ap (λ (ys : List Y). h (n, z) ++ ys) (same_in h (n + 1) i xs x y there same)

pub same_changed : {X Y : Type 0} (h : ℕ × X → List Y) (n i : ℕ) (xs : List X) (change : X → X) → ((j : ℕ) (x : X) → h (j, change x) ≡ h (j, x))
    → flat_map h (enumerate_from n (changed_at xs i change)) ≡ flat_map h (enumerate_from n xs)
same_changed {X} {Y} h n i xs change same = by_item (slice_get xs i) refl
  where
    by_item : (o : Option X) → slice_get xs i ≡ o → flat_map h (enumerate_from n (changed_at xs i change)) ≡ flat_map h (enumerate_from n xs)
    by_item None there = rw there refl
    by_item (Some x) there = rw (changed_at-found xs i x change there) (same_in h n i xs x (change x) there (λ j. same j x))

-- the item of a mapped list
pub mapped : {X : Type 0} (f : X → ℕ) (xs : List X) (i : ℕ) (x : X) (y : ℕ) → slice_get xs i ≡ Some x → slice_get (map f xs) i ≡ Some y → y ≡ f x
mapped {X} f xs i x y there is =
    let both : slice_get (map f xs) i ≡ Some (f x) = slice_get-map f xs i ∙ rw there refl in cc
