-- What holds of each item of a list that a function gives.
use Rattle.std.proofs.Common.{◌≡◌, ℕ, zero, suc, ◌<◌, List, [], ◌∷◌, length, map, Some, slice_index_or, refl, subst, arith}
use Rattle.std.specs.List.{slice_get}

pub index-there : {A B : Type 0} (f : A → B) (xs : List A) (k : ℕ) (d : A) → k < length xs → slice_get (map f xs) k ≡ Some (f (slice_index_or xs k d))
index-there f [] k d less = absurd (omega arith)
index-there f (x ∷ xs) zero d less = refl
index-there f (x ∷ xs) (suc k) d less = index-there f xs k d (omega arith)

pub each-mapped : {A B : Type 0} (f : A → B) (P : B → Type 0) (xs : List A) → ((k : ℕ) (d : A) → k < length xs → P (f (slice_index_or xs k d))) → (k : ℕ) (y : B) → slice_get (map f xs) k ≡ Some y → P y
each-mapped f P [] all k y at = absurd (let no : ⊥ = cc in no)
each-mapped f P (x ∷ xs) all zero y at = (let same : f x ≡ y = cc in subst P same (all 0 x (omega arith)))
each-mapped f P (x ∷ xs) all (suc k) y at = each-mapped f P xs (λ j d less. all (suc j) d (omega arith)) k y at
