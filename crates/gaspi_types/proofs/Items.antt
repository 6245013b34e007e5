-- What stands in lists and in tables, also where one item is changed, or lists are cut and joined.
use Rattle.std.proofs.Common.{Bool, true, false, ◌==◌, map, replicate, take, drop, ◌≤◌, ◌<◌, Option, None, length, ◌++◌, ◌∙◌, arith, remove, ◌≡◌, ℕ, ◌+◌, zero, suc, List, [], ◌∷◌, Some, refl, sym, ap, subst, inl, inr, ◌⊎◌}
use Rattle.std.specs.List.{slice_get, slice_set, sum_by, flat_map, enumerate_from}
use Rattle.std.specs.Option.{option_map}
use Rattle.std.proofs.lemmas.List.{get_or-replicate, length-replicate, length-set}
use Rattle.std.proofs.lemmas.Bool.{eq-eqb, eqb-true}
use Rattle.std.proofs.lemmas.List.Sums.{sum_by-set}
use Rattle.std.proofs.lemmas.Option.{slice_get-map, slice_get_within, get_or_from_slice_get}
use Rattle.gaspi_types.specs.Tables.{item_at, changed_at}

-- what stands in a table after a change: at the place what was set, elsewhere what was there
pub slice_get-set : {A : Type 0} (xs : List A) (i j : ℕ) (y z : A) → slice_get (slice_set xs i y) j ≡ Some z → ((j ≡ i) × (z ≡ y)) ⊎ (slice_get xs j ≡ Some z)
slice_get-set [] i j y z h = inr h
slice_get-set (x ∷ xs) zero zero y z h = inl (refl, (let same : y ≡ z = cc in sym same))
slice_get-set (x ∷ xs) zero (suc j) y z h = inr h
slice_get-set (x ∷ xs) (suc i) zero y z h = inr h
slice_get-set (x ∷ xs) (suc i) (suc j) y z h = shift (slice_get-set xs i j y z h)
  where
    shift : ((j ≡ i) × (z ≡ y)) ⊎ (slice_get xs j ≡ Some z) → ((suc j ≡ suc i) × (z ≡ y)) ⊎ (slice_get xs j ≡ Some z)
    shift (inl h) = inl (ap (λ (n : ℕ). suc n) h.0, h.1)
    shift (inr h) = inr h

-- a sum over a table after a change
pub sum_by-changed : {A : Type 0} (f : A → ℕ) (xs : List A) (i : ℕ) (x y : A) → slice_get xs i ≡ Some x → sum_by f (slice_set xs i y) + f x ≡ sum_by f xs + f y
sum_by-changed f xs i x y h =
    let at = get_or_from_slice_get xs i x x h in
    subst (λ (z : _). sum_by f (slice_set xs i y) + f z ≡ sum_by f xs + f y) at (sum_by-set f xs i y x (slice_get_within xs i x h))

-- a table keeps its length when an item is changed
pub length-changed_at : {A : Type 0} (xs : List A) (i : ℕ) (change : A → A) → length (changed_at xs i change) ≡ length xs
length-changed_at {A} xs i change = go (slice_get xs i) refl
  where
    go : (o : Option A) → slice_get xs i ≡ o → length (changed_at xs i change) ≡ length xs
    go None at = rw at refl
    go (Some x) at = rw at (length-set xs i (change x))

-- what stands in a list that was made from another comes from what stands there
pub map-at : {A B : Type 0} (f : A → B) (xs : List A) (i : ℕ) (y : B) → slice_get (map f xs) i ≡ Some y → (x : A) × (slice_get xs i ≡ Some x) × (y ≡ f x)
map-at {A} {B} f xs i y h = go (slice_get xs i) refl
  where
    go : (o : Option A) → slice_get xs i ≡ o → (x : A) × (slice_get xs i ≡ Some x) × (y ≡ f x)
    go (Some x) at =
        let some : ◌≡◌ {A = Option B} (Some (f x)) (Some y) = sym (slice_get-map f xs i ∙ ap (option_map f) at) ∙ h in
        (x, at, (let same : f x ≡ y = cc in sym same))
    go None at =
        absurd (let none : ◌≡◌ {A = Option B} None (Some y) = sym (slice_get-map f xs i ∙ ap (option_map f) at) ∙ h in let no : ⊥ = cc in no)

-- a change at a place where something stands
pub changed_at-found : {A : Type 0} (xs : List A) (i : ℕ) (x : A) (change : A → A) → slice_get xs i ≡ Some x → changed_at xs i change ≡ slice_set xs i (change x)
changed_at-found xs i x change h = rw h refl

pub slice_get-set_same : {A : Type 0} (xs : List A) (i : ℕ) (x y : A) → slice_get xs i ≡ Some x → slice_get (slice_set xs i y) i ≡ Some y
slice_get-set_same [] i x y h = absurd (let no : ⊥ = cc in no)
slice_get-set_same (z ∷ xs) zero x y h = refl
slice_get-set_same (z ∷ xs) (suc i) x y h = slice_get-set_same xs i x y h

pub slice_get-set_other : {A : Type 0} (xs : List A) (i j : ℕ) (y : A) → (i ≡ j → ⊥) → slice_get (slice_set xs i y) j ≡ slice_get xs j
slice_get-set_other [] i j y apart = refl
slice_get-set_other (x ∷ xs) zero zero y apart = absurd (apart refl)
slice_get-set_other (x ∷ xs) zero (suc j) y apart = refl
slice_get-set_other (x ∷ xs) (suc i) zero y apart = refl
slice_get-set_other (x ∷ xs) (suc i) (suc j) y apart = slice_get-set_other xs i j y (λ e. apart (ap (λ (n : ℕ). suc n) e))

-- what stands at a place, set there, changes nothing
pub set-there : {A : Type 0} (table : List A) (place : _) (x : A) → slice_get table place ≡ Some x → slice_set table place x ≡ table
set-there [] place x at = refl
set-there (y ∷ table) zero x at = let same : y ≡ x = cc in ap (λ (z : _). z ∷ table) (sym same)
set-there (y ∷ table) (suc place) x at = ap (λ (rest : List _). y ∷ rest) (set-there table place x at)

-- a number is another or not
pub same-or-not : {P : Type 0} (a b : ℕ) → (a ≡ b → P) → ((a ≡ b → ⊥) → P) → P
same-or-not {P} a b same apart = go (a == b) refl
  where
    go : (t : Bool) → (a == b) ≡ t → P
    go true is = same (eqb-true a b is)
    go false is = apart (λ e. let yes = eq-eqb a b e in let no : ⊥ = cc in no)

-- within a list something stands at each place
pub past-none : {A : Type 0} (xs : List A) (i : ℕ) → i < length xs → slice_get xs i ≡ None → ⊥
past-none [] i less at = omega arith
past-none (x ∷ xs) zero less at = cc
past-none (x ∷ xs) (suc i) less at = past-none xs i (omega arith) at

pub there-within : {A : Type 0} (xs : List A) (i : ℕ) → i < length xs → (x : A) × (slice_get xs i ≡ Some x)
there-within [] i less = absurd (let no : ⊥ = omega arith in no)
there-within (x ∷ xs) zero less = (x, refl)
there-within (x ∷ xs) (suc i) less = there-within xs i (omega arith)

-- past its end nothing stands
pub none-past : {A : Type 0} (xs : List A) (i : ℕ) → slice_get xs i ≡ None → length xs ≤ i
none-past [] i at = omega arith
none-past (x ∷ xs) zero at = absurd (let no : ⊥ = cc in no)
none-past (x ∷ xs) (suc i) at = let rest = none-past xs i at in omega arith

-- what stands in a list with an item taken out stood in it
pub remove-part : {A : Type 0} (xs : List A) (i j : ℕ) (y : A) → slice_get (remove xs i) j ≡ Some y → (k : ℕ) × (slice_get xs k ≡ Some y)
remove-part [] zero j y at = absurd (let no : ⊥ = cc in no)
remove-part [] (suc i) j y at = absurd (let no : ⊥ = cc in no)
remove-part (x ∷ xs) zero j y at = (suc j, at)
remove-part (x ∷ xs) (suc i) zero y at = (0, at)
remove-part (x ∷ xs) (suc i) (suc j) y at = let rest = remove-part xs i j y at in (suc rest.0, rest.1)

-- what stands in lists that were joined stands in one of them
pub append-parts : {A : Type 0} (a b : List A) (k : ℕ) (y : A) → slice_get (a ++ b) k ≡ Some y → ((j : ℕ) × (slice_get a j ≡ Some y)) ⊎ ((j : ℕ) × (slice_get b j ≡ Some y))
append-parts [] b k y at = inr (k, at)
append-parts (x ∷ a) b zero y at = inl (0, at)
append-parts (x ∷ a) b (suc k) y at = shift (append-parts a b k y at)
  where
    shift : ((j : ℕ) × (slice_get a j ≡ Some y)) ⊎ ((j : ℕ) × (slice_get b j ≡ Some y)) → ((j : ℕ) × (slice_get (x ∷ a) j ≡ Some y)) ⊎ ((j : ℕ) × (slice_get b j ≡ Some y))
    shift (inl h) = inl (suc h.0, h.1)
    shift (inr h) = inr h

pub flat_map-parts : {A B : Type 0} (f : A → List B) (xs : List A) (k : ℕ) (y : B) → slice_get (flat_map f xs) k ≡ Some y
    → (i : ℕ) × (x : A) × (j : ℕ) × (slice_get xs i ≡ Some x) × (slice_get (f x) j ≡ Some y)
flat_map-parts f [] k y at = absurd (let no : ⊥ = cc in no)
flat_map-parts {A} {B} f (x ∷ xs) k y at = go (append-parts (f x) (flat_map f xs) k y at) (λ j h. flat_map-parts f xs j y h)
  where
    go : ((j : ℕ) × (slice_get (f x) j ≡ Some y)) ⊎ ((j : ℕ) × (slice_get (flat_map f xs) j ≡ Some y))
        → ((j : ℕ) → slice_get (flat_map f xs) j ≡ Some y → (i : ℕ) × (x' : A) × (j : ℕ) × (slice_get xs i ≡ Some x') × (slice_get (f x') j ≡ Some y))
        → (i : ℕ) × (x' : A) × (j : ℕ) × (slice_get (x ∷ xs) i ≡ Some x') × (slice_get (f x') j ≡ Some y)
    go (inl h) rest = (0, x, h.0, refl, h.1)
    go (inr h) rest = let r = rest h.0 h.1 in (suc r.0, r.1, r.2, r.3, r.4)

pub enumerate-at : {A : Type 0} (n : ℕ) (xs : List A) (i : ℕ) (p : ℕ × A) → slice_get (enumerate_from n xs) i ≡ Some p → (p.0 ≡ n + i) × (slice_get xs i ≡ Some p.1)
enumerate-at n [] i p at = absurd (let no : ⊥ = cc in no)
enumerate-at n (x ∷ xs) zero p at =
    let same : ◌≡◌ {A = ℕ × _} (n, x) p = cc in
    (sym (ap (λ (q : ℕ × _). q.0) same) ∙ omega arith, ap (λ (q : ℕ × _). Some q.1) same)
enumerate-at n (x ∷ xs) (suc i) p at = let rest = enumerate-at (n + 1) xs i p at in (rest.0 ∙ omega arith, rest.1)

-- what stands in a list of copies
pub slice_get-replicate : {A : Type 0} (n : ℕ) (x y : A) (k : ℕ) → slice_get (replicate n x) k ≡ Some y → y ≡ x
slice_get-replicate n x y k h =
    let within : k < n = subst (λ (m : ℕ). k < m) (length-replicate n x) (slice_get_within (replicate n x) k y h) in
    sym (get_or_from_slice_get (replicate n x) k y y h) ∙ get_or-replicate n k x y within

-- what stands in a table of things that may be missing
pub joined : {A : Type 0} (table : List (Option A)) (k : ℕ) (x : A) → item_at table k ≡ Some x → slice_get table k ≡ Some (Some x)
joined {A} table k x h = go (slice_get table k) refl
  where
    go : (o : Option (Option A)) → slice_get table k ≡ o → slice_get table k ≡ Some (Some x)
    go None at = absurd (let none : ◌≡◌ {A = Option A} None (Some x) = rw at at h in let no : ⊥ = cc in no)
    go (Some None) at = absurd (let none : ◌≡◌ {A = Option A} None (Some x) = rw at at h in let no : ⊥ = cc in no)
    go (Some (Some y)) at = let some : ◌≡◌ {A = Option A} (Some y) (Some x) = rw at at h in at ∙ ap (λ (o : Option A). Some o) some

-- Items of lists that were cut and joined.

pub prefix-of-joined : {A : Type 0} (xs ys : List A) (k : ℕ) → k < length xs → slice_get (xs ++ ys) k ≡ slice_get xs k
prefix-of-joined [] ys k less = absurd (let no : ⊥ = omega arith in no)
prefix-of-joined (x ∷ xs) ys zero less = refl
prefix-of-joined (x ∷ xs) ys (suc k) less = prefix-of-joined xs ys k (omega arith)

pub behind-of-joined : {A : Type 0} (xs ys : List A) (k j : ℕ) → j ≡ length xs + k → slice_get (xs ++ ys) j ≡ slice_get ys k
behind-of-joined [] ys k j is = let same : j ≡ k = omega arith in rw same refl
behind-of-joined (x ∷ xs) ys k zero is = absurd (let no : ⊥ = omega arith in no)
behind-of-joined (x ∷ xs) ys k (suc j) is = behind-of-joined xs ys k j (omega arith)

pub prefix-of-taken : {A : Type 0} (n : ℕ) (xs : List A) (k : ℕ) → k < n → slice_get (take n xs) k ≡ slice_get xs k
prefix-of-taken zero xs k less = absurd (let no : ⊥ = omega arith in no)
prefix-of-taken (suc n) [] k less = refl
prefix-of-taken (suc n) (x ∷ xs) zero less = refl
prefix-of-taken (suc n) (x ∷ xs) (suc k) less = prefix-of-taken n xs k (omega arith)

pub rest-of-dropped : {A : Type 0} (n : ℕ) (xs : List A) (k j : ℕ) → j ≡ n + k → slice_get (drop n xs) k ≡ slice_get xs j
rest-of-dropped zero xs k j is = let same : j ≡ k = omega arith in rw same refl
rest-of-dropped (suc n) [] k j is = refl
rest-of-dropped (suc n) (x ∷ xs) k zero is = absurd (let no : ⊥ = omega arith in no)
rest-of-dropped (suc n) (x ∷ xs) k (suc j) is = rest-of-dropped n xs k j (omega arith)

-- an item replaced by one that a function cannot tell from it
pub map-set_alike : {A B : Type 0} (f : A → B) (xs : List A) (i : ℕ) (y : A) → ((x : A) → slice_get xs i ≡ Some x → f y ≡ f x) → map f (slice_set xs i y) ≡ map f xs
map-set_alike f [] i y alike = refl
map-set_alike f (x ∷ xs) zero y alike = ap (λ (z : _). z ∷ map f xs) (alike x refl)
map-set_alike f (x ∷ xs) (suc i) y alike = ap (λ (rest : List _). f x ∷ rest) (map-set_alike f xs i y alike)

-- what stands in a table with one item changed stood there, or is that item changed
pub slice_get-changed_at : {A : Type 0} (xs : List A) (place : ℕ) (change : A → A) (i : ℕ) (y : A) → slice_get (changed_at xs place change) i ≡ Some y
    → (k : ℕ) × (x : A) × (slice_get xs k ≡ Some x) × ((y ≡ x) ⊎ (y ≡ change x))
slice_get-changed_at {A} xs place change i y h = go (slice_get xs place) refl
  where
    parts : (x : A) → slice_get xs place ≡ Some x → ((i ≡ place) × (y ≡ change x)) ⊎ (slice_get xs i ≡ Some y) → (k : ℕ) × (x : A) × (slice_get xs k ≡ Some x) × ((y ≡ x) ⊎ (y ≡ change x))
    parts x at (inl both) = (place, x, at, inr both.1)
    parts x at (inr there) = (i, y, there, inl refl)

    go : (o : Option A) → slice_get xs place ≡ o → (k : ℕ) × (x : A) × (slice_get xs k ≡ Some x) × ((y ≡ x) ⊎ (y ≡ change x))
    go None at = (i, y, rw at at h, inl refl)
    go (Some x) at = parts x at (slice_get-set xs place i (change x) y (rw at at h))
