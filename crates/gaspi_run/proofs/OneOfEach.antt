-- Counts of what stands in a list once, or never.
use Rattle.std.proofs.Common.{◌≡◌, ◌||◌, ℕ, zero, suc, ◌+◌, ◌≤◌, Bool, true, false, cond, List, [], ◌∷◌, map, Option, None, Some, count_by, find, refl, sym, ap, ◌∙◌, subst, arith}
use Rattle.std.specs.List.{All, slice_get, list_any}
use Rattle.std.proofs.lemmas.List.Elements.{All-head, All-tail}
use Rattle.std.proofs.lemmas.List.Sums.{sum_by-cons}

module _ {A : Type 0} (p : A → Bool) where
  pub counts : (x : A) (xs : List A) (b : Bool) → p x ≡ b → count_by p (x ∷ xs) ≡ cond b 1 0 + count_by p xs
  counts x xs b is = sum_by-cons (λ (y : A). cond (p y) 1 0) x xs ∙ ap (λ (c : Bool). cond c 1 0 + count_by p xs) is

  -- what passes no test is not counted
  pub count-none : (xs : List A) → ((k : ℕ) (x : A) → slice_get xs k ≡ Some x → p x ≡ false) → count_by p xs ≡ 0
  count-none [] none = refl
  count-none (x ∷ xs) none =
      let one : count_by p (x ∷ xs) ≡ 0 + count_by p xs = counts x xs false (none 0 x refl) in
      let rest = count-none xs (λ k y at. none (suc k) y at) in
      omega arith

  -- what passes the test at one place alone counts one
  pub count-one : (xs : List A) (place : ℕ) (x : A) → slice_get xs place ≡ Some x → p x ≡ true → ((k : ℕ) (y : A) → slice_get xs k ≡ Some y → p y ≡ true → k ≡ place) → count_by p xs ≡ 1
  count-one [] place x at is only = absurd (let never : ⊥ = cc in never)
  count-one (y ∷ xs) zero x at is only =
      let same : y ≡ x = cc in
      let one : count_by p (y ∷ xs) ≡ 1 + count_by p xs = counts y xs true (ap p same ∙ is) in
      let rest = count-none xs (λ k z there. else-no k z there (p z) refl) in
      omega arith
    where
      else-no : (k : ℕ) (z : A) → slice_get xs k ≡ Some z → (b : Bool) → p z ≡ b → b ≡ false
      else-no k z there false fails = refl
      else-no k z there true meets = absurd (let wrong = only (suc k) z there meets in omega arith)
  count-one (y ∷ xs) (suc place) x at is only = go (count-one xs place x at is (λ k z there meets. let same = only (suc k) z there meets in omega arith)) (p y) refl
    where
      go : count_by p xs ≡ 1 → (b : Bool) → p y ≡ b → count_by p (y ∷ xs) ≡ 1
      go rest true meets = absurd (let wrong = only 0 y refl meets in omega arith)
      go rest false fails = (let one : count_by p (y ∷ xs) ≡ 0 + count_by p xs = counts y xs false fails in omega arith)

  -- what passes the test is counted
  pub count-some : (xs : List A) (place : ℕ) (x : A) → slice_get xs place ≡ Some x → p x ≡ true → 1 ≤ count_by p xs
  count-some [] place x at is = absurd (let never : ⊥ = cc in never)
  count-some (y ∷ xs) zero x at is =
      let same : y ≡ x = cc in
      let one : count_by p (y ∷ xs) ≡ 1 + count_by p xs = counts y xs true (ap p same ∙ is) in
      omega arith
  count-some (y ∷ xs) (suc place) x at is =
      let rest = count-some xs place x at is in
      let one : count_by p (y ∷ xs) ≡ cond (p y) 1 0 + count_by p xs = counts y xs (p y) refl in
      omega arith

  -- of a list with one such at most, the first is that one
  pub find-one : (xs : List A) (place : ℕ) (x : A) → slice_get xs place ≡ Some x → p x ≡ true → count_by p xs ≤ 1 → find p xs ≡ Some x
  find-one [] place x at is few = absurd (let never : ⊥ = cc in never)
  find-one (y ∷ xs) zero x at is few = (let same : y ≡ x = cc in let meets : p y ≡ true = ap p same ∙ is in rw meets (ap (λ (z : A). Some z) same))
  find-one (y ∷ xs) (suc place) x at is few = go (p y) refl (λ less. find-one xs place x at is less)
    where
      go : (b : Bool) → p y ≡ b → (count_by p xs ≤ 1 → find p xs ≡ Some x) → find p (y ∷ xs) ≡ Some x
      go true meets rest = absurd (let one : count_by p (y ∷ xs) ≡ 1 + count_by p xs = counts y xs true meets in let some = count-some xs place x at is in omega arith)
      go false fails rest = (let one : count_by p (y ∷ xs) ≡ 0 + count_by p xs = counts y xs false fails in rw fails (rest (omega arith)))

  -- what is found passes the test, and stands there
  pub found-is : (xs : List A) (x : A) → find p xs ≡ Some x → p x ≡ true
  found-is [] x is = absurd (let never : ⊥ = cc in never)
  found-is (y ∷ xs) x is = go (p y) refl (found-is xs x)
    where
      go : (b : Bool) → p y ≡ b → (find p xs ≡ Some x → p x ≡ true) → p x ≡ true
      go true meets rest = (let first : ◌≡◌ {A = Option A} (Some y) (Some x) = rw meets at is in let same : y ≡ x = cc in ap p (sym same) ∙ meets)
      go false fails rest = rest (rw fails at is)

  pub found-all : (P : A → Type 0) (xs : List A) (x : A) → All P xs → find p xs ≡ Some x → P x
  found-all P [] x all is = absurd (let never : ⊥ = cc in never)
  found-all P (y ∷ xs) x all is = go (p y) refl (λ later. found-all P xs x (All-tail P y xs all) later)
    where
      go : (b : Bool) → p y ≡ b → (find p xs ≡ Some x → P x) → P x
      go true meets rest = (let first : ◌≡◌ {A = Option A} (Some y) (Some x) = rw meets at is in let same : y ≡ x = cc in subst P same (All-head P y xs all))
      go false fails rest = rest (rw fails at is)

  -- one that passes the test is found
  pub found-any : (xs : List A) → find p xs ≡ None → list_any p xs ≡ false
  found-any [] none = refl
  found-any (y ∷ xs) none = go (p y) refl (found-any xs)
    where
      go : (b : Bool) → p y ≡ b → (find p xs ≡ None → list_any p xs ≡ false) → list_any p (y ∷ xs) ≡ false
      go true meets rest = absurd (let first : ◌≡◌ {A = Option A} (Some y) None = rw meets at none in let never : ⊥ = cc in never)
      go false fails rest = rw fails (rest (rw fails at none))

  pub none-there : (xs : List A) → list_any p xs ≡ false → (k : ℕ) (x : A) → slice_get xs k ≡ Some x → p x ≡ false
  none-there [] none k x at = absurd (let never : ⊥ = cc in never)
  none-there (y ∷ xs) none zero x at = (let same : y ≡ x = cc in go (p y) refl (ap p (sym same)))
    where
      go : (b : Bool) → p y ≡ b → p x ≡ p y → p x ≡ false
      go true meets same = absurd (let wrong : ◌≡◌ {A = Bool} true false = rw meets at none in let never : ⊥ = cc in never)
      go false fails same = same ∙ fails
  none-there (y ∷ xs) none (suc k) x at = go (p y) refl (λ later. none-there xs later k x at)
    where
      go : (b : Bool) → p y ≡ b → (list_any p xs ≡ false → p x ≡ false) → p x ≡ false
      go true meets rest = absurd (let wrong : ◌≡◌ {A = Bool} true false = rw meets at none in let never : ⊥ = cc in never)
      go false fails rest = rest (rw fails at none)

-- a count over what a list was made from
pub count-map : {A B : Type 0} (f : A → B) (p : B → Bool) (xs : List A) → count_by p (map f xs) ≡ count_by (λ x. p (f x)) xs
count-map f p [] = refl
count-map {A} f p (x ∷ xs) =
    let one = counts p (f x) (map f xs) (p (f x)) refl in
    let two = counts (λ (y : A). p (f y)) x xs (p (f x)) refl in
    let rest = count-map f p xs in
    omega arith

pub any-map : {A B : Type 0} (f : A → B) (p : B → Bool) (xs : List A) → list_any p (map f xs) ≡ list_any (λ x. p (f x)) xs
any-map f p [] = refl
any-map f p (x ∷ xs) = ap (λ (b : Bool). p (f x) || b) (any-map f p xs)

-- a fact of all items of a list, at a place
pub all-at : {A : Type 0} (P : A → Type 0) (xs : List A) (k : ℕ) (x : A) → All P xs → slice_get xs k ≡ Some x → P x
all-at P [] k x all at = absurd (let never : ⊥ = cc in never)
all-at P (y ∷ xs) zero x all at = (let same : y ≡ x = cc in subst P same (All-head P y xs all))
all-at P (y ∷ xs) (suc k) x all at = all-at P xs k x (All-tail P y xs all) at
