-- All passes of a world.
use Rattle.std.proofs.Common.{◌≡◌, ℕ, zero, suc, ◌+◌, ◌<◌, Bool, true, false, List, [], ◌∷◌, Option, None, Some, refl, sym, ap, ◌∙◌, subst, arith}
use Rattle.std.specs.List.{slice_get, list_all, list_any, range_with_len}
use Rattle.std.proofs.lemmas.Bool.{eqb-true, eq-eqb}
use Rattle.commit_table.specs.Calls.{PassValue}
use Rattle.commit_table.specs.Machine.{is_party}
use Rattle.gaspi_model.proofs.Sound.Rounds.{each-passes, in-range}
use Rattle.gaspi_world.specs.Passes.{has_number, are_all, AreAll}

any-there : {A : Type 0} (p : A → Bool) (xs : List A) → list_any p xs ≡ true → (place : ℕ) × (x : A) × (slice_get xs place ≡ Some x) × (p x ≡ true)
any-there p [] any = absurd (let no : ⊥ = cc in no)
any-there {A} p (x ∷ xs) any = go (any-there p xs) (p x) refl
  where
    go : (list_any p xs ≡ true → (place : ℕ) × (y : A) × (slice_get xs place ≡ Some y) × (p y ≡ true)) → (b : Bool) → p x ≡ b → (place : ℕ) × (y : A) × (slice_get (x ∷ xs) place ≡ Some y) × (p y ≡ true)
    go rest true is = (0, x, refl, is)
    go rest false is = let later = rest (rw is at any) in (suc later.0, later.1, later.2, later.3)

there-any : {A : Type 0} (p : A → Bool) (xs : List A) (place : ℕ) (x : A) → slice_get xs place ≡ Some x → p x ≡ true → list_any p xs ≡ true
there-any p [] place x at is = absurd (let no : ⊥ = cc in no)
there-any p (y ∷ ys) zero x at is = (let same : y ≡ x = cc in rw same (rw is refl))
there-any {A} p (y ∷ ys) (suc place) x at is = go (there-any p ys place x at is) (p y) refl
  where
    go : list_any p ys ≡ true → (b : Bool) → p y ≡ b → list_any p (y ∷ ys) ≡ true
    go rest true here = rw here refl
    go rest false here = rw here rest

all-range : (f : ℕ → Bool) (low n : ℕ) → ((k : ℕ) → k < n → f (low + k) ≡ true) → list_all f (range_with_len low n) ≡ true
all-range f low zero every = refl
all-range f low (suc n) every =
    let first : f low ≡ true = subst (λ (m : ℕ). f m ≡ true) (let none : low + 0 ≡ low = omega arith in none) (every 0 (omega arith)) in
    let rest = all-range f (low + 1) n (λ k less. subst (λ (m : ℕ). f m ≡ true) (let same : low + suc k ≡ low + 1 + k = omega arith in same) (every (suc k) (omega arith))) in
    rw first rest

party-is : (number : ℕ) (o : Option ℕ) → is_party number o ≡ true → o ≡ Some number
party-is number None is = absurd (let no : ⊥ = cc in no)
party-is number (Some q) is = ap (λ (n : ℕ). Some n) (sym (eqb-true number q is))

is-party : (number : ℕ) (o : Option ℕ) → o ≡ Some number → is_party number o ≡ true
is-party number o is = rw is (eq-eqb number number refl)

module _ {S E : Type 0} where
  pub all-there : (count : ℕ) (passes : List (PassValue S E)) → are_all count passes ≡ true → AreAll count passes
  all-there count passes all number less =
      let at = in-range 0 count number less ∙ ap (λ (n : ℕ). Some n) (let same : 0 + number ≡ number = omega arith in same) in
      let here = each-passes (has_number passes) (range_with_len 0 count) number number all at in
      let found = any-there (λ (p : PassValue S E). is_party number p.known.party) passes here in
      (found.0, found.1, found.2, party-is number found.1.known.party found.3)

  pub there-all : (count : ℕ) (passes : List (PassValue S E)) → AreAll count passes → are_all count passes ≡ true
  there-all count passes every = all-range (has_number passes) 0 count (λ k less.
      let found = every k less in
      there-any (λ (p : PassValue S E). is_party (0 + k) p.known.party) passes found.0 found.1 found.2
      (is-party (0 + k) found.1.known.party (found.3 ∙ ap (λ (n : ℕ). Some n) (let same : k ≡ 0 + k = omega arith in same))))
