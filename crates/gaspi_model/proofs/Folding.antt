-- Numbers reduced one place after another, and ranks gathered one after another.
use Rattle.std.proofs.Common.{◌≡◌, ℕ, zero, suc, ◌+◌, ◌<◌, ℤ, pos, true, List, [], ◌∷◌, ◌++◌, length, take, drop, get_or, slice_set, to_z, of_z, refl, ap, arith}
use Rattle.std.specs.Int.{w128}
use Rattle.std.proofs.Math.Numerals.{add-one}
use Rattle.std.proofs.lemmas.Int.{to_z-of_z}
use Rattle.gaspi_types.specs.Collectives.{reduced, combined}
use Rattle.gaspi_types.specs.NumberTypes.{is_in_type, AreInType}
use Rattle.gaspi_types.specs.declared.collectives.NumType.{NumType}
use Rattle.gaspi_types.specs.declared.collectives.Op.{Op}
use Rattle.gaspi_model.proofs.Sums.{fits_wide}

-- what stands at a place of numbers in range is in range
pub in_type-at : (t : NumType) (xs : List ℤ) (i : ℕ) → i < length xs → AreInType t xs → is_in_type t (get_or xs i (pos 0)) ≡ true
in_type-at t [] i less all = absurd (let no : ⊥ = omega arith in no)
in_type-at t (x ∷ xs) zero less all = all.0
in_type-at t (x ∷ xs) (suc i) less all = in_type-at t xs i (omega arith) all.1

pub in_type-set : (t : NumType) (xs : List ℤ) (i : ℕ) (y : ℤ) → AreInType t xs → is_in_type t y ≡ true → AreInType t (slice_set xs i y)
in_type-set t [] i y all one = tt
in_type-set t (x ∷ xs) zero y all one = (one, all.1)
in_type-set t (x ∷ xs) (suc i) y all one = (all.0, in_type-set t xs i y all.1 one)

-- Numbers of which the first are reduced yet.

pub at_place : (op : Op) (t : NumType) (i : ℕ) (a b : List ℤ) → length a ≡ length b → i < length b → get_or (combined op t (take i a) (take i b) ++ drop i a) i (pos 0) ≡ get_or a i (pos 0)
at_place op t i [] b same less = absurd (let no : ⊥ = omega arith in no)
at_place op t i (x ∷ a) [] same less = absurd (let no : ⊥ = omega arith in no)
at_place op t zero (x ∷ a) (y ∷ b) same less = refl
at_place op t (suc i) (x ∷ a) (y ∷ b) same less = at_place op t i a b (omega arith) (omega arith)

pub one_more : (op : Op) (t : NumType) (i : ℕ) (a b : List ℤ) → length a ≡ length b → i < length b
    → slice_set (combined op t (take i a) (take i b) ++ drop i a) i (reduced op t (get_or a i (pos 0)) (get_or b i (pos 0))) ≡ combined op t (take (suc i) a) (take (suc i) b) ++ drop (suc i) a
one_more op t i [] b same less = absurd (let no : ⊥ = omega arith in no)
one_more op t i (x ∷ a) [] same less = absurd (let no : ⊥ = omega arith in no)
one_more op t zero (x ∷ a) (y ∷ b) same less = refl
one_more op t (suc i) (x ∷ a) (y ∷ b) same less = ap (λ (rest : List ℤ). reduced op t x y ∷ rest) (one_more op t i a b (omega arith) (omega arith))

-- one place more, as a program has it
pub reduces-on : (op : Op) (t : NumType) (i : ℕ) (total a b : List ℤ) (r : ℤ) → length a ≡ length b → i < length b → length total ≡ length b
    → total ≡ combined op t (take i a) (take i b) ++ drop i a → AreInType t total → AreInType t b
    → r ≡ reduced op t (to_z w128 (of_z w128 (get_or total i (pos 0)))) (to_z w128 (of_z w128 (get_or b i (pos 0)))) → is_in_type t r ≡ true
    → (slice_set total i (to_z w128 (of_z w128 r)) ≡ combined op t (take (i + 1) a) (take (i + 1) b) ++ drop (i + 1) a) × AreInType t (slice_set total i (to_z w128 (of_z w128 r)))
reduces-on op t i total a b r same less long is in_total in_b value in_r =
    let first = to_z-of_z w128 (get_or total i (pos 0)) (fits_wide t _ (in_type-at t total i (omega arith) in_total)) in
    let second = to_z-of_z w128 (get_or b i (pos 0)) (fits_wide t _ (in_type-at t b i less in_b)) in
    let whole = to_z-of_z w128 r (fits_wide t r in_r) in
    let there : get_or total i (pos 0) ≡ get_or a i (pos 0) = rw is (at_place op t i a b same less) in
    let now = rw (first, second, there) at value in
    (rw (whole, now, is, add-one) (one_more op t i a b same less), rw whole (in_type-set t total i r in_total in_r))
