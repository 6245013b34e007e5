-- Sums over the numbers below a bound.
use Rattle.std.proofs.Common.{◌≡◌, ℕ, zero, suc, ◌+◌, ◌*◌, ◌<◌, Bool, true, false, ◌==◌, refl, sym, arith}
use Rattle.std.proofs.lemmas.Bool.{eqb-true, eqb-false}

abbrev pub sum_until : (ℕ → ℕ) → ℕ → ℕ
sum_until f zero = 0
sum_until f (suc n) = sum_until f n + f n

pub sum-same : (f g : ℕ → ℕ) (n : ℕ) → ((k : ℕ) → k < n → f k ≡ g k) → sum_until f n ≡ sum_until g n
sum-same f g zero same = refl
sum-same f g (suc n) same =
    let rest = sum-same f g n (λ k less. same k (omega arith)) in
    let here = same n (omega arith) in
    omega arith

pub sum-constant : (f : ℕ → ℕ) (x n : ℕ) → ((k : ℕ) → k < n → f k ≡ x) → sum_until f n ≡ n * x
sum-constant f x zero same = omega arith
sum-constant f x (suc n) same =
    let rest = sum-constant f x n (λ k less. same k (omega arith)) in
    let here = same n (omega arith) in
    let more : suc n * x ≡ n * x + x = omega arith in
    omega arith

-- one term more
pub sum-one : (f g : ℕ → ℕ) (k n x : ℕ) → k < n → g k ≡ f k + x → ((j : ℕ) → (j ≡ k → ⊥) → g j ≡ f j) → sum_until g n ≡ sum_until f n + x
sum-one f g k zero x less here others = absurd (let no : ⊥ = omega arith in no)
sum-one f g k (suc n) x less here others = go (k == n) refl (λ below. sum-one f g k n x below here others)
  where
    go : (b : Bool) → (k == n) ≡ b → (k < n → sum_until g n ≡ sum_until f n + x) → sum_until g (suc n) ≡ sum_until f (suc n) + x
    go true is earlier =
        let same : k ≡ n = eqb-true k n is in
        let rest = sum-same g f n (λ j below. others j (λ e. (let no : ⊥ = omega arith in no))) in
        let last : g n ≡ f n + x = rw (sym same) here in
        omega arith
    go false is earlier =
        let apart : k ≡ n → ⊥ = eqb-false k n is in
        let below : k < n = omega arith in
        let rest = earlier below in
        let last = others n (λ e. apart (sym e)) in
        omega arith
