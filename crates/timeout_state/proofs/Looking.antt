-- What looks leave of their number.
use Rattle.std.proofs.Common.{◌≡◌, ℕ, zero, suc, ◌-◌, ◌<◌, ◌≤◌, Bool, true, false, ◌==◌, if◌then◌else◌, None, Some, refl, ◌∙◌, ap, arith}
use Rattle.std.proofs.lemmas.Bool.{eqb-true}
use Rattle.timeout_state.specs.Looks.{answer_of, left_after, look_number}
use Rattle.timeout_state.specs.declared.budget.Look.TheVariants.{More, Final}

left-after : (k n : ℕ) → left_after k (Some n) ≡ Some (n - k)
left-after zero n = ap (λ (m : ℕ). Some m) (omega arith)
left-after (suc k) n = left-after k (n - 1) ∙ ap (λ (m : ℕ). Some m) (omega arith)

none-after : (k : ℕ) → left_after k None ≡ None
none-after zero = refl
none-after (suc k) = none-after k

more : (m : ℕ) → 1 < m → answer_of (Some m) ≡ More
more m above = go (m == 1) refl
  where
    go : (t : Bool) → (m == 1) ≡ t → (if m == 1 then Final else More) ≡ More
    go true is = absurd (let one = eqb-true m 1 is in let no : ⊥ = omega arith in no)
    go false is = rw is refl

pub last : (n : ℕ) → 1 ≤ n → look_number n (Some n) ≡ Final
last n some = let one : n - (n - 1) ≡ 1 = omega arith in ap answer_of (left-after (n - 1) n) ∙ (rw one refl)

pub earlier : (n k : ℕ) → 1 ≤ k → k < n → look_number k (Some n) ≡ More
earlier n k some less = ap answer_of (left-after (k - 1) n) ∙ more (n - (k - 1)) (omega arith)

pub block : (k : ℕ) → look_number k None ≡ More
block k = ap answer_of (none-after (k - 1))
