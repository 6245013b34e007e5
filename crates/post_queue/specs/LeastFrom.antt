-- The least number from a given one on that passes a test.
use Rattle.std.specs.Prelude.{◌≡◌, ℕ, ◌<◌, ◌≤◌, Bool, true, false, Option, None, Some}

-- `n` is the least number from `from` on that passes
pub record IsLeastFrom (test : ℕ → Bool) (from n : ℕ) : Type 0 where
  pub low : from ≤ n
  pub passes : test n ≡ true
  pub none_before : (other : ℕ) → from ≤ other → other < n → test other ≡ false

-- an answer is that number, and none where no number from there on passes
abbrev pub AnswersLeast : (ℕ → Bool) → ℕ → Option ℕ → Type 0
AnswersLeast test from None = (other : ℕ) → from ≤ other → test other ≡ false
AnswersLeast test from (Some n) = IsLeastFrom test from n
