-- Sets of targets as one number.
use Rattle.std.proofs.Common.{◌≡◌, ◌≢◌, ℕ, ◌+◌, ◌-◌, ◌*◌, ◌/◌, ◌%◌, ◌^◌, ◌<◌, ◌≤◌, Bool, true, false, nat_lt, ◌==◌, None, Some, refl, sym, ap, ◌∙◌, arith}
use Rattle.std.specs.Int.{bit_at, trailing_zeros, w32}
use Rattle.std.specs.Int.RustNames.{bit_and, bit_or}
use Rattle.std.proofs.lemmas.Bool.{ltb-true, ltb-false}
use Rattle.std.proofs.lemmas.Nat.{shr-shr, shr_le}
use Rattle.std.proofs.lemmas.Nat.Bits.{bit_at-trailing_zeros, bit_at_clear_same, bit_at_clear_other, bit_at_set_same, bit_at_set_other, bit_at-zero, bit_at_above}
use Rattle.gaspi_types.specs.Masks.{is_member}
use Rattle.post_queue.specs.LeastFrom.{AnswersLeast}

-- a member below 16 with no lesser one
pub record Least (mask target : ℕ) : Type 0 where
  pub within : target < 16
  pub member : is_member mask target ≡ true
  pub least : (other : ℕ) → other < target → is_member mask other ≡ false

pub lowest-bit : (mask : ℕ) → 0 < mask → mask < 2 ^ 32 → ((other : ℕ) → 16 ≤ other → other < 32 → is_member mask other ≡ false) → Least mask (trailing_zeros w32 mask)
lowest-bit mask some small none =
    let low = bit_at-trailing_zeros w32 mask some small in
    let here : is_member mask (trailing_zeros w32 mask) ≡ true = rw low.1 refl in
    record {
      within = go (nat_lt (trailing_zeros w32 mask) 16) refl low.0 here;
      member = here;
      least = λ other less. let none : bit_at mask other ≡ 0 = low.2 other less in rw none refl;
    }
  where
    go : (b : Bool) → nat_lt (trailing_zeros w32 mask) 16 ≡ b → trailing_zeros w32 mask < 32 → is_member mask (trailing_zeros w32 mask) ≡ true → trailing_zeros w32 mask < 16
    go true is within here = ltb-true (trailing_zeros w32 mask) 16 is
    go false is within here = absurd (let not = none (trailing_zeros w32 mask) (ltb-false (trailing_zeros w32 mask) 16 is) within in let no : ⊥ = cc in no)

pub cleared-same : (mask number : ℕ) → number < 32 → is_member (bit_and mask (4294967295 - 1 * 2 ^ number % 4294967296)) number ≡ false
cleared-same mask number less = let clear = bit_at_clear_same w32 mask number less in rw clear refl

pub cleared-other : (mask number other : ℕ) → number < 32 → other < 32 → other ≢ number → is_member (bit_and mask (4294967295 - 1 * 2 ^ number % 4294967296)) other ≡ is_member mask other
cleared-other mask number other less within apart = let clear = bit_at_clear_other w32 mask number less other within apart in ap (λ (n : ℕ). n == 1) clear

pub added-same : (mask number : ℕ) → number < 32 → is_member (bit_or mask (1 * 2 ^ number % 4294967296)) number ≡ true
added-same mask number less = let set = bit_at_set_same w32 mask number less in rw set refl

pub added-other : (mask number other : ℕ) → number < 32 → other ≢ number → is_member (bit_or mask (1 * 2 ^ number % 4294967296)) other ≡ is_member mask other
added-other mask number other less apart = let set = bit_at_set_other w32 mask number less other apart in ap (λ (n : ℕ). n == 1) set

-- The members from a number on.

shifted-bit : (mask from k : ℕ) → bit_at (mask / 2 ^ from) k ≡ bit_at mask (from + k)
shifted-bit mask from k = ap (λ (n : ℕ). n % 2) (shr-shr mask from k)

behind : (from other : ℕ) → from ≤ other → from + (other - from) ≡ other
behind from other low = omega arith

pub no-member : (mask from rest : ℕ) → rest ≡ mask / 2 ^ from → rest ≡ 0 → AnswersLeast (is_member mask) from None
no-member mask from rest is none = λ other low.
    let bit : bit_at mask other ≡ 0 = sym (ap (λ (n : ℕ). bit_at mask n) (behind from other low)) ∙ (sym (shifted-bit mask from (other - from)) ∙ (ap (λ (n : ℕ). bit_at n (other - from)) (sym is ∙ none) ∙ bit_at-zero (other - from))) in
    rw bit refl

pub first-member : (mask from rest : ℕ) → mask < 2 ^ 32 → rest ≡ mask / 2 ^ from → 0 < rest → AnswersLeast (is_member mask) from (Some (from + trailing_zeros w32 rest)) × (from + trailing_zeros w32 rest < 32)
first-member mask from rest small is some =
    let less : rest ≤ mask = rw is (shr_le mask from) in
    let low = bit_at-trailing_zeros w32 rest some (omega arith) in
    let here : bit_at mask (from + trailing_zeros w32 rest) ≡ 1 = sym (shifted-bit mask from (trailing_zeros w32 rest)) ∙ (ap (λ (n : ℕ). bit_at n (trailing_zeros w32 rest)) (sym is) ∙ low.1) in (
      record {
        low = omega arith;
        passes = rw here refl;
        none_before = λ other first before.
            let none : bit_at mask other ≡ 0 = sym (ap (λ (n : ℕ). bit_at mask n) (behind from other first)) ∙ (sym (shifted-bit mask from (other - from)) ∙ (ap (λ (n : ℕ). bit_at n (other - from)) (sym is) ∙ low.2 (other - from) (omega arith))) in
            rw none refl;
      },
      bounded (nat_lt (from + trailing_zeros w32 rest) 32) refl here,
    )
  where
    bounded : (b : Bool) → nat_lt (from + trailing_zeros w32 rest) 32 ≡ b → bit_at mask (from + trailing_zeros w32 rest) ≡ 1 → from + trailing_zeros w32 rest < 32
    bounded true less one = ltb-true (from + trailing_zeros w32 rest) 32 less
    bounded false past one = absurd (
        let none = bit_at_above mask 32 (from + trailing_zeros w32 rest) small (ltb-false (from + trailing_zeros w32 rest) 32 past) in
        let same : 0 ≡ 1 = sym none ∙ one in
        let no : ⊥ = cc in no)
