-- The bits of a set of ranks.
use Rattle.std.proofs.Common.{◌≡◌, ℕ, zero, suc, ◌+◌, ◌*◌, ◌/◌, ◌%◌, Bool, true, false, List, [], ◌∷◌, ap, ◌∙◌, arith}
use Rattle.std.specs.List.{slice_get}
use Rattle.std.specs.Int.{bit_at}
use Rattle.std.proofs.lemmas.Nat.Bits.{bit_at_lowest, bit_at-suc, bit_at-zero}
use Rattle.gaspi_types.specs.Masks.{bit_of, mask_of, is_marked}

lowest : (mark : Bool) (n : ℕ) → (bit_of mark + 2 * n) % 2 ≡ bit_of mark
lowest true n = omega arith
lowest false n = omega arith

others : (mark : Bool) (n : ℕ) → (bit_of mark + 2 * n) / 2 ≡ n
others true n = omega arith
others false n = omega arith

-- bit r is the mark of rank r
pub mask-bit : (marks : List Bool) (rank : ℕ) → bit_at (mask_of marks) rank ≡ bit_of (is_marked (slice_get marks rank))
mask-bit [] rank = bit_at-zero rank
mask-bit (mark ∷ marks) zero = bit_at_lowest (mask_of (mark ∷ marks)) ∙ lowest mark (mask_of marks)
mask-bit (mark ∷ marks) (suc rank) =
    bit_at-suc (mask_of (mark ∷ marks)) rank ∙ ap (λ (n : ℕ). bit_at n rank) (others mark (mask_of marks)) ∙ mask-bit marks rank
