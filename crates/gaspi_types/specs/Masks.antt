-- Sets of ranks as one number: bit r for rank r. (GASPI: state vector, groups)
use Rattle.std.specs.Prelude.{ℕ, ◌+◌, ◌*◌, ◌^◌, ◌-◌, Bool, false, ◌==◌, List, [], ◌∷◌, Option, None, Some, if◌then◌else◌}
use Rattle.std.specs.Int.{bit_at}
use Rattle.std.specs.Int.RustNames.{bit_or}

abbrev pub bit_of : Bool → ℕ
bit_of mark = if mark then 1 else 0

-- the ranks that are marked
abbrev pub mask_of : List Bool → ℕ
mask_of [] = 0
mask_of (mark ∷ marks) = bit_of mark + 2 * mask_of marks

-- whether a mark is there and set
abbrev pub is_marked : Option Bool → Bool
is_marked None = false
is_marked (Some mark) = mark

-- whether a rank is in a set
abbrev pub is_member : ℕ → ℕ → Bool
is_member mask rank = bit_at mask rank == 1

-- a set with a rank added; one that is there changes nothing
abbrev pub with_member : ℕ → ℕ → ℕ
with_member mask rank = bit_or mask (2 ^ rank)

-- the set of the ranks below a number
abbrev pub all_below : ℕ → ℕ
all_below ranks = 2 ^ ranks - 1
