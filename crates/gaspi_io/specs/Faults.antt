-- Counts of faults.
use Rattle.std.specs.Prelude.{◌≡◌, ℕ, ◌-◌, ◌+◌, ◌^◌, min}

-- the highest count
abbrev pub last_count : ℕ
last_count = 2 ^ 64 - 1

-- one more, or the highest count where that is reached
abbrev pub one_more : ℕ → ℕ
one_more count = min (count + 1) last_count

-- a read or a write failed: it has counted one fault, and no more
abbrev pub HasCause : ℕ → ℕ → Type 0
HasCause before after = after ≡ one_more before
