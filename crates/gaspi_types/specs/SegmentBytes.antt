-- The bytes of a segment. (GASPI: segments)
use Rattle.std.specs.Prelude.{◌≡◌, ℕ, ◌+◌, ◌<◌, ◌≤◌, slice_get, List, ◌++◌, length, take, drop, nat_le, if◌then◌else◌, Bool, Result}
use Rattle.gaspi_types.specs.Checks.{◌>>=◌, check}
use Rattle.gaspi_types.specs.Ranges.{is_between}
use Rattle.gaspi_types.specs.declared.replies.Refusal.{Refusal}
use Rattle.gaspi_types.specs.declared.replies.Refusal.TheVariants.{BadRange, BadSize}

-- own choice: how many bytes a write, a read, a store or a load may have
abbrev pub is_transfer_size : ℕ → Bool
is_transfer_size size = is_between 1 65536 size

-- whether a range lies within `whole` bytes
abbrev pub is_within : ℕ → ℕ → ℕ → Bool
is_within offset size whole = nat_le (offset + size) whole

-- what a range is refused for in a segment of `whole` bytes
abbrev pub range_checks : ℕ → ℕ → ℕ → Result (Unit {0}) Refusal
range_checks whole offset size = do
  sized ← check (is_transfer_size size) BadSize
  check (is_within offset size whole) (BadRange whole)

-- the bytes of a range
abbrev pub range_of : List ℕ → ℕ → ℕ → List ℕ
range_of bytes offset size = take size (drop offset bytes)

-- the bytes with those of a range replaced; a range that does not lie within them leaves them as they are
abbrev pub with_range : List ℕ → ℕ → List ℕ → List ℕ
with_range bytes offset new =
    if is_within offset (length new) (length bytes) then take offset bytes ++ new ++ drop (offset + length new) bytes else bytes

-- exactly a range is written: its bytes are the written ones, and every other byte is as before
pub record IsRangeWritten (old new written : List ℕ) (offset : ℕ) : Type 0 where
  pub size : length new ≡ length old
  pub within : offset + length written ≤ length old
  pub there : (k : ℕ) → k < length written → slice_get new (offset + k) ≡ slice_get written k
  pub before : (k : ℕ) → k < offset → slice_get new k ≡ slice_get old k
  pub behind : (k : ℕ) → offset + length written ≤ k → slice_get new k ≡ slice_get old k
