-- Memory words: numbers of 64 bits in eight bytes of a segment, the lowest byte first. (GASPI: atomics)
use Rattle.std.specs.Prelude.{ℕ, ◌+◌, ◌%◌, ◌^◌, Bool, ◌==◌, List, length, drop, Result, if◌then◌else◌}
use Rattle.byteorder.specs.Endian.{little_number, little_bytes}
use Rattle.gaspi_types.specs.Checks.{◌>>=◌, check}
use Rattle.gaspi_types.specs.SegmentBytes.{is_within, with_range}
use Rattle.gaspi_types.specs.declared.replies.Refusal.{Refusal}
use Rattle.gaspi_types.specs.declared.replies.Refusal.TheVariants.{BadRange, BadAlign}

-- own choice: the offset of a memory word is divisible by 8
abbrev pub is_aligned : ℕ → Bool
is_aligned offset = offset % 8 == 0

-- what a memory word is refused for in a segment of `whole` bytes
abbrev pub word_checks : ℕ → ℕ → Result (Unit {0}) Refusal
word_checks whole offset = do
  within ← check (is_within offset 8 whole) (BadRange whole)
  check (is_aligned offset) BadAlign

-- the memory word at an offset; 0 where the eight bytes are not within the segment
abbrev pub word_at : List ℕ → ℕ → ℕ
word_at bytes offset = if is_within offset 8 (length bytes) then little_number 8 (drop offset bytes) else 0

-- the bytes with the word at an offset replaced
abbrev pub with_word : List ℕ → ℕ → ℕ → List ℕ
with_word bytes offset value = with_range bytes offset (little_bytes 8 value)

-- the bytes with a value added to the word at an offset; sums wrap (atomic_fetch_add)
abbrev pub with_sum : List ℕ → ℕ → ℕ → List ℕ
with_sum bytes offset value = with_word bytes offset ((word_at bytes offset + value) % 2 ^ 64)

-- the bytes with a new memory word at an offset, where the word there is the comparator, and else as they are
-- (atomic_compare_swap)
abbrev pub with_swap : List ℕ → ℕ → ℕ → ℕ → List ℕ
with_swap bytes offset comparator new = if word_at bytes offset == comparator then with_word bytes offset new else bytes
