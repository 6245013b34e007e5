-- The numbers of 64 bits in eight bytes of a segment, at any offset. (GASPI: atomics)
use Rattle.std.specs.Prelude.{ℕ, List, length, slice_get, Option, None, Some, if◌then◌else◌}
use Rattle.gaspi_types.specs.SegmentBytes.{is_within}
use Rattle.gaspi_types.specs.SegmentWords.{word_at}
use Rattle.gaspi_model.specs.Memories.{bytes_of}
use Rattle.gaspi_model.specs.declared.states.Memory.{Memory}
use Rattle.gaspi_model.specs.declared.states.State.{State}

-- the number in the eight bytes at an offset; none where there are no such eight bytes
abbrev pub whole_word : List ℕ → ℕ → Option ℕ
whole_word bytes offset = if is_within offset 8 (length bytes) then Some (word_at bytes offset) else None

-- the same of a segment of a rank; none without the rank, without the segment and past its end
abbrev pub word_in : State → ℕ → ℕ → ℕ → Option ℕ
word_in s rank seg offset = word_of (slice_get s.memories rank)
  where
    word_of : Option Memory → Option ℕ
    word_of None = None
    word_of (Some memory) = whole_word (bytes_of memory seg) offset
