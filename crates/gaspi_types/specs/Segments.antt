-- The segments of a rank by segment id, with their bytes. (GASPI: segments)
use Rattle.std.specs.Prelude.{◌≡◌, ◌≢◌, ℕ, Bool, false, ◌==◌, List, [], length, map, replicate, Option, None, Some, slice_set}
use Rattle.std.specs.Option.{option_map}
use Rattle.gaspi_types.specs.SegmentBytes.{IsRangeWritten}
use Rattle.gaspi_types.specs.Tables.{item_at}
use Rattle.gaspi_types.specs.declared.segments.Extent.{Extent}
use Rattle.gaspi_types.specs.declared.segments.Segment.{Segment}

-- a segment as it is made: all its bytes are zero
abbrev pub new_segment : ℕ → ℕ → Segment
new_segment generation size = record { generation = generation; bytes = replicate size 0 }

-- the bytes of a segment; of one that is not there, none
abbrev pub bytes_in : Option Segment → List ℕ
bytes_in None = []
bytes_in (Some s) = s.bytes

-- whether a segment is there in a generation
abbrev pub is_generation : ℕ → Option Segment → Bool
is_generation generation None = false
is_generation generation (Some s) = s.generation == generation

-- the extent of a segment
abbrev pub extent_of : Segment → Extent
extent_of s = record { generation = s.generation; size = length s.bytes }

-- the segment of an id
abbrev pub segment_in : List (Option Segment) → ℕ → Option Segment
segment_in own segment = item_at own segment

-- the bytes of the segment of an id; none where it is not there
abbrev pub bytes_of : List (Option Segment) → ℕ → List ℕ
bytes_of own segment = bytes_in (segment_in own segment)

-- the segments with the bytes of one replaced
abbrev pub with_bytes : List (Option Segment) → ℕ → List ℕ → List (Option Segment)
with_bytes own segment bytes = slice_set own segment (option_map (λ (s : Segment). record s { bytes = bytes }) (segment_in own segment))

-- the extents of the segments, as a table
abbrev pub extents_of : List (Option Segment) → List (Option Extent)
extents_of own = map (option_map extent_of) own

-- Exactly a range of the bytes of one segment is written: its generation and its size, and every other segment, are as
-- before.
pub record IsSegmentWritten (old new : List (Option Segment)) (segment offset : ℕ) (written : List ℕ) : Type 0 where
  pub before : Segment
  pub after : Segment
  pub before_there : segment_in old segment ≡ Some before
  pub after_there : segment_in new segment ≡ Some after
  pub others : (other : ℕ) → other ≢ segment → segment_in new other ≡ segment_in old other
  pub generation : after.generation ≡ before.generation
  pub bytes : IsRangeWritten before.bytes after.bytes written offset
