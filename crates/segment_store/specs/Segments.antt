-- The segments of one rank with their bytes, and what it knows of the segments of all ranks. (GASPI: segments)
use Rattle.std.specs.Prelude.{◌≡◌, ℕ, ◌<◌, ◌≤◌, true, List, [], length, replicate, slice_get, slice_set, Option, None, Some, Result, Ok}
use Rattle.std.specs.Option.{unwrap_or}
use Rattle.gaspi_types.specs.Checks.{◌>>=◌, ok_or}
use Rattle.gaspi_types.specs.SegmentBytes.{range_of, with_range}
use Rattle.gaspi_types.specs.SegmentTables.{extent_in, own_range_checks, next_generation, with_own, without_own, with_known}
use Rattle.gaspi_types.specs.SegmentWords.{word_checks, word_at, with_sum, with_swap}
use Rattle.gaspi_types.specs.Segments.{new_segment, bytes_of, with_bytes, extents_of}
use Rattle.gaspi_types.specs.World.{is_segment_size}
use Rattle.gaspi_types.specs.declared.segments.Extent.{Extent}
use Rattle.gaspi_types.specs.declared.segments.Segment.{Segment}
use Rattle.gaspi_types.specs.declared.segments.SegmentTable.{SegmentTable}
use Rattle.gaspi_types.specs.declared.replies.Refusal.{Refusal}
use Rattle.gaspi_types.specs.declared.replies.Refusal.TheVariants.{NoSegment, Unregistered}

-- the table of segments of a rank, and its own segments with their bytes, under their ids
pub record SegmentsValue : Type 0 where
  pub table : SegmentTable
  pub segments : List (Option Segment)

-- no own segment, and no known one of `ranks` ranks
abbrev pub nothing_known : ℕ → SegmentTable
nothing_known ranks = record { own = replicate 32 None; next_generations = replicate 32 0; known = replicate ranks (replicate 32 None) }

-- the same with its segments: none
abbrev pub nothing_stored : ℕ → SegmentsValue
nothing_stored ranks = record { table = nothing_known ranks; segments = replicate 32 None }

-- what is known of the segments of a rank
abbrev pub known_of : List (List (Option Extent)) → ℕ → List (Option Extent)
known_of known owner = unwrap_or (slice_get known owner) []

-- A segment may be made: its generation, and the one after it, fit 32 bits. A number over 31 is refused, so any of these may come.
abbrev pub HasNextGeneration : SegmentsValue → ℕ → Type 0
HasNextGeneration s segment = segment < 32 → next_generation s.table.next_generations segment < 4294967295

-- The checks that `gaspi_types` does not have.

-- the refusal of a delete: the segment is not there (segment_delete)
abbrev pub delete_checks : List (Option Extent) → ℕ → Result (Unit {0}) Refusal
delete_checks own segment = do
  mine ← ok_or (extent_in own segment) NoSegment
  Ok tt

-- The refusals of a memory word of an own segment. An atomic comes from any rank, so a segment that is not there is `Unregistered`.
-- (atomics)
abbrev pub own_word_checks : List (Option Extent) → ℕ → ℕ → Result (Unit {0}) Refusal
own_word_checks own segment offset = do
  mine ← ok_or (extent_in own segment) Unregistered
  word_checks mine.size offset

-- the result of a load: the bytes of its range (own choice)
abbrev pub own_bytes : SegmentsValue → ℕ → ℕ → ℕ → Result (List ℕ) Refusal
own_bytes s segment offset size = do
  fits ← own_range_checks s.table.own segment offset size
  Ok (range_of (bytes_of s.segments segment) offset size)

-- the result of an atomic, checked by a table: the old memory word (atomics)
abbrev pub word_by : List (Option Extent) → List (Option Segment) → ℕ → ℕ → Result ℕ Refusal
word_by own segments segment offset = do
  fits ← own_word_checks own segment offset
  Ok (word_at (bytes_of segments segment) offset)

abbrev pub own_word : SegmentsValue → ℕ → ℕ → Result ℕ Refusal
own_word s segment offset = word_by s.table.own s.segments segment offset

-- the same of the segments by themselves, whose generations and sizes are the table
abbrev pub word_in : List (Option Segment) → ℕ → ℕ → Result ℕ Refusal
word_in segments segment offset = word_by (extents_of segments) segments segment offset

-- The segments after a call.

-- one segment more, all zeros, in the next generation of its id (segment_alloc)
abbrev pub with_zeros : SegmentsValue → ℕ → ℕ → SegmentsValue
with_zeros s segment size = record {
  table = with_own s.table segment size;
  segments = slice_set s.segments segment (Some (new_segment (next_generation s.table.next_generations segment) size));
}

-- one segment less (segment_delete)
abbrev pub without : SegmentsValue → ℕ → SegmentsValue
without s segment = record { table = without_own s.table segment; segments = slice_set s.segments segment None }

-- bytes stored into a segment, from an offset on (own choice)
abbrev pub with_stored : SegmentsValue → ℕ → ℕ → List ℕ → SegmentsValue
with_stored s segment offset new = record s { segments = with_bytes s.segments segment (with_range (bytes_of s.segments segment) offset new) }

-- a value added to a word of a segment (atomic_fetch_add)
abbrev pub with_added : SegmentsValue → ℕ → ℕ → ℕ → SegmentsValue
with_added s segment offset value = record s { segments = with_bytes s.segments segment (with_sum (bytes_of s.segments segment) offset value) }

-- a memory word of a segment replaced, where it is the comparator (atomic_compare_swap)
abbrev pub with_swapped : SegmentsValue → ℕ → ℕ → ℕ → ℕ → SegmentsValue
with_swapped s segment offset comparator new =
    record s { segments = with_bytes s.segments segment (with_swap (bytes_of s.segments segment) offset comparator new) }

-- a segment of a rank made known with an extent (segment_register)
abbrev pub with_registered : SegmentsValue → ℕ → ℕ → Extent → SegmentsValue
with_registered s owner segment extent = record s { table = with_known owner segment (Some extent) s.table }

-- each segment of a table has as many bytes as a segment may have
pub record AreSized (table : List (Option Extent)) : Type 0 where
  pub sizes : (segment : ℕ) (extent : Extent) → extent_in table segment ≡ Some extent → is_segment_size extent.size ≡ true

-- The invariant of `Segments`: each table has its length; the table of own segments has the generations and sizes of those that are
-- there; these sizes are right, and their generations are below the next one.
pub record IsSound (s : SegmentsValue) : Type 0 where
  pub segments : length s.segments ≡ 32
  pub next : length s.table.next_generations ≡ 32
  pub ranks : length s.table.known ≤ 16
  pub known : (owner : ℕ) (table : List (Option Extent)) → slice_get s.table.known owner ≡ Some table → length table ≡ 32
  pub agrees : s.table.own ≡ extents_of s.segments
  pub sized : AreSized s.table.own
  pub generations : (segment : ℕ) (extent : Extent) → extent_in s.table.own segment ≡ Some extent → extent.generation < next_generation s.table.next_generations segment
