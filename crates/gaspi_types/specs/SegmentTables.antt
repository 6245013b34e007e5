-- Tables of segments: the extents of the own segments of a rank and of those that it knows, by segment id. (GASPI: segments)
use Rattle.std.specs.Prelude.{ℕ, ◌+◌, ◌==◌, nat_lt, List, Option, None, Some, Result, if◌then◌else◌, slice_get, slice_set, slice_index, option_and_then}
use Rattle.gaspi_types.specs.Checks.{◌>>=◌, check, ok_or, err_if_some}
use Rattle.gaspi_types.specs.SegmentBytes.{range_checks}
use Rattle.gaspi_types.specs.Tables.{changed_at}
use Rattle.gaspi_types.specs.World.{is_segment_size}
use Rattle.gaspi_types.specs.declared.segments.Extent.{Extent}
use Rattle.gaspi_types.specs.declared.segments.SegmentTable.{SegmentTable}
use Rattle.gaspi_types.specs.declared.replies.Refusal.{Refusal}
use Rattle.gaspi_types.specs.declared.replies.Refusal.TheVariants.{NoSegment, SegmentThere, BadSize}

-- the extent in a table at a segment id; None for an id over 31
abbrev pub extent_in : List (Option Extent) → ℕ → Option Extent
extent_in table segment =
    if nat_lt segment 32 then option_and_then (λ (x : Option Extent). x) (slice_get table segment) else None

-- the extent of a segment of a rank, as the rank `me` knows it: of an own segment its present extent, of another that of its
-- registration
abbrev pub known_extent : ℕ → SegmentTable → ℕ → ℕ → Option Extent
known_extent me table rank segment =
    if rank == me then extent_in table.own segment else option_and_then (λ known. extent_in known segment) (slice_get table.known rank)

-- what a range of an own segment is refused for
abbrev pub own_range_checks : List (Option Extent) → ℕ → ℕ → ℕ → Result (Unit {0}) Refusal
own_range_checks own segment offset size = do
  mine ← ok_or (extent_in own segment) NoSegment
  range_checks mine.size offset size

-- what a segment that is to be made is refused for (segment_alloc)
abbrev pub alloc_checks : List (Option Extent) → ℕ → ℕ → Result (Unit {0}) Refusal
alloc_checks own segment size = do
  numbered ← check (nat_lt segment 32) NoSegment
  free ← err_if_some (extent_in own segment) (λ extent. SegmentThere)
  check (is_segment_size size) BadSize

-- own choice: each new segment of an id has the next generation, from 0
abbrev pub next_generation : List ℕ → ℕ → ℕ
next_generation generations segment = slice_index generations segment

-- the generations after one more segment of an id
abbrev pub with_generation : List ℕ → ℕ → List ℕ
with_generation generations segment = slice_set generations segment (next_generation generations segment + 1)

-- What calls change.

-- the table with one own segment more, in the next generation of its id (segment_alloc)
abbrev pub with_own : SegmentTable → ℕ → ℕ → SegmentTable
with_own table segment size = record table {
  own = slice_set table.own segment (Some (record { generation = next_generation table.next_generations segment; size = size }));
  next_generations = with_generation table.next_generations segment;
}

-- the table without an own segment (segment_delete)
abbrev pub without_own : SegmentTable → ℕ → SegmentTable
without_own table segment = record table { own = slice_set table.own segment None }

-- the table with a segment of an owner known in an extent (segment_register)
abbrev pub with_known : ℕ → ℕ → Option Extent → SegmentTable → SegmentTable
with_known owner segment extent table = record table { known = changed_at table.known owner (λ known. slice_set known segment extent) }
