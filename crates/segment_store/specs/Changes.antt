-- What a write into the segments of a rank changes.
use Rattle.std.specs.Prelude.{◌≡◌, ℕ, List}
use Rattle.gaspi_types.specs.Segments.{IsSegmentWritten}
use Rattle.segment_store.specs.Segments.{SegmentsValue}

-- just the bytes of a range of one own segment: all other bytes and segments, all generations and sizes, and known segments stay
pub record IsWritten (s t : SegmentsValue) (segment offset : ℕ) (written : List ℕ) : Type 0 where
  pub segments : IsSegmentWritten s.segments t.segments segment offset written
  pub table : t.table ≡ s.table
