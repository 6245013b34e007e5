-- Streams of the system.
use Rattle.std.specs.Prelude.{ℕ}

-- what the bytes go through, a reader or a writer, and the count of faults
pub record Stream (Way : Type 0) : Type 0 where
  pub through : Way
  pub faults : ℕ
