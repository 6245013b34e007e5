-- Sources and sinks in memory.
use Rattle.std.specs.Prelude.{ℕ, Bool, List, ◌==◌}
use Rattle.std.specs.List.{list_any}

-- a source in memory: the bytes left, how many a read gives at most, the numbers of the reads that fail, the
-- number of the next read, and the count of faults
pub record SourceState : Type 0 where
  pub left : List ℕ
  pub most : ℕ
  pub failing : List ℕ
  pub calls : ℕ
  pub faults : ℕ

-- a sink in memory: the bytes held, how many it holds before it asks for memory, how many a write takes at most,
-- the numbers of the writes that fail, the number of the next write, and the count of faults
pub record SinkState : Type 0 where
  pub held : List ℕ
  pub room : ℕ
  pub most : ℕ
  pub failing : List ℕ
  pub calls : ℕ
  pub faults : ℕ

-- a sink in memory that never fails: the bytes kept, and how many it has room for
pub record SureSinkState : Type 0 where
  pub kept : List ℕ
  pub room : ℕ

-- the read or write of this number is one of those that fail
abbrev pub is_failing : List ℕ → ℕ → Bool
is_failing failing call = list_any (λ c. c == call) failing
