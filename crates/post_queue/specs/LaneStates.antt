-- A lane with the capacity of its rings. (GASPI: one-sided communication)
use Rattle.std.specs.Prelude.{◌≡◌, ℕ, ◌≤◌, false, true, List, ◌++◌, length}
use Rattle.std.specs.List.{All}
use Rattle.gaspi_types.specs.Lanes.{is_posted}
use Rattle.gaspi_types.specs.declared.entries.Entry.{Entry}
use Rattle.circular_buffer.specs.Buffer.{Buffer}

-- the capacity of each of its rings, and its entries
pub record LaneValue : Type 0 where
  pub depth : ℕ
  pub entries : List Entry

-- the lane of two rings: the carried and failed entries, and then the posted ones
abbrev pub lane_of : Buffer Entry → Buffer Entry → LaneValue
lane_of carried posted = record { depth = carried.capacity; entries = carried.items ++ posted.items }

-- two rings of the same capacity: one with carried and failed entries, one with posted ones
pub record AreRings (carried posted : Buffer Entry) : Type 0 where
  pub same : posted.capacity ≡ carried.capacity
  pub carried_fit : length carried.items ≤ carried.capacity
  pub posted_fit : length posted.items ≤ posted.capacity
  pub taken : All (λ (e : Entry). is_posted e ≡ false) carried.items
  pub waiting : All (λ (e : Entry). is_posted e ≡ true) posted.items
