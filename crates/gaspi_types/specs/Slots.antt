-- The notification slots of a segment: a list of numbers, 0 where there is no notification. (GASPI: notifications)
use Rattle.std.specs.Prelude.{◌≡◌, ◌≢◌, ℕ, ◌+◌, length, slice_get, Some, List, [], take, drop, position, Option, Bool, not, ◌==◌, ◌&&◌, nat_le, slice_set}
use Rattle.std.specs.Option.{option_map, unwrap_or}
use Rattle.gaspi_types.specs.SegmentBytes.{is_within}
use Rattle.gaspi_types.specs.Tables.{item_at}

-- whether a slot has a notification
abbrev pub is_set : ℕ → Bool
is_set value = not (value == 0)

-- whether a range of slots has a slot, and lies within that many
abbrev pub is_slot_range : ℕ → ℕ → ℕ → Bool
is_slot_range begin num notes = nat_le 1 num && is_within begin num notes

-- the least slot of a range that is set
abbrev pub first_set : List ℕ → ℕ → ℕ → Option ℕ
first_set slots begin num = option_map (λ k. begin + k) (position is_set (take num (drop begin slots)))

-- Tables of slots: those of each segment of a rank, by segment id.

-- the slots of a segment; of one that is not there, none
abbrev pub slots_of : List (Option (List ℕ)) → ℕ → List ℕ
slots_of table segment = unwrap_or (item_at table segment) []

-- the table with the slots of a segment replaced
abbrev pub with_slots : List (Option (List ℕ)) → ℕ → List ℕ → List (Option (List ℕ))
with_slots table segment slots = slice_set table segment (option_map (λ (old : List ℕ). slots) (item_at table segment))

-- Exactly one slot is set to a value.
pub record IsSlotSet (old new : List ℕ) (note value : ℕ) : Type 0 where
  pub size : length new ≡ length old
  pub there : slice_get new note ≡ Some value
  pub others : (k : ℕ) → k ≢ note → slice_get new k ≡ slice_get old k

-- Exactly one slot of one segment is set to a value: the slots of every other segment are as before.
pub record IsSlotWritten (old new : List (Option (List ℕ))) (segment note value : ℕ) : Type 0 where
  pub before : List ℕ
  pub after : List ℕ
  pub before_there : item_at old segment ≡ Some before
  pub after_there : item_at new segment ≡ Some after
  pub others : (other : ℕ) → other ≢ segment → item_at new other ≡ item_at old other
  pub set : IsSlotSet before after note value
