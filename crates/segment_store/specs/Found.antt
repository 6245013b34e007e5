-- What the result of `waitsome` says of the slots themselves. (GASPI: notifications)
use Rattle.std.specs.Prelude.{◌≡◌, ◌≢◌, ℕ, ◌+◌, ◌<◌, ◌≤◌, List, length, Option, None, Some, slice_index}

-- a slot is the least set slot of a range
pub record IsFirstSlot (slots : List ℕ) (begin num note : ℕ) : Type 0 where
  pub from : begin ≤ note
  pub below : note < begin + num
  pub there : note < length slots
  pub set : slice_index slots note ≢ 0
  pub before : (k : ℕ) → begin ≤ k → k < note → slice_index slots k ≡ 0

-- the result is the least set slot of the range, or none where all slots of the range are 0
abbrev pub IsLeastSlot : List ℕ → ℕ → ℕ → Option ℕ → Type 0
IsLeastSlot slots begin num (Some note) = IsFirstSlot slots begin num note
IsLeastSlot slots begin num None = (k : ℕ) → begin ≤ k → k < begin + num → slice_index slots k ≡ 0
