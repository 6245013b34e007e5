-- The results of `waitsome` and `reset` on the slots of one segment, by the checks of the machine. (GASPI: notifications)
use Rattle.std.specs.Prelude.{ℕ, List, length, Option, Result, Ok, nat_lt, slice_index}
use Rattle.gaspi_types.specs.Checks.{◌>>=◌, check}
use Rattle.gaspi_types.specs.Slots.{is_slot_range, first_set}
use Rattle.gaspi_types.specs.declared.replies.Refusal.{Refusal}
use Rattle.gaspi_types.specs.declared.replies.Refusal.TheVariants.{BadNote}

-- the least set slot of a range, or none where none is set (notify_waitsome)
abbrev pub first_slot : List ℕ → ℕ → ℕ → Result (Option ℕ) Refusal
first_slot slots begin num = do
  noted ← check (is_slot_range begin num (length slots)) BadNote
  Ok (first_set slots begin num)

-- the value of a slot (notify_reset)
abbrev pub slot_value : List ℕ → ℕ → Result ℕ Refusal
slot_value slots note = do
  noted ← check (nat_lt note (length slots)) BadNote
  Ok (slice_index slots note)
