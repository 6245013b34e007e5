-- The result of a call on a store that takes memory.
use Rattle.std.specs.Prelude.{◌≡◌, Result, Ok, Err, IsOk}
use Rattle.gaspi_types.specs.declared.replies.Refusal.{Refusal}
use Rattle.segment_store.specs.declared.stops.PartStop.{PartStop}
use Rattle.segment_store.specs.declared.stops.PartStop.TheVariants.{Refused, NoMemory}

-- A call whose result the machine has as `outcome`, and which takes memory once it is not refused: it answers that, or, where it is not
-- refused, out of memory.
abbrev pub Answers : {A : Type 0} → Result A PartStop → Result A Refusal → Type 0
Answers (Ok a) outcome = outcome ≡ Ok a
Answers (Err (Refused refusal)) outcome = outcome ≡ Err refusal
Answers (Err NoMemory) outcome = IsOk outcome
