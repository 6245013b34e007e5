-- The inbox of a rank: the messages that it has not received, the earliest first. (GASPI: passive communication)
use Rattle.std.specs.Prelude.{ℕ, Bool, nat_le, nat_lt, List, [], ◌∷◌, ◌++◌, length, Option, None, Some, Result, Ok}
use Rattle.gaspi_types.specs.Checks.{◌>>=◌, check, ok_or}
use Rattle.gaspi_types.specs.Ranges.{is_between}
use Rattle.gaspi_types.specs.SegmentBytes.{is_within}
use Rattle.gaspi_types.specs.SegmentTables.{extent_in}
use Rattle.gaspi_types.specs.declared.inboxes.Message.{Message}
use Rattle.gaspi_types.specs.declared.segments.Extent.{Extent}
use Rattle.gaspi_types.specs.declared.replies.Refusal.{Refusal}
use Rattle.gaspi_types.specs.declared.replies.Refusal.TheVariants.{NoSegment, BadRange, BadSize, PassiveSize}

-- own choice: how many bytes a message may have
abbrev pub is_passive_size : ℕ → Bool
is_passive_size size = is_between 1 4096 size

-- what a send, and a receive, of that many bytes at an offset of an own segment is refused for, whatever the inbox has
abbrev pub passive_checks : List (Option Extent) → ℕ → ℕ → ℕ → Result (Unit {0}) Refusal
passive_checks own segment offset size = do
  mine ← ok_or (extent_in own segment) NoSegment
  sized ← check (is_passive_size size) BadSize
  check (is_within offset size mine.size) (BadRange mine.size)

-- whether an inbox that may have `most` messages has room for one more
abbrev pub has_room : ℕ → List Message → Bool
has_room most inbox = nat_lt (length inbox) most

-- the inbox with a message behind the others (passive_send)
abbrev pub deposited : List Message → Message → List Message
deposited inbox message = inbox ++ message ∷ []

-- What a receive of at most `size` bytes finds: the first message, or none; a longer one is refused, and stays
-- (passive_receive).
abbrev pub first_within : ℕ → List Message → Result (Option Message) Refusal
first_within size [] = Ok None
first_within size (message ∷ inbox) = do
  fits ← check (nat_le (length message.bytes) size) (PassiveSize (length message.bytes))
  Ok (Some message)
