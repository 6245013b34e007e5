-- The bench numbers of a journal. (own choice)
use Rattle.std.specs.Prelude.{◌≡◌, ℕ, zero, suc, ◌+◌, ◌%◌, ◌^◌, Bool, true, false, ◌==◌, not, List, count_by, unwrap_or, Ok, Err}
use Rattle.gaspi_types.specs.World.{ShapeValue}
use Rattle.gaspi_types.specs.declared.calls.Call.TheVariants.{Reset}
use Rattle.gaspi_types.specs.declared.events.Event.{Event}
use Rattle.gaspi_types.specs.declared.events.Event.TheVariants.{Called, Take, Put}
use Rattle.gaspi_types.specs.declared.replies.Reply.{Reply}
use Rattle.gaspi_types.specs.declared.replies.Reply.TheVariants.{Value}
use Rattle.gaspi_model.specs.Step.{reached}
use Rattle.gaspi_model.specs.declared.states.State.{State}
use Rattle.gaspi_model.specs.declared.states.StepFault.{StepFault}
use Rattle.gaspi_model.specs.declared.states.StepFault.TheVariants as fault
use Rattle.plain_machine.specs.Words.{word_in}
use Rattle.call_journal.specs.declared.journal_numbers.Numbers4.{Numbers4}

-- a recorded call, an end included
abbrev pub is_call : Event → Bool
is_call (Called caller call reply) = true
is_call _ = false

-- a take or a put
abbrev pub is_transfer : Event → Bool
is_transfer (Take origin queue target number outcome) = true
is_transfer (Put origin queue target number outcome) = true
is_transfer _ = false

-- a reply with a number other than 0
abbrev pub is_set_value : Reply → Bool
is_set_value (Value n) = not (n == 0)
is_set_value _ = false

-- a reset that found its notification set (GASPI: notify_reset)
abbrev pub is_found_reset : Event → Bool
is_found_reset (Called caller (Reset call) reply) = is_set_value reply
is_found_reset _ = false

-- the memory words at offset 8 of segment 0 of the first ranks, added, with 0 for a rank where there is none
abbrev pub words_until : State → ℕ → ℕ
words_until s zero = 0
words_until s (suc rank) = words_until s rank + unwrap_or (word_in s rank 0 8) 0

-- What the numbers of a legal journal are: its calls, its transfers, its resets that found a notification, and the sum of the words
-- after it, modulo 2^64.
pub record AreNumbers (w : ShapeValue) (journal : List Event) (n : Numbers4) : Type 0 where
  pub calls : n.calls ≡ count_by is_call journal
  pub transfers : n.transfers ≡ count_by is_transfer journal
  pub notifications : n.notifications ≡ count_by is_found_reset journal
  pub state : State
  pub leads : reached w journal ≡ Ok state
  pub sum : n.sum ≡ words_until state w.limits.ranks % 2 ^ 64

-- why there are no numbers: the journal is not legal, for that cause, or memory ran out
abbrev pub IsIllegal : ShapeValue → List Event → StepFault → Type 0
IsIllegal w journal (fault.Illegal why) = reached w journal ≡ Err why
IsIllegal w journal fault.NoMemory = Unit {0}
