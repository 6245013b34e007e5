-- What the program answers to what a command made of an input, to a fault, and to an input that was not read. (own choice)
use Rattle.std.specs.Prelude.{◌≡◌, ◌⊎◌, ℕ, false, List, Option, Result, Ok, Err}
use Rattle.gaspi_io.specs.Faults.{HasCause}
use Rattle.gaspi_io.specs.Sink.{with_more, AddsPrefix}
use Rattle.gaspi_io.specs.declared.read.ReadStop.{ReadStop}
use Rattle.gaspi_io.specs.declared.read.ReadStop.TheVariants as stops
use Rattle.rank_script.specs.WorldText.{TextFault}
use Rattle.rank_script.specs.declared.scripts.ScriptFault.{ScriptFault}
use Rattle.rank_script.specs.declared.scripts.ScriptFault.TheVariants.{At, NoMemory}
use Rattle.gaspi_run.specs.Command.{fault_text, HasNoJournal}
use Rattle.gaspi_run.specs.declared.commands.Answer.{Answer}
use Rattle.gaspi_run.specs.Results.{ResultValue}

-- An output is here what its sink had got before and after, and how often its writes had failed.

module _ (held held' : Option (List ℕ)) (faults faults' : ℕ) (answer : Answer) where
  -- a text was written, with that status, or it could not be written whole
  abbrev pub IsWritten : ℕ → List ℕ → Type 0
  IsWritten status text =
      ((answer.status ≡ status) × (held' ≡ with_more held text) × (faults' ≡ faults))
      ⊎ ((answer.status ≡ 6) × AddsPrefix text held held' × HasCause faults faults')

  -- nothing was written
  abbrev pub IsSilent : ℕ → Type 0
  IsSilent status = (answer.status ≡ status) × (held' ≡ held) × (faults' ≡ faults)

  -- a fault was written, or there was no memory for its text
  abbrev pub AnswersFault : TextFault → Type 0
  AnswersFault fault = (IsWritten 2 (fault_text fault) ⊎ IsSilent 7) × HasNoJournal answer

  -- a prefix of a text was written that is not held, or nothing of it, and then there was no memory
  abbrev pub IsCutShort : ResultValue → Type 0
  IsCutShort told = (told.is_held ≡ false) × ((answer.status ≡ 7) × AddsPrefix told.text held held' × (faults' ≡ faults))

  -- what a command made of an input was written; or a fault of the input; or memory ran out
  abbrev pub AnswersResult : Result ResultValue ScriptFault → Type 0
  AnswersResult (Ok told) = (IsWritten told.status told.text × (answer.journal ≡ told.journal) × (answer.tally ≡ told.tally)) ⊎ (IsCutShort told × HasNoJournal answer)
  AnswersResult (Err (At number line)) = AnswersFault (record { number = number; line = line })
  AnswersResult (Err NoMemory) = IsSilent 7 × HasNoJournal answer

  -- the input could not be read, or is too long
  abbrev pub AnswersStop : ReadStop → Type 0
  AnswersStop stops.Fault = IsSilent 5 × HasNoJournal answer
  AnswersStop stops.Long = AnswersFault (record { number = 1; line = 0 })
  AnswersStop stops.NoMemory = IsSilent 7 × HasNoJournal answer
