-- What a command makes of its input, as contracts see it. (own choice)
use Rattle.std.specs.Prelude.{ℕ, Bool, true, false, List, Option, None, Some}
use Rattle.gaspi_types.specs.declared.events.Event.{Event}
use Rattle.gaspi_texts.specs.JournalText.{journal_text}
use Rattle.gaspi_run.specs.Threads.{AnswerTally}

-- the history, what is known of the closed world, the status, the text, and whether the text is held; else it is that of the journal
pub record ResultValue : Type 0 where
  pub journal : List Event
  pub tally : AnswerTally
  pub status : ℕ
  pub text : List ℕ
  pub is_held : Bool

-- what the fields of a command's result come to: without a text of its own, it has that of its journal
abbrev pub result_of : List Event → AnswerTally → ℕ → Option (List ℕ) → ResultValue
result_of journal tally status (Some text) = record { journal = journal; tally = tally; status = status; text = text; is_held = true }
result_of journal tally status None = record { journal = journal; tally = tally; status = status; text = journal_text journal; is_held = false }
