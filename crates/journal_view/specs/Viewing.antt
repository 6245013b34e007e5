-- The result of an input: the picture of its journal for which the words ask, or why it has none. (own choice)
use Rattle.std.specs.Prelude.{◌≡◌, ◌⊎◌, true, ℕ, ◌+◌, ◌-◌, length, drop, List, ◌++◌, Option, Some, None, Ok, codes}
use Rattle.std.specs.Fmt.{decimal}
use Rattle.gaspi_types.specs.World.{ShapeValue}
use Rattle.gaspi_types.specs.declared.events.Event.{Event}
use Rattle.call_texts.specs.Lines.{fed_lines}
use Rattle.gaspi_model.specs.declared.states.Why.{Why}
use Rattle.gaspi_model.specs.declared.states.Why.TheVariants as whys
use Rattle.gaspi_texts.specs.JournalText.{journal_text, AreInRange, IsFaultyAt}
use Rattle.call_journal.specs.Verdicts.{IsIllegalAt}
use Rattle.gaspi_model.specs.Step.{is_legal}
use Rattle.journal_pictures.specs.Answers.{IsSequenceAnswer}
use Rattle.journal_pictures.specs.declared.drawing.SequenceAnswer.{SequenceAnswer}
use Rattle.journal_pictures.specs.declared.drawing.SequenceAnswer.TheVariants.{Drawn, Long, Illegal}
use Rattle.journal_pictures.specs.Trace.{trace_text}
use Rattle.rank_script.specs.WorldText.{journal_offset, checked_world}
use Rattle.rank_script.specs.declared.scripts.Script.{Script}
use Rattle.journal_view.specs.declared.viewing.ViewResult.{ViewResult}
use Rattle.journal_view.specs.declared.viewing.ViewResult.TheVariants as results
use Rattle.journal_view.specs.declared.words.Picture.{Picture}
use Rattle.journal_view.specs.declared.words.Picture.TheVariants.{Sequence, Trace}

-- The texts.

-- the word of a cause
abbrev pub why_word : Why → List ℕ
why_word whys.Caller = codes "caller"
why_word whys.Limit = codes "limit"
why_word whys.Join = codes "join"
why_word whys.Reply = codes "reply"
why_word whys.Take = codes "take"
why_word whys.Put = codes "put"

-- the line that says that there is no journal
abbrev pub no_journal_text : ℕ → List ℕ
no_journal_text line = codes "not a journal " ++ decimal line ++ codes "\n"

-- the line that names the first event that is no step
abbrev pub illegal_text : ℕ → Why → List ℕ
illegal_text place why = codes "illegal " ++ decimal place ++ codes " " ++ why_word why ++ codes "\n"

-- the line that says that a journal has too many events
abbrev pub long_text : ℕ → List ℕ
long_text events = codes "too long " ++ decimal events ++ codes "\n"

-- the text of an answer of `sequence`
abbrev pub answer_text : SequenceAnswer → List ℕ
answer_text (Drawn text) = text
answer_text (Long events) = long_text events
answer_text (Illegal place why) = illegal_text place why

-- its exit status
abbrev pub answer_status : SequenceAnswer → ℕ
answer_status (Drawn text) = 0
answer_status (Long events) = 9
answer_status (Illegal place why) = 4

-- The result: of a text that is no journal its first line that cannot be there, of a journal its picture.

-- no journal, which shows at that line of the input
pub record IsNoJournal (line status : ℕ) (text : List ℕ) : Type 0 where
  pub status_is : status ≡ 4
  pub text_is : text ≡ no_journal_text line

-- the diagram of a journal, or why it has none
pub record HasSequence (world : ShapeValue) (journal : List Event) (status : ℕ) (text : List ℕ) : Type 0 where
  pub answer : SequenceAnswer
  pub is : IsSequenceAnswer world journal answer
  pub status_is : status ≡ answer_status answer
  pub text_is : text ≡ answer_text answer

-- the trace of a legal journal
pub record IsTraced (world : ShapeValue) (journal : List Event) (status : ℕ) (text : List ℕ) : Type 0 where
  pub legal : is_legal world journal ≡ true
  pub status_is : status ≡ 0
  pub text_is : text ≡ trace_text world journal

-- the event at a place is the first that is no step, for that cause
pub record IsRefuted (world : ShapeValue) (journal : List Event) (status : ℕ) (text : List ℕ) : Type 0 where
  pub place : ℕ
  pub why : Why
  pub illegal : IsIllegalAt world journal place why
  pub status_is : status ≡ 4
  pub text_is : text ≡ illegal_text place why

-- the trace of a journal, or why it has none
abbrev pub HasTrace : ShapeValue → List Event → ℕ → List ℕ → Type 0
HasTrace world journal status text = IsTraced world journal status text ⊎ IsRefuted world journal status text

-- the picture that is asked for
abbrev pub HasPicture : Picture → ShapeValue → List Event → ℕ → List ℕ → Type 0
HasPicture Sequence world journal status text = HasSequence world journal status text
HasPicture Trace world journal status text = HasTrace world journal status text

-- a text that is no journal from its line on, the first line of which has that number
pub record IsUnread (text : List ℕ) (number status : ℕ) (told : List ℕ) : Type 0 where
  pub line : ℕ
  pub faulty : IsFaultyAt text line
  pub none : IsNoJournal (number - 1 + line) status told

-- a journal, and its picture
pub record IsPictured (asked : Picture) (world : ShapeValue) (text : List ℕ) (status : ℕ) (told : List ℕ) : Type 0 where
  pub journal : List Event
  pub journal_is : text ≡ journal_text journal
  pub ranges : AreInRange journal
  pub picture : HasPicture asked world journal status told

-- the result of the text of a journal, the first line of which has that number
abbrev pub IsRead : Picture → ShapeValue → List ℕ → ℕ → ℕ → List ℕ → Type 0
IsRead asked world text number status told = IsUnread text number status told ⊎ IsPictured asked world text status told

-- The result of an input with a world: where no line begins with `journal`, the line after the last is named.
abbrev pub IsViewedIn : Picture → ShapeValue → List ℕ → Option (ℕ × ℕ) → ℕ → List ℕ → Type 0
IsViewedIn asked world input None status text = IsNoJournal (length (fed_lines input) + 1) status text
IsViewedIn asked world input (Some place) status text = IsRead asked world (drop place.0 input) place.1 status text

-- an input has a world text, and from the first line that begins with `journal` on a journal
pub record IsViewed (asked : Picture) (input : List ℕ) (status : ℕ) (text : List ℕ) : Type 0 where
  pub world : ShapeValue
  pub scripts : List Script
  pub read : checked_world input ≡ Ok (record { world = Some world; scripts = scripts })
  pub result : IsViewedIn asked world input (journal_offset input) status text

-- The result has a status and a text of that kind: its own, or those of the trace of a journal, where a trace is asked for.
abbrev pub Tells : Picture → (ℕ → List ℕ → Type 0) → ViewResult → Type 0
Tells asked kind (results.Text told) = kind told.status told.text
Tells asked kind (results.Trace world journal) = (asked ≡ Trace) × ((status : ℕ) (text : List ℕ) → HasTrace world journal status text → kind status text)
