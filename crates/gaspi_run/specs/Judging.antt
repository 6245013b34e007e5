-- What `check` and `why` make of the journal of an input: whether it is legal, or which writes a notification of it covers.
-- (own choice)
use Rattle.std.specs.Prelude.{◌≡◌, ◌⊎◌, ℕ, ◌+◌, ◌-◌, length, drop, List, [], ◌++◌, Option, Some, None, Ok, codes}
use Rattle.std.specs.List.{flat_map}
use Rattle.std.specs.Fmt.{decimal}
use Rattle.gaspi_types.specs.World.{ShapeValue}
use Rattle.gaspi_types.specs.declared.events.Event.{Event}
use Rattle.call_texts.specs.Lines.{fed_lines}
use Rattle.gaspi_model.specs.declared.states.Why.{Why}
use Rattle.gaspi_model.specs.declared.states.Why.TheVariants as whys
use Rattle.gaspi_texts.specs.JournalText.{journal_text, AreInRange, IsFaultyAt}
use Rattle.call_journal.specs.Explanations.{IsExplanation}
use Rattle.call_journal.specs.Verdicts.{IsVerdict}
use Rattle.call_journal.specs.declared.answers.CoveredWrite.{CoveredWrite}
use Rattle.call_journal.specs.declared.answers.Explanation.{Explanation}
use Rattle.call_journal.specs.declared.answers.Explanation.TheVariants as answers
use Rattle.call_journal.specs.declared.verdicts.Verdict.{Verdict}
use Rattle.call_journal.specs.declared.verdicts.Verdict.TheVariants.{Legal, Illegal}
use Rattle.gaspi_model.specs.ContributionCounts.{ContributesOnce}
use Rattle.gaspi_model.specs.Notifications.{HandsOutOnce}
use Rattle.rank_script.specs.WorldText.{journal_offset, checked_world}
use Rattle.rank_script.specs.declared.scripts.Script.{Script}
use Rattle.gaspi_run.specs.declared.judging.Question.{Question}
use Rattle.gaspi_run.specs.declared.judging.Question.TheVariants as questions

-- The texts.

-- the word for a cause
abbrev pub why_word : Why → List ℕ
why_word whys.Caller = codes "caller"
why_word whys.Limit = codes "limit"
why_word whys.Join = codes "join"
why_word whys.Reply = codes "reply"
why_word whys.Take = codes "take"
why_word whys.Put = codes "put"

-- the text for an input without a journal, with the line that shows it
abbrev pub no_journal_text : ℕ → List ℕ
no_journal_text line = codes "not a journal " ++ decimal line ++ codes "\n"

-- the text that names the first event that is no step, and its cause
abbrev pub illegal_text : ℕ → Why → List ℕ
illegal_text place why = codes "illegal " ++ decimal place ++ codes " " ++ why_word why ++ codes "\n"

-- the text of a verdict on a number of events
abbrev pub verdict_text : ℕ → Verdict → List ℕ
verdict_text count Legal = codes "legal " ++ decimal count ++ codes "\n"
verdict_text count (Illegal place why) = illegal_text place why

-- the status of check
abbrev pub verdict_status : Verdict → ℕ
verdict_status Legal = 0
verdict_status (Illegal place why) = 4

-- the line of a write: the place of the call that posted it, its number, and the place of its put
abbrev pub write_line : CoveredWrite → List ℕ
write_line w = decimal w.post ++ codes " " ++ decimal w.number ++ codes " " ++ decimal w.put ++ codes "\n"

-- the text of the writes that the notification put at a place covers
abbrev pub writes_text : ℕ → List CoveredWrite → List ℕ
writes_text place writes = codes "why " ++ decimal place ++ codes " writes " ++ decimal (length writes) ++ codes "\n" ++ flat_map write_line writes

-- the text for a place at which no notification was put
abbrev pub no_notification_text : ℕ → List ℕ
no_notification_text place = codes "no notification " ++ decimal place ++ codes "\n"

-- the text of an explanation of a place
abbrev pub why_text : ℕ → Explanation → List ℕ
why_text place (answers.Writes writes) = writes_text place writes
why_text place answers.NoNotification = no_notification_text place
why_text place (answers.Illegal at why) = illegal_text at why

-- the status of why
abbrev pub why_status : Explanation → ℕ
why_status (answers.Writes writes) = 0
why_status answers.NoNotification = 4
why_status (answers.Illegal at why) = 4

-- What is made of a text: of one that is no journal, its first line that is not as a journal has it; of a journal, what was asked.

-- no journal, which shows at that line of the input
pub record IsNoJournal (line : ℕ) (journal : List Event) (status : ℕ) (text : List ℕ) : Type 0 where
  pub status_is : status ≡ 4
  pub text_is : text ≡ no_journal_text line
  pub empty : journal ≡ []

-- A verdict, with its text and status. In a legal journal no notification value is handed out twice, and each rank has joined each
-- group once for each collective there.
pub record HasVerdict (world : ShapeValue) (journal : List Event) (status : ℕ) (text : List ℕ) : Type 0 where
  pub verdict : Verdict
  pub judged : IsVerdict world journal verdict
  pub handed : verdict ≡ Legal → HandsOutOnce world journal
  pub contributed : verdict ≡ Legal → ContributesOnce world journal
  pub status_is : status ≡ verdict_status verdict
  pub text_is : text ≡ verdict_text (length journal) verdict

-- the explanation of a place, with its text and status
pub record HasWrites (place : ℕ) (world : ShapeValue) (journal : List Event) (status : ℕ) (text : List ℕ) : Type 0 where
  pub answer : Explanation
  pub told : IsExplanation world journal place answer
  pub status_is : status ≡ why_status answer
  pub text_is : text ≡ why_text place answer

-- what was asked of a journal
abbrev pub AnswersQuestion : Question → ShapeValue → List Event → ℕ → List ℕ → Type 0
AnswersQuestion questions.Verdict world journal status text = HasVerdict world journal status text
AnswersQuestion (questions.Writes place) world journal status text = HasWrites place world journal status text

-- a text that is no journal from its line on, the first line of which has that number
pub record IsUnread (text : List ℕ) (number : ℕ) (journal : List Event) (status : ℕ) (told : List ℕ) : Type 0 where
  pub line : ℕ
  pub faulty : IsFaultyAt text line
  pub none : IsNoJournal (number - 1 + line) journal status told

-- a journal, and what was asked of it
pub record IsJudged (question : Question) (world : ShapeValue) (text : List ℕ) (journal : List Event) (status : ℕ) (told : List ℕ) : Type 0 where
  pub journal_is : text ≡ journal_text journal
  pub ranges : AreInRange journal
  pub answer : AnswersQuestion question world journal status told

-- what is made of a text that may be a journal, the first line of which has that number
abbrev pub IsRead : Question → ShapeValue → List ℕ → ℕ → List Event → ℕ → List ℕ → Type 0
IsRead question world text number journal status told = IsUnread text number journal status told ⊎ IsJudged question world text journal status told

-- What is made of an input with a world: where no line begins with `journal`, the line after the last is named.
abbrev pub IsCheckedIn : Question → ShapeValue → List ℕ → Option (ℕ × ℕ) → List Event → ℕ → List ℕ → Type 0
IsCheckedIn question world input None journal status text = IsNoJournal (length (fed_lines input) + 1) journal status text
IsCheckedIn question world input (Some place) journal status text = IsRead question world (drop place.0 input) place.1 journal status text

-- What `check` and `why` do with their input: it has a world text, and from the first line that begins with `journal` on a journal.
pub record IsChecked (question : Question) (input : List ℕ) (journal : List Event) (status : ℕ) (text : List ℕ) : Type 0 where
  pub world : ShapeValue
  pub scripts : List Script
  pub read : checked_world input ≡ Ok (record { world = Some world; scripts = scripts })
  pub result : IsCheckedIn question world input (journal_offset input) journal status text
