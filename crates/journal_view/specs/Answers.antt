-- The answers of the program to its words and its input. An input is seen as what its source had left before and after, and an
-- output as what its sink held, where they tell it. (own choice)
use Rattle.std.specs.Prelude.{◌≡◌, ◌⊎◌, ◌≤◌, ◌<◌, ℕ, ◌+◌, length, List, [], ◌++◌, Option, Some, Result, Ok, Err, codes}
use Rattle.std.specs.Option.{ForSome}
use Rattle.std.specs.Fmt.{decimal}
use Rattle.gaspi_io.specs.Faults.{HasCause}
use Rattle.gaspi_io.specs.Sink.{with_more, AddsPrefix}
use Rattle.gaspi_io.specs.Source.{without, TakesAtMost}
use Rattle.gaspi_io.specs.declared.read.ReadStop.{ReadStop}
use Rattle.gaspi_io.specs.declared.read.ReadStop.TheVariants as stops
use Rattle.gaspi_types.specs.World.{ShapeValue}
use Rattle.gaspi_types.specs.declared.events.Event.{Event}
use Rattle.gaspi_model.specs.declared.states.Why.{Why}
use Rattle.rank_script.specs.Lines.{input_limit}
use Rattle.rank_script.specs.WorldText.{TextFault, checked_world}
use Rattle.rank_script.specs.declared.scripts.ScriptFault.{ScriptFault}
use Rattle.rank_script.specs.declared.scripts.ScriptFault.TheVariants.{At, NoMemory}
use Rattle.journal_pictures.specs.Answers.{IsCutTrace}
use Rattle.journal_view.specs.Viewing.{HasTrace, IsViewed, illegal_text}
use Rattle.journal_view.specs.declared.viewing.ViewResult.{ViewResult}
use Rattle.journal_view.specs.declared.viewing.ViewResult.TheVariants as results
use Rattle.journal_view.specs.declared.words.Picture.{Picture}
use Rattle.journal_view.specs.declared.words.Picture.TheVariants.{Trace}

abbrev pub refused_text : List ℕ
refused_text = codes "journal_view: words refused\n"

-- the line that names a fault of a world text
abbrev pub fault_text : TextFault → List ℕ
fault_text f = codes "fault S" ++ decimal f.number ++ codes " line " ++ decimal f.line ++ codes "\n"

-- What is done with the output.

module _ (held held' : Option (List ℕ)) (faults faults' status : ℕ) where
  -- a text was written, for that status, or it could not be written whole
  abbrev pub IsWritten : ℕ → List ℕ → Type 0
  IsWritten meant text =
      ((status ≡ meant) × (held' ≡ with_more held text) × (faults' ≡ faults))
      ⊎ ((status ≡ 6) × AddsPrefix text held held' × HasCause faults faults')

  -- nothing was written
  abbrev pub IsSilent : ℕ → Type 0
  IsSilent meant = (status ≡ meant) × (held' ≡ held) × (faults' ≡ faults)

  -- a fault was written, or there was no memory for its text
  abbrev pub AnswersFault : TextFault → Type 0
  AnswersFault fault = IsWritten 2 (fault_text fault) ⊎ IsSilent 7

  -- the first event that is no step was written, or there was no memory for its text
  abbrev pub AnswersIllegal : ℕ → Why → Type 0
  AnswersIllegal place why = IsWritten 4 (illegal_text place why) ⊎ IsSilent 7

  -- the trace of a journal was written, or why it has none
  pub record WroteTrace (world : ShapeValue) (journal : List Event) : Type 0 where
    pub meant : ℕ
    pub text : List ℕ
    pub is : HasTrace world journal meant text
    pub written : IsWritten meant text

  -- a prefix of a trace was written, or nothing of it, and then there was no memory
  abbrev pub IsCutShort : ShapeValue → List Event → Type 0
  IsCutShort world journal = (status ≡ 7) × IsCutTrace world journal held held' × (faults' ≡ faults)

  abbrev pub AnswersTrace : ShapeValue → List Event → Type 0
  AnswersTrace world journal = WroteTrace world journal ⊎ (IsSilent 7 ⊎ IsCutShort world journal)

  abbrev pub AnswersView : Result ViewResult ScriptFault → Type 0
  AnswersView (Ok (results.Text told)) = IsWritten told.status told.text
  AnswersView (Ok (results.Trace world journal)) = AnswersTrace world journal
  AnswersView (Err (At number line)) = AnswersFault (record { number = number; line = line })
  AnswersView (Err NoMemory) = IsSilent 7

  -- the input could not be read, or is too long
  abbrev pub AnswersStop : ReadStop → Type 0
  AnswersStop stops.Fault = IsSilent 5
  AnswersStop stops.Long = AnswersFault (record { number = 1; line = 0 })
  AnswersStop stops.NoMemory = IsSilent 7

-- What an answer says. Each case has its statuses.

-- the whole input was read, and the text is its result
pub record IsResultOf (asked : Picture) (before after : Option (List ℕ)) (status : ℕ) (text : List ℕ) : Type 0 where
  pub input : List ℕ
  pub all : ForSome before (λ told. input ≡ told)
  pub end : ForSome before (λ told. after ≡ Some [])
  pub tells : IsViewed asked input status text

-- the input has a fault, and the text names the first; the whole input was read, and where it is too long, one byte past
-- what it may have
pub record IsFaultOf (before after : Option (List ℕ)) (text : List ℕ) : Type 0 where
  pub input : List ℕ
  pub fault : TextFault
  pub all : ForSome before (λ told. input ≡ told)
  pub end : length input ≤ input_limit → ForSome before (λ told. after ≡ Some [])
  pub past : input_limit < length input → after ≡ without before (input_limit + 1)
  pub is : checked_world input ≡ Err fault
  pub text_is : text ≡ fault_text fault

-- no read and no write failed
abbrev pub NothingFailed : ℕ → ℕ → ℕ → ℕ → Type 0
NothingFailed faults faults' sink_faults sink_faults' = (faults' ≡ faults) × (sink_faults' ≡ sink_faults)

-- the result of the input was written: status 0, 4 or 9
pub record WroteResult (asked : Picture) (before after held held' : Option (List ℕ)) (faults faults' sink_faults sink_faults' status : ℕ) : Type 0 where
  pub text : List ℕ
  pub still : NothingFailed faults faults' sink_faults sink_faults'
  pub told : IsResultOf asked before after status text
  pub written : held' ≡ with_more held text

-- a fault was written: status 2
pub record IsFaulty (before after held held' : Option (List ℕ)) (faults faults' sink_faults sink_faults' status : ℕ) : Type 0 where
  pub text : List ℕ
  pub still : NothingFailed faults faults' sink_faults sink_faults'
  pub fault : IsFaultOf before after text
  pub written : held' ≡ with_more held text
  pub status_is : status ≡ 2

-- the input could not be read: status 5; nothing was written, and at most one byte more was taken than an input may have
pub record ReadFailed (before after held held' : Option (List ℕ)) (faults faults' sink_faults sink_faults' status : ℕ) : Type 0 where
  pub cause : HasCause faults faults'
  pub still : sink_faults' ≡ sink_faults
  pub taken : TakesAtMost (input_limit + 1) before after
  pub kept : held' ≡ held
  pub status_is : status ≡ 5

-- the text of the input or of a fault could not be written whole: status 6; what was written is a prefix of it
pub record WriteFailed (asked : Picture) (before after held held' : Option (List ℕ)) (faults faults' sink_faults sink_faults' status : ℕ) : Type 0 where
  pub text : List ℕ
  pub of : ((would_be : ℕ) × IsResultOf asked before after would_be text) ⊎ IsFaultOf before after text
  pub front : AddsPrefix text held held'
  pub cause : HasCause sink_faults sink_faults'
  pub still : faults' ≡ faults
  pub status_is : status ≡ 6

-- where a trace is asked for, a prefix of the trace of a legal journal was written, which is shorter than the whole
pub record WrotePrefix (asked : Picture) (before after held held' : Option (List ℕ)) : Type 0 where
  pub text : List ℕ
  pub trace : asked ≡ Trace
  pub of : IsResultOf asked before after 0 text
  pub front : AddsPrefix text held held'

-- out of memory, and nothing else: status 7; nothing was written, or a prefix of a trace, and at most one byte more was taken than
-- an input may have
pub record RanOutOfMemory (asked : Picture) (before after held held' : Option (List ℕ)) (faults faults' sink_faults sink_faults' status : ℕ) : Type 0 where
  pub taken : TakesAtMost (input_limit + 1) before after
  pub kept : (held' ≡ held) ⊎ WrotePrefix asked before after held held'
  pub still : NothingFailed faults faults' sink_faults sink_faults'
  pub status_is : status ≡ 7

-- the answer to an input, of which that picture is asked for
abbrev pub Answers : Picture → Option (List ℕ) → Option (List ℕ) → ℕ → ℕ → Option (List ℕ) → Option (List ℕ) → ℕ → ℕ → ℕ → Type 0
Answers asked before after faults faults' held held' sink_faults sink_faults' status =
    WroteResult asked before after held held' faults faults' sink_faults sink_faults' status
    ⊎ (IsFaulty before after held held' faults faults' sink_faults sink_faults' status
    ⊎ (ReadFailed before after held held' faults faults' sink_faults sink_faults' status
    ⊎ (WriteFailed asked before after held held' faults faults' sink_faults sink_faults' status
    ⊎ RanOutOfMemory asked before after held held' faults faults' sink_faults sink_faults' status)))

-- the answer to words that are refused: status 1, or 6 where that could not be written, or 7 where memory ran out
abbrev pub Refuses : Option (List ℕ) → Option (List ℕ) → ℕ → ℕ → ℕ → Type 0
Refuses held held' faults faults' status =
    IsWritten held held' faults faults' status 1 refused_text ⊎ IsSilent held held' faults faults' status 7
