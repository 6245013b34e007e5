-- What the program does with its words and its input. (own choice)
use Rattle.std.specs.Prelude.{◌≡◌, ◌⊎◌, ◌≤◌, ◌<◌, ℕ, ◌+◌, ◌-◌, ◌*◌, ◌%◌, ◌^◌, length, Bool, true, false, List, [], ◌++◌, Option, Some, None, Result, Ok, Err, codes, not, if◌then◌else◌}
use Rattle.std.specs.Option.{ForSome}
use Rattle.std.specs.List.{list_any}
use Rattle.std.specs.Fmt.{decimal}
use Rattle.gaspi_types.specs.World.{ShapeValue}
use Rattle.gaspi_types.specs.declared.events.Event.{Event}
use Rattle.gaspi_io.specs.Faults.{HasCause}
use Rattle.gaspi_io.specs.Sink.{with_more, AddsPrefix}
use Rattle.gaspi_io.specs.Source.{without, TakesAtMost}
use Rattle.gaspi_model.specs.Step.{is_legal}
use Rattle.gaspi_texts.specs.JournalText.{journal_text, AreInRange}
use Rattle.command_line.specs.declared.words.Command.{Command}
use Rattle.command_line.specs.declared.words.Command.TheVariants.{Run, Step, Check, Why, Bench}
use Rattle.call_journal.specs.Laws.{draws_until}
use Rattle.call_journal.specs.Numbers.{AreNumbers}
use Rattle.call_journal.specs.declared.journal_numbers.Numbers4.{Numbers4}
use Rattle.rank_script.specs.Bench.{bench_shape}
use Rattle.rank_script.specs.BenchScripts.{bench_scripts}
use Rattle.rank_script.specs.Lines.{input_limit}
use Rattle.rank_script.specs.WorldText.{WorldReading, TextFault, world_text, checked_world}
use Rattle.rank_script.specs.declared.scripts.Script.{Script}
use Rattle.rank_script.specs.declared.scripts.RunOutcome.{RunOutcome}
use Rattle.rank_script.specs.declared.scripts.RunOutcome.TheVariants as outcomes
use Rattle.plain_schedule.specs.Endings.{HasSettled, HaveEnded}
use Rattle.gaspi_run.specs.Judging.{IsChecked}
use Rattle.plain_schedule.specs.Schedule.{IsScheduled}
use Rattle.gaspi_run.specs.Threads.{AnswerTally, HasRunWorld}
use Rattle.call_journal.specs.Transcripts.{transcripts}
use Rattle.plain_schedule.specs.declared.schedule_states.EndedCaller.{EndedCaller}
use Rattle.gaspi_run.specs.declared.commands.Answer.{Answer}
use Rattle.gaspi_run.specs.declared.judging.Question.TheVariants as questions

-- the text for words that ask for no command
abbrev pub refused_text : List ℕ
refused_text = codes "gaspirun: words refused\n"

-- the line that names a fault of a world text
abbrev pub fault_text : TextFault → List ℕ
fault_text f = codes "fault S" ++ decimal f.number ++ codes " line " ++ decimal f.line ++ codes "\n"

-- a caller whose script came to a wrong end: a reply that its line does not expect, or a timeout on a line that blocks
abbrev pub is_failed_or_stuck : RunOutcome → Bool
is_failed_or_stuck outcomes.Ended = false
is_failed_or_stuck (outcomes.Failed line) = true
is_failed_or_stuck (outcomes.Stuck line) = true
is_failed_or_stuck (outcomes.Limit line) = false
is_failed_or_stuck (outcomes.NoMemory line) = false

-- a run that ended at the event limit
abbrev pub is_limit_outcome : RunOutcome → Bool
is_limit_outcome outcomes.Ended = false
is_limit_outcome (outcomes.Failed line) = false
is_limit_outcome (outcomes.Stuck line) = false
is_limit_outcome (outcomes.Limit line) = true
is_limit_outcome (outcomes.NoMemory line) = false

-- the run of one of these callers has failed or is stuck
abbrev pub has_failed_or_stuck : List EndedCaller → Bool
has_failed_or_stuck finished = list_any (λ f. is_failed_or_stuck f.outcome) finished

-- the run of one of these callers ended at the event limit
abbrev pub is_any_limit : List EndedCaller → Bool
is_any_limit finished = list_any (λ f. is_limit_outcome f.outcome) finished

-- the status of a run: 3 where a caller has failed or is stuck, else 8 where one ended at the event limit, else 0
abbrev pub run_status : List EndedCaller → ℕ
run_status finished = if has_failed_or_stuck finished then 3 else (if is_any_limit finished then 8 else 0)

-- the text of a run: the transcripts, or the journal
abbrev pub run_text : Bool → ShapeValue → List Script → List Event → List ℕ
run_text true w scripts journal = transcripts w scripts journal
run_text false w scripts journal = journal_text journal

-- What `run` does with its input: the scripts of the text ran on threads, with this number of workers. The text that it writes is the
-- journal, or with `--brief` the transcripts; its status says how the callers ended.
pub record HasRunOnThreads (workers limit : ℕ) (brief : Bool) (input : List ℕ) (journal : List Event) (tally : AnswerTally) (status : ℕ) (text : List ℕ) : Type 0 where
  pub world : ShapeValue
  pub scripts : List Script
  pub finished : List EndedCaller
  pub read : world_text input ≡ Ok (record { world = Some world; scripts = scripts })
  pub ran : HasRunWorld world scripts workers limit journal tally finished
  pub text_is : text ≡ run_text brief world scripts journal
  pub status_is : status ≡ run_status finished

-- What `bench` does.

-- how many looks a call of `bench` that blocks has
abbrev pub bench_limit : ℕ
bench_limit = 100000000

-- the text of the bench numbers
abbrev pub numbers_text : Numbers4 → List ℕ
numbers_text n =
    codes "calls " ++ decimal n.calls ++ codes "\ntransfers " ++ decimal n.transfers ++ codes "\nnotifications " ++ decimal n.notifications
    ++ codes "\nsum " ++ decimal n.sum ++ codes "\n"

-- What the numbers are where every script ran to its end: each rank makes seven calls in a bench round, and its end; posts a write and
-- a notification, each of which is taken and put; and finds one notification. The words are the numbers drawn in the last bench round.
pub record AreClosed (seed ranks rounds : ℕ) (n : Numbers4) : Type 0 where
  pub calls : n.calls ≡ ranks * (7 * rounds + 1)
  pub transfers : n.transfers ≡ 4 * ranks * rounds
  pub notifications : n.notifications ≡ ranks * rounds
  pub sum : n.sum ≡ draws_until seed ranks (rounds - 1) ranks % 2 ^ 64

-- What `bench` does, which reads nothing: the world of its seed, ranks and bench rounds ran on threads. The text that it writes has
-- the numbers of the journal, and at status 0 they are the closed forms; its status says how the callers ended.
pub record HasBenched (seed ranks rounds : ℕ) (journal : List Event) (tally : AnswerTally) (status : ℕ) (text : List ℕ) : Type 0 where
  pub finished : List EndedCaller
  pub ran : HasRunWorld (bench_shape ranks rounds) (bench_scripts seed ranks rounds ranks) 1 bench_limit journal tally finished
  pub numbers : Numbers4
  pub counted : AreNumbers (bench_shape ranks rounds) journal numbers
  pub closed : status ≡ 0 → AreClosed seed ranks rounds numbers
  pub text_is : text ≡ numbers_text numbers
  pub status_is : status ≡ run_status finished

-- What `step` does with its input: the schedule has the seed and the limit of the words. The text that it writes is the journal, or
-- with `--brief` the transcripts; its status says how the callers ended; and its journal is a legal history in which each caller's
-- calls are a run of its script, and after which every caller has ended and all that was posted has arrived, broken queues aside. Its
-- numbers are those of its types, so the journal's text is that of no other.
pub record IsStepped (seed limit : ℕ) (brief : Bool) (input : List ℕ) (journal : List Event) (status : ℕ) (text : List ℕ) : Type 0 where
  pub world : ShapeValue
  pub scripts : List Script
  pub finished : List EndedCaller
  pub read : world_text input ≡ Ok (record { world = Some world; scripts = scripts })
  pub scheduled : IsScheduled world scripts seed limit journal finished
  pub legal : is_legal world journal ≡ true
  pub settled : HasSettled world journal
  pub ended : HaveEnded world scripts journal finished
  pub ranges : AreInRange journal
  pub status_is : status ≡ run_status finished
  pub text_is : text ≡ run_text brief world scripts journal

-- a call that blocks has one look or more, there are one to four workers, and `bench` has one to sixteen ranks and at most 5,000 rounds
abbrev pub IsWithin : Command → Type 0
IsWithin (Run workers limit brief) = (1 ≤ limit) × ((1 ≤ workers) × (workers ≤ 4))
IsWithin (Step seed limit brief) = 1 ≤ limit
IsWithin Check = Unit {0}
IsWithin (Why place) = Unit {0}
IsWithin (Bench seed ranks rounds) = ((1 ≤ ranks) × (ranks ≤ 16)) × ((1 ≤ rounds) × (rounds ≤ 5000))

-- a command that needs no threads
abbrev pub is_plain : Command → Bool
is_plain (Run workers limit brief) = false
is_plain (Step seed limit brief) = true
is_plain Check = true
is_plain (Why place) = true
is_plain (Bench seed ranks rounds) = false

-- a command whose text is that of its journal, which is not in memory
abbrev pub writes_journal : Command → Bool
writes_journal (Run workers limit brief) = not brief
writes_journal (Step seed limit brief) = not brief
writes_journal Check = false
writes_journal (Why place) = false
writes_journal (Bench seed ranks rounds) = false

-- What a command makes of an input, and where it has its world from.

-- what a command makes of an input without a fault
abbrev pub IsCommandResult : Command → List ℕ → List Event → AnswerTally → ℕ → List ℕ → Type 0
IsCommandResult (Run workers limit brief) input journal tally status text = HasRunOnThreads workers limit brief input journal tally status text
IsCommandResult (Step seed limit brief) input journal tally status text = IsStepped seed limit brief input journal status text × (tally ≡ None)
IsCommandResult Check input journal tally status text = IsChecked questions.Verdict input journal status text × (tally ≡ None)
IsCommandResult (Why place) input journal tally status text = IsChecked (questions.Writes place) input journal status text × (tally ≡ None)
IsCommandResult (Bench seed ranks rounds) input journal tally status text = HasBenched seed ranks rounds journal tally status text

-- where a command has its world from: the whole input, the world text of the input, or for bench neither
abbrev pub world_read : Command → List ℕ → Result WorldReading TextFault
world_read (Run workers limit brief) input = world_text input
world_read (Step seed limit brief) input = world_text input
world_read Check input = checked_world input
world_read (Why place) input = checked_world input
world_read (Bench seed ranks rounds) input = Ok (record { world = Some (bench_shape ranks rounds); scripts = bench_scripts seed ranks rounds ranks })

-- An input is here what its source had left before and after, and an output what its sink had got, where they say so.

-- the whole input was read, and the text is what the command makes of it
pub record IsResultOf (command : Command) (before after : Option (List ℕ)) (journal : List Event) (tally : AnswerTally) (status : ℕ) (text : List ℕ) : Type 0 where
  pub input : List ℕ
  pub all : ForSome before (λ told. input ≡ told)
  pub end : ForSome before (λ told. after ≡ Some [])
  pub tells : IsCommandResult command input journal tally status text

-- the input has a fault, and the text names the first; the whole input was read, and where it is too long, one byte past
-- what it may have
pub record IsFaultOf (command : Command) (before after : Option (List ℕ)) (text : List ℕ) : Type 0 where
  pub input : List ℕ
  pub fault : TextFault
  pub all : ForSome before (λ told. input ≡ told)
  pub end : length input ≤ input_limit → ForSome before (λ told. after ≡ Some [])
  pub past : input_limit < length input → after ≡ without before (input_limit + 1)
  pub is : world_read command input ≡ Err fault
  pub text_is : text ≡ fault_text fault

-- no read and no write failed
abbrev pub NothingFailed : ℕ → ℕ → ℕ → ℕ → Type 0
NothingFailed faults faults' sink_faults sink_faults' = (faults' ≡ faults) × (sink_faults' ≡ sink_faults)

-- What an answer says. Each case has its statuses.

-- an answer without a history
abbrev pub HasNoJournal : Answer → Type 0
HasNoJournal answer = (answer.journal ≡ []) × (answer.tally ≡ None)

-- what the command made of the input was written: status 0, 3 or 8 of a run on threads or on one, 0 or 4 of a journal that was read
pub record WroteResult (command : Command) (before after held held' : Option (List ℕ)) (faults faults' sink_faults sink_faults' : ℕ) (answer : Answer) : Type 0 where
  pub text : List ℕ
  pub still : NothingFailed faults faults' sink_faults sink_faults'
  pub told : IsResultOf command before after answer.journal answer.tally answer.status text
  pub written : held' ≡ with_more held text

-- a fault was written: status 2
pub record IsFaulty (command : Command) (before after held held' : Option (List ℕ)) (faults faults' sink_faults sink_faults' : ℕ) (answer : Answer) : Type 0 where
  pub text : List ℕ
  pub still : NothingFailed faults faults' sink_faults sink_faults'
  pub fault : IsFaultOf command before after text
  pub written : held' ≡ with_more held text
  pub status : answer.status ≡ 2
  pub empty : HasNoJournal answer

-- the input could not be read: status 5; nothing was written, and at most one byte more was taken than an input may have
pub record ReadFailed (before after held held' : Option (List ℕ)) (faults faults' sink_faults sink_faults' : ℕ) (answer : Answer) : Type 0 where
  pub cause : HasCause faults faults'
  pub still : sink_faults' ≡ sink_faults
  pub taken : TakesAtMost (input_limit + 1) before after
  pub kept : held' ≡ held
  pub status : answer.status ≡ 5
  pub empty : HasNoJournal answer

-- the text of the input or of a fault could not be written whole: status 6; what was written is a prefix of it
pub record WriteFailed (command : Command) (before after held held' : Option (List ℕ)) (faults faults' sink_faults sink_faults' : ℕ) (answer : Answer) : Type 0 where
  pub text : List ℕ
  pub of : ((would_be : ℕ) × IsResultOf command before after answer.journal answer.tally would_be text) ⊎ (IsFaultOf command before after text × HasNoJournal answer)
  pub front : AddsPrefix text held held'
  pub cause : HasCause sink_faults sink_faults'
  pub still : faults' ≡ faults
  pub status : answer.status ≡ 6

-- of a command that writes a journal a prefix of its text was written, which is shorter than the text
pub record WrotePrefix (command : Command) (before after held held' : Option (List ℕ)) : Type 0 where
  pub text : List ℕ
  pub journal : List Event
  pub tally : AnswerTally
  pub would_be : ℕ
  pub journals : writes_journal command ≡ true
  pub of : IsResultOf command before after journal tally would_be text
  pub front : AddsPrefix text held held'

-- out of memory, and nothing else: status 7; nothing was written, or a prefix of a journal, and at most one byte more was taken
-- than an input may have
pub record RanOutOfMemory (command : Command) (before after held held' : Option (List ℕ)) (faults faults' sink_faults sink_faults' : ℕ) (answer : Answer) : Type 0 where
  pub taken : TakesAtMost (input_limit + 1) before after
  pub kept : (held' ≡ held) ⊎ WrotePrefix command before after held held'
  pub still : NothingFailed faults faults' sink_faults sink_faults'
  pub status : answer.status ≡ 7
  pub empty : HasNoJournal answer

-- the answer of a command that reads its input
abbrev pub AnswersInput : Command → Option (List ℕ) → Option (List ℕ) → ℕ → ℕ → Option (List ℕ) → Option (List ℕ) → ℕ → ℕ → Answer → Type 0
AnswersInput command before after faults faults' held held' sink_faults sink_faults' answer =
    WroteResult command before after held held' faults faults' sink_faults sink_faults' answer
    ⊎ (IsFaulty command before after held held' faults faults' sink_faults sink_faults' answer
    ⊎ (ReadFailed before after held held' faults faults' sink_faults sink_faults' answer
    ⊎ (WriteFailed command before after held held' faults faults' sink_faults sink_faults' answer
    ⊎ RanOutOfMemory command before after held held' faults faults' sink_faults sink_faults' answer)))

-- The answer of `bench`, which reads nothing.

-- the numbers were written: status 0, 3 or 8
pub record WroteNumbers (seed ranks rounds : ℕ) (held held' : Option (List ℕ)) (sink_faults sink_faults' : ℕ) (answer : Answer) : Type 0 where
  pub text : List ℕ
  pub still : sink_faults' ≡ sink_faults
  pub told : HasBenched seed ranks rounds answer.journal answer.tally answer.status text
  pub written : held' ≡ with_more held text

-- they could not be written whole: status 6; what was written is a prefix of them
pub record NumbersNotWritten (seed ranks rounds : ℕ) (held held' : Option (List ℕ)) (sink_faults sink_faults' : ℕ) (answer : Answer) : Type 0 where
  pub text : List ℕ
  pub would_be : ℕ
  pub of : HasBenched seed ranks rounds answer.journal answer.tally would_be text
  pub front : AddsPrefix text held held'
  pub cause : HasCause sink_faults sink_faults'
  pub status : answer.status ≡ 6

-- out of memory, and nothing else: status 7; nothing was written
pub record BenchOutOfMemory (held held' : Option (List ℕ)) (sink_faults sink_faults' : ℕ) (answer : Answer) : Type 0 where
  pub kept : held' ≡ held
  pub still : sink_faults' ≡ sink_faults
  pub status : answer.status ≡ 7
  pub empty : HasNoJournal answer

-- the answer of bench
abbrev pub AnswersBench : ℕ → ℕ → ℕ → Option (List ℕ) → Option (List ℕ) → ℕ → ℕ → Answer → Type 0
AnswersBench seed ranks rounds held held' sink_faults sink_faults' answer =
    WroteNumbers seed ranks rounds held held' sink_faults sink_faults' answer
    ⊎ (NumbersNotWritten seed ranks rounds held held' sink_faults sink_faults' answer ⊎ BenchOutOfMemory held held' sink_faults sink_faults' answer)

-- the answer of a command
abbrev pub Answers : Command → Option (List ℕ) → Option (List ℕ) → ℕ → ℕ → Option (List ℕ) → Option (List ℕ) → ℕ → ℕ → Answer → Type 0
Answers (Run workers limit brief) before after faults faults' held held' sink_faults sink_faults' answer =
    AnswersInput (Run workers limit brief) before after faults faults' held held' sink_faults sink_faults' answer
Answers (Step seed limit brief) before after faults faults' held held' sink_faults sink_faults' answer =
    AnswersInput (Step seed limit brief) before after faults faults' held held' sink_faults sink_faults' answer
Answers Check before after faults faults' held held' sink_faults sink_faults' answer =
    AnswersInput Check before after faults faults' held held' sink_faults sink_faults' answer
Answers (Why place) before after faults faults' held held' sink_faults sink_faults' answer =
    AnswersInput (Why place) before after faults faults' held held' sink_faults sink_faults' answer
Answers (Bench seed ranks rounds) before after faults faults' held held' sink_faults sink_faults' answer =
    (after ≡ before) × (faults' ≡ faults) × AnswersBench seed ranks rounds held held' sink_faults sink_faults' answer

-- the answer to words that are refused: status 1, or 6 where that could not be written, or 7 where memory runs out
pub record Refuses (held held' : Option (List ℕ)) (faults faults' : ℕ) (answer : Answer) : Type 0 where
  pub says : ((answer.status ≡ 1) × (held' ≡ with_more held refused_text) × (faults' ≡ faults))
      ⊎ (((answer.status ≡ 6) × AddsPrefix refused_text held held' × HasCause faults faults')
      ⊎ ((answer.status ≡ 7) × (held' ≡ held) × (faults' ≡ faults)))
  pub empty : HasNoJournal answer
