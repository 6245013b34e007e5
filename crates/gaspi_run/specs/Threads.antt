-- What is known of a world whose scripts ran on threads, and was closed. (own choice)
use Rattle.std.specs.Prelude.{◌≡◌, ◌<◌, ◌+◌, ℕ, true, false, List, [], ◌∷◌, ◌++◌, map, length, Option, Some, slice_get}
use Rattle.std.specs.List.{list_any, flat_map}
use mathlib.Core.List.{IsPrefix}
use Rattle.gaspi_types.specs.World.{ShapeValue}
use Rattle.gaspi_types.specs.declared.events.Event.{Event}
use Rattle.gaspi_types.specs.declared.events.Event.TheVariants.{Put}
use Rattle.gaspi_types.specs.declared.events.Outcome.TheVariants.{Applied}
use Rattle.gaspi_model.specs.Order.{IsWriteInLane, IsNotificationInLane, is_purge_of}
use Rattle.gaspi_model.specs.Step.{is_legal, recorded_calls}
use Rattle.commit_table.specs.Calls.{TallyValue}
use Rattle.commit_table.specs.Views.{new_pass}
use Rattle.commit_table.specs.declared.views.PassView.{PassView}
use Rattle.gaspi_model.specs.ContributionCounts.{ContributesOnce}
use Rattle.gaspi_model.specs.Notifications.{HandsOutOnce}
use Rattle.rank_script.specs.Runs.{at_first_line}
use Rattle.rank_script.specs.declared.scripts.Script.{Script}
use Rattle.gaspi_model.specs.CallerEvents.{events_of}
use Rattle.gaspi_world.specs.Callers.{IsPassOf}
use Rattle.gaspi_world.specs.Waits.{Waited}
use Rattle.gaspi_world.specs.declared.starts.Start.{Start}
use Rattle.gaspi_run.specs.Looks.{looks_along, AreWithin, AreByCall}
use Rattle.transfer_worker.specs.Order.{Drains}
use Rattle.transfer_worker.specs.Turns.{IsDrained}
use Rattle.gaspi_texts.specs.JournalText.{AreInRange}
use Rattle.plain_schedule.specs.Endings.{HasSettled, HaveEnded}
use Rattle.plain_schedule.specs.declared.schedule_states.EndedCaller.{EndedCaller}

-- The caller of a script had a pass of the world. What it did is in the journal, each call once, in order, with its reply, and so are
-- its joins; what it had seen is a prefix of the journal. None of its timeouts came before the looks of its line were spent, or
-- `limit` looks of a call that blocks; and no call made more looks than that: the pass has the looks call by call, the last one being
-- that of its end. (GASPI: timeouts)
pub record HadPass (w : ShapeValue) (limit : ℕ) (journal : List Event) (passes : List (PassView Start Event)) (script : Script) : Type 0 where
  pub place : ℕ
  pub pass : PassView Start Event
  pub there : slice_get passes place ≡ Some pass
  pub caller : IsPassOf w script.caller pass
  pub did : events_of script.caller journal ≡ pass.mine
  pub saw : IsPrefix pass.seen journal
  pub waited : Waited w script.caller journal pass.looks (looks_along limit (at_first_line script.lines) (recorded_calls script.caller.rank script.caller.thread journal))
  pub looks : List (List (List Event))
  pub last : List Event
  pub looked : pass.looks ≡ map length (flat_map (λ (ks : List (List Event)). ks) looks ++ last ∷ [])
  pub by_call : AreByCall script.caller journal looks
  pub within : AreWithin looks (looks_along limit (at_first_line script.lines) (recorded_calls script.caller.rank script.caller.thread journal))

-- A worker had a pass of the world, after those of the callers, and made no calls by it. It made turns, the first of which had the
-- number of the worker, until a full turn found that every caller has ended and all that was posted has arrived, broken queues aside.
-- What it had seen is a prefix of the journal. (GASPI: one-sided communication)
pub record HadWorker (start : Start) (journal : List Event) (passes : List (PassView Start Event)) (worker : ℕ) : Type 0 where
  pub pass : PassView Start Event
  pub there : slice_get passes (length start.shape.callers + worker) ≡ Some pass
  pub mine : pass.mine ≡ []
  pub saw : IsPrefix pass.seen journal
  pub settled : IsDrained start.shape pass.seen
  pub next : ℕ
  pub turned : Drains start.shape worker (new_pass start (Some (length start.shape.callers + worker)) []) next pass

-- A closed world began as this one and has this journal. The callers of these scripts had its passes, and this number of workers, and
-- nobody else.
pub record IsTallyOf (w : ShapeValue) (scripts : List Script) (workers limit : ℕ) (journal : List Event) (tally : TallyValue Start Event) : Type 0 where
  pub start : Start
  pub began : tally.start ≡ Some start
  pub world : start.shape ≡ w
  pub journal_is : tally.journal ≡ journal
  pub passes : (place : ℕ) (script : Script) → slice_get scripts place ≡ Some script → HadPass w limit journal tally.passes script
  pub count : length tally.passes ≡ length w.callers + workers
  pub workers_had : (worker : ℕ) → worker < workers → HadWorker start journal tally.passes worker

-- Each notification came after all earlier writes of its lane: of each write that was in the lane with a smaller number, and was not
-- purged since, the put is before that of the notification. (GASPI: notification order)
abbrev pub ComesAfterWrites : ShapeValue → List Event → Type 0
ComesAfterWrites w journal =
    (earlier later rest : List Event) (origin queue target m n : ℕ) → earlier ++ later ++ Put origin queue target n Applied ∷ rest ≡ journal
    → IsWriteInLane w earlier origin queue target m → IsNotificationInLane w (earlier ++ later) origin queue target n → m < n
    → list_any (is_purge_of origin queue) later ≡ false
    → (place : ℕ) × (slice_get later place ≡ Some (Put origin queue target m Applied))

-- what is known of a world that was run on threads and closed, if there was one
abbrev pub AnswerTally : Type 0
AnswerTally = Option (TallyValue Start Event)

-- The callers of a world ran their scripts by its passes, this number of workers made its transfers, and it was then closed. Its
-- journal is one legal history of the machine from the opening state. The tally says that each call which a caller completed is there
-- once, with the reply that the caller got; that what the caller had seen begins the journal; and that no timeout came before its
-- looks were spent. That each call came after what its caller had seen is said where calls are made (`Rank::attempt`). Each caller's
-- calls are a run of its script; every caller has ended, and all that was posted has arrived, broken queues aside. Every notification
-- came after all earlier writes of its lane. No notification value was handed out twice, and each rank joined each group once for each
-- collective. The numbers of its events are those of their types, so its text is that of no other. How many threads there were is not
-- said.
pub record HasRunWorld (w : ShapeValue) (scripts : List Script) (workers limit : ℕ) (journal : List Event) (tally : AnswerTally) (finished : List EndedCaller) : Type 0 where
  pub legal : is_legal w journal ≡ true
  pub told : TallyValue Start Event
  pub tally_is : tally ≡ Some told
  pub tallied : IsTallyOf w scripts workers limit journal told
  pub ended : HaveEnded w scripts journal finished
  pub settled : HasSettled w journal
  pub notified : ComesAfterWrites w journal
  pub handed : HandsOutOnce w journal
  pub contributed : ContributesOnce w journal
  pub ranges : AreInRange journal
