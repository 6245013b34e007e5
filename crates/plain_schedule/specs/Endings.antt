-- How the callers of a world ended, whether it ran on one thread or on many. (own choice)
use Rattle.std.specs.Prelude.{count_by, ◌<◌, ◌≡◌, Bool, ℕ, ◌+◌, false, List, [], ◌∷◌, ◌++◌, Option, None, Some, Ok, slice_get, find}
use Rattle.gaspi_types.specs.CallRows.{need_of}
use Rattle.gaspi_types.specs.World.{ShapeValue, is_caller}
use Rattle.gaspi_types.specs.declared.shapes.CallerId.{CallerId}
use Rattle.gaspi_types.specs.declared.calls.Call.{Call}
use Rattle.gaspi_types.specs.declared.calls.Call.TheVariants.{End}
use Rattle.gaspi_types.specs.declared.replies.Reply.TheVariants as replies
use Rattle.gaspi_types.specs.declared.events.Event.{Event}
use Rattle.gaspi_types.specs.declared.events.Event.TheVariants.{Called}
use Rattle.gaspi_model.specs.Step.{used_room, recorded_calls, reached, is_pending}
use Rattle.gaspi_model.specs.Settled.{IsSettled}
use Rattle.gaspi_model.specs.declared.states.State.{State}
use Rattle.rank_script.specs.Runs.{IsRun}
use Rattle.rank_script.specs.WorldText.{is_script_of}
use Rattle.rank_script.specs.declared.scripts.RunOutcome.{RunOutcome}
use Rattle.rank_script.specs.declared.scripts.RunOutcome.TheVariants as outcomes
use Rattle.rank_script.specs.declared.scripts.Script.{Script}
use Rattle.rank_script.specs.declared.scripts.ScriptLine.{ScriptLine}
use Rattle.gaspi_model.specs.CallerEvents.{is_event_of, events_of}
use Rattle.plain_schedule.specs.Joins.{AreJoinsFollowed}
use Rattle.plain_schedule.specs.declared.schedule_states.EndedCaller.{EndedCaller}

-- the room that the present call of a caller needs
abbrev pub present_need : State → CallerId → ScriptLine → ℕ
present_need s c line = need_of line.call (is_pending s c.rank c.thread line.call) false

-- the state after a history is settled
pub record HasSettled (w : ShapeValue) (journal : List Event) : Type 0 where
  pub state : State
  pub leads : reached w journal ≡ Ok state
  pub settled : IsSettled state

-- an event is that of a caller, by its rank and thread
abbrev pub is_own : ℕ → ℕ → Event → Bool
is_own rank thread e = is_event_of (record { rank = rank; thread = thread }) e

-- the events of a caller in a history, by its rank and thread
abbrev pub own_events : ℕ → ℕ → List Event → List Event
own_events rank thread history = events_of (record { rank = rank; thread = thread }) history

-- the call before which a run was stopped, where it was
abbrev pub IsStoppedBefore : List ScriptLine → RunOutcome → Option Call → Type 0
IsStoppedBefore lines outcome None = Unit {0}
IsStoppedBefore lines outcome (Some call) =
    (place : ℕ) × (line : ScriptLine) × (slice_get lines place ≡ Some line) × (line.call ≡ call) × (outcome ≡ outcomes.Limit line.number)

-- There is a history that the journal begins with, which has all events of a caller but its end, and after which its rank had no room
-- for what the call of a line needs.
pub record LackedRoom (w : ShapeValue) (journal : List Event) (caller : CallerId) (line : ScriptLine) : Type 0 where
  pub before : List Event
  pub later : List Event
  pub begins : before ++ later ≡ journal
  pub events : own_events caller.rank caller.thread before ++ Called caller End replies.Done ∷ [] ≡ own_events caller.rank caller.thread journal
  pub state : State
  pub leads : reached w before ≡ Ok state
  pub full : w.limits.events < used_room state caller.rank + present_need state caller line

-- why a caller ended at the event limit, where it did: at a line of its script; none ended out of memory
abbrev pub HasLimitCause : ShapeValue → List Event → CallerId → List ScriptLine → RunOutcome → Type 0
HasLimitCause w journal caller lines outcomes.Ended = Unit {0}
HasLimitCause w journal caller lines (outcomes.Failed number) = Unit {0}
HasLimitCause w journal caller lines (outcomes.Stuck number) = Unit {0}
HasLimitCause w journal caller lines (outcomes.Limit number) =
    (place : ℕ) × (line : ScriptLine) × (slice_get lines place ≡ Some line) × (line.number ≡ number) × LackedRoom w journal caller line
HasLimitCause w journal caller lines (outcomes.NoMemory number) = ⊥

-- How a caller ended: its calls are a run of its script, with that outcome; each of its joins is of the call that it makes next, or
-- of the one before which it was stopped.
pub record HasEnded (w : ShapeValue) (scripts : List Script) (journal : List Event) (f : EndedCaller) : Type 0 where
  pub script : Script
  pub is_script : find (is_script_of f.caller) scripts ≡ Some script
  pub run : IsRun script.lines (recorded_calls f.caller.rank f.caller.thread journal) f.outcome
  pub stopped : Option Call
  pub stopped_before : IsStoppedBefore script.lines f.outcome stopped
  pub joins : AreJoinsFollowed stopped (own_events f.caller.rank f.caller.thread journal)
  pub limit : HasLimitCause w journal f.caller script.lines f.outcome

-- each script has one outcome among those, and each of those is how its caller ended
pub record HaveEnded (w : ShapeValue) (scripts : List Script) (journal : List Event) (finished : List EndedCaller) : Type 0 where
  pub each : (place : ℕ) (f : EndedCaller) → slice_get finished place ≡ Some f → HasEnded w scripts journal f
  pub once : (rank thread : ℕ) → count_by (λ f. is_caller rank thread f.caller) finished ≡ count_by (λ s. is_caller rank thread s.caller) scripts
