-- What comes of a script that its caller runs in a world, and how the caller ends. (own choice)
use Rattle.std.specs.Prelude.{◌≡◌, ℕ, suc, true, List, [], ◌∷◌, ◌++◌, length, slice_get, Option, Some, Result, Ok, Err}
use Rattle.std.specs.List.{flat_map}
use mathlib.Core.List.{IsPrefix}
use Rattle.gaspi_types.specs.World.{ShapeValue}
use Rattle.gaspi_types.specs.declared.calls.Call.{Call}
use Rattle.gaspi_types.specs.declared.calls.Call.TheVariants.{End}
use Rattle.gaspi_types.specs.declared.events.Event.{Event}
use Rattle.gaspi_types.specs.declared.events.Event.TheVariants.{Called}
use Rattle.gaspi_types.specs.declared.replies.Reply.{Reply}
use Rattle.gaspi_types.specs.declared.replies.Reply.TheVariants.{Done}
use Rattle.gaspi_types.specs.declared.shapes.CallerId.{CallerId}
use Rattle.gaspi_model.specs.Step.{recorded_calls}
use Rattle.commit_table.specs.declared.views.PassView.{PassView}
use Rattle.rank_script.specs.Runs.{RunPosition, AtLine, at_first_line, advanced, stopped, Follows, IsStopped, end_pair, IsRun}
use Rattle.rank_script.specs.declared.scripts.RunStop.TheVariants as halts
use Rattle.rank_script.specs.declared.scripts.RunOutcome.{RunOutcome}
use Rattle.rank_script.specs.declared.scripts.RunOutcome.TheVariants as outcomes
use Rattle.rank_script.specs.declared.scripts.ScriptLine.{ScriptLine}
use Rattle.gaspi_world.specs.Attempts.{lacks_room_after, IsExtended}
use Rattle.gaspi_model.specs.CallerEvents.{events_of}
use Rattle.gaspi_world.specs.Calling.{AreLooks}
use Rattle.gaspi_world.specs.Waits.{HaveWaited}
use Rattle.gaspi_world.specs.declared.calling.Stop.{Stop}
use Rattle.gaspi_world.specs.declared.calling.Stop.TheVariants as stops
use Rattle.plain_schedule.specs.Joins.{AreJoinsFollowed}
use Rattle.gaspi_run.specs.Looks.{looks_along, HasLookAfter, AreWithin, AreByCall}

-- after what came of the present call: it goes on after its reply, and ends before a call that was not made
abbrev pub moved : RunPosition → Result Reply Stop → RunPosition
moved p (Ok reply) = advanced p reply
moved p (Err stops.EventLimit) = stopped p halts.Limit
moved p (Err stops.NoMemory) = stopped p halts.NoMemory

module _ (w : ShapeValue) (c : CallerId) (lines : List ScriptLine) where
  -- The line of that number is the one that a run comes to by all calls of the caller but its end. A look was made after a history that
  -- what is seen goes on from, which has all that the caller did but its end, and the caller's rank had no room for the line's call then.
  pub record LackedRoom {S : Type 0} (number : ℕ) (n : PassView S Event) : Type 0 where
    pub line : ScriptLine
    pub made : ℕ
    pub later : List ScriptLine
    pub is_line : line.number ≡ number
    pub history : List Event
    pub begins : IsPrefix history n.seen
    pub follows : Follows (at_first_line lines) (recorded_calls c.rank c.thread history) (AtLine line made later)
    pub events : events_of c history ++ Called c End Done ∷ [] ≡ n.mine
    pub looked : HasLookAfter history n.looks
    pub full : lacks_room_after w c line.call history ≡ true

  -- After a history the run had come to the line of that number, and the caller's rank had no room for the line's call.
  pub record WasFull (history : List Event) (number : ℕ) : Type 0 where
    pub line : ScriptLine
    pub made : ℕ
    pub later : List ScriptLine
    pub is_line : line.number ≡ number
    pub follows : Follows (at_first_line lines) (recorded_calls c.rank c.thread history) (AtLine line made later)
    pub full : lacks_room_after w c line.call history ≡ true

  -- why the run ended, where it was stopped for lack of room
  abbrev pub HasCause : {S : Type 0} → RunOutcome → PassView S Event → Type 0
  HasCause outcomes.Ended n = Unit {0}
  HasCause (outcomes.Failed number) n = Unit {0}
  HasCause (outcomes.Stuck number) n = Unit {0}
  HasCause (outcomes.Limit number) n = LackedRoom number n
  HasCause (outcomes.NoMemory number) n = Unit {0}

  -- The run was stopped before that call: it is the call of the line that the run comes to by all calls of the caller but its end.
  pub record IsStoppedBefore {S : Type 0} (outcome : RunOutcome) (n : PassView S Event) (call : Call) : Type 0 where
    pub line : ScriptLine
    pub made : ℕ
    pub later : List ScriptLine
    pub pairs : List (Call × Reply)
    pub follows : Follows (at_first_line lines) pairs (AtLine line made later)
    pub all : pairs ++ end_pair ≡ recorded_calls c.rank c.thread n.mine
    pub is_call : line.call ≡ call
    pub is_stopped : IsStopped line.number outcome

  -- The caller ran these lines and ended: its calls, the end among them, are a whole run of the lines with that outcome. Each of its
  -- joins is of the call that it makes next, or of the one before which the run was stopped. Its timeouts came only when the looks of
  -- their lines were spent, of which a call that blocks has `limit`. It made its looks call by call, those of the call before which it
  -- was stopped among them, for none more than its line has, and one for its end. Where its rank had no room at one of them for the
  -- call of the line that it had come to, that look was the last before the end's, and the run was stopped there for lack of room; and
  -- only there.
  pub record HasRun {S : Type 0} (limit : ℕ) (outcome : RunOutcome) (v n : PassView S Event) : Type 0 where
    pub goes_on : IsExtended w c v n
    pub run : IsRun lines (recorded_calls c.rank c.thread n.mine) outcome
    pub cause : HasCause outcome n
    pub unmade : Option Call
    pub stopped_before : (call : Call) → unmade ≡ Some call → IsStoppedBefore outcome n call
    pub followed : AreJoinsFollowed unmade n.mine
    pub waited : HaveWaited w c (looks_along limit (at_first_line lines) (recorded_calls c.rank c.thread n.mine)) n
    pub looks : List (List (List Event))
    pub last : List Event
    pub looked : AreLooks w c v n (flat_map (λ (ks : List (List Event)). ks) looks ++ last ∷ [])
    pub by_call : AreByCall c n.seen looks
    pub within : AreWithin looks (looks_along limit (at_first_line lines) (recorded_calls c.rank c.thread n.mine))
    pub full : (k : ℕ) (h : List Event) (number : ℕ) → slice_get (flat_map (λ (ks : List (List Event)). ks) looks) k ≡ Some h → WasFull h number
        → (outcome ≡ outcomes.Limit number) × (suc k ≡ length (flat_map (λ (ks : List (List Event)). ks) looks))
    pub at_limit : (number : ℕ) → outcome ≡ outcomes.Limit number → (k : ℕ) × (h : List Event) × (slice_get (flat_map (λ (ks : List (List Event)). ks) looks) k ≡ Some h) × WasFull h number
