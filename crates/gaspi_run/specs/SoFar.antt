-- How far a caller has run its script, and that it has not ended. (own choice)
use Rattle.std.specs.Prelude.{◌≡◌, ◌⊎◌, ℕ, suc, true, List, [], ◌∷◌, ◌++◌, length, slice_get, None, Some}
use Rattle.std.specs.List.{flat_map}
use mathlib.Core.List.{IsPrefix}
use Rattle.gaspi_types.specs.World.{ShapeValue}
use Rattle.gaspi_types.specs.declared.calls.Call.TheVariants.{End}
use Rattle.gaspi_types.specs.declared.events.Event.{Event}
use Rattle.gaspi_types.specs.declared.replies.Reply.{Reply}
use Rattle.gaspi_types.specs.declared.shapes.CallerId.{CallerId}
use Rattle.gaspi_model.specs.Step.{recorded_calls}
use Rattle.commit_table.specs.declared.views.PassView.{PassView}
use Rattle.rank_script.specs.Runs.{RunPosition, AtLine, RunEnded, at_first_line, Follows, IsStopped}
use Rattle.rank_script.specs.declared.scripts.RunOutcome.{RunOutcome}
use Rattle.rank_script.specs.declared.scripts.RunOutcome.TheVariants.{Limit}
use Rattle.rank_script.specs.declared.scripts.ScriptLine.{ScriptLine}
use Rattle.gaspi_world.specs.Attempts.{lacks_room_after}
use Rattle.gaspi_model.specs.CallerEvents.{events_of}
use Rattle.gaspi_world.specs.Calling.{AreLooks}
use Rattle.gaspi_world.specs.Waits.{HaveWaited}
use Rattle.plain_schedule.specs.Joins.{AreJoinsFollowed, IsJoinOf}
use Rattle.gaspi_run.specs.Looks.{looks_in, looks_along, HasLookAfter, AreWithin, AreByCall}
use Rattle.gaspi_run.specs.Runs.{WasFull}

-- no call of the caller among these events is its end
abbrev pub HasNoEnd : CallerId → List Event → Type 0
HasNoEnd c events = (k : ℕ) (reply : Reply) → slice_get (recorded_calls c.rank c.thread events) k ≡ Some (End, reply) → ⊥

module _ {S : Type 0} (w : ShapeValue) (c : CallerId) (lines : List ScriptLine) where
  -- a history that what is seen goes on from, with all that the caller did, which was looked at, and after which its rank had no room for
  -- the line's call
  pub record IsFullAt (line : ScriptLine) (n : PassView S Event) : Type 0 where
    pub history : List Event
    pub begins : IsPrefix history n.seen
    pub events : events_of c history ≡ n.mine
    pub looked : HasLookAfter history n.looks
    pub full : lacks_room_after w c line.call history ≡ true

  -- the calls that were made lead there, each join is of the call after it, and the run was not stopped
  pub record IsAtPosition (p : RunPosition) (n : PassView S Event) : Type 0 where
    pub follows : Follows (at_first_line lines) (recorded_calls c.rank c.thread n.mine) p
    pub no_limit : (number : ℕ) → p ≡ RunEnded (Limit number) → ⊥
    pub followed : AreJoinsFollowed None n.mine

  -- The calls that were made lead to a line, before which the run was stopped with that outcome. Each join is of the call after it,
  -- and the last one may be of the line's.
  pub record IsStoppedAt (outcome : RunOutcome) (n : PassView S Event) : Type 0 where
    pub line : ScriptLine
    pub made : ℕ
    pub later : List ScriptLine
    pub follows : Follows (at_first_line lines) (recorded_calls c.rank c.thread n.mine) (AtLine line made later)
    pub is_stopped : IsStopped line.number outcome
    pub cause : outcome ≡ Limit line.number → IsFullAt line n
    pub before : List Event
    pub followed : AreJoinsFollowed None before
    pub joins : List Event
    pub joined : IsJoinOf c line.call joins
    pub mine : n.mine ≡ before ++ joins

  -- the calls that were made lead there, or the run was stopped
  abbrev pub IsAt : RunPosition → PassView S Event → Type 0
  IsAt p n = IsAtPosition p n ⊎ ((outcome : RunOutcome) × (p ≡ RunEnded outcome) × IsStoppedAt outcome n)

  -- each call that was made made no more of these looks than its line has, and there was room at each
  pub record HadRoomSoFar (limit : ℕ) (looks : List (List (List Event))) (n : PassView S Event) : Type 0 where
    pub each : length looks ≡ length (looks_along limit (at_first_line lines) (recorded_calls c.rank c.thread n.mine))
    pub within : AreWithin looks (looks_along limit (at_first_line lines) (recorded_calls c.rank c.thread n.mine))
    pub had_room : (k : ℕ) (h : List Event) (number : ℕ) → slice_get (flat_map (λ (ks : List (List Event)). ks) looks) k ≡ Some h → WasFull w c lines h number → ⊥

  -- So did the call of the line before which the run was stopped with that outcome, where there may have been no room at the last look.
  pub record WasStoppedAfter (limit : ℕ) (outcome : RunOutcome) (looks : List (List (List Event))) (n : PassView S Event) : Type 0 where
    pub line : ScriptLine
    pub made : ℕ
    pub later : List ScriptLine
    pub follows : Follows (at_first_line lines) (recorded_calls c.rank c.thread n.mine) (AtLine line made later)
    pub within : AreWithin looks (looks_along limit (at_first_line lines) (recorded_calls c.rank c.thread n.mine) ++ looks_in limit line.timeout ∷ [])
    pub full : (k : ℕ) (h : List Event) (number : ℕ) → slice_get (flat_map (λ (ks : List (List Event)). ks) looks) k ≡ Some h → WasFull w c lines h number
        → (outcome ≡ Limit number) × (suc k ≡ length (flat_map (λ (ks : List (List Event)). ks) looks))
    pub at_limit : (number : ℕ) → outcome ≡ Limit number → (k : ℕ) × (h : List Event) × (slice_get (flat_map (λ (ks : List (List Event)). ks) looks) k ≡ Some h) × WasFull w c lines h number

  -- the looks so far, of a run that goes on or ended by itself, or of one that was stopped
  abbrev pub LookedSoFar : ℕ → RunPosition → List (List (List Event)) → PassView S Event → Type 0
  LookedSoFar limit p looks n = (HadRoomSoFar limit looks n × ((number : ℕ) → p ≡ RunEnded (Limit number) → ⊥)) ⊎ ((outcome : RunOutcome) × (p ≡ RunEnded outcome) × WasStoppedAfter limit outcome looks n)

  -- The caller ran these lines so far, and has not ended.
  pub record HasRunTo (limit : ℕ) (p : RunPosition) (v n : PassView S Event) : Type 0 where
    pub seen : IsPrefix v.seen n.seen
    pub party : n.party ≡ v.party
    pub start : n.start ≡ v.start
    pub waited : HaveWaited w c (looks_along limit (at_first_line lines) (recorded_calls c.rank c.thread n.mine)) n
    pub active : HasNoEnd c n.mine
    pub comes : IsAt p n
    pub looks : List (List (List Event))
    pub looked : AreLooks w c v n (flat_map (λ (ks : List (List Event)). ks) looks)
    pub by_call : AreByCall c n.seen looks
    pub room : LookedSoFar limit p looks n
