-- What an attempt of a call came to.
use Rattle.std.specs.Prelude.{◌≡◌, ◌⊎◌, ℕ, Bool, true, false, List, [], ◌∷◌, ◌++◌, length, Option, None, Some, Result, Ok, Err}
use mathlib.Core.List.{IsPrefix}
use Rattle.gaspi_types.specs.World.{ShapeValue}
use Rattle.gaspi_types.specs.declared.calls.Call.{Call}
use Rattle.gaspi_types.specs.declared.events.Event.{Event}
use Rattle.gaspi_types.specs.declared.events.Event.TheVariants.{Called}
use Rattle.gaspi_types.specs.declared.groups.Args.{Args}
use Rattle.gaspi_types.specs.declared.replies.Ready.{Ready}
use Rattle.gaspi_types.specs.declared.replies.Ready.TheVariants as ready
use Rattle.gaspi_types.specs.declared.replies.Reply.{Reply}
use Rattle.gaspi_types.specs.declared.replies.Reply.TheVariants.{Timeout}
use Rattle.gaspi_types.specs.declared.shapes.CallerId.{CallerId}
use Rattle.gaspi_model.specs.Step.{reached, is_legal, is_pending, lacks_room_in, answer_in}
use Rattle.gaspi_model.specs.declared.states.State.{State}
use Rattle.gaspi_model.specs.declared.states.Why.{Why}
use Rattle.gaspi_model.specs.CollectiveCalls.{join_event}
use Rattle.timeout_state.specs.declared.budget.Look.{Look}
use Rattle.timeout_state.specs.declared.budget.Look.TheVariants.{More, Final}
use Rattle.commit_table.specs.Attempts.{IsMissed}
use Rattle.commit_table.specs.declared.views.PassView.{PassView}
use Rattle.gaspi_model.specs.CallerEvents.{events_of}
use Rattle.gaspi_world.specs.RankShards.{IsEither, call_other}
use Rattle.gaspi_world.specs.WorldMachine.{world_machine}
use Rattle.gaspi_world.specs.declared.attempts.Halt.{Halt}
use Rattle.gaspi_world.specs.declared.attempts.Halt.TheVariants.{Busy, NotYet, NoMemory, EventLimit}

-- neither refused nor ready: a collective may still join, or the call waits
abbrev pub is_unready : Option Ready → Bool
is_unready None = false
is_unready (Some (ready.Reply reply)) = false
is_unready (Some (ready.Join args)) = true
is_unready (Some ready.NotReady) = true

module _ (w : ShapeValue) (c : CallerId) (call : Call) where
  -- what a look at the call finds after a history; none after one that is not legal
  abbrev pub answer_after : List Event → Option Ready
  answer_after history = found_in (reached w history)
    where
      found_in : Result State Why → Option Ready
      found_in (Err why) = None
      found_in (Ok s) = answer_in s c.rank c.thread call

  -- after a history the caller's rank has no room for what the call needs
  abbrev pub lacks_room_after : List Event → Bool
  lacks_room_after history = full_in (reached w history)
    where
      full_in : Result State Why → Bool
      full_in (Err why) = false
      full_in (Ok s) = lacks_room_in s c call

  -- after a history a collective is pending for the caller on the group that the call names
  abbrev pub is_pending_after : List Event → Bool
  is_pending_after history = pending_in (reached w history)
    where
      pending_in : Result State Why → Bool
      pending_in (Err why) = false
      pending_in (Ok s) = is_pending s c.rank c.thread call

  -- the call may have joined its group after a history where a look at it found that it may, and none was pending then
  abbrev pub MayHaveJoined : List Event → List Event → Type 0
  MayHaveJoined history joins = (joins ≡ []) ⊎ ((args : Args) × (joins ≡ join_event c call args ∷ []) × (answer_after history ≡ Some (ready.Join args)))

-- These events were committed, one after another, and nothing else was.
pub record HasCommitted {S : Type 0} (events : List Event) (v n : PassView S Event) : Type 0 where
  pub places : List ℕ
  pub commits : n.commits ≡ v.commits ++ places
  pub many : length places ≡ length events

module _ {S : Type 0} (w : ShapeValue) (c : CallerId) where
  -- What a pass has seen goes on from what it had seen, is a legal history, and has of the caller just what the pass did.
  pub record IsExtended (v n : PassView S Event) : Type 0 where
    pub seen : IsPrefix v.seen n.seen
    pub legal : is_legal w n.seen ≡ true
    pub own : events_of c n.seen ≡ n.mine
    pub party : n.party ≡ v.party
    pub start : n.start ≡ v.start

  -- A look was made, after a history that goes on from what had been seen, that what is seen now goes on from, and in which the caller
  -- had done just what it had.
  pub record IsLook (v n : PassView S Event) (history : List Event) : Type 0 where
    pub later : IsPrefix v.seen history
    pub earlier : IsPrefix history n.seen
    pub own : events_of c history ≡ v.mine

  -- One look was made, and no shard was missed.
  pub record LookedOnce (v n : PassView S Event) (history : List Event) : Type 0 where
    pub looks : n.looks ≡ v.looks ++ length history ∷ []
    pub is_look : IsLook v n history
    pub missed : n.missed ≡ v.missed

  -- The call was recorded with its reply, once, after the one look, and its join before it where it had to join. What is seen ends with
  -- the call. It is a timeout only at the last look, and where the call was neither refused nor ready.
  pub record IsRecorded (call : Call) (look : Look) (reply : Reply) (v n : PassView S Event) : Type 0 where
    pub goes_on : IsExtended v n
    pub history : List Event
    pub looked : LookedOnce v n history
    pub before : List Event
    pub ends : n.seen ≡ before ++ Called c call reply ∷ []
    pub after_look : IsPrefix history before
    pub joins : List Event
    pub joined : MayHaveJoined w c call history joins
    pub mine : n.mine ≡ (v.mine ++ joins) ++ Called c call reply ∷ []
    pub commits : HasCommitted (joins ++ Called c call reply ∷ []) v n
    pub room : lacks_room_after w c call history ≡ false
    pub last : reply ≡ Timeout → look ≡ Final
    pub unready : reply ≡ Timeout → is_unready (answer_after w c call history) ≡ true

  -- The call is not ready, at a look that was not the last. It may have joined; a collective is pending then.
  pub record IsNotYet (call : Call) (look : Look) (v n : PassView S Event) : Type 0 where
    pub goes_on : IsExtended v n
    pub history : List Event
    pub looked : LookedOnce v n history
    pub joins : List Event
    pub joined : MayHaveJoined w c call history joins
    pub mine : n.mine ≡ v.mine ++ joins
    pub commits : HasCommitted joins v n
    pub room : lacks_room_after w c call history ≡ false
    pub more : look ≡ More
    pub unready : is_unready (answer_after w c call history) ≡ true
    pub still : answer_after w c call n.seen ≡ Some ready.NotReady

  -- The rank had no room for what the call needs.
  pub record IsAtLimit (call : Call) (v n : PassView S Event) : Type 0 where
    pub goes_on : IsExtended v n
    pub looked : LookedOnce v n n.seen
    pub mine : n.mine ≡ v.mine
    pub commits : n.commits ≡ v.commits
    pub full : lacks_room_after w c call n.seen ≡ true

  -- There was no memory. Nothing was committed.
  pub record IsOutOfMemory (call : Call) (v n : PassView S Event) : Type 0 where
    pub goes_on : IsExtended v n
    pub looked : LookedOnce v n n.seen
    pub mine : n.mine ≡ v.mine
    pub commits : n.commits ≡ v.commits
    pub room : lacks_room_after w c call n.seen ≡ false

  -- A shard of the call was missed, which another pass held, and no look was made.
  pub record IsBusy (call : Call) (v n : PassView S Event) : Type 0 where
    pub goes_on : IsExtended v n
    pub missed : IsMissed (world_machine w) v (IsEither c.rank (call_other w c call)) n

  -- what an attempt came to: recorded with a reply, or why not
  abbrev pub Attempted : Call → Look → PassView S Event → Result Reply Halt → PassView S Event → Type 0
  Attempted call look v (Ok reply) n = IsRecorded call look reply v n
  Attempted call look v (Err Busy) n = IsBusy call v n
  Attempted call look v (Err NotYet) n = IsNotYet call look v n
  Attempted call look v (Err EventLimit) n = IsAtLimit call v n
  Attempted call look v (Err NoMemory) n = IsOutOfMemory call v n
