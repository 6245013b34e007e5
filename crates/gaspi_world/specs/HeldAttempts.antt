-- What is done of a call while its pass holds the call's shards. Others may commit meanwhile, on other shards.
use Rattle.std.specs.Prelude.{◌≡◌, ℕ, ◌+◌, ◌-◌, Bool, true, false, not, nat_lt, List, [], ◌∷◌, ◌++◌, Some, Result, Ok, Err}
use mathlib.Core.List.{IsPrefix}
use Rattle.gaspi_types.specs.CallRows.{row_of, need_of}
use Rattle.gaspi_types.specs.World.{ShapeValue}
use Rattle.gaspi_types.specs.declared.calls.Call.{Call}
use Rattle.gaspi_types.specs.declared.events.Event.{Event}
use Rattle.gaspi_types.specs.declared.events.Event.TheVariants.{Called}
use Rattle.gaspi_types.specs.declared.groups.Args.{Args}
use Rattle.gaspi_types.specs.declared.replies.Ready.{Ready}
use Rattle.gaspi_types.specs.declared.replies.Ready.TheVariants as ready
use Rattle.gaspi_types.specs.declared.replies.Reply.{Reply}
use Rattle.gaspi_types.specs.declared.replies.Reply.TheVariants.{Timeout}
use Rattle.gaspi_types.specs.declared.shapes.CallerId.{CallerId}
use Rattle.gaspi_model.specs.Calls.{recorded_reply}
use Rattle.gaspi_model.specs.CollectiveCalls.{is_joining}
use Rattle.gaspi_model.specs.State.{owed, thread_at, is_running}
use Rattle.gaspi_model.specs.Step.{is_legal, is_pending_on}
use Rattle.timeout_state.specs.declared.budget.Look.{Look}
use Rattle.timeout_state.specs.declared.budget.Look.TheVariants.{More, Final}
use Rattle.commit_table.specs.Calls.{IsOf, PassValue, TableValue}
use Rattle.commit_table.specs.declared.views.PassView.{PassView}
use Rattle.rank_node.specs.Rooms.{ReplyFitsReserved, FitsReserved, IsReservedFor}
use Rattle.rank_node.specs.Values.{PostsValue}
use Rattle.rank_node.specs.declared.rooms.Room.{Room}
use Rattle.gaspi_world.specs.RankShards.{call_other}
use Rattle.gaspi_world.specs.Attempts.{is_unready, answer_after, lacks_room_after, MayHaveJoined, HasCommitted}
use Rattle.gaspi_world.specs.Callers.{IsPassOf}
use Rattle.gaspi_world.specs.HeldShards.{Holds, IsCommitted, AgreesOn}
use Rattle.gaspi_world.specs.declared.attempts.Halt.{Halt}
use Rattle.gaspi_world.specs.declared.attempts.Halt.TheVariants.{Busy, NotYet, NoMemory, EventLimit}
use Rattle.gaspi_world.specs.declared.holding.HeldShards.{HeldShards}
use Rattle.gaspi_world.specs.declared.starts.Start.{Start}

-- a call that is not ready is left for a later look, where there may be one
abbrev pub waits_for_later_look : Ready → Look → Bool
waits_for_later_look ready.NotReady More = true
waits_for_later_look ready.NotReady Final = false
waits_for_later_look (ready.Reply reply) look = false
waits_for_later_look (ready.Join args) look = false

-- the posts of a rank have no room for the events that a call of a thread needs (own choice)
abbrev pub is_full_for : PostsValue → ℕ → Call → Bool
is_full_for p thread call =
    nat_lt (p.limits.events - (p.posts.events + owed p.posts)) (need_of call (is_pending_on thread p.posts (row_of call).group) (not (is_running (thread_at p.posts thread))))

-- A pass of this table is that of a caller, and holds the shards of a call of the caller, with these nodes.
pub record IsHolder (t : TableValue Start) (c : CallerId) (call : Call) (h : HeldShards) (p : PassValue Start Event) : Type 0 where
  pub of_table : IsOf t p
  pub caller : IsPassOf t.start.shape c p.known
  pub held : Holds t.start.shape h p.known
  pub own : h.own ≡ c.rank
  pub other : h.other ≡ call_other t.start.shape c call

module _ (w : ShapeValue) (c : CallerId) (call : Call) where
  -- a look found this, with which the call may be recorded
  pub record MayRecord (found : Ready) (seen : List Event) : Type 0 where
    pub finds : answer_after w c call seen ≡ Some found
    pub unjoined : is_joining found ≡ false
    pub steps : is_legal w (seen ++ Called c call (recorded_reply found) ∷ []) ≡ true

  -- a look found that the call may join, and that there is room for it: so it is after each history that agrees with what was seen on the
  -- shards that are held
  pub record MayJoinAs {S : Type 0} (args : Args) (h : HeldShards) (v : PassView S Event) : Type 0 where
    pub finds : (k : List Event) → is_legal w k ≡ true → AgreesOn w h v k → answer_after w c call k ≡ Some (ready.Join args)
    pub room : (k : List Event) → is_legal w k ≡ true → AgreesOn w h v k → lacks_room_after w c call k ≡ false

  -- what was found fits the memory that is reserved for the call
  abbrev pub FitsMemory : Ready → HeldShards → Type 0
  FitsMemory found h = (room : Room) → IsReservedFor h.nodes.own.value.posts h.nodes.own.value.memory call room → FitsReserved found room

  -- a reply fits reserved memory, where what was found is one
  abbrev pub FoundFits : Ready → Room → Type 0
  FoundFits (ready.Reply reply) room = ReplyFitsReserved reply room
  FoundFits (ready.Join args) room = Unit {0}
  FoundFits ready.NotReady room = Unit {0}

module _ {S : Type 0} (w : ShapeValue) (c : CallerId) (call : Call) where
  -- a call was recorded as a look found it; or it is left for a later look, or memory ran out, and nothing has changed
  abbrev pub IsDecided : Ready → Look → PassView S Event → Result Reply Halt → PassView S Event → Type 0
  IsDecided found look v (Ok reply) n = (reply ≡ recorded_reply found) × (waits_for_later_look found look ≡ false) × IsCommitted w v (Called c call reply) n
  IsDecided found look v (Err NotYet) n = (waits_for_later_look found look ≡ true) × (n ≡ v)
  IsDecided found look v (Err NoMemory) n = n ≡ v
  IsDecided found look v (Err Busy) n = ⊥
  IsDecided found look v (Err EventLimit) n = ⊥

  -- the join, where there was one, and then the call, where it was recorded, were committed after what had been seen, and others may
  -- have committed between; what is seen ends with the last of them
  pub record CommittedWhileHeld (joins calls : List Event) (v n : PassView S Event) : Type 0 where
    pub before : List Event
    pub seen : n.seen ≡ before ++ calls
    pub later : IsPrefix v.seen before
    pub mine : n.mine ≡ (v.mine ++ joins) ++ calls
    pub commits : HasCommitted (joins ++ calls) v n
    pub joined : MayHaveJoined w c call v.seen joins
    pub looks : n.looks ≡ v.looks
    pub missed : n.missed ≡ v.missed
    pub party : n.party ≡ v.party
    pub start : n.start ≡ v.start

  -- what an attempt came to while its shards were held, after its look
  abbrev pub AttemptedWhileHeld : Look → PassView S Event → Result Reply Halt → PassView S Event → Type 0
  AttemptedWhileHeld look v (Ok reply) n =
      (joins : List Event) × CommittedWhileHeld joins (Called c call reply ∷ []) v n × (lacks_room_after w c call v.seen ≡ false)
      × (reply ≡ Timeout → look ≡ Final) × (reply ≡ Timeout → is_unready (answer_after w c call v.seen) ≡ true)
  AttemptedWhileHeld look v (Err NotYet) n =
      (joins : List Event) × CommittedWhileHeld joins [] v n × (lacks_room_after w c call v.seen ≡ false)
      × (look ≡ More) × (is_unready (answer_after w c call v.seen) ≡ true) × (answer_after w c call n.seen ≡ Some ready.NotReady)
  AttemptedWhileHeld look v (Err NoMemory) n = (n ≡ v) × (lacks_room_after w c call v.seen ≡ false)
  AttemptedWhileHeld look v (Err EventLimit) n = (n ≡ v) × (lacks_room_after w c call v.seen ≡ true)
  AttemptedWhileHeld look v (Err Busy) n = ⊥
