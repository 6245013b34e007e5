-- What a call came to, which may look more than once.
use Rattle.std.specs.Prelude.{◌≡◌, ℕ, ◌+◌, ◌<◌, Bool, true, false, List, [], ◌∷◌, ◌++◌, map, length, slice_get, Some, Result, Ok, Err}
use mathlib.Core.List.{IsPrefix}
use Rattle.gaspi_types.specs.CallRows.{is_collective, row_of}
use Rattle.gaspi_types.specs.World.{ShapeValue}
use Rattle.gaspi_types.specs.declared.calls.Call.{Call}
use Rattle.gaspi_types.specs.declared.calls.Timeout as timeouts
use Rattle.gaspi_types.specs.declared.events.Event.{Event}
use Rattle.gaspi_types.specs.declared.events.Event.TheVariants.{Called}
use Rattle.gaspi_types.specs.declared.replies.Reply.{Reply}
use Rattle.gaspi_types.specs.declared.replies.Reply.TheVariants.{Timeout}
use Rattle.gaspi_types.specs.declared.shapes.CallerId.{CallerId}
use Rattle.timeout_state.specs.Looks.{looks_of}
use Rattle.commit_table.specs.declared.views.PassView.{PassView}
use Rattle.gaspi_world.specs.Attempts.{is_unready, answer_after, lacks_room_after, is_pending_after, MayHaveJoined, IsExtended, HasCommitted}
use Rattle.commit_table.specs.Calls.{TableValue, PassValue, IsOf, HoldsNone}
use Rattle.gaspi_model.specs.CallerEvents.{events_of}
use Rattle.gaspi_world.specs.RankShards.{IsEither, call_other}
use Rattle.gaspi_world.specs.Callers.{IsPassOf}
use Rattle.gaspi_world.specs.declared.calling.Stop.{Stop}
use Rattle.gaspi_world.specs.declared.starts.Start.{Start}
use Rattle.gaspi_world.specs.declared.calling.Stop.TheVariants.{NoMemory, EventLimit}

module _ (w : ShapeValue) (c : CallerId) (call : Call) where
  -- at each of these looks the call was neither refused nor ready
  abbrev pub AreUnready : List (List Event) → Type 0
  AreUnready histories = (k : ℕ) (h : List Event) → slice_get histories k ≡ Some h → is_unready (answer_after w c call h) ≡ true

  -- at each of these looks the caller's rank had room for what the call needs
  abbrev pub HadRoomAtLooks : List (List Event) → Type 0
  HadRoomAtLooks histories = (k : ℕ) (h : List Event) → slice_get histories k ≡ Some h → lacks_room_after w c call h ≡ false

  -- at each of these looks a collective was pending for its caller
  abbrev pub ArePending : List (List Event) → Type 0
  ArePending histories = (k : ℕ) (h : List Event) → slice_get histories k ≡ Some h → is_collective call ≡ true → is_pending_after w c call h ≡ true

  -- it may have joined at the first look; a collective is pending at each later one
  abbrev pub JoinedFirst : List (List Event) → List Event → Type 0
  JoinedFirst [] joins = joins ≡ []
  JoinedFirst (first ∷ others) joins = MayHaveJoined w c call first joins × ArePending others

module _ {S : Type 0} (w : ShapeValue) (c : CallerId) where
  -- these shards were missed, which are the call's own
  pub record HasMissed (call : Call) (v n : PassView S Event) : Type 0 where
    pub shards : List ℕ
    pub missed : n.missed ≡ v.missed ++ shards
    pub own : (k i : ℕ) → slice_get shards k ≡ Some i → IsEither c.rank (call_other w c call) i

  -- Looks were made, in order, each after a history that goes on from what had been seen, and that what is seen now goes on from.
  pub record AreLooks (v n : PassView S Event) (histories : List (List Event)) : Type 0 where
    pub looks : n.looks ≡ v.looks ++ map length histories
    pub between : (k : ℕ) (h : List Event) → slice_get histories k ≡ Some h → IsPrefix v.seen h × IsPrefix h n.seen

  -- The call was recorded with its reply, once, after all its looks, and what is seen ends with it. It took no more looks than its
  -- timeout has. At the earlier ones it was neither refused nor ready. At each look, the last one too, its rank had room for it. A
  -- timeout comes when all looks are spent, and the call is neither refused nor ready at the last one. No shard was missed but the
  -- call's own.
  pub record IsCalled (call : Call) (timeout : timeouts.Timeout) (reply : Reply) (v n : PassView S Event) : Type 0 where
    pub goes_on : IsExtended w c v n
    pub earlier : List (List Event)
    pub last : List Event
    pub looks : AreLooks v n (earlier ++ last ∷ [])
    pub within : (most : ℕ) → looks_of timeout ≡ Some most → length earlier < most
    pub unready : AreUnready w c call earlier
    pub joins : List Event
    pub joined : JoinedFirst w c call (earlier ++ last ∷ []) joins
    pub before : List Event
    pub ends : n.seen ≡ before ++ Called c call reply ∷ []
    pub after_looks : (k : ℕ) (h : List Event) → slice_get (earlier ++ last ∷ []) k ≡ Some h → IsPrefix h before
    pub mine : n.mine ≡ (v.mine ++ joins) ++ Called c call reply ∷ []
    pub commits : HasCommitted (joins ++ Called c call reply ∷ []) v n
    pub missed : HasMissed call v n
    pub had_room : HadRoomAtLooks w c call earlier
    pub room : lacks_room_after w c call last ≡ false
    pub spent : reply ≡ Timeout → looks_of timeout ≡ Some (length earlier + 1)
    pub timely : reply ≡ Timeout → is_unready (answer_after w c call last) ≡ true

  -- The call was not recorded, after a last look at which its rank had no room for what it needs, or had. At the earlier looks the call
  -- was neither refused nor ready, and its rank had room for it. There were no more looks than the timeout has. Where there was no room
  -- at the last, nothing was seen since that look. No shard was missed but the call's own.
  pub record IsStopped (call : Call) (timeout : timeouts.Timeout) (full : Bool) (v n : PassView S Event) : Type 0 where
    pub goes_on : IsExtended w c v n
    pub earlier : List (List Event)
    pub last : List Event
    pub looks : AreLooks v n (earlier ++ last ∷ [])
    pub within : (most : ℕ) → looks_of timeout ≡ Some most → length earlier < most
    pub unready : AreUnready w c call earlier
    pub joins : List Event
    pub joined : JoinedFirst w c call (earlier ++ last ∷ []) joins
    pub mine : n.mine ≡ v.mine ++ joins
    pub commits : HasCommitted joins v n
    pub missed : HasMissed call v n
    pub had_room : HadRoomAtLooks w c call earlier
    pub room : lacks_room_after w c call last ≡ full
    pub now : full ≡ true → last ≡ n.seen

  -- how a call ended: out of memory only at a call that may take memory
  abbrev pub Calls : Call → timeouts.Timeout → PassView S Event → Result Reply Stop → PassView S Event → Type 0
  Calls call timeout v (Ok reply) n = IsCalled call timeout reply v n
  Calls call timeout v (Err EventLimit) n = IsStopped call timeout true v n
  Calls call timeout v (Err NoMemory) n = ((row_of call).takes_memory ≡ true) × IsStopped call timeout false v n

  -- what holds between two looks of a call
  pub record HasWaited (call : Call) (earlier : List (List Event)) (v n : PassView S Event) : Type 0 where
    pub seen : IsPrefix v.seen n.seen
    pub party : n.party ≡ v.party
    pub start : n.start ≡ v.start
    pub looks : AreLooks v n earlier
    pub unready : AreUnready w c call earlier
    pub had_room : HadRoomAtLooks w c call earlier
    pub joins : List Event
    pub joined : JoinedFirst w c call earlier joins
    pub mine : n.mine ≡ v.mine ++ joins
    pub commits : HasCommitted joins v n
    pub missed : HasMissed call v n
    -- once there was a look
    pub own : (k : ℕ) (h : List Event) → slice_get earlier k ≡ Some h → events_of c n.seen ≡ n.mine
    pub pending : (k : ℕ) (h : List Event) → slice_get earlier k ≡ Some h → is_collective call ≡ true → is_pending_after w c call n.seen ≡ true

-- a pass of a world that holds no shard may be used by its caller
abbrev pub MayCall : TableValue Start → PassValue Start Event → Type 0
MayCall t p = IsOf t p × HoldsNone p.known × ((c : CallerId) × IsPassOf t.start.shape c p.known)

-- what came of one call by a caller with its pass, which stays a pass of its world and holds no shard
abbrev pub CallsBy : TableValue Start → Call → timeouts.Timeout → PassValue Start Event → Result Reply Stop → PassValue Start Event → Type 0
CallsBy t call timeout p result q =
    (q.table ≡ p.table) × HoldsNone q.known × ((c : CallerId) → IsPassOf t.start.shape c p.known → Calls t.start.shape c call timeout p.known result q.known)
