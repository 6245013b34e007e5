-- What a try to make transfers of a rank came to.
use Rattle.std.specs.Prelude.{◌≡◌, ◌≢◌, ◌==◌, ◌<◌, ◌⊎◌, eqb, ℕ, Bool, true, false, List, [], ◌∷◌, ◌++◌, length, Some, Ok, slice_get}
use Rattle.std.specs.List.{list_any}
use mathlib.Core.List.{IsPrefix}
use Rattle.gaspi_types.specs.World.{ShapeValue}
use Rattle.gaspi_types.specs.declared.events.Event.{Event}
use Rattle.gaspi_types.specs.declared.events.Event.TheVariants.{Called, Joined, Take, Put}
use Rattle.gaspi_types.specs.declared.events.Transfer.{Transfer}
use Rattle.gaspi_types.specs.declared.entries.Entry.{Entry}
use Rattle.gaspi_model.specs.Shards.{numbers_of}
use Rattle.gaspi_model.specs.Step.{reached, is_active, is_legal, transfer_event}
use Rattle.gaspi_model.specs.Transfers.{transfers}
use Rattle.gaspi_model.specs.declared.states.State.{State}
use Rattle.commit_table.specs.Machine.{Machine, IsOwn}
use Rattle.commit_table.specs.Attempts.{IsCommittedOnce, IsMissed, IsLookedOnly}
use Rattle.commit_table.specs.Calls.{HoldsNone}
use Rattle.commit_table.specs.LockHistory.{holder_in, lock_operations_by, Extends}
use Rattle.commit_table.specs.declared.views.PassView.{PassView}
use Rattle.commit_table.specs.declared.views.LockOp.TheVariants as lock_op
use Rattle.commit_table.specs.declared.views.LockRecord.{LockRecord}
use Rattle.rank_node.specs.Fronts.{IsFront, front_entry, transfer_footprint}
use Rattle.gaspi_world.specs.Numbering.{by_ranks}
use Rattle.gaspi_world.specs.RankShards.{rank_other}
use Rattle.gaspi_world.specs.HeldShards.{Holds, IsCommitted}
use Rattle.gaspi_world.specs.WorldMachine.{world_machine}
use Rattle.gaspi_world.specs.declared.holding.HeldShards.{HeldShards}
use Rattle.gaspi_world.specs.declared.moving.Moving.{Moving}
use Rattle.gaspi_world.specs.declared.moving.Moving.TheVariants.{Moved, Busy, Empty, Ended}
use Rattle.gaspi_world.specs.declared.transfers.Tried as tried
use Rattle.gaspi_world.specs.declared.transfers.Tried.TheVariants.{Still, Ready}
use Rattle.gaspi_world.specs.declared.transfers.Tried.TheVariants as tries

-- an event is a take or a put of entries of this origin
abbrev pub is_transfer_of : ℕ → Event → Bool
is_transfer_of origin (Called c call reply) = false
is_transfer_of origin (Joined c id args) = false
is_transfer_of origin (Take o queue target number outcome) = o == origin
is_transfer_of origin (Put o queue target number outcome) = o == origin

module _ {S X E : Type 0} (m : Machine X E) where
  -- nothing was committed, one look was made, and a shard was missed that such a try may miss after what it saw. While it was missed, the
  -- pass held the origin's shard
  pub record MissedLooking (v : PassView S E) (origin : ℕ) (May : List E → ℕ → Type 0) (n : PassView S E) : Type 0 where
    pub shard : ℕ
    pub may : May n.seen shard
    pub missed : n.missed ≡ v.missed ++ shard ∷ []
    -- as of a miss without a look
    pub has_party : (p : ℕ) × (v.party ≡ Some p)
    pub before : List LockRecord
    pub first : (p : ℕ) → v.party ≡ Some p → n.lock_history ≡ record { shard = shard; party = p; op = lock_op.Missed } ∷ before
    pub met : Extends v.lock_history before
    -- the pass's own lock operations before the miss, and all of them: it took the origin's shard, missed the other one, and gave the
    -- first back
    pub tried : (p : ℕ) → v.party ≡ Some p → lock_operations_by p before ≡ (origin, lock_op.Took) ∷ v.lock_operations
    pub lock_operations : n.lock_operations ≡ (origin, lock_op.GaveBack) ∷ (shard, lock_op.Missed) ∷ (origin, lock_op.Took) ∷ v.lock_operations
    pub other : ℕ
    pub holds : holder_in before shard ≡ Some other
    pub apart : ¬ (v.party ≡ Some other)
    pub goes_on : IsPrefix v.seen n.seen
    pub legal : m.Legal n.seen
    pub own : IsOwn m n.party n.seen n.mine
    pub looks : n.looks ≡ v.looks ++ length n.seen ∷ []
    pub mine : n.mine ≡ v.mine
    pub commits : n.commits ≡ v.commits
    pub party : n.party ≡ v.party
    pub start : n.start ≡ v.start

module _ (w : ShapeValue) where
  -- after a history no transfer of an origin may come next
  abbrev pub HasNoEnabledTransfer : List Event → ℕ → Type 0
  HasNoEnabledTransfer history origin = (s : State) → reached w history ≡ Ok s → (k : ℕ) (t : Transfer) → slice_get (transfers s.limits s.posts) k ≡ Some t → t.origin ≢ origin

  -- after a history a thread of this rank is active
  abbrev pub HasActive : List Event → ℕ → Type 0
  HasActive history rank = (s : State) × (reached w history ≡ Ok s) × ((thread : ℕ) × (is_active s rank thread ≡ true))

  -- after a history no thread of this rank is active
  abbrev pub HaveEnded : List Event → ℕ → Type 0
  HaveEnded history rank = (s : State) → reached w history ≡ Ok s → (thread : ℕ) → is_active s rank thread ≡ false

  -- after a history a transfer of an origin may come next which has this shard
  pub record MayTransfer (origin : ℕ) (history : List Event) (shard : ℕ) : Type 0 where
    pub state : State
    pub reached_is : reached w history ≡ Ok state
    pub transfer : Transfer
    pub place : ℕ
    pub listed : slice_get (transfers state.limits state.posts) place ≡ Some transfer
    pub origin_is : transfer.origin ≡ origin
    pub among : list_any (eqb shard) (numbers_of (by_ranks w).number state (transfer_event state transfer)) ≡ true

  -- Busy: the origin's shard was missed, and no look was made; or, after one look, a transfer of the origin may come next, and one of its
  -- shards was missed while the origin's was held.
  abbrev pub IsBusyMove : {S : Type 0} → ℕ → PassView S Event → PassView S Event → Type 0
  IsBusyMove origin v n = IsMissed (world_machine w) v (λ i. i ≡ origin) n ⊎ MissedLooking (world_machine w) v origin (MayTransfer origin) n

  -- one transfer of the origin was committed; a shard was missed; or, after one look, nothing was committed, since no transfer of the
  -- origin may come next, and a thread of that rank has not ended, or all have
  abbrev pub Transfers : {S : Type 0} → ℕ → PassView S Event → Moving → PassView S Event → Type 0
  Transfers origin v Moved n = (e : Event) × (place : ℕ) × (is_transfer_of origin e ≡ true) × IsCommittedOnce (world_machine w) v e place n
  Transfers origin v Busy n = IsBusyMove origin v n
  Transfers origin v Empty n = IsLookedOnly (world_machine w) v n × HasNoEnabledTransfer n.seen origin × HasActive n.seen origin
  Transfers origin v Ended n = IsLookedOnly (world_machine w) v n × HasNoEnabledTransfer n.seen origin × HaveEnded n.seen origin

  -- a transfer is the front of a lane of the rank whose node is held, with the other node that it reaches
  pub record IsFrontHeld (t : Transfer) (h : HeldShards) : Type 0 where
    pub front : IsFront h.nodes.own.value.posts t
    pub own : h.own ≡ t.origin
    pub other : (e : Entry) → front_entry h.nodes.own.value.posts t ≡ Some e → h.other ≡ rank_other w.limits.ranks (transfer_footprint w.limits.ranks t e.kind)

  -- one transfer of the origin was committed, after what had been seen
  abbrev pub IsMovedBehind : {S : Type 0} → ℕ → PassView S Event → PassView S Event → Type 0
  IsMovedBehind origin v n = (e : Event) × (is_transfer_of origin e ≡ true) × IsCommitted w v e n

  -- what a try to take the shards of the next transfer of a rank came to; only Ready holds shards
  abbrev pub Tries : {S : Type 0} → ℕ → PassView S Event → tried.Tried → PassView S Event → Type 0
  Tries origin v tries.Busy n = HoldsNone n × IsBusyMove origin v n
  Tries origin v (Still true) n = HoldsNone n × IsLookedOnly (world_machine w) v n × HasNoEnabledTransfer n.seen origin × HaveEnded n.seen origin
  Tries origin v (Still false) n = HoldsNone n × IsLookedOnly (world_machine w) v n × HasNoEnabledTransfer n.seen origin × HasActive n.seen origin
  Tries origin v (Ready t h) n = Holds w h n × IsLookedOnly (world_machine w) v n × IsFrontHeld t h × (t.origin ≡ origin)

  -- transfers of the origin were committed at these places, one after another, and nothing else; there were looks, and there may have been
  -- misses
  pub record HasMoved {S : Type 0} (origin : ℕ) (v n : PassView S Event) : Type 0 where
    pub places : List ℕ
    pub commits : n.commits ≡ v.commits ++ places
    pub each : (k place : ℕ) → slice_get places k ≡ Some place → (e : Event) × (slice_get n.seen place ≡ Some e) × (is_transfer_of origin e ≡ true)
    pub seen : IsPrefix v.seen n.seen
    pub looks : IsPrefix v.looks n.looks
    pub missed : IsPrefix v.missed n.missed
    pub mine : n.mine ≡ v.mine
    pub party : n.party ≡ v.party
    pub start : n.start ≡ v.start

  -- as HasMoved, with one transfer at least
  abbrev pub HasMovedOne : {S : Type 0} → ℕ → PassView S Event → PassView S Event → Type 0
  HasMovedOne origin v n = (moved : HasMoved origin v n) × (0 < length moved.places)

  -- one transfer of the origin was committed, or several; otherwise as Transfers
  abbrev pub MovesOn : {S : Type 0} → ℕ → PassView S Event → Moving → PassView S Event → Type 0
  MovesOn origin v Moved n = HasMovedOne origin v n × (is_legal w n.seen ≡ true)
  MovesOn origin v Busy n = Transfers origin v Busy n
  MovesOn origin v Empty n = Transfers origin v Empty n
  MovesOn origin v Ended n = Transfers origin v Ended n
