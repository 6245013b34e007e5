-- What an attempt came to, of all its atomic steps at once.
use Rattle.std.specs.Prelude.{◌≡◌, ℕ, ◌≤◌, Some, List, [], ◌∷◌, ◌++◌, length}
use mathlib.Core.List.{IsPrefix}
use Rattle.commit_table.specs.declared.views.PassView.{PassView}
use Rattle.commit_table.specs.declared.views.LockOp.{LockOp}
use Rattle.commit_table.specs.declared.views.LockOp.TheVariants as lock_op
use Rattle.commit_table.specs.declared.views.LockRecord.{LockRecord}
use Rattle.commit_table.specs.Machine.{Machine, IsOwn}
use Rattle.commit_table.specs.LockHistory.{holder_in, lock_operations_by, Extends}
use Rattle.commit_table.specs.Views.{mine_after}

module _ {S X E : Type 0} (m : Machine X E) where
  -- the event was committed, once, after one look, and after a history that goes on from what was seen. The look was at no less than
  -- had been seen, and before the event's place
  pub record IsCommittedOnce (v : PassView S E) (e : E) (place : ℕ) (w : PassView S E) : Type 0 where
    pub before : List E
    pub seen : w.seen ≡ before ++ e ∷ []
    pub legal : m.Legal (before ++ e ∷ [])
    pub goes_on : IsPrefix v.seen before
    pub place_is : place ≡ length before
    pub own : IsOwn m w.party w.seen w.mine
    pub mine : w.mine ≡ mine_after (m.party e) v.mine e
    pub commits : w.commits ≡ v.commits ++ place ∷ []
    pub looks : (n : ℕ) × (w.looks ≡ v.looks ++ n ∷ []) × (length v.seen ≤ n) × (n ≤ place)
    pub missed : w.missed ≡ v.missed
    pub met : w.lock_history ≡ v.lock_history
    pub party : w.party ≡ v.party
    pub start : w.start ≡ v.start

  -- nothing was committed, and a shard was missed, of those that the attempt may miss
  pub record IsMissed (v : PassView S E) (May : ℕ → Type 0) (w : PassView S E) : Type 0 where
    pub shard : ℕ
    pub may : May shard
    pub missed : w.missed ≡ v.missed ++ shard ∷ []
    -- of the lock operations of all passes up to this miss, the miss is the newest. Those before it go on from what the pass's last
    -- miss showed, have of its party just its own lock operations, `earlier` of this attempt among them, and in them another party
    -- holds the shard. The attempt's own lock operations after the miss are `later`
    pub has_party : (p : ℕ) × (v.party ≡ Some p)
    pub before : List LockRecord
    pub first : (p : ℕ) → v.party ≡ Some p → w.lock_history ≡ record { shard = shard; party = p; op = lock_op.Missed } ∷ before
    pub met : Extends v.lock_history before
    pub added : (p : ℕ) → v.party ≡ Some p → (earlier : List (ℕ × LockOp)) × (later : List (ℕ × LockOp)) × (lock_operations_by p before ≡ earlier ++ v.lock_operations) × (w.lock_operations ≡ later ++ ((shard, lock_op.Missed) ∷ (earlier ++ v.lock_operations)))
    pub other : ℕ
    pub holds : holder_in before shard ≡ Some other
    pub apart : ¬ (v.party ≡ Some other)
    pub mine : w.mine ≡ v.mine
    pub commits : w.commits ≡ v.commits
    pub looks : w.looks ≡ v.looks
    pub seen : w.seen ≡ v.seen
    pub legal : m.Legal w.seen
    pub own : IsOwn m w.party w.seen w.mine
    pub party : w.party ≡ v.party
    pub start : w.start ≡ v.start

  -- nothing was committed, after one look at a history that goes on from what was seen
  pub record IsLookedOnly (v : PassView S E) (w : PassView S E) : Type 0 where
    pub goes_on : IsPrefix v.seen w.seen
    pub legal : m.Legal w.seen
    pub own : IsOwn m w.party w.seen w.mine
    pub looks : w.looks ≡ v.looks ++ length w.seen ∷ []
    pub mine : w.mine ≡ v.mine
    pub commits : w.commits ≡ v.commits
    pub missed : w.missed ≡ v.missed
    pub met : w.lock_history ≡ v.lock_history
    pub party : w.party ≡ v.party
    pub start : w.start ≡ v.start
