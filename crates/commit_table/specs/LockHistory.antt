-- Who holds a shard: the takes, give-backs and misses of shards by all passes, the newest first. They exist in proofs alone.
use Rattle.std.specs.Prelude.{◌≡◌, ℕ, ◌<◌, ◌≤◌, ◌⊎◌, Bool, true, false, cond, eqb, List, [], ◌∷◌, ◌++◌, Option, None, Some}
use mathlib.Core.Option.{some}
use lib.ListN.{get_elem?}
use Rattle.commit_table.specs.declared.views.LockOp.{LockOp}
use Rattle.commit_table.specs.declared.views.LockOp.TheVariants.{Took, GaveBack, Missed}
use Rattle.commit_table.specs.declared.views.LockRecord.{LockRecord}
use Rattle.commit_table.specs.declared.views.PassView.{PassView}
use Rattle.commit_table.specs.declared.views.SeatView.{SeatView}

-- who holds a shard after a lock operation: where it is a lock operation on that shard, the party that took it, none where it was given back, and as
-- before where it was missed; else as before
abbrev pub holder_by : Bool → LockOp → ℕ → Option ℕ → Option ℕ
holder_by false op p before = before
holder_by true Took p before = Some p
holder_by true GaveBack p before = None
holder_by true Missed p before = before

-- the party that took a shard last, where it has not given it back since
abbrev pub holder_in : List LockRecord → ℕ → Option ℕ
holder_in [] i = None
holder_in (t ∷ ts) i = holder_by (eqb i t.shard) t.op t.party (holder_in ts i)

-- the lock operations of a party
abbrev pub lock_operations_by : ℕ → List LockRecord → List (ℕ × LockOp)
lock_operations_by p [] = []
lock_operations_by p (t ∷ ts) = cond (eqb p t.party) ((t.shard, t.op) ∷ lock_operations_by p ts) (lock_operations_by p ts)

-- these lock operations go on from those before
abbrev pub Extends : List LockRecord → List LockRecord → Type 0
Extends before records = (later : List LockRecord) × (records ≡ later ++ before)

module _ {S E : Type 0} where
  -- a shard that no view holds is held by no party in the lock operations; one that a view holds, by the view's party
  abbrev pub HolderAgrees : List (SeatView S E) → List LockRecord → ℕ → Option ℕ → Type 0
  HolderAgrees views records i None = holder_in records i ≡ None
  HolderAgrees views records i (Some id) = (v : SeatView S E) × (p : ℕ) × (get_elem? views id ≡ some v) × (v.known.party ≡ Some p) × (holder_in records i ≡ Some p)

  -- the lock operations of a party are those that the view which answers for it knows as its own, or remembers
  abbrev pub KnowsLockRecords : List LockRecord → SeatView S E → ℕ → Type 0
  KnowsLockRecords records v p =
      ((v.known.party ≡ Some p) × (lock_operations_by p records ≡ v.known.lock_operations))
      ⊎ (((v.first_party ≤ p) × (p < v.end_party) × (lock_operations_by p records ≡ []))
      ⊎ ((v.is_closer ≡ true) × (k : ℕ) × (w : PassView S E) × (get_elem? v.joined_passes k ≡ some w) × (w.party ≡ Some p) × (lock_operations_by p records ≡ w.lock_operations)))

  -- a party that no view answers for has no lock operations
  abbrev pub AreLockOperations : List (SeatView S E) → List LockRecord → ℕ → Option ℕ → Type 0
  AreLockOperations views records p None = lock_operations_by p records ≡ []
  AreLockOperations views records p (Some id) = (v : SeatView S E) × (get_elem? views id ≡ some v) × KnowsLockRecords records v p

  pub record LocksAgree (shards : ℕ) (views : List (SeatView S E)) (records : List LockRecord) (holder seat : ℕ → Option ℕ) : Type 0 where
    pub holders : (i : ℕ) → i < shards → HolderAgrees views records i (holder i)
    pub parties : (p : ℕ) → AreLockOperations views records p (seat p)
    -- what a view's last miss told goes on to what there is
    pub met : (id : ℕ) (v : SeatView S E) → get_elem? views id ≡ some v → Extends v.known.lock_history records
