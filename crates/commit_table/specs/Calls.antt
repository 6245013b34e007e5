-- What the calls of a commit table ask and promise.
use Rattle.std.specs.Prelude.{◌≡◌, ℕ, ◌+◌, ◌*◌, ◌-◌, ◌^◌, ◌<◌, true, eqb, List, [], ◌∷◌, ◌++◌, length, min, slice_get, slice_index, count_by, Option, None, Some}
use Rattle.std.specs.List.{list_any}
use mathlib.Core.List.{IsPrefix}
use Rattle.atomic_table.specs.Seated.{TableId}
use Rattle.commit_table.specs.declared.views.PassView.{PassView}
use Rattle.commit_table.specs.declared.views.LockRecord.{LockRecord}
use Rattle.commit_table.specs.declared.views.LockOp.TheVariants as lock_op
use Rattle.commit_table.specs.LockHistory.{holder_in, lock_operations_by, Extends}
use Rattle.commit_table.specs.Machine.{Machine, events_by, IsOwn}
use Rattle.commit_table.specs.Views.{held_at, after_look, after_commit}

-- a table: which one it is, the start that it was made with, and how many passes it made
pub record TableValue (S : Type 0) : Type 0 where
  pub table : TableId
  pub start : S
  pub passes : ℕ

-- a pass or a note: of which table it is, and what it knows
pub record PassValue (S E : Type 0) : Type 0 where
  pub table : TableId
  pub known : PassView S E

-- what is known of a closed table: its start, the whole history, and what each pass knew, in the order in which the passes were given
pub record TallyValue (S E : Type 0) : Type 0 where
  pub start : Option S
  pub journal : List E
  pub passes : List (PassView S E)

-- The journal word is word 0. Words and slots that are used are apart, so that no two are on one line of a processor's cache: the
-- index of a shard's word
abbrev pub word_of : ℕ → ℕ
word_of i = (i + 1) * 16

-- the index of a shard's slot
abbrev pub slot_of : ℕ → ℕ
slot_of i = i * 8

module _ {X : Type 0} where
  -- the values of the shards, each in its slot
  abbrev pub spread : List X → List (Option X)
  spread [] = []
  spread (x ∷ xs) = Some x ∷ None ∷ None ∷ None ∷ None ∷ None ∷ None ∷ None ∷ spread xs

-- a table has a word for the journal and one for each shard, and a slot for each shard
abbrev pub IsSized : TableId → ℕ → Type 0
IsSized id shards = (id.words ≡ word_of shards) × (id.slots ≡ slot_of shards)

-- how often a shard was missed, or the largest number of 64 bits where it was more often
abbrev pub misses_in : List ℕ → ℕ → ℕ
misses_in missed i = min (count_by (λ j. eqb j i) missed) (2 ^ 64 - 1)

-- a counter for each shard counts what was missed
abbrev pub Counts : List ℕ → List ℕ → Type 0
Counts counters missed = (i : ℕ) → i < length counters → slice_index counters i ≡ misses_in missed i

module _ {S E : Type 0} where
  -- a pass or a note is of this table, and began with its start
  abbrev pub IsOf : TableValue S → PassValue S E → Type 0
  IsOf t p = (p.table ≡ t.table) × (p.known.start ≡ Some t.start)

  -- a pass holds no shard
  abbrev pub HoldsNone : PassView S E → Type 0
  HoldsNone v = (i : ℕ) → held_at v.held i ≡ None

  -- a shard was missed: of the lock operations of all passes, this miss is the newest. Those before it go on from what the pass's last
  -- miss showed, have of its party just its own lock operations, and in them another party holds the shard
  pub record MissWitness (v : PassView S E) (i : ℕ) (records : List LockRecord) : Type 0 where
    pub has_party : (p : ℕ) × (v.party ≡ Some p)
    pub before : List LockRecord
    pub first : (p : ℕ) → v.party ≡ Some p → records ≡ record { shard = i; party = p; op = lock_op.Missed } ∷ before
    pub goes_on : Extends v.lock_history before
    pub own : (p : ℕ) → v.party ≡ Some p → lock_operations_by p before ≡ v.lock_operations
    pub other : ℕ
    pub holds : holder_in before i ≡ Some other
    pub apart : ¬ (v.party ≡ Some other)

  -- these are all the passes of a table, and none holds a shard
  abbrev pub AreWhole : TableValue S → List (PassValue S E) → Type 0
  AreWhole t passes = ((k : ℕ) (p : PassValue S E) → slice_get passes k ≡ Some p → IsOf t p × HoldsNone p.known)
      × ((party : ℕ) → party < t.passes → (k : ℕ) × (p : PassValue S E) × (slice_get passes k ≡ Some p) × (p.known.party ≡ Some party))

module _ {S X E : Type 0} (m : Machine X E) where
  -- what was seen is legal, and has of the pass's party just the pass's own events
  pub record HasSoundView (v : PassView S E) : Type 0 where
    pub legal : m.Legal v.seen
    pub own : IsOwn m v.party v.seen v.mine

  -- a shard was taken, and its value stands for the history g, which is legal and goes on from what was seen
  pub record ShardTaken (v : PassView S E) (i : ℕ) (x : X) (g : List E) : Type 0 where
    pub seen : IsPrefix v.seen g
    pub legal : m.Legal g
    pub stands : m.Stands i x g

  -- the history so far was seen, and its length is the number. It is legal and goes on from what was seen before, its events of the
  -- pass's party are the pass's own, and on each shard that the pass holds it is as it was when the shard was taken
  pub record Looked (v : PassView S E) (number : ℕ) (h : List E) (w : PassView S E) : Type 0 where
    pub is : w ≡ after_look v h
    pub number_is : number ≡ length h
    pub legal : m.Legal h
    pub seen : IsPrefix v.seen h
    pub own : IsOwn m v.party h v.mine
    pub held : (i : ℕ) (g : List E) → held_at v.held i ≡ Some g → IsPrefix g h × m.Agree i g h

  -- a pass may commit an event: it is the event's party, where that has one; the event may follow what was seen; and each
  -- of the event's shards is held, with a history that agrees with what was seen there
  pub record MayCommit (v : PassView S E) (e : E) : Type 0 where
    pub party : (p : ℕ) → m.party e ≡ Some p → v.party ≡ Some p
    pub legal : m.Legal (v.seen ++ e ∷ [])
    pub held : (i : ℕ) → list_any (eqb i) (m.shards_of v.seen e) ≡ true → (g : List E) × (held_at v.held i ≡ Some g) × m.Agree i v.seen g

  -- the event was committed at a place, after the history h, which goes on from what was seen and agrees with it on the event's
  -- shards. The pass has seen all that, and the events of its party there are its own. On each shard that it holds, of the event or
  -- not, what it has seen is as it holds the shard: so it may commit an event of another shard without a look
  pub record Committed (v : PassView S E) (e : E) (place : ℕ) (h : List E) (w : PassView S E) : Type 0 where
    pub is : w ≡ after_commit v h e (m.party e) (m.shards_of v.seen e)
    pub place_is : place ≡ length h
    pub legal : m.Legal (h ++ e ∷ [])
    pub seen : IsPrefix v.seen h
    pub agrees : (i : ℕ) → list_any (eqb i) (m.shards_of v.seen e) ≡ true → m.Agree i v.seen h
    pub own : IsOwn m v.party (h ++ e ∷ []) w.mine
    pub held : (i : ℕ) (g : List E) → held_at w.held i ≡ Some g → IsPrefix g (h ++ e ∷ []) × m.Agree i g (h ++ e ∷ [])

  -- the history is whole: it is legal, each pass has seen a prefix of it, the events of a pass's party are the pass's own, and no
  -- other party has any
  pub record Closed (journal : List E) (passes : List (PassView S E)) : Type 0 where
    pub legal : m.Legal journal
    pub seen : (k : ℕ) (v : PassView S E) → slice_get passes k ≡ Some v → IsPrefix v.seen journal
    pub own : (k : ℕ) (v : PassView S E) → slice_get passes k ≡ Some v → IsOwn m v.party journal v.mine
    pub others : (p : ℕ) → ((k : ℕ) (v : PassView S E) → slice_get passes k ≡ Some v → ¬ (v.party ≡ Some p)) → events_by m.party p journal ≡ []

-- the values of all shards, in order, stand for a history
pub record AreShards {X E : Type 0} (m : Machine X E) (values : List X) (h : List E) : Type 0 where
  pub count : length values ≡ m.shards
  pub stand : (i : ℕ) (x : X) → slice_get values i ≡ Some x → m.Stands i x h
