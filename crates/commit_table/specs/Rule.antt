-- The rule of a commit table: what holds between any two steps, of its words, its slots and what each seat knows.
-- Word 0 is the journal word, each shard has a word, and its slot holds the value of the shard while it is free.
use Rattle.std.specs.Prelude.{◌≡◌, ℕ, ◌<◌, ◌≤◌, ◌⊎◌, true, List, [], length, slice_index, All, Option, None, Some}
use mathlib.Core.Option.{some}
use mathlib.Core.List.{IsPrefix}
use lib.ListN.{get_elem?}
use Rattle.atomic_table.specs.Table.{State}
use Rattle.commit_table.specs.declared.views.PassView.{PassView}
use Rattle.commit_table.specs.declared.views.SeatView.{SeatView}
use Rattle.commit_table.specs.Machine.{Machine, events_by, IsOwn}
use Rattle.commit_table.specs.declared.views.LockRecord.{LockRecord}
use Rattle.commit_table.specs.Calls.{word_of, slot_of}
use Rattle.commit_table.specs.Views.{held_at}
use Rattle.commit_table.specs.LockHistory.{LocksAgree}

module _ {S X E : Type 0} (m : Machine X E) (start : S) (n : ℕ) where
  -- a free shard: its word is 0, and its slot has a value that stands for the history
  pub record Free (s : State (Option X) (SeatView S E)) (h : List E) (i : ℕ) : Type 0 where
    pub word : slice_index s.words (word_of i) ≡ 0
    pub value : X
    pub slot : get_elem? s.homes (slot_of i) ≡ some (some (Some value))
    pub stands : m.Stands i value h

  -- a held shard: its word is 1, and the view `id` holds it, with a beginning of the history that agrees with the whole
  -- on the shard. Its slot is at home, or out with that seat
  pub record Held (s : State (Option X) (SeatView S E)) (h : List E) (i id : ℕ) : Type 0 where
    pub word : slice_index s.words (word_of i) ≡ 1
    pub view : SeatView S E
    pub there : get_elem? s.views id ≡ some view
    pub upto : List E
    pub held : held_at view.known.held i ≡ Some upto
    pub begins : IsPrefix upto h
    pub agrees : m.Agree i upto h
    pub slot : (view.slot_out ≡ Some i) ⊎ ((y : Option X) × (get_elem? s.homes (slot_of i) ≡ some (some y)))

  abbrev pub IsShard : State (Option X) (SeatView S E) → List E → ℕ → Option ℕ → Type 0
  IsShard s h i None = Free s h i
  IsShard s h i (Some id) = Held s h i id

  -- a view answers for a party: it has it, is to make its pass, or remembers it of a pass that it took in
  abbrev pub RemembersParty : List (PassView S E) → ℕ → Type 0
  RemembersParty passes p = (k : ℕ) × (v : PassView S E) × (get_elem? passes k ≡ some v) × (v.party ≡ Some p)

  abbrev pub AccountsForParty : SeatView S E → ℕ → Type 0
  AccountsForParty v p = (v.known.party ≡ Some p) ⊎ (((v.first_party ≤ p) × (p < v.end_party)) ⊎ ((v.is_closer ≡ true) × RemembersParty v.joined_passes p))

  -- a party that no view answers for has no events
  abbrev pub IsParty : State (Option X) (SeatView S E) → List E → ℕ → Option ℕ → Type 0
  IsParty s h p None = events_by m.party p h ≡ []
  IsParty s h p (Some id) = (v : SeatView S E) × (get_elem? s.views id ≡ some v) × AccountsForParty v p

  -- some view has seen the whole history
  abbrev pub IsWhole : List (SeatView S E) → List E → Type 0
  IsWhole views h = (id : ℕ) × (v : SeatView S E) × (get_elem? views id ≡ some v) × (v.known.seen ≡ h)

  -- a pass that was taken in: what it had seen begins what the seat has seen, and its events are its party's
  pub record JoinedPassFits (h upto : List E) (seat : ℕ → Option ℕ) (id : ℕ) (v : PassView S E) : Type 0 where
    pub seen : IsPrefix v.seen upto
    pub party : (p : ℕ) → v.party ≡ Some p → (p < n) × (seat p ≡ Some id) × (events_by m.party p h ≡ v.mine)

  -- the view of the seat `id`
  pub record ViewFits (h : List E) (holder seat : ℕ → Option ℕ) (id : ℕ) (v : SeatView S E) : Type 0 where
    pub begun : (s : S) → v.known.start ≡ Some s → s ≡ start
    pub seen : IsPrefix v.known.seen h
    -- what it remembers of a join begins what it has seen
    pub note_history : IsPrefix v.note_history v.known.seen
    pub looks : All (λ k. k ≤ length v.known.seen) v.known.looks
    -- what it has seen has all its own events, and no other of its party
    pub own_seen : IsOwn m v.known.party v.known.seen v.known.mine
    -- its party is no other view's, and the party's events are its own
    pub party : (p : ℕ) → v.known.party ≡ Some p → (p < n) × (seat p ≡ Some id) × (events_by m.party p h ≡ v.known.mine)
    -- where it is to make passes, it has no party and its parties have no events
    pub makes : (p : ℕ) → v.first_party ≤ p → p < v.end_party → (p < n) × (seat p ≡ Some id) × (events_by m.party p h ≡ []) × (v.known.party ≡ None)
    -- what it holds, no other holds, and without a party it holds nothing
    pub held : (i : ℕ) (g : List E) → held_at v.known.held i ≡ Some g → (i < m.shards) × (holder i ≡ Some id)
    pub none : v.known.party ≡ None → (i : ℕ) → held_at v.known.held i ≡ None
    -- it takes in all passes, and then no other has a party
    pub is_closer : v.is_closer ≡ true → v.known.party ≡ None
    pub joined_passes : v.is_closer ≡ true → (k : ℕ) (w : PassView S E) → get_elem? v.joined_passes k ≡ some w → JoinedPassFits h v.known.seen seat id w
    pub closed : v.closed ≡ true → (v.is_closer ≡ true) × (v.known.seen ≡ h) × ((p : ℕ) → p < n → RemembersParty v.joined_passes p)

  pub record Rule (s : State (Option X) (SeatView S E)) : Type 0 where
    -- the history, which view holds a shard, which answers for a party, and who took and gave back shards so far
    pub history : List E
    pub holder : ℕ → Option ℕ
    pub seat : ℕ → Option ℕ
    pub lock_history : List LockRecord
    pub size : length s.words ≡ word_of m.shards
    pub legal : m.Legal history
    pub word : slice_index s.words 0 ≡ length history
    pub whole : IsWhole s.views history
    pub shards : (i : ℕ) → i < m.shards → IsShard s history i (holder i)
    pub parties : (p : ℕ) → IsParty s history p (seat p)
    pub views : (id : ℕ) (v : SeatView S E) → get_elem? s.views id ≡ some v → ViewFits history holder seat id v
    pub locks : LocksAgree m.shards s.views lock_history holder seat
