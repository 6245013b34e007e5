-- What each atomic step on the table says: of the step, the seat before, the number found, and the seat after. `of` is the machine of
-- a start.
use Rattle.std.specs.Prelude.{eqb, ◌≡◌, ℕ, ◌+◌, ◌<◌, ◌⊎◌, true, List, [], ◌∷◌, ◌++◌, length, Option, Some}
use Rattle.std.specs.List.{list_any}
use mathlib.Core.Option.{some}
use mathlib.Core.List.{IsPrefix}
use lib.ListN.{get_elem?}
use Rattle.atomic_table.specs.Table.{Me, Step}
use Rattle.commit_table.specs.declared.views.PassView.{PassView}
use Rattle.commit_table.specs.declared.views.SeatView.{SeatView}
use Rattle.commit_table.specs.declared.views.LockRecord.{LockRecord}
use Rattle.commit_table.specs.Machine.{Machine, events_by, IsOwn}
use Rattle.commit_table.specs.Calls.{word_of, slot_of, HasSoundView, MissWitness}
use Rattle.commit_table.specs.Views.{held_at, after_take, after_miss, after_give_back, after_look, after_commit, at_rest, with_slot_out, closed_seat}

module _ {S X E : Type 0} (of : S → Machine X E) where
  -- a fact about the machine of a view's start
  abbrev pub Of : PassView S E → (Machine X E → Type 0) → Type 0
  Of v P = (s : S) → v.start ≡ Some s → P (of s)

  -- A compare-exchange of a shard's word: it was free, and is now held with its value, which stands for a legal history; or another
  -- pass held it, and it was missed. Either way what was seen before is legal, and has of the pass's party just the pass's own events
  abbrev pub TakesShard : ℕ → PassView S E → ℕ → Me (Option X) (SeatView S E) → Type 0
  TakesShard i v found after = Of v (λ m. HasSoundView m v) × (((found ≡ 0) × ((x : X) × (g : List E) × (after ≡ (with_slot_out (after_take v i g) i, (slot_of i, Some x) ∷ [])) × IsPrefix v.seen g × Of v (λ m. m.Legal g × m.Stands i x g)))
      ⊎ ((found ≡ 1) × ((records : List LockRecord) × (after ≡ (at_rest (after_miss v i records), [])) × MissWitness v i records)))

  -- the slot of a held shard goes out with the seat
  abbrev pub FetchesSlot : ℕ → PassView S E → Me (Option X) (SeatView S E) → Type 0
  FetchesSlot i v after = (y : Option X) × (after ≡ (with_slot_out v i, (slot_of i, y) ∷ []))

  -- A load of the journal word: the history so far was seen. What was seen and heard before begins it
  pub record SeesHistory (m : Machine X E) (v : PassView S E) (heard : List E) (found : ℕ) (h : List E) : Type 0 where
    pub number : found ≡ length h
    pub legal : m.Legal h
    pub seen : IsPrefix v.seen h
    pub told : IsPrefix heard h
    pub own : IsOwn m v.party h v.mine
    -- on each shard that is held, the history is as it was when the shard was taken
    pub held : (i : ℕ) (g : List E) → held_at v.held i ≡ Some g → IsPrefix g h × m.Agree i g h

  -- a party is below n, the number of passes
  abbrev pub LooksOnce : ℕ → PassView S E → List E → ℕ → Me (Option X) (SeatView S E) → Type 0
  LooksOnce n v heard found after = (h : List E) × (after ≡ (at_rest (after_look v h), [])) × Of v (λ m. SeesHistory m v heard found h) × ((p : ℕ) → v.party ≡ Some p → p < n)

  -- An addition to the journal word: the event follows the history so far
  pub record AddsEvent (m : Machine X E) (v : PassView S E) (e : E) (found : ℕ) (h : List E) (w : PassView S E) : Type 0 where
    pub is : w ≡ after_commit v h e (m.party e) (m.shards_of v.seen e)
    pub number : found ≡ length h
    pub legal : m.Legal (h ++ e ∷ [])
    pub seen : IsPrefix v.seen h
    pub agrees : (i : ℕ) → list_any (eqb i) (m.shards_of v.seen e) ≡ true → m.Agree i v.seen h
    pub own : IsOwn m v.party (h ++ e ∷ []) w.mine
    -- on each shard that is held then, the event's and others, the history is as the seat holds it
    pub held : (i : ℕ) (g : List E) → held_at w.held i ≡ Some g → IsPrefix g (h ++ e ∷ []) × m.Agree i g (h ++ e ∷ [])

  -- a commit: the event was added after some history
  abbrev pub CommitsEvent : PassView S E → E → ℕ → Me (Option X) (SeatView S E) → Type 0
  CommitsEvent v e found after = (h : List E) × (w : PassView S E) × (after ≡ (at_rest w, [])) × Of v (λ m. AddsEvent m v e found h w)

  -- The last look: the history is whole, and of each pass that was taken in it has what that pass saw and did
  pub record EndsTable (m : Machine X E) (passes : List (PassView S E)) (h : List E) : Type 0 where
    pub legal : m.Legal h
    pub seen : (k : ℕ) (v : PassView S E) → get_elem? passes k ≡ some v → IsPrefix v.seen h
    pub own : (k : ℕ) (v : PassView S E) → get_elem? passes k ≡ some v → IsOwn m v.party h v.mine
    pub others : (p : ℕ) → ((k : ℕ) (v : PassView S E) → get_elem? passes k ≡ some v → ¬ (v.party ≡ Some p)) → events_by m.party p h ≡ []

  -- The atomic steps as `atomic_table` takes them: a take of a shard, or a miss
  abbrev pub takes : Step (Option X) → Me (Option X) (SeatView S E) → ℕ → Me (Option X) (SeatView S E) → Type 0
  takes step me found after = (i : ℕ) → step.word ≡ word_of i → TakesShard i me.0.known found after

  -- the slot of a held shard goes home
  abbrev pub returns_slot : Step (Option X) → Me (Option X) (SeatView S E) → ℕ → Me (Option X) (SeatView S E) → Type 0
  returns_slot step me found after = after ≡ (at_rest me.0.known, [])

  -- the slot of a held shard goes out with the seat
  abbrev pub fetches_slot : Step (Option X) → Me (Option X) (SeatView S E) → ℕ → Me (Option X) (SeatView S E) → Type 0
  fetches_slot step me found after = (i : ℕ) → step.word ≡ word_of i → FetchesSlot i me.0.known after

  -- a give-back
  abbrev pub frees_word : Step (Option X) → Me (Option X) (SeatView S E) → ℕ → Me (Option X) (SeatView S E) → Type 0
  frees_word step me found after = (i : ℕ) → step.word ≡ word_of i → after ≡ (at_rest (after_give_back me.0.known i), [])

  -- a look, of a table with n passes
  abbrev pub looks : ℕ → Step (Option X) → Me (Option X) (SeatView S E) → ℕ → Me (Option X) (SeatView S E) → Type 0
  looks n step me found after = LooksOnce n me.0.known me.0.note_history found after

  -- a commit of the one event of the list
  abbrev pub commits : List E → Step (Option X) → Me (Option X) (SeatView S E) → ℕ → Me (Option X) (SeatView S E) → Type 0
  commits told step me found after = (e : E) × (told ≡ e ∷ []) × CommitsEvent me.0.known e found after

  -- a new seat is made, which is to take in all passes
  abbrev pub opens_closer : Step (Option X) → Me (Option X) (SeatView S E) → ℕ → Me (Option X) (SeatView S E) → Type 0
  opens_closer step me found after = after ≡ (record me.0 { first_party = 0; end_party = 0; is_closer = true }, [])

  -- the last look of that seat
  abbrev pub looks_last : Step (Option X) → Me (Option X) (SeatView S E) → ℕ → Me (Option X) (SeatView S E) → Type 0
  looks_last step me found after = (s : S) → me.0.known.start ≡ Some s → (h : List E) × (after ≡ (closed_seat s h me.0.joined_passes, [])) × (found ≡ length h) × EndsTable (of s) me.0.joined_passes h
