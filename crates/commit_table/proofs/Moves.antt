-- A step that leaves the history keeps the rule: nothing moved, or one shard moved.
use Rattle.std.proofs.Common.{◌≡◌, ◌≢◌, ℕ, zero, ◌<◌, ◌⊎◌, inl, inr, ⊎_elim, cond, eqb, eq-eqb, ne_eqb, List, length, get_or, set, Option, None, Some, refl, ap, sym, subst, ◌∙◌, arith}
use mathlib.Core.Logic.{dite}
use mathlib.Core.Option.{Option as Maybe, some}
use native.Mathlib.Decide.{ℕ_discrete}
use lib.ListN.{get_elem?}
use Rattle.std.proofs.lemmas.List.{set-get_or, get_or-set_other}
use Rattle.std.proofs.Math.ListN.{length-set}
use Rattle.atomic_table.specs.Table.{State}
use Rattle.atomic_table.proofs.Lists.{at_set, set_else}
use Rattle.commit_table.specs.declared.views.SeatView.{SeatView}
use Rattle.commit_table.specs.Machine.{Machine}
use Rattle.commit_table.specs.declared.views.LockRecord.{LockRecord}
use Rattle.commit_table.specs.Calls.{word_of, slot_of}
use Rattle.commit_table.specs.Views.{held_at}
use Rattle.commit_table.specs.LockHistory.{Extends, KnowsLockRecords, LocksAgree}
use Rattle.commit_table.specs.Rule.{IsShard, AccountsForParty, IsParty, IsWhole, ViewFits, Rule}
use Rattle.commit_table.proofs.Lists.{at_here, one_there}
use Rattle.commit_table.proofs.LockHistories.{locks_kept}

module _ {S X E : Type 0} (m : Machine X E) (start : S) (n : ℕ) where
  abbrev pub V : Type 0
  V = SeatView S E

  abbrev pub St : Type 0
  St = State (Option X) V

  abbrev pub R : St → Type 0
  R = Rule m start n

  -- the table where the words are ws, the slots hs, and the seat id has the view w
  abbrev pub with_view : St → List ℕ → List (Maybe (Option X)) → ℕ → V → St
  with_view s ws hs id w = record { words = ws; homes = hs; views = set s.views id w }

  -- a shard that a step leaves alone
  pub shard_kept : (s : St) (h : List E) (ws : List ℕ) (hs : List (Maybe (Option X))) (id : ℕ) (v w : V) (j : ℕ)
      → get_elem? s.views id ≡ some v
      → get_or ws (word_of j) 0 ≡ get_or s.words (word_of j) 0 → get_elem? hs (slot_of j) ≡ get_elem? s.homes (slot_of j)
      → ((g : List E) → held_at v.known.held j ≡ Some g → held_at w.known.held j ≡ Some g) → (v.slot_out ≡ Some j → w.slot_out ≡ Some j)
      → (o : Option ℕ) → IsShard m start n s h j o → IsShard m start n (with_view s ws hs id w) h j o
  shard_kept s h ws hs id v w j at word home holds out None r = record { word = word ∙ r.word; value = r.value; slot = home ∙ r.slot; stands = r.stands }
  shard_kept s h ws hs id v w j at word home holds out (Some k) r = dite (ℕ_discrete k id)
      (λ same.
      let is : v ≡ r.view = one_there s.views id v r.view at (subst (λ (z : ℕ). get_elem? s.views z ≡ some r.view) same r.there) in
      record {
        word = word ∙ r.word;
        view = w;
        there = subst (λ (z : ℕ). get_elem? (set s.views id w) z ≡ some w) (sym same) (at_here s.views id w v at);
        upto = r.upto;
        held = holds r.upto (subst (λ (z : V). held_at z.known.held j ≡ Some r.upto) (sym is) r.held);
        begins = r.begins;
        agrees = r.agrees;
        slot = ⊎_elim (λ a. inl (out (subst (λ (z : V). z.slot_out ≡ Some j) (sym is) a))) (λ b. inr (b.0, home ∙ b.1)) r.slot;
      })
      (λ ne. record {
        word = word ∙ r.word;
        view = r.view;
        there = set_else s.views id k w ne ∙ r.there;
        upto = r.upto;
        held = r.held;
        begins = r.begins;
        agrees = r.agrees;
        slot = ⊎_elim (λ a. inl a) (λ b. inr (b.0, home ∙ b.1)) r.slot;
      })

  -- a party that a step leaves alone
  pub party_kept : (s : St) (h : List E) (ws : List ℕ) (hs : List (Maybe (Option X))) (id : ℕ) (v w : V) (p : ℕ)
      → get_elem? s.views id ≡ some v → (AccountsForParty m start n v p → AccountsForParty m start n w p)
      → (o : Option ℕ) → IsParty m start n s h p o → IsParty m start n (with_view s ws hs id w) h p o
  party_kept s h ws hs id v w p at answers None r = r
  party_kept s h ws hs id v w p at answers (Some k) r = dite (ℕ_discrete k id)
      (λ same.
      let is : v ≡ r.0 = one_there s.views id v r.0 at (subst (λ (z : ℕ). get_elem? s.views z ≡ some r.0) same r.1) in
      (w, subst (λ (z : ℕ). get_elem? (set s.views id w) z ≡ some w) (sym same) (at_here s.views id w v at), answers (subst (λ (z : V). AccountsForParty m start n z p) (sym is) r.2)))
      (λ ne. (r.0, set_else s.views id k w ne ∙ r.1, r.2))

  -- some view has seen the whole history, if it was this one also as it is now
  pub whole_kept : (views : List V) (h : List E) (id : ℕ) (v w : V) → get_elem? views id ≡ some v → (v.known.seen ≡ h → w.known.seen ≡ h) → IsWhole m start n views h → IsWhole m start n (set views id w) h
  whole_kept views h id v w at same r = dite (ℕ_discrete r.0 id)
      (λ is.
      let be : v ≡ r.1 = one_there views id v r.1 at (subst (λ (z : ℕ). get_elem? views z ≡ some r.1) is r.2) in
      (id, w, at_here views id w v at, same (ap (λ (z : V). z.known.seen) be ∙ r.3)))
      (λ ne. (r.0, r.1, set_else views id r.0 w ne ∙ r.2, r.3))

  -- the history stays, and each part of the rule is kept
  pub rebuild : (s : St) (r : R s) (id : ℕ) (v w : V) → get_elem? s.views id ≡ some v
      → (ws : List ℕ) (hs : List (Maybe (Option X))) (holder : ℕ → Option ℕ)
      → length ws ≡ length s.words → get_or ws 0 0 ≡ get_or s.words 0 0
      → (v.known.seen ≡ r.history → w.known.seen ≡ r.history)
      → ((j : ℕ) → j < m.shards → IsShard m start n (with_view s ws hs id w) r.history j (holder j))
      → ((p : ℕ) → AccountsForParty m start n v p → AccountsForParty m start n w p)
      → ((k : ℕ) (u : V) → k ≢ id → ViewFits m start n r.history r.holder r.seat k u → ViewFits m start n r.history holder r.seat k u)
      → ViewFits m start n r.history holder r.seat id w
      → (records : List LockRecord) → LocksAgree m.shards (set s.views id w) records holder r.seat
      → R (with_view s ws hs id w)
  rebuild s r id v w at ws hs holder size word seen shards answers others fits records locks = record {
    history = r.history;
    holder = holder;
    seat = r.seat;
    lock_history = records;
    size = size ∙ r.size;
    legal = r.legal;
    word = word ∙ r.word;
    whole = whole_kept s.views r.history id v w at seen r.whole;
    shards = shards;
    parties = λ p. party_kept s r.history ws hs id v w p at (answers p) (r.seat p) (r.parties p);
    views = λ k u there. ⊎_elim
        (λ t. subst (λ (z : ℕ). ViewFits m start n r.history holder r.seat z u) (sym t.0) (subst (λ (z : V). ViewFits m start n r.history holder r.seat id z) t.1 fits))
        (λ t. others k u t.0 (r.views k u t.1))
        (at_set s.views id k w u there);
    locks = locks;
  }

  -- nothing moved but the lock operations: the seat has another view, which holds and answers for the same
  pub still_with : (s : St) (r : R s) (id : ℕ) (v w : V) → get_elem? s.views id ≡ some v
      → (k : ℕ) → w.known.held ≡ v.known.held → w.slot_out ≡ v.slot_out → (v.known.seen ≡ r.history → w.known.seen ≡ r.history) → ((p : ℕ) → AccountsForParty m start n v p → AccountsForParty m start n w p)
      → ViewFits m start n r.history r.holder r.seat id w
      → (records : List LockRecord) → LocksAgree m.shards (set s.views id w) records r.holder r.seat
      → R (with_view s (set s.words k (get_or s.words k 0)) s.homes id w)
  still_with s r id v w at k held out seen answers fits records locks =
      subst (λ (ws : List ℕ). R (with_view s ws s.homes id w)) (sym (set-get_or s.words k 0))
      (rebuild s r id v w at s.words s.homes r.holder refl refl seen
      (λ j lt. shard_kept s r.history s.words s.homes id v w j at refl refl (λ g e. ap (λ z. held_at z j) held ∙ e) (λ e. out ∙ e) (r.holder j) (r.shards j lt))
      answers (λ k u ne f. f) fits records locks)

  -- nothing moved
  pub still : (s : St) (r : R s) (id : ℕ) (v w : V) → get_elem? s.views id ≡ some v
      → (k : ℕ) → w.known.held ≡ v.known.held → w.slot_out ≡ v.slot_out → (v.known.seen ≡ r.history → w.known.seen ≡ r.history) → ((p : ℕ) → AccountsForParty m start n v p → AccountsForParty m start n w p)
      → ViewFits m start n r.history r.holder r.seat id w
      → ((p : ℕ) → v.known.party ≡ Some p → w.known.party ≡ Some p) → ((p : ℕ) → KnowsLockRecords r.lock_history v p → KnowsLockRecords r.lock_history w p) → Extends w.known.lock_history r.lock_history
      → R (with_view s (set s.words k (get_or s.words k 0)) s.homes id w)
  still s r id v w at k held out seen answers fits party recalls met =
      still_with s r id v w at k held out seen answers fits r.lock_history (locks_kept m.shards s.views r.lock_history r.holder r.holder r.seat id v w at (λ i lt. refl) (λ i lt e. party) recalls met r.locks)

  abbrev pub updated : (ℕ → Option ℕ) → ℕ → Option ℕ → ℕ → Option ℕ
  updated f i o j = cond (eqb j i) o (f j)

  pub updated_here : (f : ℕ → Option ℕ) (i j : ℕ) (o : Option ℕ) → j ≡ i → updated f i o j ≡ o
  updated_here f i j o e = subst (λ b. cond b o (f j) ≡ o) (sym (eq-eqb j i e)) refl

  pub updated_else : (f : ℕ → Option ℕ) (i j : ℕ) (o : Option ℕ) → j ≢ i → updated f i o j ≡ f j
  updated_else f i j o ne = subst (λ b. cond b o (f j) ≡ f j) (sym (ne_eqb j i ne)) refl

  -- the view of another seat, where one shard changes hands that was free or this seat's
  pub fits_other : (h : List E) (holder seat : ℕ → Option ℕ) (i id : ℕ) (o : Option ℕ) (k : ℕ) (u : V) → k ≢ id
      → (holder i ≡ None) ⊎ (holder i ≡ Some id) → ViewFits m start n h holder seat k u → ViewFits m start n h (updated holder i o) seat k u
  fits_other h holder seat i id o k u ne was f = record {
    begun = f.begun;
    seen = f.seen;
    note_history = f.note_history;
    looks = f.looks;
    own_seen = f.own_seen;
    party = f.party;
    makes = f.makes;
    held = λ j g e. let old = f.held j g e in (
      old.0,
      dite (ℕ_discrete j i)
          (λ same. let mine : holder i ≡ Some k = ap holder (sym same) ∙ old.1 in absurd (⊎_elim (λ a. cc) (λ b. ne (cc)) was))
          (λ apart. updated_else holder i j o apart ∙ old.1),
    );
    none = f.none;
    is_closer = f.is_closer;
    joined_passes = f.joined_passes;
    closed = f.closed;
  }

  -- one shard moved, which was free or this seat's
  pub moved : (s : St) (r : R s) (id : ℕ) (v w : V) → get_elem? s.views id ≡ some v
      → (i b : ℕ) (hs : List (Maybe (Option X))) (o : Option ℕ)
      → (r.holder i ≡ None) ⊎ (r.holder i ≡ Some id)
      → ((j : ℕ) → j ≢ i → get_elem? hs (slot_of j) ≡ get_elem? s.homes (slot_of j))
      → ((j : ℕ) → j ≢ i → held_at w.known.held j ≡ held_at v.known.held j) → ((j : ℕ) → j ≢ i → v.slot_out ≡ Some j → w.slot_out ≡ Some j)
      → (v.known.seen ≡ r.history → w.known.seen ≡ r.history)
      → ((p : ℕ) → AccountsForParty m start n v p → AccountsForParty m start n w p)
      → IsShard m start n (with_view s (set s.words (word_of i) b) hs id w) r.history i o
      → ViewFits m start n r.history (updated r.holder i o) r.seat id w
      → (records : List LockRecord) → LocksAgree m.shards (set s.views id w) records (updated r.holder i o) r.seat
      → R (with_view s (set s.words (word_of i) b) hs id w)
  moved s r id v w at i b hs o was homes held out seen answers here fits records locks =
      rebuild s r id v w at (set s.words (word_of i) b) hs (updated r.holder i o) (length-set s.words (word_of i) b) (get_or-set_other s.words (word_of i) zero b 0 (λ e. absurd (omega arith))) seen
      (λ j lt. dite (ℕ_discrete j i)
      (λ same. subst (λ (z : ℕ). IsShard m start n (with_view s (set s.words (word_of i) b) hs id w) r.history z (updated r.holder i o z)) (sym same)
      (subst (λ (z : Option ℕ). IsShard m start n (with_view s (set s.words (word_of i) b) hs id w) r.history i z) (sym (updated_here r.holder i i o refl)) here))
      (λ ne. subst (λ (z : Option ℕ). IsShard m start n (with_view s (set s.words (word_of i) b) hs id w) r.history j z) (sym (updated_else r.holder i j o ne))
      (shard_kept s r.history (set s.words (word_of i) b) hs id v w j at (get_or-set_other s.words (word_of i) (word_of j) b 0 (λ e. ne (omega arith))) (homes j ne) (λ g e. held j ne ∙ e) (out j ne) (r.holder j) (r.shards j lt))))
      answers (λ k u ne f. fits_other r.history r.holder r.seat i id o k u ne was f) fits records locks
