-- The steps on a shard's word keep the rule: it is taken or missed, its slot goes home or out, and it is freed.
use Rattle.std.proofs.Common.{◌≡◌, ◌≢◌, ℕ, ◌<◌, ◌≤◌, ◌⊎◌, inl, inr, true, false, eqb, List, [], ◌∷◌, length, get_or, set, All, Option, None, Some, refl, ap, sym, subst, ◌∙◌, arith}
use mathlib.Core.Logic.{dite}
use mathlib.Core.Option.{some, none}
use mathlib.Core.List.{IsPrefix}
use native.Mathlib.Decide.{ℕ_discrete}
use lib.ListN.{get_elem?}
use prog.Atomic.{either}
use Rattle.std.proofs.lemmas.List.{get_or-set_same}
use Rattle.atomic_table.specs.Table.{State, Me, Act, keeps, takes as carries, gives, Valid, stepped, carried_after, Allows, step}
use Rattle.atomic_table.proofs.Lists.{set_here, set_else, exchanged}
use Rattle.commit_table.specs.declared.views.PassView.{PassView}
use Rattle.commit_table.specs.declared.views.SeatView.{SeatView}
use Rattle.commit_table.specs.Machine.{Machine, Laws, events_by, IsOwn}
use Rattle.commit_table.specs.declared.views.LockRecord.{LockRecord}
use Rattle.commit_table.specs.declared.views.LockOp.TheVariants as lock_op
use Rattle.commit_table.specs.LockHistory.{HolderAgrees}
use Rattle.commit_table.specs.Views.{held_at, after_take, after_miss, after_give_back, at_rest, with_slot_out}
use Rattle.commit_table.specs.Rule.{Free, Held, IsShard, ViewFits, Rule}
use Rattle.commit_table.specs.Calls.{word_of, slot_of, HasSoundView, MissWitness}
use Rattle.commit_table.specs.Steps.{Of, TakesShard, FetchesSlot, takes, returns_slot, fetches_slot, frees_word}
use Rattle.commit_table.proofs.Lists.{prefix_self, at_here, one_there, held_here, held_else}
use Rattle.commit_table.proofs.LockHistories.{own_lock_operations, lock_record_made, lock_record_missed, locks_kept}
use Rattle.commit_table.proofs.Moves.{with_view, still_with, moved, updated, updated_here, updated_else}

module _ {S X E : Type 0} (of : S → Machine X E) (laws : (s : S) → Laws (of s)) (start : S) (n : ℕ) where
  abbrev pub m : Machine X E
  m = of start

  abbrev pub K : Type 0
  K = PassView S E

  abbrev pub St : Type 0
  St = State (Option X) (SeatView S E)

  abbrev pub R : St → Type 0
  R = Rule m start n

  abbrev pub Mine : Type 0
  Mine = Me (Option X) (SeatView S E)

  -- a view between two calls, or within one
  abbrev pub resting : K → Option ℕ → List E → SeatView S E
  resting v out heard = record { known = v; slot_out = out; note_history = heard; first_party = 0; end_party = 0; is_closer = false; joined_passes = []; closed = false }

  pub rest_fits : (h : List E) (holder seat : ℕ → Option ℕ) (id : ℕ) (v : K) (out : Option ℕ) (heard : List E)
      → ((s : S) → v.start ≡ Some s → s ≡ start) → IsPrefix v.seen h → IsPrefix heard v.seen → All (λ k. k ≤ length v.seen) v.looks → IsOwn m v.party v.seen v.mine
      → ((p : ℕ) → v.party ≡ Some p → (p < n) × (seat p ≡ Some id) × (events_by m.party p h ≡ v.mine))
      → ((i : ℕ) (g : List E) → held_at v.held i ≡ Some g → (i < m.shards) × (holder i ≡ Some id))
      → (v.party ≡ None → (i : ℕ) → held_at v.held i ≡ None)
      → ViewFits m start n h holder seat id (resting v out heard)
  rest_fits h holder seat id v out heard begun seen told looks own party held bare = record {
    begun = begun;
    seen = seen;
    note_history = told;
    looks = looks;
    own_seen = own;
    party = party;
    makes = λ p low high. absurd (omega arith);
    held = held;
    none = bare;
    is_closer = λ e. absurd cc;
    joined_passes = λ e. absurd cc;
    closed = λ e. absurd cc;
  }

  -- a fact about the machine of the table's start is one about the machine of the view's
  pub told : (s : St) (r : R s) (id : ℕ) (v : SeatView S E) → get_elem? s.views id ≡ some v → (P : Machine X E → Type 0) → P m → Of of v.known P
  told s r id v at P p st e = subst (λ z. P (of z)) (sym ((r.views id v at).begun st e)) p

  -- what a view has seen is legal, and has its own events
  pub sound : (s : St) (r : R s) (id : ℕ) (v : SeatView S E) → get_elem? s.views id ≡ some v → HasSoundView m v.known
  sound s r id v at =
      let f = r.views id v at in
      record { legal = (laws start).beginning v.known.seen f.seen.0 (subst (λ h. m.Legal h) (sym f.seen.1) r.legal); own = f.own_seen }

  free_shard : (s : St) (h : List E) (i : ℕ) (o : Option ℕ) → IsShard m start n s h i o → get_or s.words (word_of i) 0 ≡ 0 → (o ≡ None) × Free m start n s h i
  free_shard s h i None f z = (refl, f)
  free_shard s h i (Some k) f z = absurd (let a = f.word in omega (arith, a, z))

  held_word : (s : St) (h : List E) (i : ℕ) (o : Option ℕ) → IsShard m start n s h i o → get_or s.words (word_of i) 0 ≢ 0 → get_or s.words (word_of i) 0 ≡ 1
  held_word s h i None f z = absurd (z f.word)
  held_word s h i (Some k) f z = f.word

  -- what the rule says of a shard that the seat holds
  pub own_shard : (s : St) (r : R s) (id : ℕ) (v : SeatView S E) → get_elem? s.views id ≡ some v → (i : ℕ) (g : List E) → held_at v.known.held i ≡ Some g
      → (i < m.shards) × (r.holder i ≡ Some id) × IsPrefix g r.history × m.Agree i g r.history × (get_or s.words (word_of i) 0 ≡ 1) × ((v.slot_out ≡ Some i) ⊎ ((y : Option X) × (get_elem? s.homes (slot_of i) ≡ some (some y))))
  own_shard s r id v at i g held =
      let own = (r.views id v at).held i g held in
      let d : Held m start n s r.history i id = subst (λ o. IsShard m start n s r.history i o) own.1 (r.shards i own.0) in
      let same : v ≡ d.view = one_there s.views id v d.view at d.there in
      let upto : d.upto ≡ g = (let a = d.held in let b : held_at d.view.known.held i ≡ Some g = subst (λ (z : SeatView S E). held_at z.known.held i ≡ Some g) same held in cc) in (
        own.0,
        own.1,
        subst (λ z. IsPrefix z r.history) upto d.begins,
        subst (λ z. m.Agree i z r.history) upto d.agrees,
        d.word,
        subst (λ (z : SeatView S E). (z.slot_out ≡ Some i) ⊎ ((y : Option X) × (get_elem? s.homes (slot_of i) ≡ some (some y)))) (sym same) d.slot,
      )

  -- who holds a shard holds it still
  held_still : (s : St) (r : R s) (id i : ℕ) → r.holder i ≡ Some id → (j : ℕ) → j < m.shards → updated m start n r.holder i (Some id) j ≡ r.holder j
  held_still s r id i mine j lt = dite (ℕ_discrete j i)
      (λ same. updated_here m start n r.holder i j (Some id) same ∙ (sym mine ∙ ap r.holder (sym same)))
      (λ ne. updated_else m start n r.holder i j (Some id) ne)

  -- the party that holds a shard, for the view that holds it
  own_taker : (s : St) (r : R s) (id : ℕ) (v : SeatView S E) → get_elem? s.views id ≡ some v → (i : ℕ) → i < m.shards → r.holder i ≡ Some id → (p : ℕ) × (v.known.party ≡ Some p)
  own_taker s r id v at i lt mine =
      let t : HolderAgrees s.views r.lock_history i (Some id) = subst (λ o. HolderAgrees s.views r.lock_history i o) mine (r.locks.holders i lt) in
      let be : v ≡ t.0 = one_there s.views id v t.0 at t.2 in
      (t.1, subst (λ (z : SeatView S E). z.known.party ≡ Some t.1) (sym be) t.3)

  -- a shard whose word is not 0 is held by a pass
  taker_of : (s : St) (records : List LockRecord) (h : List E) (i : ℕ) (o : Option ℕ) → IsShard m start n s h i o → HolderAgrees s.views records i o → get_or s.words (word_of i) 0 ≢ 0 → (k : ℕ) × (o ≡ Some k) × HolderAgrees s.views records i (Some k)
  taker_of s records h i None f t z = absurd (z f.word)
  taker_of s records h i (Some k) f t z = (k, refl, t)

  -- another pass holds a shard that was missed
  lock_history_other : (s : St) (r : R s) (id i p : ℕ) (v : K) → get_elem? s.views id ≡ some (at_rest v) → i < m.shards → v.party ≡ Some p → held_at v.held i ≡ None → get_or s.words (word_of i) 0 ≢ 0 → MissWitness v i (record { shard = i; party = p; op = lock_op.Missed } ∷ r.lock_history)
  lock_history_other s r id i p v at lt party free miss =
      let f = r.views id (at_rest v) at in
      let t = taker_of s r.lock_history r.history i (r.holder i) (r.shards i lt) (r.locks.holders i lt) miss in
      let other = t.2 in
      record {
        has_party = (p, party);
        before = r.lock_history;
        first = λ q its. let same : p ≡ q = cc in ap (λ (z : ℕ). let t : LockRecord = record { shard = i; party = z; op = lock_op.Missed } in t ∷ r.lock_history) same;
        goes_on = r.locks.met id (at_rest v) at;
        own = λ q its. own_lock_operations s.views r.lock_history q id (at_rest v) at refl refl (r.seat q) (f.party q its).1 (r.locks.parties q);
        other = other.1;
        holds = other.4;
        apart = λ its.
            let mine = (f.party other.1 its).1 in
            let theirs = ((r.views t.0 other.0 other.2).party other.1 other.3).1 in
            let same : t.0 ≡ id = cc in
            let d : Held m start n s r.history i id = subst (λ o. IsShard m start n s r.history i o) (t.1 ∙ ap Some same) (r.shards i lt) in
            let be : at_rest v ≡ d.view = one_there s.views id (at_rest v) d.view at d.there in
            let held : held_at v.held i ≡ Some d.upto = subst (λ (z : SeatView S E). held_at z.known.held i ≡ Some d.upto) (sym be) d.held in
            absurd cc;
      }

  abbrev pub Goes : St → ℕ → ℕ → Mine → (Mine → Type 0) → ℕ → Type 0
  Goes s k id me then y = (w : SeatView S E) × (a : Act (Option X)) × Valid s.homes me.1 a × R (stepped s k y id me.1 w a) × then (w, carried_after me.1 a)

  same_takes : (i j x : ℕ) (v : K) (after : Mine) → TakesShard of i v x after → word_of i ≡ word_of j → TakesShard of j v x after
  same_takes i j x v after t e = subst (λ z. TakesShard of z v x after) (let q : i ≡ j = omega arith in q) t

  take_rest : (slots id i : ℕ) (v : K) (p : ℕ) → i < m.shards → v.party ≡ Some p → held_at v.held i ≡ None
      → Allows R slots id (at_rest v, []) (word_of i) (λ x. either (eqb x 0) 1 x) (takes of (step slots (word_of i) 0 1 none) (at_rest v, []))
  take_rest slots id i v p lt party free s r wide at _ =
      let h = r.history in
      let f = r.views id (at_rest v) at in
      let x : ℕ = get_or s.words (word_of i) 0 in
      let known : Of of v (λ z. HasSoundView z v) = told s r id (at_rest v) at (λ z. HasSoundView z v) (sound s r id (at_rest v) at) in
      let then : Mine → Type 0 = takes of (step slots (word_of i) 0 1 none) (at_rest v, []) x in
      exchanged x 0 1 (λ y. Goes s (word_of i) id (at_rest v, []) then y)
      (λ hit.
      let is = free_shard s h i (r.holder i) (r.shards i lt) hit in
      let w = with_slot_out (after_take v i h) i in
      let here : Held m start n (with_view m start n s (set s.words (word_of i) 1) (set s.homes (slot_of i) none) id w) h i id = record {
        word = get_or-set_same s.words (word_of i) 1 0 (let z = r.size in omega (arith, z));
        view = w;
        there = at_here s.views id w (at_rest v) at;
        upto = h;
        held = held_here v.held i (Some h);
        begins = prefix_self h;
        agrees = (laws start).agree_self i h;
        slot = inl refl;
      } in
      let fits = rest_fits h (updated m start n r.holder i (Some id)) r.seat id (after_take v i h) (Some i) [] f.begun f.seen f.note_history f.looks f.own_seen f.party
      (λ j g e. dite (ℕ_discrete j i)
      (λ same. (subst (λ z. z < m.shards) (sym same) lt, updated_here m start n r.holder i j (Some id) same))
      (λ ne. let old = f.held j g (sym (held_else v.held i j (Some h) ne) ∙ e) in (old.0, updated_else m start n r.holder i j (Some id) ne ∙ old.1)))
      (λ e. absurd cc) in (
        w,
        carries (slot_of i) (Some is.1.value),
        is.1.slot,
        moved m start n s r id (at_rest v) w at i 1 (set s.homes (slot_of i) none) (Some id) (inl is.0)
            (λ j ne. set_else s.homes (slot_of i) (slot_of j) none (λ e. ne (omega arith))) (λ j ne. held_else v.held i j (Some h) ne) (λ j ne e. absurd cc) (λ e. e) (λ q a. a) here fits
            (record { shard = i; party = p; op = lock_op.Took } ∷ r.lock_history) (lock_record_made m.shards s.views r.lock_history r.holder r.seat i p id (at_rest v) w true at party party refl refl refl refl (f.party p party).1 r.locks),
        λ j e. same_takes i j x v (w, (slot_of i, Some is.1.value) ∷ []) (known, inl (hit, (is.1.value, h, refl, f.seen, told s r id (at_rest v) at (λ z. z.Legal h × z.Stands i is.1.value h) (r.legal, is.1.stands)))) e,
      ))
      (λ miss.
      let records : List LockRecord = record { shard = i; party = p; op = lock_op.Missed } ∷ r.lock_history in
      let w = at_rest (after_miss v i records) in
      let fits = rest_fits h r.holder r.seat id (after_miss v i records) None [] f.begun f.seen f.note_history f.looks f.own_seen f.party f.held f.none in (
        w,
        keeps,
        tt,
        still_with m start n s r id (at_rest v) w at (word_of i) refl refl (λ e. e) (λ q a. a) fits records
            (lock_record_missed m.shards s.views r.lock_history r.holder r.seat i p id (at_rest v) w at party party refl refl refl refl (f.party p party).1 r.locks),
        λ j e. same_takes i j x v (w, []) (known, inr (held_word s h i (r.holder i) (r.shards i lt) miss, (records, refl, lock_history_other s r id i p v at lt party free miss))) e,
      ))

  park_rest : (slots id i : ℕ) (v : K) (y : Option X) (g : List E) → slots ≡ slot_of m.shards → held_at v.held i ≡ Some g
      → Allows R slots id (with_slot_out v i, (slot_of i, y) ∷ []) (word_of i) (λ x. x) (returns_slot of (step slots (word_of i) 0 0 none) (with_slot_out v i, (slot_of i, y) ∷ []))
  park_rest slots id i v y g sized held s r wide at _ =
      let h = r.history in
      let f = r.views id (with_slot_out v i) at in
      let own = own_shard s r id (with_slot_out v i) at i g held in
      let x : ℕ = get_or s.words (word_of i) 0 in
      let w = at_rest v in
      let room : slot_of i < length s.homes = let lt = own.0 in omega (arith, wide, sized) in
      let here : Held m start n (with_view m start n s (set s.words (word_of i) x) (set s.homes (slot_of i) (some y)) id w) h i id = record {
        word = get_or-set_same s.words (word_of i) x 0 (let lt = own.0 in let z = r.size in omega (arith, z)) ∙ own.4;
        view = w;
        there = at_here s.views id w (with_slot_out v i) at;
        upto = g;
        held = held;
        begins = own.2;
        agrees = own.3;
        slot = inr (y, set_here s.homes (slot_of i) (some y) room);
      } in
      let fits = rest_fits h (updated m start n r.holder i (Some id)) r.seat id v None [] f.begun f.seen f.note_history f.looks f.own_seen f.party
      (λ j k e. let old = f.held j k e in (old.0, dite (ℕ_discrete j i) (λ same. updated_here m start n r.holder i j (Some id) same) (λ ne. updated_else m start n r.holder i j (Some id) ne ∙ old.1)))
      f.none in (
        w,
        gives,
        tt,
        moved m start n s r id (with_slot_out v i) w at i x (set s.homes (slot_of i) (some y)) (Some id) (inr own.1)
            (λ j ne. set_else s.homes (slot_of i) (slot_of j) (some y) (λ e. ne (omega arith))) (λ j ne. refl) (λ j ne e. absurd (ne (cc))) (λ e. e) (λ q a. a) here fits
            r.lock_history (locks_kept m.shards s.views r.lock_history r.holder (updated m start n r.holder i (Some id)) r.seat id (with_slot_out v i) w at (held_still s r id i own.1) (λ j lt e q its. its) (λ q a. a) (r.locks.met id (with_slot_out v i) at) r.locks),
        refl,
      )

  fetch_home : (s : St) (i : ℕ) (v : K) → (((at_rest v).slot_out ≡ Some i) ⊎ ((y : Option X) × (get_elem? s.homes (slot_of i) ≡ some (some y)))) → (y : Option X) × (get_elem? s.homes (slot_of i) ≡ some (some y))
  fetch_home s i v (inl e) = absurd cc
  fetch_home s i v (inr y) = y

  fetch_rest : (slots id i : ℕ) (v : K) (g : List E) → held_at v.held i ≡ Some g
      → Allows R slots id (at_rest v, []) (word_of i) (λ x. x) (fetches_slot of (step slots (word_of i) 0 0 none) (at_rest v, []))
  fetch_rest slots id i v g held s r wide at _ =
      let h = r.history in
      let f = r.views id (at_rest v) at in
      let own = own_shard s r id (at_rest v) at i g held in
      let x : ℕ = get_or s.words (word_of i) 0 in
      let w = with_slot_out v i in
      let home = fetch_home s i v own.5 in
      let here : Held m start n (with_view m start n s (set s.words (word_of i) x) (set s.homes (slot_of i) none) id w) h i id = record {
        word = get_or-set_same s.words (word_of i) x 0 (let lt = own.0 in let z = r.size in omega (arith, z)) ∙ own.4;
        view = w;
        there = at_here s.views id w (at_rest v) at;
        upto = g;
        held = held;
        begins = own.2;
        agrees = own.3;
        slot = inl refl;
      } in
      let fits = rest_fits h (updated m start n r.holder i (Some id)) r.seat id v (Some i) [] f.begun f.seen f.note_history f.looks f.own_seen f.party
      (λ j k e. let old = f.held j k e in (old.0, dite (ℕ_discrete j i) (λ same. updated_here m start n r.holder i j (Some id) same) (λ ne. updated_else m start n r.holder i j (Some id) ne ∙ old.1)))
      f.none in (
        w,
        carries (slot_of i) home.0,
        home.1,
        moved m start n s r id (at_rest v) w at i x (set s.homes (slot_of i) none) (Some id) (inr own.1)
            (λ j ne. set_else s.homes (slot_of i) (slot_of j) none (λ e. ne (omega arith))) (λ j ne. refl) (λ j ne e. absurd cc) (λ e. e) (λ q a. a) here fits
            r.lock_history (locks_kept m.shards s.views r.lock_history r.holder (updated m start n r.holder i (Some id)) r.seat id (at_rest v) w at (held_still s r id i own.1) (λ j lt e q its. its) (λ q a. a) (r.locks.met id (at_rest v) at) r.locks),
        λ j e. subst (λ z. FetchesSlot of z v (w, (slot_of i, home.0) ∷ [])) (let q : i ≡ j = omega arith in q) (home.0, refl),
      )

  free_rest : (slots id i : ℕ) (v : K) (x : X) (g : List E) → slots ≡ slot_of m.shards → held_at v.held i ≡ Some g → m.Stands i x g
      → Allows R slots id (with_slot_out v i, (slot_of i, Some x) ∷ []) (word_of i) (λ _. 0) (λ _. frees_word of (step slots (word_of i) 0 0 none) (with_slot_out v i, (slot_of i, Some x) ∷ []) 0)
  free_rest slots id i v x g sized held stands s r wide at _ =
      let h = r.history in
      let f = r.views id (with_slot_out v i) at in
      let own = own_shard s r id (with_slot_out v i) at i g held in
      let w = at_rest (after_give_back v i) in
      let taker = own_taker s r id (with_slot_out v i) at i own.0 own.1 in
      let room : slot_of i < length s.homes = let lt = own.0 in omega (arith, wide, sized) in
      let here : Free m start n (with_view m start n s (set s.words (word_of i) 0) (set s.homes (slot_of i) (some (Some x))) id w) h i = record {
        word = get_or-set_same s.words (word_of i) 0 0 (let lt = own.0 in let z = r.size in omega (arith, z));
        value = x;
        slot = set_here s.homes (slot_of i) (some (Some x)) room;
        stands = (laws start).stands i x g h stands own.3;
      } in
      let fits = rest_fits h (updated m start n r.holder i None) r.seat id (after_give_back v i) None [] f.begun f.seen f.note_history f.looks f.own_seen f.party
      (λ j k e. dite (ℕ_discrete j i)
      (λ same. let z : held_at ((i, None) ∷ v.held) j ≡ None = subst (λ q. held_at ((i, None) ∷ v.held) q ≡ None) (sym same) (held_here v.held i None) in absurd cc)
      (λ ne. let old = f.held j k (sym (held_else v.held i j None ne) ∙ e) in (old.0, updated_else m start n r.holder i j None ne ∙ old.1)))
      (λ e j. dite (ℕ_discrete j i)
      (λ same. subst (λ q. held_at ((i, None) ∷ v.held) q ≡ None) (sym same) (held_here v.held i None))
      (λ ne. held_else v.held i j None ne ∙ f.none e j)) in (
        w,
        gives,
        tt,
        moved m start n s r id (with_slot_out v i) w at i 0 (set s.homes (slot_of i) (some (Some x))) None (inr own.1)
            (λ j ne. set_else s.homes (slot_of i) (slot_of j) (some (Some x)) (λ e. ne (omega arith))) (λ j ne. held_else v.held i j None ne) (λ j ne e. absurd (ne (cc))) (λ e. e) (λ q a. a) here fits
            (record { shard = i; party = taker.0; op = lock_op.GaveBack } ∷ r.lock_history) (lock_record_made m.shards s.views r.lock_history r.holder r.seat i taker.0 id (with_slot_out v i) w false at taker.1 taker.1 refl refl refl refl (f.party taker.0 taker.1).1 r.locks),
        λ j e. let P : ℕ → Type 0 = λ z. ◌≡◌ {A = Mine} (w, []) (at_rest (after_give_back v z), []) in subst P (let q : i ≡ j = omega arith in q) refl,
      )

  pub take_allowed : (slots id i : ℕ) (me : Mine) → me ≡ (at_rest me.0.known, []) → (p : ℕ) → i < m.shards → me.0.known.party ≡ Some p → held_at me.0.known.held i ≡ None
      → Allows R slots id me (word_of i) (λ x. either (eqb x 0) 1 x) (takes of (step slots (word_of i) 0 1 none) me)
  take_allowed slots id i me ready p lt party free =
      subst (λ z. Allows R slots id z (word_of i) (λ x. either (eqb x 0) 1 x) (takes of (step slots (word_of i) 0 1 none) z)) (sym ready) (take_rest slots id i me.0.known p lt party free)

  pub park_allowed : (slots id i : ℕ) (me : Mine) (y : Option X) → me ≡ (with_slot_out me.0.known i, (slot_of i, y) ∷ []) → (g : List E) → slots ≡ slot_of m.shards → held_at me.0.known.held i ≡ Some g
      → Allows R slots id me (word_of i) (λ x. x) (returns_slot of (step slots (word_of i) 0 0 none) me)
  park_allowed slots id i me y ready g sized held =
      subst (λ z. Allows R slots id z (word_of i) (λ x. x) (returns_slot of (step slots (word_of i) 0 0 none) z)) (sym ready) (park_rest slots id i me.0.known y g sized held)

  pub fetch_allowed : (slots id i : ℕ) (me : Mine) → me ≡ (at_rest me.0.known, []) → (g : List E) → held_at me.0.known.held i ≡ Some g
      → Allows R slots id me (word_of i) (λ x. x) (fetches_slot of (step slots (word_of i) 0 0 none) me)
  fetch_allowed slots id i me ready g held =
      subst (λ z. Allows R slots id z (word_of i) (λ x. x) (fetches_slot of (step slots (word_of i) 0 0 none) z)) (sym ready) (fetch_rest slots id i me.0.known g held)

  pub free_allowed : (slots id i : ℕ) (me : Mine) (x : X) → me ≡ (with_slot_out me.0.known i, (slot_of i, Some x) ∷ []) → (g : List E) → slots ≡ slot_of m.shards → held_at me.0.known.held i ≡ Some g → m.Stands i x g
      → Allows R slots id me (word_of i) (λ _. 0) (λ _. frees_word of (step slots (word_of i) 0 0 none) me 0)
  free_allowed slots id i me x ready g sized held stands =
      subst (λ z. Allows R slots id z (word_of i) (λ _. 0) (λ _. frees_word of (step slots (word_of i) 0 0 none) z 0)) (sym ready) (free_rest slots id i me.0.known x g sized held stands)
