-- Making and joining seats keeps the rule, and so do the first state and the last look.
use Rattle.std.proofs.Common.{◌≡◌, ℕ, zero, suc, ◌+◌, ◌<◌, ◌≤◌, inl, inr, ⊎_elim, true, cond, List, [], ◌∷◌, ◌++◌, map, replicate, slice_get, length, get_or, set, All, Option, None, Some, refl, ap, sym, subst, ◌∙◌, arith}
use mathlib.Core.Logic.{dite}
use mathlib.Core.Option.{some, none, some-injective, some-ne-none}
use mathlib.Core.List.{IsPrefix}
use native.Mathlib.Decide.{ℕ_discrete}
use lib.ListN.{get_elem?}
use Rattle.std.proofs.Math.Dec.{ltb}
use Rattle.std.proofs.Math.Decide.{dec_lt}
use Rattle.std.proofs.lemmas.Bool.{lt-ltb, le-ltb}
use Rattle.std.proofs.lemmas.List.Elements.{All-nil}
use Rattle.std.proofs.lemmas.Option.{slice_get_within}
use lib.ListN.{length-replicate}
use Rattle.atomic_table.specs.Table.{State, Me, keeps, Allows, Splits, Joins, Enters, Final, Seen, opening, step}
use Rattle.atomic_table.proofs.Lists.{at_set, set_else, set_again, at_longer, at_last, at_map}
use Rattle.commit_table.specs.declared.views.PassView.{PassView}
use Rattle.commit_table.specs.declared.views.SeatView.{SeatView}
use Rattle.commit_table.specs.Machine.{Machine, Laws, events_by}
use Rattle.commit_table.specs.Views.{longer, shorter, held_at, new_pass, noted, at_rest, also_seen, with_note, splitting_seat, closing_seat, closed_seat, with_pass, tally_of, joined_seat}
use Rattle.commit_table.specs.Rule.{Free, Held, IsShard, RemembersParty, AccountsForParty, IsParty, IsWhole, JoinedPassFits, ViewFits, Rule}
use Rattle.commit_table.specs.Calls.{word_of, slot_of, spread, AreShards, Closed, PassValue}
use Rattle.commit_table.specs.Steps.{EndsTable, opens_closer, looks_last}
use Rattle.commit_table.proofs.Lists.{prefix_self, prefix_none, prefix_trans, prefix_length, events_between, at_here, one_there, at_end, found_there, get_some, some_get, spread_at, map_more}
use Rattle.commit_table.specs.LockHistory.{lock_operations_by, Extends, AreLockOperations}
use Rattle.commit_table.proofs.LockHistories.{none_before, own_lock_operations, unmade_lock_records, holders_kept, holders_grown, lock_records_kept, lock_records_grown, locks_kept, locks_grown}
use Rattle.commit_table.proofs.Seen.{longer_begins, first_begins, second_begins, shorter_begins, first_whole, second_whole}
use Rattle.commit_table.proofs.Moves.{with_view, shard_kept, party_kept, whole_kept, still, updated, updated_here, updated_else}
use Rattle.commit_table.proofs.Holding.{rest_fits}

module _ {S X E : Type 0} (of : S → Machine X E) (laws : (s : S) → Laws (of s)) (start : S) (n : ℕ) where
  abbrev M : Machine X E
  M = of start

  abbrev V : Type 0
  V = SeatView S E

  abbrev St : Type 0
  St = State (Option X) V

  abbrev R : St → Type 0
  R = Rule M start n

  -- one more view
  abbrev pub with_one : St → V → St
  with_one s u = record { words = s.words; homes = s.homes; views = s.views ++ u ∷ [] }

  shard_grown : (s : St) (h : List E) (u : V) (j : ℕ) (o : Option ℕ) → IsShard M start n s h j o → IsShard M start n (with_one s u) h j o
  shard_grown s h u j None r = record { word = r.word; value = r.value; slot = r.slot; stands = r.stands }
  shard_grown s h u j (Some k) r = record { word = r.word; view = r.view; there = at_longer s.views (u ∷ []) k r.view r.there; upto = r.upto; held = r.held; begins = r.begins; agrees = r.agrees; slot = r.slot }

  party_grown : (s : St) (h : List E) (u : V) (p : ℕ) (o : Option ℕ) → IsParty M start n s h p o → IsParty M start n (with_one s u) h p o
  party_grown s h u p None r = r
  party_grown s h u p (Some k) r = (r.0, at_longer s.views (u ∷ []) k r.0 r.1, r.2)

  whole_grown : (views : List V) (h : List E) (u : V) → IsWhole M start n views h → IsWhole M start n (views ++ u ∷ []) h
  whole_grown views h u r = (r.0, r.1, at_longer views (u ∷ []) r.0 r.1 r.2, r.3)

  -- a new view that has no party
  pub grown : (s : St) (r : R s) (u : V) → u.known.lock_history ≡ [] → ViewFits M start n r.history r.holder r.seat (length s.views) u → R (with_one s u)
  grown s r u bare fits = record {
    history = r.history;
    holder = r.holder;
    seat = r.seat;
    lock_history = r.lock_history;
    size = r.size;
    legal = r.legal;
    word = r.word;
    whole = whole_grown s.views r.history u r.whole;
    shards = λ j lt. shard_grown s r.history u j (r.holder j) (r.shards j lt);
    parties = λ p. party_grown s r.history u p (r.seat p) (r.parties p);
    views = λ k w there. ⊎_elim (λ t. r.views k w t)
        (λ t. subst (λ (z : ℕ). ViewFits M start n r.history r.holder r.seat z w) (sym t.0) (subst (λ (z : V). ViewFits M start n r.history r.holder r.seat (length s.views) z) t.1 fits))
        (at_end s.views u w k there);
    locks = locks_grown M.shards s.views r.lock_history r.holder r.seat u bare r.locks;
  }

  bare_fits : (h : List E) (holder seat : ℕ → Option ℕ) (id : ℕ) (v : PassView S E) (out : Option ℕ) (heard : List E)
      → ((s : S) → v.start ≡ Some s → s ≡ start) → IsPrefix v.seen h → v.party ≡ None → v.looks ≡ [] → v.held ≡ [] → ViewFits M start n h holder seat id (at_rest v)
  bare_fits h holder seat id v out heard begun seen party looks held =
      rest_fits of laws start n h holder seat id v None [] begun seen (prefix_none v.seen)
      (subst (λ ks. All (λ k. k ≤ length v.seen) ks) (sym looks) (All-nil (λ k. k ≤ length v.seen)))
      (λ p e. absurd cc)
      (λ p e. absurd cc) (λ i g e. let a : held_at v.held i ≡ None = ap (λ z. held_at z i) held in absurd cc) (λ e i. ap (λ z. held_at z i) held)

  pub note_splits : (id : ℕ) (v : PassView S E) → Splits R id (at_rest v) (at_rest v) (at_rest (noted v))
  note_splits id v s r at =
      let f = r.views id (at_rest v) at in
      let u = at_rest (noted v) in
      subst (λ (vs : List V). R (record { words = s.words; homes = s.homes; views = vs ++ u ∷ [] })) (sym (set_again s.views id (at_rest v) at))
      (grown s r u refl (bare_fits r.history r.holder r.seat (length s.views) (noted v) None [] f.begun f.seen refl refl refl))

  -- a view that takes in passes, or remembers what they were
  keeper_fits : (h : List E) (holder seat : ℕ → Option ℕ) (id : ℕ) (v : V) → ((s : S) → v.known.start ≡ Some s → s ≡ start) → IsPrefix v.known.seen h
      → v.note_history ≡ [] → v.known.looks ≡ [] → v.known.party ≡ None → v.known.held ≡ [] → v.end_party ≡ 0
      → (v.is_closer ≡ true → (k : ℕ) (w : PassView S E) → get_elem? v.joined_passes k ≡ some w → JoinedPassFits M start n h v.known.seen seat id w)
      → (v.closed ≡ true → (v.is_closer ≡ true) × (v.known.seen ≡ h) × ((p : ℕ) → p < n → RemembersParty M start n v.joined_passes p))
      → ViewFits M start n h holder seat id v
  keeper_fits h holder seat id v begun seen heard looks party held makes gathered closed = record {
    begun = begun;
    seen = seen;
    note_history = subst (λ z. IsPrefix z v.known.seen) (sym heard) (prefix_none v.known.seen);
    looks = subst (λ ks. All (λ k. k ≤ length v.known.seen) ks) (sym looks) (All-nil (λ k. k ≤ length v.known.seen));
    own_seen = λ p e. absurd cc;
    party = λ p e. absurd cc;
    makes = λ p low high. absurd (omega arith);
    held = λ i g e. let a : held_at v.known.held i ≡ None = ap (λ z. held_at z i) held in absurd cc;
    none = λ e i. ap (λ z. held_at z i) held;
    is_closer = λ e. party;
    joined_passes = gathered;
    closed = closed;
  }

  pub tally_splits : (id : ℕ) (h : List E) (l : List (PassView S E)) → Splits R id (closed_seat start h l) (closed_seat start h l) (tally_of (closed_seat start h l))
  tally_splits id h l s r at =
      let v = closed_seat start h l in
      let f = r.views id v at in
      let u = tally_of v in
      subst (λ (vs : List V). R (record { words = s.words; homes = s.homes; views = vs ++ u ∷ [] })) (sym (set_again s.views id v at))
      (grown s r u refl (keeper_fits r.history r.holder r.seat (length s.views) u f.begun f.seen refl refl refl refl refl (λ e. absurd cc) (λ e. absurd cc)))

  pub opens_enters : (slots : ℕ) → Enters R slots 0 (λ x w. opens_closer of (step slots 0 0 0 none) (splitting_seat start 0 n, []) x (w, []))
  opens_enters slots s r wide _ =
      let u = closing_seat start [] [] in
      (u, grown s r u refl (keeper_fits r.history r.holder r.seat (length s.views) u (λ z e. cc) (prefix_none r.history) refl refl refl refl refl (λ e k w there. absurd (some-ne-none w (sym there))) (λ e. absurd cc)), refl)

  -- other views, where a party changes hands that was not theirs
  fits_seat : (h : List E) (holder seat seat' : ℕ → Option ℕ) (k : ℕ) (u : V) → ((p : ℕ) → seat p ≡ Some k → seat' p ≡ Some k)
      → ViewFits M start n h holder seat k u → ViewFits M start n h holder seat' k u
  fits_seat h holder seat seat' k u same f = record {
    begun = f.begun;
    seen = f.seen;
    note_history = f.note_history;
    looks = f.looks;
    own_seen = f.own_seen;
    party = λ p e. let a = f.party p e in (a.0, same p a.1, a.2);
    makes = λ p low high. let a = f.makes p low high in (a.0, same p a.1, a.2, a.3);
    held = f.held;
    none = f.none;
    is_closer = f.is_closer;
    joined_passes = λ on j w there. let a = f.joined_passes on j w there in record { seen = a.seen; party = λ p e. let b = a.party p e in (b.0, same p b.1, b.2) };
    closed = f.closed;
  }

  maker_fits : (h : List E) (holder seat : ℕ → Option ℕ) (id k : ℕ) → ((p : ℕ) → k ≤ p → p < n → (seat p ≡ Some id) × (events_by M.party p h ≡ [])) → ViewFits M start n h holder seat id (splitting_seat start k n)
  maker_fits h holder seat id k rest = record {
    begun = λ z e. cc;
    seen = prefix_none h;
    note_history = prefix_none [];
    looks = All-nil (λ j. j ≤ 0);
    own_seen = λ p e. absurd cc;
    party = λ p e. absurd cc;
    makes = λ p low high. let a = rest p low high in (high, a.0, a.1, refl);
    held = λ i g e. absurd cc;
    none = λ e i. refl;
    is_closer = λ e. refl;
    joined_passes = λ e. absurd cc;
    closed = λ e. absurd cc;
  }

  -- the next pass is made
  pub pass_splits : (id k : ℕ) → k < n → Splits R id (splitting_seat start k n) (splitting_seat start (k + 1) n) (at_rest (new_pass start (Some k) []))
  pass_splits id k lt s r at =
      let h = r.history in
      let v = splitting_seat start k n in
      let left = splitting_seat start (k + 1) n in
      let right : V = at_rest (new_pass start (Some k) []) in
      let f = r.views id v at in
      let new : ℕ = length (set s.views id left) in
      let seat' = updated M start n r.seat k (Some new) in
      let one = with_view M start n s s.words s.homes id left in
      let mine = f.makes k (omega arith) lt in
      let own = rest_fits of laws start n h r.holder seat' new (new_pass start (Some k) []) None [] (λ z e. cc) (prefix_none h) (prefix_none []) (All-nil (λ j. j ≤ 0)) (λ p e. refl)
      (λ p e. let q : k ≡ p = cc in subst (λ z. (z < n) × (seat' z ≡ Some new) × (events_by M.party z h ≡ [])) q (lt, updated_here M start n r.seat k k (Some new) refl, mine.2)) (λ i g e. absurd cc) (λ e i. refl) in
      let rest = maker_fits h r.holder seat' id (k + 1) (λ p low high. let a = f.makes p (omega arith) high in (updated_else M start n r.seat k p (Some new) (λ e. absurd (omega arith)) ∙ a.1, a.2)) in
      record {
        history = h;
        holder = r.holder;
        seat = seat';
        lock_history = r.lock_history;
        size = r.size;
        legal = r.legal;
        word = r.word;
        whole = whole_grown (set s.views id left) h right (whole_kept M start n s.views h id v left at (λ e. e) r.whole);
        shards = λ j below. shard_grown one h right j (r.holder j) (shard_kept M start n s h s.words s.homes id v left j at refl refl (λ g e. absurd cc) (λ e. absurd cc) (r.holder j) (r.shards j below));
        parties = λ p. dite (ℕ_discrete p k)
            (λ same. subst (λ o. IsParty M start n (with_one one right) h p o) (sym (updated_here M start n r.seat k p (Some new) same)) (right, at_last (set s.views id left) right new refl, inl (ap Some (sym same))))
            (λ ne. subst (λ o. IsParty M start n (with_one one right) h p o) (sym (updated_else M start n r.seat k p (Some new) ne))
            (party_grown one h right p (r.seat p) (party_kept M start n s h s.words s.homes id v left p at
            (λ a. ⊎_elim (λ x. absurd cc) (λ x. ⊎_elim (λ y. inr (inl (let z = y.0 in omega arith, y.1))) (λ y. absurd (let z = y.0 in cc)) x) a) (r.seat p) (r.parties p))));
        views = λ j u there. ⊎_elim
            (λ t. ⊎_elim
            (λ z. subst (λ (i : ℕ). ViewFits M start n h r.holder seat' i u) (sym z.0) (subst (λ (i : V). ViewFits M start n h r.holder seat' id i) z.1 rest))
            (λ z. fits_seat h r.holder r.seat seat' j u (λ p e. updated_else M start n r.seat k p (Some new) (λ same. z.0 (let a : r.seat k ≡ Some j = ap r.seat (sym same) ∙ e in let b = mine.1 in cc)) ∙ e) (r.views j u z.1))
            (at_set s.views id j left u t))
            (λ t. subst (λ (i : ℕ). ViewFits M start n h r.holder seat' i u) (sym t.0) (subst (λ (i : V). ViewFits M start n h r.holder seat' new i) t.1 own))
            (at_end (set s.views id left) right u j there);
        locks = record {
          holders = λ i below. holders_grown (set s.views id left) r.lock_history i right (r.holder i) (holders_kept s.views r.lock_history i id v left at (r.holder i) (λ e p its. absurd cc) (r.locks.holders i below));
          parties = λ p. dite (ℕ_discrete p k)
              (λ same. subst (λ o. AreLockOperations (set s.views id left ++ right ∷ []) r.lock_history p o) (sym (updated_here M start n r.seat k p (Some new) same))
              (right, at_last (set s.views id left) right new refl, inl (ap Some (sym same), ap (λ z. lock_operations_by z r.lock_history) same ∙ unmade_lock_records s.views r.lock_history k id v at refl refl (r.seat k) mine.1 (r.locks.parties k))))
              (λ ne. subst (λ o. AreLockOperations (set s.views id left ++ right ∷ []) r.lock_history p o) (sym (updated_else M start n r.seat k p (Some new) ne))
              (lock_records_grown (set s.views id left) r.lock_history p right (r.seat p) (lock_records_kept s.views r.lock_history r.lock_history p id v left at (r.seat p)
              (λ e a. ⊎_elim (λ x. absurd (let its = x.0 in cc)) (λ x. ⊎_elim (λ y. inr (inl (let z = y.0 in omega arith, y.1, y.2))) (λ y. absurd (let on = y.0 in cc)) x) a) refl (r.locks.parties p))));
          met = λ j u there. ⊎_elim
              (λ t. ⊎_elim (λ z. subst (λ (i : V). Extends i.known.lock_history r.lock_history) z.1 (none_before r.lock_history)) (λ z. r.locks.met j u z.1) (at_set s.views id j left u t))
              (λ t. subst (λ (i : V). Extends i.known.lock_history r.lock_history) t.1 (none_before r.lock_history))
              (at_end (set s.views id left) right u j there);
        };
      }

  -- what is left of a seat fits in any place
  spent_fits : (h : List E) (holder seat : ℕ → Option ℕ) (id : ℕ) → ViewFits M start n h holder seat id joined_seat
  spent_fits h holder seat id = rest_fits of laws start n h holder seat id (joined_seat.known) None [] (λ z e. absurd cc) (prefix_none h) (prefix_none []) (All-nil (λ j. j ≤ 0)) (λ p e. absurd cc) (λ p e. absurd cc) (λ i g e. absurd cc) (λ e i. refl)

  -- two seats become one, which has seen the whole history if one of them had
  whole_joined : (views : List V) (h : List E) (id other : ℕ) (v w both : V) → get_elem? views id ≡ some v → get_elem? views other ≡ some w → ¬ (other ≡ id)
      → (v.known.seen ≡ h → both.known.seen ≡ h) → (w.known.seen ≡ h → both.known.seen ≡ h)
      → IsWhole M start n views h → IsWhole M start n (set (set views id both) other joined_seat) h
  whole_joined views h id other v w both at there apart mine yours r =
      let kept : both.known.seen ≡ h → IsWhole M start n (set (set views id both) other joined_seat) h = λ e.
      (id, both, set_else (set views id both) other id joined_seat (λ z. apart (sym z)) ∙ at_here views id both v at, e) in
      dite (ℕ_discrete r.0 id)
      (λ is. let be : v ≡ r.1 = one_there views id v r.1 at (subst (λ (z : ℕ). get_elem? views z ≡ some r.1) is r.2) in kept (mine (ap (λ (z : V). z.known.seen) be ∙ r.3)))
      (λ ne. dite (ℕ_discrete r.0 other)
      (λ is. let be : w ≡ r.1 = one_there views other w r.1 there (subst (λ (z : ℕ). get_elem? views z ≡ some r.1) is r.2) in kept (yours (ap (λ (z : V). z.known.seen) be ∙ r.3)))
      (λ off. (r.0, r.1, set_else (set views id both) other r.0 joined_seat off ∙ (set_else views id r.0 both ne ∙ r.2), r.3)))

  -- a note is taken in
  pub note_joins : (id other : ℕ) (v w : PassView S E) → w.party ≡ None → Joins R id (at_rest v) other (at_rest w) (with_note v w.seen) joined_seat
  note_joins id other v w bare s r at apart there =
      let h = r.history in
      let both = with_note v w.seen in
      let f = r.views id (at_rest v) at in
      let was : get_elem? s.views other ≡ some (at_rest w) = sym (set_else s.views id other both apart) ∙ there in
      let g = r.views other (at_rest w) was in
      let one = with_view M start n s s.words s.homes id both in
      let two = with_view M start n one s.words s.homes other joined_seat in
      let begins = first_begins v.seen w.seen h f.seen g.seen in
      let whole = longer_begins v.seen w.seen h f.seen g.seen in
      let looks : All (λ k. k ≤ length (longer v.seen w.seen)) v.looks = λ k d lt. let a = f.looks k d lt in let b = prefix_length v.seen (longer v.seen w.seen) begins in omega arith in
      let fits = rest_fits of laws start n h r.holder r.seat id (also_seen v w.seen) None (shorter v.seen w.seen) f.begun whole (shorter_begins v.seen w.seen h f.seen g.seen) looks
      (λ p e. events_between M.party p v.seen (longer v.seen w.seen) h v.mine begins whole (f.own_seen p e) (f.party p e).2) f.party f.held f.none in
      record {
        history = h;
        holder = r.holder;
        seat = r.seat;
        lock_history = r.lock_history;
        size = r.size;
        legal = r.legal;
        word = r.word;
        whole = whole_joined s.views h id other (at_rest v) (at_rest w) both at was apart (first_whole v.seen w.seen h f.seen g.seen) (second_whole v.seen w.seen h f.seen g.seen) r.whole;
        shards = λ j lt. shard_kept M start n one h s.words s.homes other (at_rest w) joined_seat j there refl refl (λ x e. absurd (let a = g.none bare j in cc)) (λ e. e) (r.holder j)
            (shard_kept M start n s h s.words s.homes id (at_rest v) both j at refl refl (λ x e. e) (λ e. e) (r.holder j) (r.shards j lt));
        parties = λ p. party_kept M start n one h s.words s.homes other (at_rest w) joined_seat p there
            (λ a. ⊎_elim (λ x. absurd cc) (λ x. ⊎_elim (λ y. absurd (let z = y.0 in let z' = y.1 in omega arith)) (λ y. absurd (let z = y.0 in cc)) x) a) (r.seat p)
            (party_kept M start n s h s.words s.homes id (at_rest v) both p at (λ a. a) (r.seat p) (r.parties p));
        views = λ k u t. ⊎_elim
            (λ z. subst (λ (i : ℕ). ViewFits M start n h r.holder r.seat i u) (sym z.0) (subst (λ (i : V). ViewFits M start n h r.holder r.seat other i) z.1 (spent_fits h r.holder r.seat other)))
            (λ z. ⊎_elim
            (λ y. subst (λ (i : ℕ). ViewFits M start n h r.holder r.seat i u) (sym y.0) (subst (λ (i : V). ViewFits M start n h r.holder r.seat id i) y.1 fits))
            (λ y. r.views k u y.1)
            (at_set s.views id k both u z.1))
            (at_set (set s.views id both) other k joined_seat u t);
        locks = locks_kept M.shards (set s.views id both) r.lock_history r.holder r.holder r.seat other (at_rest w) joined_seat there (λ i lt. refl) (λ i lt e p its. absurd cc)
            (λ p a. absurd (⊎_elim (λ x. let its = x.0 in cc) (λ x. ⊎_elim (λ y. let lt = y.1 in omega arith) (λ y. let on = y.0 in cc) x) a)) (none_before r.lock_history)
            (locks_kept M.shards s.views r.lock_history r.holder r.holder r.seat id (at_rest v) both at (λ i lt. refl) (λ i lt e p its. its) (λ p a. a) (r.locks.met id (at_rest v) at) r.locks);
      }

  -- a view that does not hold a shard is not the one that holds it
  unheld_by : (s : St) (r : R s) (id : ℕ) (v : V) → get_elem? s.views id ≡ some v → (i : ℕ) → i < M.shards → held_at v.known.held i ≡ None → r.holder i ≡ Some id → ⊥
  unheld_by s r id v at i lt bare mine =
      let d : Held M start n s r.history i id = subst (λ o. IsShard M start n s r.history i o) mine (r.shards i lt) in
      let be : v ≡ d.view = one_there s.views id v d.view at d.there in
      let held : held_at v.known.held i ≡ Some d.upto = subst (λ (z : V). held_at z.known.held i ≡ Some d.upto) (sym be) d.held in
      cc

  remembers_more : (l : List (PassView S E)) (w : PassView S E) (p : ℕ) → RemembersParty M start n l p → RemembersParty M start n (l ++ w ∷ []) p
  remembers_more l w p a = (a.0, a.1, at_longer l (w ∷ []) a.0 a.1 a.2, a.3)

  -- a pass is taken in
  pub pass_joins : (id other : ℕ) (seen : List E) (l : List (PassView S E)) (w : PassView S E) (p : ℕ) → w.party ≡ Some p → ((i : ℕ) → held_at w.held i ≡ None)
      → Joins R id (closing_seat start seen l) other (at_rest w) (with_pass (closing_seat start seen l) w) joined_seat
  pass_joins id other seen l w p party bare s r at apart there =
      let h = r.history in
      let v : V = closing_seat start seen l in
      let both : V = with_pass v w in
      let f = r.views id v at in
      let was : get_elem? s.views other ≡ some (at_rest w) = sym (set_else s.views id other both apart) ∙ there in
      let g = r.views other (at_rest w) was in
      let own = g.party p party in
      let seat' = updated M start n r.seat p (Some id) in
      let one = with_view M start n s s.words s.homes id both in
      let two = with_view M start n one s.words s.homes other joined_seat in
      let more = remembers_more l w in
      let same : (q : ℕ) → r.seat q ≡ Some id → seat' q ≡ Some id = λ q e. dite (ℕ_discrete q p) (λ is. updated_here M start n r.seat p q (Some id) is) (λ ne. updated_else M start n r.seat p q (Some id) ne ∙ e) in
      let here : get_elem? (set s.views id both) id ≡ some both = at_here s.views id both v at in
      let stays : get_elem? two.views id ≡ some both = set_else (set s.views id both) other id joined_seat (λ e. apart (sym e)) ∙ here in
      let new : JoinedPassFits M start n h (longer seen w.seen) seat' id w = record {
        seen = second_begins seen w.seen h f.seen g.seen;
        party = λ q e. let is : p ≡ q = cc in subst (λ z. (z < n) × (seat' z ≡ Some id) × (events_by M.party z h ≡ w.mine)) is (own.0, updated_here M start n r.seat p p (Some id) refl, own.2);
      } in
      let fits = keeper_fits h r.holder seat' id both (λ z e. cc) (longer_begins seen w.seen h f.seen g.seen) refl refl refl refl refl
      (λ e k u t. ⊎_elim
      (λ old. let a = f.joined_passes refl k u old in record { seen = prefix_trans u.seen seen (longer seen w.seen) a.seen (first_begins seen w.seen h f.seen g.seen); party = λ q its. let b = a.party q its in (b.0, same q b.1, b.2) })
      (λ last. subst (λ (z : PassView S E). JoinedPassFits M start n h (longer seen w.seen) seat' id z) last.1 new)
      (at_end l w u k t))
      (λ e. absurd cc) in
      record {
        history = h;
        holder = r.holder;
        seat = seat';
        lock_history = r.lock_history;
        size = r.size;
        legal = r.legal;
        word = r.word;
        whole = whole_joined s.views h id other v (at_rest w) both at was apart (first_whole seen w.seen h f.seen g.seen) (second_whole seen w.seen h f.seen g.seen) r.whole;
        shards = λ j lt. shard_kept M start n one h s.words s.homes other (at_rest w) joined_seat j there refl refl (λ x e. absurd (let a = bare j in cc)) (λ e. e) (r.holder j)
            (shard_kept M start n s h s.words s.homes id v both j at refl refl (λ x e. absurd cc) (λ e. absurd cc) (r.holder j) (r.shards j lt));
        parties = λ q. dite (ℕ_discrete q p)
            (λ is. subst (λ o. IsParty M start n two h q o) (sym (updated_here M start n r.seat p q (Some id) is)) (both, stays, inr (inr (refl, (length l, w, at_last l w (length l) refl, party ∙ ap Some (sym is))))))
            (λ ne. subst (λ o. IsParty M start n two h q o) (sym (updated_else M start n r.seat p q (Some id) ne))
            (party_kept M start n one h s.words s.homes other (at_rest w) joined_seat q there
            (λ a. ⊎_elim (λ x. absurd (ne (cc))) (λ x. ⊎_elim (λ y. absurd (let z = y.0 in let z' = y.1 in omega arith)) (λ y. absurd (let z = y.0 in cc)) x) a) (r.seat q)
            (party_kept M start n s h s.words s.homes id v both q at
            (λ a. ⊎_elim (λ x. absurd cc) (λ x. ⊎_elim (λ y. absurd (let z = y.0 in let z' = y.1 in omega arith)) (λ y. inr (inr (refl, more q y.1))) x) a) (r.seat q) (r.parties q))));
        views = λ k u t. ⊎_elim
            (λ z. subst (λ (i : ℕ). ViewFits M start n h r.holder seat' i u) (sym z.0) (subst (λ (i : V). ViewFits M start n h r.holder seat' other i) z.1 (spent_fits h r.holder seat' other)))
            (λ z. ⊎_elim
            (λ y. subst (λ (i : ℕ). ViewFits M start n h r.holder seat' i u) (sym y.0) (subst (λ (i : V). ViewFits M start n h r.holder seat' id i) y.1 fits))
            (λ y. fits_seat h r.holder r.seat seat' k u (λ q e. updated_else M start n r.seat p q (Some id) (λ is. z.0 (let a : r.seat p ≡ Some k = ap r.seat (sym is) ∙ e in let b = own.1 in cc)) ∙ e) (r.views k u y.1))
            (at_set s.views id k both u z.1))
            (at_set (set s.views id both) other k joined_seat u t);
        locks = record {
          holders = λ i lt. holders_kept (set s.views id both) r.lock_history i other (at_rest w) joined_seat there (r.holder i) (λ e q its. absurd (unheld_by s r other (at_rest w) was i lt (bare i) e))
              (holders_kept s.views r.lock_history i id v both at (r.holder i) (λ e q its. absurd cc) (r.locks.holders i lt));
          parties = λ q. dite (ℕ_discrete q p)
              (λ is. subst (λ o. AreLockOperations two.views r.lock_history q o) (sym (updated_here M start n r.seat p q (Some id) is))
              (both, stays, inr (inr (refl, length l, w, at_last l w (length l) refl, party ∙ ap Some (sym is), ap (λ z. lock_operations_by z r.lock_history) is ∙ own_lock_operations s.views r.lock_history p other (at_rest w) was refl refl (r.seat p) own.1 (r.locks.parties p)))))
              (λ ne. subst (λ o. AreLockOperations two.views r.lock_history q o) (sym (updated_else M start n r.seat p q (Some id) ne))
              (lock_records_kept (set s.views id both) r.lock_history r.lock_history q other (at_rest w) joined_seat there (r.seat q)
              (λ e a. absurd (⊎_elim (λ x. ne (let its = x.0 in cc)) (λ x. ⊎_elim (λ y. let lt = y.1 in omega arith) (λ y. let on = y.0 in cc) x) a)) refl
              (lock_records_kept s.views r.lock_history r.lock_history q id v both at (r.seat q)
              (λ e a. ⊎_elim (λ x. absurd (let its = x.0 in cc)) (λ x. ⊎_elim (λ y. absurd (let lt = y.1 in omega arith)) (λ y. inr (inr (refl, y.1, y.2, at_longer l (w ∷ []) y.1 y.2 y.3, y.4, y.5))) x) a) refl (r.locks.parties q))));
          met = λ k u t. ⊎_elim
              (λ z. subst (λ (i : V). Extends i.known.lock_history r.lock_history) z.1 (none_before r.lock_history))
              (λ z. ⊎_elim (λ y. subst (λ (i : V). Extends i.known.lock_history r.lock_history) y.1 (none_before r.lock_history)) (λ y. r.locks.met k u y.1) (at_set s.views id k both u z.1))
              (at_set (set s.views id both) other k joined_seat u t);
        };
      }

  -- a party that a view answers for is below n
  answered : (h : List E) (holder seat : ℕ → Option ℕ) (id : ℕ) (v : V) (p : ℕ) → ViewFits M start n h holder seat id v → AccountsForParty M start n v p → p < n
  answered h holder seat id v p f a = ⊎_elim (λ x. (f.party p x).0) (λ x. ⊎_elim (λ y. (f.makes p y.0 y.1).0) (λ y. ((f.joined_passes y.0 y.1.0 y.1.1 y.1.2).party p y.1.3).0) x) a

  unanswered : (s : St) (r : R s) (p : ℕ) → ¬ (p < n) → (o : Option ℕ) → IsParty M start n s r.history p o → events_by M.party p r.history ≡ []
  unanswered s r p over None z = z
  unanswered s r p over (Some k) z = absurd (over (answered r.history r.holder r.seat k z.0 p (r.views k z.0 z.1) z.2))

  -- the last look: all passes were taken in
  last_rest : (slots id : ℕ) (seen : List E) (l : List (PassView S E)) → ((p : ℕ) → p < n → RemembersParty M start n l p)
      → Allows R slots id (closing_seat start seen l, []) 0 (λ x. x) (looks_last of (step slots 0 0 0 none) (closing_seat start seen l, []))
  last_rest slots id seen l all s r wide at _ =
      let h = r.history in
      let v : V = closing_seat start seen l in
      let w : V = closed_seat start h l in
      let f = r.views id v at in
      let begun : (k : ℕ) (u : PassView S E) → get_elem? l k ≡ some u → IsPrefix u.seen h = λ k u there. prefix_trans u.seen seen h (f.joined_passes refl k u there).seen f.seen in
      let fits = keeper_fits h r.holder r.seat id w (λ z e. cc) (prefix_self h) refl refl refl refl refl
      (λ e k u there. record { seen = begun k u there; party = (f.joined_passes refl k u there).party }) (λ e. (refl, refl, all)) in
      let told : EndsTable of M l h = record {
        legal = r.legal;
        seen = begun;
        own = λ k u there p its. ((f.joined_passes refl k u there).party p its).2;
        others = λ p apart. unanswered s r p (λ lt. let a = all p lt in apart a.0 a.1 a.2 a.3) (r.seat p) (r.parties p);
      } in (
        w,
        keeps,
        tt,
        still M start n s r id v w at 0 refl refl (λ _. refl) (λ q a. a) fits (λ q its. its) (λ q a. a) (r.locks.met id v at),
        λ z e. let is : start ≡ z = cc in subst (λ (y : S). (k : List E) × (◌≡◌ {A = Me (Option X) V} (w, []) (closed_seat y k l, [])) × (get_or s.words 0 0 ≡ length k) × EndsTable of (of y) l k) is (h, refl, r.word, told),
      )

  pub last_allowed : (slots id : ℕ) (me : Me (Option X) V) (seen : List E) (l : List (PassView S E)) → me ≡ (closing_seat start seen l, []) → ((p : ℕ) → p < n → RemembersParty M start n l p)
      → Allows R slots id me 0 (λ x. x) (looks_last of (step slots 0 0 0 none) me)
  last_allowed slots id me seen l ready all = subst (λ z. Allows R slots id z 0 (λ x. x) (looks_last of (step slots 0 0 0 none) z)) (sym ready) (last_rest slots id seen l all)

  -- once the table is closed no view has a party, so no shard is held
  holder_known : (s : St) (r : R s) (id : ℕ) (h : List E) (l : List (PassView S E)) → get_elem? s.views id ≡ some (closed_seat start h l) → (i k : ℕ) (x : Held M start n s r.history i k) → (o : Option ℕ) → x.view.known.party ≡ o → ⊥
  holder_known s r id h l at i k x None e = let a = (r.views k x.view x.there).none e i in let b = x.held in cc
  holder_known s r id h l at i k x (Some p) e =
      let f = r.views id (closed_seat start h l) at in
      let g = (r.views k x.view x.there).party p e in
      let a = (f.closed refl).2 p g.0 in
      let b = (f.joined_passes refl a.0 a.1 a.2).party p a.3 in
      let same : k ≡ id = (let c = g.1 in let d = b.1 in cc) in
      let is : x.view ≡ closed_seat start h l = one_there s.views id x.view (closed_seat start h l) (subst (λ (z : ℕ). get_elem? s.views z ≡ some x.view) same x.there) at in
      let none : x.view.known.party ≡ None = ap (λ (z : V). z.known.party) is in cc

  unheld : (s : St) (r : R s) (id : ℕ) (h : List E) (l : List (PassView S E)) → get_elem? s.views id ≡ some (closed_seat start h l) → (i : ℕ) (o : Option ℕ) → IsShard M start n s r.history i o → Free M start n s r.history i
  unheld s r id h l at i None x = x
  unheld s r id h l at i (Some k) x = absurd (holder_known s r id h l at i k x x.view.known.party refl)

  pub closed_shards : (s : St) (r : R s) (id : ℕ) (h : List E) (l : List (PassView S E)) → get_elem? s.views id ≡ some (closed_seat start h l) → (i : ℕ) → i < M.shards → Free M start n s h i
  closed_shards s r id h l at i lt = subst (λ z. Free M start n s z i) (sym ((r.views id (closed_seat start h l) at).closed refl).1) (unheld s r id h l at i (r.holder i) (r.shards i lt))

  -- the first state

  party_first : (ws : List ℕ) (xs : List (Option X)) (p : ℕ) → Dec (p < n) → IsParty M start n (opening ws xs (splitting_seat start 0 n)) [] p (cond (ltb p n) (Some 0) None)
  party_first ws xs p (yes lt) = subst (λ b. IsParty M start n (opening ws xs (splitting_seat start 0 n)) [] p (cond b (Some 0) None)) (sym (lt-ltb p n lt)) (splitting_seat start 0 n, refl, inr (inl (omega arith, lt)))
  party_first ws xs p (no over) = subst (λ b. IsParty M start n (opening ws xs (splitting_seat start 0 n)) [] p (cond b (Some 0) None)) (sym (le-ltb p n (omega arith))) refl

  lock_records_first : (p : ℕ) → Dec (p < n) → AreLockOperations {S = S} {E = E} (splitting_seat start 0 n ∷ []) [] p (cond (ltb p n) (Some 0) None)
  lock_records_first p (yes lt) = subst (λ b. AreLockOperations {S = S} {E = E} (splitting_seat start 0 n ∷ []) [] p (cond b (Some 0) None)) (sym (lt-ltb p n lt)) (splitting_seat start 0 n, refl, inr (inl (omega arith, lt, refl)))
  lock_records_first p (no over) = subst (λ b. AreLockOperations {S = S} {E = E} (splitting_seat start 0 n ∷ []) [] p (cond b (Some 0) None)) (sym (le-ltb p n (omega arith))) refl

  lock_history_first : (id : ℕ) (v : V) → get_elem? (splitting_seat start 0 n ∷ []) id ≡ some v → Extends v.known.lock_history []
  lock_history_first zero v there = subst (λ (z : V). Extends z.known.lock_history []) (some-injective (splitting_seat start 0 n) v there) (none_before [])
  lock_history_first (suc id) v there = absurd (some-ne-none v (sym there))

  first_view : (ws : List ℕ) (id : ℕ) (v : V) → get_elem? (splitting_seat start 0 n ∷ []) id ≡ some v → ViewFits M start n [] (λ _. None) (λ p. cond (ltb p n) (Some 0) None) id v
  first_view ws zero v there = let is : splitting_seat start 0 n ≡ v = some-injective (splitting_seat start 0 n) v there in subst (λ (z : V). ViewFits M start n [] (λ _. None) (λ p. cond (ltb p n) (Some 0) None) 0 z) is
      (maker_fits [] (λ _. None) (λ p. cond (ltb p n) (Some 0) None) 0 0 (λ p low high. (subst (λ b. cond {A = Option ℕ} b (Some 0) None ≡ Some 0) (sym (lt-ltb p n high)) refl, refl)))
  first_view ws (suc id) v there = absurd (some-ne-none v (sym there))

  pub opens_ruled : (ws : List ℕ) (xs : List (Option X)) → length ws ≡ word_of M.shards → ((k : ℕ) → get_or ws k 0 ≡ 0)
      → ((i : ℕ) → i < M.shards → (x : X) × (get_elem? xs (slot_of i) ≡ some (Some x)) × M.Stands i x [])
      → R (opening ws xs (splitting_seat start 0 n))
  opens_ruled ws xs size zeros values = record {
    history = [];
    holder = λ _. None;
    seat = λ p. cond (ltb p n) (Some 0) None;
    size = size;
    legal = (laws start).opening;
    word = zeros 0;
    whole = (0, splitting_seat start 0 n, refl, refl);
    shards = λ i lt. let a = values i lt in record { word = zeros (word_of i); value = a.0; slot = at_map (λ (y : Option X). some y) xs (slot_of i) (Some a.0) a.1; stands = a.2 };
    parties = λ p. party_first ws xs p (dec_lt p n);
    views = λ id v there. first_view ws id v there;
    lock_history = [];
    locks = record {
      holders = λ i lt. refl;
      parties = λ p. lock_records_first p (dec_lt p n);
      met = λ id v there. lock_history_first id v there;
    };
  }

  pub pass_allowed : (id k : ℕ) (me : Me (Option X) V) → me ≡ (splitting_seat start k n, []) → k < n
      → Splits R id me.0 (record me.0 { first_party = me.0.first_party + 1 }) (at_rest (record (noted me.0.known) { party = Some me.0.first_party }))
  pass_allowed id k me ready lt = subst (λ (z : V). Splits R id z (record z { first_party = z.first_party + 1 }) (at_rest (record (noted z.known) { party = Some z.first_party }))) (sym (ap (λ z. z.0) ready)) (pass_splits id k lt)

  pub note_allowed : (id : ℕ) (me : Me (Option X) V) → me ≡ (at_rest me.0.known, []) → Splits R id me.0 me.0 (at_rest (noted me.0.known))
  note_allowed id me ready = subst (λ (z : V). Splits R id z z (at_rest (noted z.known))) (sym (ap (λ z. z.0) ready)) (note_splits id me.0.known)

  pub keep_allowed : (id : ℕ) (h : List E) (l : List (PassView S E)) (me : Me (Option X) V) → me ≡ (closed_seat start h l, []) → Splits R id me.0 me.0 (tally_of me.0)
  keep_allowed id h l me ready = subst (λ (z : V). Splits R id z z (tally_of z)) (sym (ap (λ z. z.0) ready)) (tally_splits id h l)

  pub hear_allowed : (id other : ℕ) (me you : Me (Option X) V) → me ≡ (at_rest me.0.known, []) → you ≡ (at_rest you.0.known, []) → you.0.known.party ≡ None
      → Joins R id me.0 other you.0 (with_note me.0.known you.0.known.seen) joined_seat
  hear_allowed id other me you ready your bare = subst (λ (z : V). Joins R id z other you.0 (with_note z.known you.0.known.seen) joined_seat) (sym (ap (λ z. z.0) ready))
      (subst (λ (z : V). Joins R id (at_rest me.0.known) other z (with_note me.0.known z.known.seen) joined_seat) (sym (ap (λ z. z.0) your)) (note_joins id other me.0.known you.0.known bare))

  pub gather_allowed : (id other : ℕ) (seen : List E) (l : List (PassView S E)) (me you : Me (Option X) V) → me ≡ (closing_seat start seen l, []) → you ≡ (at_rest you.0.known, []) → (p : ℕ) → you.0.known.party ≡ Some p
      → ((i : ℕ) → held_at you.0.known.held i ≡ None) → Joins R id me.0 other you.0 (with_pass me.0 you.0.known) joined_seat
  gather_allowed id other seen l me you ready your p party bare = subst (λ (z : V). Joins R id z other you.0 (with_pass z you.0.known) joined_seat) (sym (ap (λ z. z.0) ready))
      (subst (λ (z : V). Joins R id (closing_seat start seen l) other z (with_pass (closing_seat start seen l) z.known) joined_seat) (sym (ap (λ z. z.0) your)) (pass_joins id other seen l you.0.known p party bare))

  -- one pass more was taken in
  pub joined_pass_more : (me after : Me (Option X) V) (passes : List (PassValue S E)) (p : PassValue S E) (w : PassView S E) → me ≡ (closing_seat start me.0.known.seen (map (λ q. q.known) passes), []) → w ≡ p.known
      → after ≡ (with_pass me.0 w, []) → after ≡ (closing_seat start after.0.known.seen (map (λ q. q.known) (passes ++ p ∷ [])), [])
  joined_pass_more me after passes p w before known is =
      let seen = longer me.0.known.seen w.seen in
      let l : List (PassView S E) = map (λ q. q.known) (passes ++ p ∷ []) in
      let one : after ≡ (closing_seat start seen (map (λ q. q.known) passes ++ w ∷ []), []) = is ∙ ap (λ z. (with_pass z.0 w, [])) before in
      let all : after ≡ (closing_seat start seen l, []) = one ∙ ap (λ z. (closing_seat start seen z, [])) (map_more (λ q. q.known) passes p (map (λ q. q.known) passes) w refl known) in
      all ∙ ap (λ z. (closing_seat start z l, [])) (sym (ap (λ z. z.0.known.seen) all))

  zeros_at : (k i : ℕ) → ◌≡◌ {A = ℕ} (get_or (replicate k 0) i 0) 0
  zeros_at zero i = refl
  zeros_at (suc k) zero = refl
  zeros_at (suc k) (suc i) = zeros_at k i

  pub opens_with : (k : ℕ) (ws : List ℕ) (xs : List X) (slots : List (Option X)) → ws ≡ replicate k 0 → k ≡ word_of M.shards → slots ≡ spread xs → AreShards M xs [] → R (opening ws slots (splitting_seat start 0 n))
  opens_with k ws xs slots words size values shards =
      let count = shards.count in
      opens_ruled ws slots (ap length words ∙ (length-replicate k 0 ∙ size)) (λ i. ap (λ z. get_or z i 0) words ∙ zeros_at k i)
      (λ i lt. let a = found_there xs i (omega arith) in (
        a.0,
        subst (λ z. get_elem? z (slot_of i) ≡ some (Some a.0)) (sym values) (spread_at xs i a.0 a.2),
        shards.stand i a.0 a.1,
      ))

  -- the values of the slots, once the table is closed
  pub final_values : (id : ℕ) (h : List E) (l : List (PassView S E)) (v : V) (ws : List ℕ) (xs : List (Option X)) → v ≡ closed_seat start h l → Final (Seen R id v) ws xs
      → (i : ℕ) → i < M.shards → (x : X) × (get_elem? xs (slot_of i) ≡ some (Some x)) × M.Stands i x h
  final_values id h l v ws xs is final i lt =
      let s = final.0 in
      let at = subst (λ (z : V). get_elem? s.views id ≡ some z) is final.1.1 in
      let free = closed_shards s final.1.0 id h l at i lt in
      (free.value, final.4 (slot_of i) (Some free.value) free.slot, free.stands)

  pub final_shards : (id : ℕ) (h : List E) (l : List (PassView S E)) (v : V) (ws : List ℕ) (xs : List (Option X)) (ys : List X) → v ≡ closed_seat start h l → Final (Seen R id v) ws xs
      → length ys ≡ M.shards → ((k : ℕ) (x : X) → slice_get ys k ≡ Some x → get_elem? xs (slot_of k) ≡ some (Some x)) → AreShards M ys h
  final_shards id h l v ws xs ys is final count same = record {
    count = count;
    stand = λ i x there.
        let lt : i < length ys = slice_get_within ys i x there in
        let a = final_values id h l v ws xs is final i (omega arith) in
        let b : ◌≡◌ {A = Option X} (Some a.0) (Some x) = one_there xs (slot_of i) (Some a.0) (Some x) a.1 (same i x there) in
        let e : a.0 ≡ x = cc in subst (λ z. M.Stands i z h) e a.2;
  }

  -- a list that has every party's pass remembers every party
  pub all_remembered : (passes : List (PassValue S E)) (l : List (PassView S E)) → l ≡ map (λ p. p.known) passes
      → ((party : ℕ) → party < n → (k : ℕ) × (p : PassValue S E) × (slice_get passes k ≡ Some p) × (p.known.party ≡ Some party))
      → (party : ℕ) → party < n → RemembersParty M start n l party
  all_remembered passes l is all party lt = let a = all party lt in
      (a.0, a.1.known, subst (λ z. get_elem? z a.0 ≡ some a.1.known) (sym is) (at_map (λ (p : PassValue S E). p.known) passes a.0 a.1 (get_some passes a.0 a.1 a.2)), a.3)

  -- what the last look told, of the list as it is read by `get`
  pub closed_there : (l k : List (PassView S E)) (h : List E) → l ≡ k → EndsTable of M l h → Closed M h k
  closed_there l k h is e = subst (λ z. Closed M h z) is (record {
    legal = e.legal;
    seen = λ i v there. e.seen i v (get_some l i v there);
    own = λ i v there. e.own i v (get_some l i v there);
    others = λ p apart. e.others p (λ i v there. apart i v (some_get l i v there));
  })
