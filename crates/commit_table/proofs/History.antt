-- The steps on the journal word keep the rule: the history is seen, and an event is added behind it.
use Rattle.std.proofs.Common.{eqb, ◌≡◌, ◌≢◌, ℕ, zero, suc, ◌+◌, ◌%◌, ◌^◌, ◌<◌, ◌≤◌, ◌⊎◌, inl, inr, ⊎_elim, Bool, true, false, cond, eq-eqb, ne_eqb, List, [], ◌∷◌, ◌++◌, length, get_or, set, All, Option, None, Some, refl, ap, sym, subst, ◌∙◌, arith, append-nil, length-append}
use mathlib.Core.Logic.{dite}
use mathlib.Core.Option.{some, none}
use mathlib.Core.List.{IsPrefix}
use native.Mathlib.Decide.{ℕ_discrete}
use lib.ListN.{get_elem?}
use Rattle.std.proofs.lemmas.List.{get_or-set_same, get_or-set_other}
use Rattle.std.proofs.Math.Nat.{mod-eq_of_lt}
use Rattle.std.proofs.lemmas.List.Elements.{All-append}
use Rattle.std.proofs.Math.ListN.{length-set}
use Rattle.std.specs.List.{list_any}
use Rattle.atomic_table.specs.Table.{State, Me, keeps, Allows, step}
use Rattle.atomic_table.proofs.Lists.{at_set, set_else}
use Rattle.commit_table.specs.declared.views.PassView.{PassView}
use Rattle.commit_table.specs.declared.views.SeatView.{SeatView}
use Rattle.commit_table.specs.Machine.{Machine, Laws, is_party, events_by}
use Rattle.commit_table.specs.Calls.{word_of}
use Rattle.commit_table.specs.Views.{held_at, mine_after, after_look, after_commit, at_rest, with_kept_history}
use Rattle.commit_table.specs.Rule.{Held, IsShard, AccountsForParty, IsParty, ViewFits, Rule}
use Rattle.commit_table.specs.Steps.{SeesHistory, AddsEvent, looks, commits}
use Rattle.commit_table.proofs.Lists.{prefix_self, prefix_none, prefix_trans, prefix_more, prefix_length, at_here, one_there, events_by-append, held_among, held_apart}
use Rattle.commit_table.proofs.LockHistories.{locks_kept}
use Rattle.commit_table.proofs.Moves.{with_view, still}
use Rattle.commit_table.proofs.Holding.{rest_fits, told, own_shard}

either_way : (b : Bool) → (b ≡ true) ⊎ (b ≡ false)
either_way true = inl refl
either_way false = inr refl

all_one : {A : Type 0} (P : A → Type 0) (x : A) → P x → All P (x ∷ [])
all_one P x p zero d lt = p
all_one P x p (suc k) d lt = absurd (omega arith)

-- an event that is not the party's leaves the party's events
other_party : (p : ℕ) (o : Option ℕ) → ((q : ℕ) → o ≡ Some q → q ≢ p) → is_party p o ≡ false
other_party p None f = refl
other_party p (Some q) f = ne_eqb p q (λ e. f q refl (sym e))

pub by_other : {E : Type 0} (party : E → Option ℕ) (p : ℕ) (h : List E) (e : E) → ((q : ℕ) → party e ≡ Some q → q ≢ p) → events_by party p (h ++ e ∷ []) ≡ events_by party p h
by_other party p h e f = events_by-append party p h (e ∷ []) ∙ subst (λ b. events_by party p h ++ cond b (e ∷ []) [] ≡ events_by party p h) (sym (other_party p (party e) f)) (append-nil (events_by party p h))

own_party : {E : Type 0} (p : ℕ) (o : Option ℕ) (xs : List E) (e : E) → ((q : ℕ) → o ≡ Some q → q ≡ p) → xs ++ cond (is_party p o) (e ∷ []) [] ≡ mine_after o xs e
own_party p None xs e f = append-nil xs
own_party p (Some q) xs e f = subst (λ b. xs ++ cond b (e ∷ []) [] ≡ xs ++ e ∷ []) (sym (eq-eqb p q (sym (f q refl)))) refl

pub by_own : {E : Type 0} (party : E → Option ℕ) (p : ℕ) (h : List E) (e : E) → ((q : ℕ) → party e ≡ Some q → q ≡ p) → events_by party p (h ++ e ∷ []) ≡ mine_after (party e) (events_by party p h) e
by_own party p h e f = events_by-append party p h (e ∷ []) ∙ own_party p (party e) (events_by party p h) e f

module _ {S X E : Type 0} (of : S → Machine X E) (laws : (s : S) → Laws (of s)) (start : S) (n : ℕ) where
  look_rest : (slots id : ℕ) (v : PassView S E) (heard : List E)
      → Allows (Rule (of start) start n) slots id (with_kept_history v heard, []) 0 (λ x. x) (looks of n (step slots 0 0 0 none) (with_kept_history v heard, []))
  look_rest slots id v heard s r wide at _ =
      let h = r.history in
      let f = r.views id (with_kept_history v heard) at in
      let w = at_rest (after_look v h) in
      let longer : length v.seen ≤ length h = prefix_length v.seen h f.seen in
      let seen : All (λ k. k ≤ length h) (v.looks ++ length h ∷ []) = All-append (λ k. k ≤ length h) v.looks (length h ∷ []) (λ k d lt. let a = f.looks k d lt in omega arith) (all_one (λ k. k ≤ length h) (length h) (omega arith)) in
      let fits = rest_fits of laws start n h r.holder r.seat id (after_look v h) None [] f.begun (prefix_self h) (prefix_none h) seen (λ p e. (f.party p e).2) f.party f.held f.none in (
        w,
        keeps,
        tt,
        still (of start) start n s r id (with_kept_history v heard) w at 0 refl refl (λ _. refl) (λ q a. a) fits (λ q its. its) (λ q a. a) (r.locks.met id (with_kept_history v heard) at),
        (
          h,
          refl,
          told of laws start n s r id (with_kept_history v heard) at (λ z. SeesHistory of z v heard (get_or s.words 0 0) h) (record {
            number = r.word;
            legal = r.legal;
            seen = f.seen;
            told = prefix_trans heard v.seen h f.note_history f.seen;
            own = λ p e. (f.party p e).2;
            held = λ i g e. let own = own_shard of laws start n s r id (with_kept_history v heard) at i g e in (own.2, own.3);
          }),
          λ p e. (f.party p e).0,
        ),
      )

  pub look_allowed : (slots id k : ℕ) (me : Me (Option X) (SeatView S E)) → me ≡ (with_kept_history me.0.known me.0.note_history, []) → k ≡ n
      → Allows (Rule (of start) start n) slots id me 0 (λ x. x) (looks of k (step slots 0 0 0 none) me)
  look_allowed slots id k me ready count = subst (λ c. Allows (Rule (of start) start n) slots id me 0 (λ x. x) (looks of c (step slots 0 0 0 none) me)) (sym count)
      (subst (λ z. Allows (Rule (of start) start n) slots id z 0 (λ x. x) (looks of n (step slots 0 0 0 none) z)) (sym ready) (look_rest slots id me.0.known me.0.note_history))

  -- a shard apart from the event's, or one of them, after the event
  shard_apart : (s : State (Option X) (SeatView S E)) (h : List E) (e : E) (ws : List ℕ) (id : ℕ) (v w : SeatView S E) (j : ℕ)
      → get_elem? s.views id ≡ some v → get_or ws (word_of j) 0 ≡ get_or s.words (word_of j) 0 → (of start).Agree j h (h ++ e ∷ [])
      → held_at w.known.held j ≡ held_at v.known.held j → w.slot_out ≡ v.slot_out
      → (o : Option ℕ) → IsShard (of start) start n s h j o → IsShard (of start) start n (with_view (of start) start n s ws s.homes id w) (h ++ e ∷ []) j o
  shard_apart s h e ws id v w j at word agree held out None r = record { word = word ∙ r.word; value = r.value; slot = r.slot; stands = (laws start).stands j r.value h (h ++ e ∷ []) r.stands agree }
  shard_apart s h e ws id v w j at word agree held out (Some k) r = dite (ℕ_discrete k id)
      (λ same.
      let is : v ≡ r.view = one_there s.views id v r.view at (subst (λ (z : ℕ). get_elem? s.views z ≡ some r.view) same r.there) in
      record {
        word = word ∙ r.word;
        view = w;
        there = subst (λ (z : ℕ). get_elem? (set s.views id w) z ≡ some w) (sym same) (at_here s.views id w v at);
        upto = r.upto;
        held = held ∙ subst (λ (z : SeatView S E). held_at z.known.held j ≡ Some r.upto) (sym is) r.held;
        begins = prefix_more r.upto h (e ∷ []) r.begins;
        agrees = (laws start).agree_through j r.upto h (h ++ e ∷ []) r.agrees agree;
        slot = ⊎_elim (λ a. inl (out ∙ subst (λ (z : SeatView S E). z.slot_out ≡ Some j) (sym is) a)) (λ b. inr b) r.slot;
      })
      (λ ne. record {
        word = word ∙ r.word;
        view = r.view;
        there = set_else s.views id k w ne ∙ r.there;
        upto = r.upto;
        held = r.held;
        begins = prefix_more r.upto h (e ∷ []) r.begins;
        agrees = (laws start).agree_through j r.upto h (h ++ e ∷ []) r.agrees agree;
        slot = r.slot;
      })

  party_added : (s : State (Option X) (SeatView S E)) (h : List E) (e : E) (ws : List ℕ) (id : ℕ) (v w : SeatView S E) (p : ℕ) (seat : ℕ → Option ℕ)
      → get_elem? s.views id ≡ some v → (AccountsForParty (of start) start n v p → AccountsForParty (of start) start n w p)
      → ((q : ℕ) → (of start).party e ≡ Some q → seat q ≡ Some id)
      → (o : Option ℕ) → seat p ≡ o → IsParty (of start) start n s h p o → IsParty (of start) start n (with_view (of start) start n s ws s.homes id w) (h ++ e ∷ []) p o
  party_added s h e ws id v w p seat at answers by None is r = by_other (of start).party p h e (λ q own same. let a = by q own in let b : seat q ≡ None = ap seat same ∙ is in absurd cc) ∙ r
  party_added s h e ws id v w p seat at answers by (Some k) is r = dite (ℕ_discrete k id)
      (λ same.
      let be : v ≡ r.0 = one_there s.views id v r.0 at (subst (λ (z : ℕ). get_elem? s.views z ≡ some r.0) same r.1) in
      (w, subst (λ (z : ℕ). get_elem? (set s.views id w) z ≡ some w) (sym same) (at_here s.views id w v at), answers (subst (λ (z : SeatView S E). AccountsForParty (of start) start n z p) (sym be) r.2)))
      (λ ne. (r.0, set_else s.views id k w ne ∙ r.1, r.2))

  -- the view of another seat, after an event of a pass that is there
  fits_added : (h : List E) (e : E) (holder seat : ℕ → Option ℕ) (id k p : ℕ) (u : SeatView S E) → k ≢ id
      → p < n → seat p ≡ Some id → ((q : ℕ) → (of start).party e ≡ Some q → q ≡ p)
      → ViewFits (of start) start n h holder seat k u → ViewFits (of start) start n (h ++ e ∷ []) holder seat k u
  fits_added h e holder seat id k p u ne lt is by f =
      let apart : (q : ℕ) → seat q ≡ Some k → events_by (of start).party q (h ++ e ∷ []) ≡ events_by (of start).party q h =
      λ q its. by_other (of start).party q h e (λ x own same. let a : x ≡ p = by x own in let b : seat p ≡ Some k = ap seat (sym a ∙ same) ∙ its in ne cc) in
      record {
        begun = f.begun;
        seen = prefix_more u.known.seen h (e ∷ []) f.seen;
        note_history = f.note_history;
        looks = f.looks;
        own_seen = f.own_seen;
        party = λ q own. let a = f.party q own in (a.0, a.1, apart q a.1 ∙ a.2);
        makes = λ q low high. let a = f.makes q low high in (a.0, a.1, apart q a.1 ∙ a.2, a.3);
        held = f.held;
        none = f.none;
        is_closer = f.is_closer;
        joined_passes = λ on j w there. let a = f.joined_passes on j w there in record { seen = a.seen; party = λ q own. let b = a.party q own in (b.0, b.1, apart q b.1 ∙ b.2) };
        closed = λ on. let a = f.closed on in let there = a.2 p lt in let b = (f.joined_passes a.0 there.0 there.1 there.2).party p there.3 in absurd (ne (let c = b.1 in cc));
      }

  -- a history that agrees with what was seen on the shards of an event that may follow that
  agrees_there : (s : State (Option X) (SeatView S E)) (r : Rule (of start) start n s) (id : ℕ) (v : PassView S E) (e : E) → get_elem? s.views id ≡ some (at_rest v)
      → ((i : ℕ) → list_any (eqb i) ((of start).shards_of v.seen e) ≡ true → (g : List E) × (held_at v.held i ≡ Some g) × (of start).Agree i v.seen g)
      → (i : ℕ) → list_any (eqb i) ((of start).shards_of v.seen e) ≡ true → (of start).Agree i v.seen r.history
  agrees_there s r id v e at holds i among = let a = holds i among in let own = own_shard of laws start n s r id (at_rest v) at i a.0 a.1 in (laws start).agree_through i v.seen a.0 r.history a.2 own.3

  add_rest : (slots id : ℕ) (v : PassView S E) (e : E) (p : ℕ) → v.party ≡ Some p
      → ((q : ℕ) → (of start).party e ≡ Some q → v.party ≡ Some q)
      → (of start).Legal (v.seen ++ e ∷ [])
      → ((i : ℕ) → list_any (eqb i) ((of start).shards_of v.seen e) ≡ true → (g : List E) × (held_at v.held i ≡ Some g) × (of start).Agree i v.seen g)
      → Allows (Rule (of start) start n) slots id (at_rest v, []) 0 (λ x. (x + 1) % 2 ^ 64) (commits of (e ∷ []) (step slots 0 1 0 none) (at_rest v, []))
  add_rest slots id v e p party may follows holds s r wide at _ =
      let m = of start in
      let l = laws start in
      let h = r.history in
      let h' = h ++ e ∷ [] in
      let f = r.views id (at_rest v) at in
      let x : ℕ = get_or s.words 0 0 in
      let is = m.shards_of v.seen e in
      let agree = agrees_there s r id v e at holds in
      let before = l.beginning v.seen (e ∷ []) follows in
      let legal : m.Legal h' = l.follows v.seen h e follows r.legal (prefix_length v.seen h f.seen) agree in
      let owner = agree (m.owner e) (l.owned v.seen e before) in
      let same : is ≡ m.shards_of h e = l.same_shards v.seen h e before r.legal owner in
      let own = f.party p party in
      let by : (q : ℕ) → m.party e ≡ Some q → q ≡ p = λ q its. let a = may q its in cc in
      let w' = after_commit v h e (m.party e) is in
      let w = at_rest w' in
      let ws = set s.words 0 ((x + 1) % 2 ^ 64) in
      let y : ℕ = length h in
      let longer : length h' ≡ y + 1 = length-append h (e ∷ []) in
      let bound : length h' < 2 ^ 64 = l.bounded h' legal in
      let number : x ≡ y = r.word in
      let counted : (x + 1) % 2 ^ 64 ≡ length h' = mod-eq_of_lt (omega arith) ∙ omega arith in
      let size = r.size in
      let mine : events_by m.party p h' ≡ w'.mine = by_own m.party p h e by ∙ ap (λ z. mine_after (m.party e) z e) own.2 in
      let mine_of : (q : ℕ) → p ≡ q → (q < n) × (r.seat q ≡ Some id) × (events_by m.party q h' ≡ w'.mine) = λ q e. subst (λ z. (z < n) × (r.seat z ≡ Some id) × (events_by m.party z h' ≡ w'.mine)) e (own.0, own.1, mine) in
      let seen : All (λ k. k ≤ length h') v.looks = λ k d lt. let a = f.looks k d lt in let b = prefix_length v.seen h f.seen in omega arith in
      let fits = rest_fits of laws start n h' r.holder r.seat id w' None [] f.begun (prefix_self h') (prefix_none h') seen (λ q its. (mine_of q (let a : p ≡ q = cc in a)).2)
      (λ q its. mine_of q (let a : p ≡ q = cc in a))
      (λ j g its. ⊎_elim
      (λ on. let a = holds j on in f.held j a.0 a.1)
      (λ off. f.held j g (sym (held_apart is h' v.held j off) ∙ its))
      (either_way (list_any (eqb j) is)))
      (λ none. absurd cc) in
      let held : (j : ℕ) (g : List E) → held_at w'.held j ≡ Some g → IsPrefix g h' × m.Agree j g h' = λ j g its. ⊎_elim
      (λ on. let there = held_among is h' v.held j on in let whole : h' ≡ g = cc in subst (λ z. IsPrefix z h' × m.Agree j z h') whole (prefix_self h', l.agree_self j h'))
      (λ off.
      let own_j = own_shard of laws start n s r id (at_rest v) at j g (sym (held_apart is h' v.held j off) ∙ its) in
      (prefix_more g h (e ∷ []) own_j.2, l.agree_through j g h h' own_j.3 (l.frame h e j legal (subst (λ z. list_any (eqb j) z ≡ false) same off))))
      (either_way (list_any (eqb j) is)) in
      let rule : Rule m start n (with_view m start n s ws s.homes id w) = record {
        history = h';
        holder = r.holder;
        seat = r.seat;
        lock_history = r.lock_history;
        size = length-set s.words 0 ((x + 1) % 2 ^ 64) ∙ r.size;
        legal = legal;
        word = get_or-set_same s.words 0 ((x + 1) % 2 ^ 64) 0 (omega arith) ∙ counted;
        whole = (id, w, at_here s.views id w (at_rest v) at, refl);
        shards = λ j lt. ⊎_elim
            (λ on.
            let a = holds j on in
            let own_j = own_shard of laws start n s r id (at_rest v) at j a.0 a.1 in
            let there : Held m start n (with_view m start n s ws s.homes id w) h' j id = record {
              word = get_or-set_other s.words 0 (word_of j) ((x + 1) % 2 ^ 64) 0 (λ z. absurd (omega arith)) ∙ own_j.4;
              view = w;
              there = at_here s.views id w (at_rest v) at;
              upto = h';
              held = held_among is h' v.held j on;
              begins = prefix_self h';
              agrees = l.agree_self j h';
              slot = own_j.5;
            } in
            subst (λ o. IsShard m start n (with_view m start n s ws s.homes id w) h' j o) (sym own_j.1) there)
            (λ off. shard_apart s h e ws id (at_rest v) w j at (get_or-set_other s.words 0 (word_of j) ((x + 1) % 2 ^ 64) 0 (λ z. absurd (omega arith)))
            (l.frame h e j legal (subst (λ z. list_any (eqb j) z ≡ false) same off)) (held_apart is h' v.held j off) refl (r.holder j) (r.shards j lt))
            (either_way (list_any (eqb j) is));
        parties = λ q. party_added s h e ws id (at_rest v) w q r.seat at (λ a. a) (λ z its. ap r.seat (by z its) ∙ own.1) (r.seat q) refl (r.parties q);
        views = λ k u there. ⊎_elim
            (λ t. subst (λ (z : ℕ). ViewFits m start n h' r.holder r.seat z u) (sym t.0) (subst (λ (z : SeatView S E). ViewFits m start n h' r.holder r.seat id z) t.1 fits))
            (λ t. fits_added h e r.holder r.seat id k p u t.0 own.0 own.1 by (r.views k u t.1))
            (at_set s.views id k w u there);
        locks = locks_kept m.shards s.views r.lock_history r.holder r.holder r.seat id (at_rest v) w at (λ j lt. refl) (λ j lt its q a. a) (λ q a. a) (r.locks.met id (at_rest v) at) r.locks;
      } in (
        w,
        keeps,
        tt,
        rule,
        (e, refl, (h, w', refl, told of laws start n s r id (at_rest v) at (λ z. AddsEvent of z v e x h w') (record { is = refl; number = r.word; legal = legal; seen = f.seen; agrees = agree; own = λ q its. (mine_of q (let a : p ≡ q = cc in a)).2; held = held }))),
      )

  pub add_allowed : (slots id : ℕ) (me : Me (Option X) (SeatView S E)) (told : List E) (e : E) → me ≡ (at_rest me.0.known, []) → told ≡ e ∷ [] → (p : ℕ) → me.0.known.party ≡ Some p
      → ((q : ℕ) → (of start).party e ≡ Some q → me.0.known.party ≡ Some q)
      → (of start).Legal (me.0.known.seen ++ e ∷ [])
      → ((i : ℕ) → list_any (eqb i) ((of start).shards_of me.0.known.seen e) ≡ true → (g : List E) × (held_at me.0.known.held i ≡ Some g) × (of start).Agree i me.0.known.seen g)
      → Allows (Rule (of start) start n) slots id me 0 (λ x. (x + 1) % 2 ^ 64) (commits of told (step slots 0 1 0 none) me)
  add_allowed slots id me told e ready is p party may follows holds =
      subst (λ t. Allows (Rule (of start) start n) slots id me 0 (λ x. (x + 1) % 2 ^ 64) (commits of t (step slots 0 1 0 none) me)) (sym is)
      (subst (λ z. Allows (Rule (of start) start n) slots id z 0 (λ x. (x + 1) % 2 ^ 64) (commits of (e ∷ []) (step slots 0 1 0 none) z)) (sym ready) (add_rest slots id me.0.known e p party may follows holds))
