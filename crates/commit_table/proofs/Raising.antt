-- A counter that is held may be raised, and its new value then stands for the history.
use Rattle.std.proofs.Common.{eqb, ◌≡◌, ◌≢◌, ℕ, zero, suc, ◌+◌, ◌-◌, ◌<◌, Bool, true, false, cond, ltb, eq-eqb, ne_eqb, ◌&&◌, ◌||◌, List, [], ◌∷◌, ◌++◌, length, Option, None, Some, refl, ap, sym, subst, ◌∙◌, arith}
use mathlib.Core.Logic.{dite}
use mathlib.Core.List.{IsPrefix}
use native.Mathlib.Decide.{ℕ_discrete}
use Rattle.std.proofs.lemmas.Bool.{lt-ltb, ltb-true}
use Rattle.std.specs.List.{list_any}
use Rattle.commit_table.specs.declared.views.PassView.{PassView}
use Rattle.commit_table.specs.declared.views.LockOp.{LockOp}
use Rattle.commit_table.specs.declared.counters.Counters.{Counters}
use Rattle.commit_table.specs.declared.counters.CounterEvent.{CounterEvent}
use Rattle.commit_table.specs.declared.counters.CounterEvent.TheVariants.{Raise, Carry}
use Rattle.commit_table.specs.Machine.{Machine, IsOwn}
use Rattle.commit_table.specs.Views.{held_at, after_take, after_look, after_give_back}
use Rattle.commit_table.specs.Projections.{projection_of, peers_of}
use Rattle.commit_table.specs.ProjectionLaws.{may_follow, new_own, new_peers, parts_there, last_did, part_there}
use Rattle.commit_table.specs.Counters.{most, counter_projections, counters}
use Rattle.commit_table.specs.Calls.{Looked, MayCommit, Committed}
use Rattle.commit_table.specs.Attempts.{IsCommittedOnce, IsLookedOnly}
use Rattle.commit_table.specs.Outcomes.{NoneFollows, RaisedBoth}
use Rattle.commit_table.proofs.Lists.{prefix_trans, prefix_length, held_here, held_else, held_among, held_apart}

abbrev pub K : Type 0
K = PassView Counters CounterEvent

pub projection_value : (c x : ℕ) (g : List CounterEvent) → counters.Stands c x g → projection_of counter_projections c g ≡ Some x
projection_value c x g s = s.1 ∙ ap Some (sym s.2)

only_one : (c i : ℕ) → list_any (eqb i) (c ∷ []) ≡ true → i ≡ c
only_one c i e = dite (ℕ_discrete i c) (λ same. same) (λ ne. absurd (let b = ne_eqb i c ne in cc (simp b at e)))

eq_one : (c : ℕ) → list_any (eqb c) (c ∷ []) ≡ true
eq_one c = ap (λ b. b || false) (eq-eqb c c refl)

raise_acts : (n p c x : ℕ) → x < most → counter_projections.act n (Raise p c) x [] ≡ Some (x + 1, [])
raise_acts n p c x lt = subst (λ b. cond {A = Option (ℕ × List ℕ)} b (Some (x + 1, [])) None ≡ Some (x + 1, [])) (sym (lt-ltb x most lt)) refl

one_shard : (p c x : ℕ) (h : List CounterEvent) → projection_of counter_projections c h ≡ Some x → counters.shards_of h (Raise p c) ≡ c ∷ []
one_shard p c x h e = ap (λ o. c ∷ peers_of counter_projections o (Raise p c)) e

pub may_raise : (v : K) (c x p : ℕ) (g : List CounterEvent) → v.party ≡ Some p → counters.Legal v.seen → held_at v.held c ≡ Some g → counters.Agree c g v.seen → counters.Stands c x g → x < most → MayCommit counters v (Raise p c)
may_raise v c x p g party legal held agree stands lt =
    let here : projection_of counter_projections c v.seen ≡ Some x = sym agree ∙ projection_value c x g stands in
    record {
      party = λ q e. party ∙ e;
      legal = may_follow counter_projections v.seen (Raise p c) x [] (x + 1, []) legal here (λ ps e. refl) (raise_acts 0 p c x lt);
      held = λ i among. let is : i ≡ c = only_one c i (subst (λ z. list_any (eqb i) z ≡ true) (one_shard p c x v.seen here) among) in
          subst (λ z. (g : List CounterEvent) × (held_at v.held z ≡ Some g) × counters.Agree z v.seen g) (sym is) (g, held, sym agree);
    }

pub raised_stands : (v w : K) (c x p place : ℕ) (h : List CounterEvent) → projection_of counter_projections c v.seen ≡ Some x → x < most → Committed counters v (Raise p c) place h w
    → (g : List CounterEvent) × (held_at w.held c ≡ Some g) × counters.Stands c (x + 1) g
raised_stands v w c x p place h here lt t =
    let e : CounterEvent = Raise p c in
    let among : list_any (eqb c) (counters.shards_of v.seen e) ≡ true = subst (λ z. list_any (eqb c) z ≡ true) (sym (one_shard p c x v.seen here)) (eq_one c) in
    let there : projection_of counter_projections c h ≡ Some x = sym (t.agrees c among) ∙ here in (
      h ++ e ∷ [],
      ap (λ z. held_at z.held c) t.is ∙ held_among (counters.shards_of v.seen e) (h ++ e ∷ []) v.held c among,
      (x + 1, new_own counter_projections h e x [] (x + 1, []) t.legal there (λ ps z. refl) (raise_acts 0 p c x lt) refl, refl),
    )

pub recorded : {m : Machine ℕ CounterEvent} (v u w z : K) (e : CounterEvent) (number place c : ℕ) (h k : List CounterEvent) → Looked m v number h u → Committed m u e place k w → z ≡ after_give_back w c → IsCommittedOnce m v e place z
recorded {m} v u w z e number place c h k l t is =
    let s = t.is in let b = l.is in
    record {
      before = k;
      seen = ap (λ y. y.seen) is ∙ ap (λ y. y.seen) s;
      legal = t.legal;
      goes_on = prefix_trans v.seen h k l.seen (subst (λ y. IsPrefix y.seen k) b t.seen);
      place_is = t.place_is;
      own = subst (λ y. IsOwn m y.party y.seen y.mine) (sym is) (λ p its. ap (λ y. Rattle.commit_table.specs.Machine.events_by m.party p y.seen) s ∙ t.own p (sym (ap (λ y. y.party) s) ∙ its));
      mine = ap (λ y. y.mine) is ∙ (ap (λ y. y.mine) s ∙ ap (λ y. Rattle.commit_table.specs.Views.mine_after (m.party e) y.mine e) b);
      commits = ap (λ y. y.commits) is ∙ (ap (λ y. y.commits) s ∙ (ap (λ y. y.commits ++ length k ∷ []) b ∙ ap (λ n. v.commits ++ n ∷ []) (sym t.place_is)));
      looks = (
        length h,
        ap (λ y. y.looks) is ∙ (ap (λ y. y.looks) s ∙ ap (λ y. y.looks) b),
        prefix_length v.seen h l.seen,
        let within = prefix_length h k (subst (λ y. IsPrefix y.seen k) b t.seen) in let at = t.place_is in omega arith,
      );
      missed = ap (λ y. y.missed) is ∙ (ap (λ y. y.missed) s ∙ ap (λ y. y.missed) b);
      met = ap (λ y. y.lock_history) is ∙ (ap (λ y. y.lock_history) s ∙ ap (λ y. y.lock_history) b);
      party = ap (λ y. y.party) is ∙ (ap (λ y. y.party) s ∙ ap (λ y. y.party) b);
      start = ap (λ y. y.start) is ∙ (ap (λ y. y.start) s ∙ ap (λ y. y.start) b);
    }

-- a counter that is held has its value in what was seen
pub seen_value : (v u : K) (number c x : ℕ) (h g : List CounterEvent) → Looked counters v number h u → held_at v.held c ≡ Some g → counters.Stands c x g → projection_of counter_projections c u.seen ≡ Some x
seen_value v u number c x h g l held stands = ap (λ z. projection_of counter_projections c z) (ap (λ y. y.seen) l.is) ∙ (sym (l.held c g held).1 ∙ projection_value c x g stands)

pub may_after : (v u : K) (number c x p : ℕ) (h g : List CounterEvent) → Looked counters v number h u → u.party ≡ Some p → held_at v.held c ≡ Some g → counters.Stands c x g → x < most → MayCommit counters u (Raise p c)
may_after v u number c x p h g l party held stands lt =
    may_raise u c x p g party (subst (λ y. counters.Legal y.seen) (sym l.is) l.legal) (ap (λ y. held_at y.held c) l.is ∙ held) (subst (λ y. counters.Agree c g y.seen) (sym l.is) (l.held c g held).1) stands lt

-- what is held of the other counter stays
pub other_held : (v u w z : K) (number place c p i : ℕ) (h k : List CounterEvent) (x : ℕ) → Looked counters v number h u → projection_of counter_projections c u.seen ≡ Some x → Committed counters u (Raise p c) place k w → z ≡ after_give_back w c → i ≢ c → held_at z.held i ≡ held_at v.held i
other_held v u w z number place c p i h k x l here t is ne =
    let off : list_any (eqb i) (counters.shards_of u.seen (Raise p c)) ≡ false = subst (λ y. list_any (eqb i) y ≡ false) (sym (one_shard p c x u.seen here)) (ap (λ b. b || false) (ne_eqb i c ne)) in
    ap (λ y. held_at y.held i) is ∙ (held_else w.held c i None ne ∙ (ap (λ y. held_at y.held i) t.is ∙ (held_apart (counters.shards_of u.seen (Raise p c)) (k ++ Raise p c ∷ []) u.held i off ∙ ap (λ y. held_at y.held i) l.is)))

pub given : (w z : K) (c : ℕ) → z ≡ after_give_back w c → held_at z.held c ≡ None
given w z c is = ap (λ y. held_at y.held c) is ∙ held_here w.held c None

-- the same for what is carried from the first counter to the second
carry_acts : (n a b : ℕ) → 0 < a → b < most → counter_projections.act n Carry a (b ∷ []) ≡ Some (a - 1, (b + 1) ∷ [])
carry_acts n a b la lb = subst (λ x. cond {A = Option (ℕ × List ℕ)} (x && ltb b most) (Some (a - 1, (b + 1) ∷ [])) None ≡ Some (a - 1, (b + 1) ∷ [])) (sym (lt-ltb 0 a la))
    (subst (λ x. cond {A = Option (ℕ × List ℕ)} x (Some (a - 1, (b + 1) ∷ [])) None ≡ Some (a - 1, (b + 1) ∷ [])) (sym (lt-ltb b most lb)) refl)

two_shards : (a : ℕ) (h : List CounterEvent) → projection_of counter_projections 0 h ≡ Some a → counters.shards_of h Carry ≡ 0 ∷ 1 ∷ []
two_shards a h e = ap (λ o. 0 ∷ peers_of counter_projections o Carry) e

one_of_two : (i : ℕ) (P : ℕ → Type 0) → P 0 → P 1 → list_any (eqb i) (0 ∷ 1 ∷ []) ≡ true → P i
one_of_two zero P z o e = z
one_of_two (suc zero) P z o e = o
one_of_two (suc (suc i)) P z o e = absurd (let a = ne_eqb (suc (suc i)) 0 (λ q. absurd (omega arith)) in let b = ne_eqb (suc (suc i)) 1 (λ q. absurd (omega arith)) in cc (simp (a, b) at e))

-- both counters are held
pub record Both (v : K) (a b : ℕ) : Type 0 where
  pub first : List CounterEvent
  pub first_held : held_at v.held 0 ≡ Some first
  pub first_stands : counters.Stands 0 a first
  pub second : List CounterEvent
  pub second_held : held_at v.held 1 ≡ Some second
  pub second_stands : counters.Stands 1 b second
  pub room : (0 < a) × (b < most)

pub may_carry : (v u : K) (number a b : ℕ) (h : List CounterEvent) → Looked counters v number h u → Both v a b → MayCommit counters u Carry
may_carry v u number a b h l t =
    let here = seen_value v u number 0 a h t.first l t.first_held t.first_stands in
    let there = seen_value v u number 1 b h t.second l t.second_held t.second_stands in
    let seen = ap (λ y. y.seen) l.is in
    record {
      party = λ q e. absurd cc;
      legal = may_follow counter_projections u.seen Carry a (b ∷ []) (a - 1, (b + 1) ∷ []) (subst (λ y. counters.Legal y) (sym seen) l.legal) here (λ ps e. parts_there counter_projections u.seen ps (1 ∷ []) (b ∷ []) e (there, tt)) (carry_acts 0 a b t.room.0 t.room.1);
      held = λ i among. one_of_two i (λ z. (g : List CounterEvent) × (held_at u.held z ≡ Some g) × counters.Agree z u.seen g)
          (t.first, ap (λ y. held_at y.held 0) l.is ∙ t.first_held, here ∙ sym (projection_value 0 a t.first t.first_stands))
          (t.second, ap (λ y. held_at y.held 1) l.is ∙ t.second_held, there ∙ sym (projection_value 1 b t.second t.second_stands))
          (subst (λ z. list_any (eqb i) z ≡ true) (two_shards a u.seen here) among);
    }

pub carried_first : (v u w : K) (number place a b : ℕ) (h k : List CounterEvent) → Looked counters v number h u → Both v a b → Committed counters u Carry place k w → (g : List CounterEvent) × (held_at w.held 0 ≡ Some g) × counters.Stands 0 (a - 1) g
carried_first v u w number place a b h k l t c =
    let here = seen_value v u number 0 a h t.first l t.first_held t.first_stands in
    let there = seen_value v u number 1 b h t.second l t.second_held t.second_stands in
    let shards = two_shards a u.seen here in
    let among : (i : ℕ) → list_any (eqb i) (0 ∷ 1 ∷ []) ≡ true → list_any (eqb i) (counters.shards_of u.seen Carry) ≡ true = λ i e. subst (λ z. list_any (eqb i) z ≡ true) (sym shards) e in
    let own : projection_of counter_projections 0 k ≡ Some a = sym (c.agrees 0 (among 0 refl)) ∙ here in
    let peer : projection_of counter_projections 1 k ≡ Some b = sym (c.agrees 1 (among 1 refl)) ∙ there in (
      k ++ Carry ∷ [],
      ap (λ z. held_at z.held 0) c.is ∙ held_among (counters.shards_of u.seen Carry) (k ++ Carry ∷ []) u.held 0 (among 0 refl),
      (a - 1, new_own counter_projections k Carry a (b ∷ []) (a - 1, (b + 1) ∷ []) c.legal own (λ ps e. parts_there counter_projections k ps (1 ∷ []) (b ∷ []) e (peer, tt)) (carry_acts 0 a b t.room.0 t.room.1) refl, refl),
    )

pub carried_second : (v u w : K) (number place a b : ℕ) (h k : List CounterEvent) → Looked counters v number h u → Both v a b → Committed counters u Carry place k w → (g : List CounterEvent) × (held_at w.held 1 ≡ Some g) × counters.Stands 1 (b + 1) g
carried_second v u w number place a b h k l t c =
    let here = seen_value v u number 0 a h t.first l t.first_held t.first_stands in
    let there = seen_value v u number 1 b h t.second l t.second_held t.second_stands in
    let shards = two_shards a u.seen here in
    let among : (i : ℕ) → list_any (eqb i) (0 ∷ 1 ∷ []) ≡ true → list_any (eqb i) (counters.shards_of u.seen Carry) ≡ true = λ i e. subst (λ z. list_any (eqb i) z ≡ true) (sym shards) e in
    let own : projection_of counter_projections 0 k ≡ Some a = sym (c.agrees 0 (among 0 refl)) ∙ here in
    let peer : projection_of counter_projections 1 k ≡ Some b = sym (c.agrees 1 (among 1 refl)) ∙ there in (
      k ++ Carry ∷ [],
      ap (λ z. held_at z.held 1) c.is ∙ held_among (counters.shards_of u.seen Carry) (k ++ Carry ∷ []) u.held 1 (among 1 refl),
      (b + 1, new_peers counter_projections k Carry a (b ∷ []) (a - 1, (b + 1) ∷ []) c.legal own (peer, tt) (carry_acts 0 a b t.room.0 t.room.1) refl (refl, tt) 0 1 (b + 1) refl refl, refl),
    )

pub first_later : (v u w z : K) (number place a b : ℕ) (h k : List CounterEvent) → Looked counters v number h u → Both v a b → Committed counters u Carry place k w → z ≡ after_give_back w 1 → (g : List CounterEvent) × (held_at z.held 0 ≡ Some g) × counters.Stands 0 (a - 1) g
first_later v u w z number place a b h k l t c is =
    let f = carried_first v u w number place a b h k l t c in (f.0, ap (λ y. held_at y.held 0) is ∙ (held_else w.held 1 0 None (λ e. absurd (omega arith)) ∙ f.1), f.2)

-- where a counter has no room, no event may follow
only_where : {A : Type 0} (b : Bool) (x y : A) → cond b (Some x) None ≡ Some y → b ≡ true
only_where true x y e = refl
only_where false x y e = absurd cc

both_hold : (a b : Bool) → (a && b) ≡ true → (a ≡ true) × (b ≡ true)
both_hold true b e = (refl, e)
both_hold false b e = absurd cc

pub no_raise : (p c x : ℕ) (h : List CounterEvent) → projection_of counter_projections c h ≡ Some x → ¬ (x < most) → ¬ counters.Legal (h ++ Raise p c ∷ [])
no_raise p c x h here full legal =
    let d = last_did counter_projections h (Raise p c) legal.0 legal.1 in
    let r = d.2 in
    let is : r.own ≡ x = (let a = r.own_there in let b = part_there counter_projections h d.0 c d.1 in cc) in
    let room = ltb-true r.own most (only_where (ltb r.own most) (r.own + 1, []) r.new r.acts) in
    full (subst (λ z. z < most) is room)

carried_where : (n a b : ℕ) (others : List ℕ) (new : ℕ × List ℕ) → others ≡ b ∷ [] → counter_projections.act n Carry a others ≡ Some new → (0 < a) × (b < most)
carried_where n a b others new is e =
    let acts : counter_projections.act n Carry a (b ∷ []) ≡ Some new = subst (λ z. counter_projections.act n Carry a z ≡ Some new) is e in
    let both = both_hold (ltb 0 a) (ltb b most) (only_where (ltb 0 a && ltb b most) (a - 1, (b + 1) ∷ []) new acts) in
    (ltb-true 0 a both.0, ltb-true b most both.1)

pub no_carry : (a b : ℕ) (h : List CounterEvent) → projection_of counter_projections 0 h ≡ Some a → projection_of counter_projections 1 h ≡ Some b → ¬ ((0 < a) × (b < most)) → ¬ counters.Legal (h ++ Carry ∷ [])
no_carry a b h here there full legal =
    let d = last_did counter_projections h Carry legal.0 legal.1 in
    let r = d.2 in
    let is : r.own ≡ a = (let x = r.own_there in let y = part_there counter_projections h d.0 0 d.1 in cc) in
    let others : r.others ≡ b ∷ [] = (let x = r.others_there in let y = parts_there counter_projections h d.0 (1 ∷ []) (b ∷ []) d.1 (there, tt) in cc) in
    let room = carried_where 0 r.own b r.others r.new others r.acts in
    full (subst (λ z. 0 < z) is room.0, room.1)

-- nothing was done but a look
looked_only : (v z : K) (h : List CounterEvent) (held : List (ℕ × Option (List CounterEvent))) (records : List (ℕ × LockOp)) → z ≡ record v { seen = h; looks = v.looks ++ length h ∷ []; held = held; lock_operations = records }
    → counters.Legal h → IsPrefix v.seen h → IsOwn counters v.party h v.mine → IsLookedOnly counters v z
looked_only v z h held records is legal longer own = subst (λ y. IsLookedOnly counters v y) (sym is) (record {
  goes_on = longer;
  legal = legal;
  own = own;
  looks = refl;
  mine = refl;
  commits = refl;
  missed = refl;
  met = refl;
  party = refl;
  start = refl;
})

pub stuck_raise : (v t u z : K) (number c x : ℕ) (h g : List CounterEvent) → t ≡ after_take v c g → counters.Stands c x g → Looked counters t number h u → z ≡ after_give_back u c → ¬ (x < most)
    → IsLookedOnly counters v z × NoneFollows (λ e. (p : ℕ) × (e ≡ Raise p c) × (v.party ≡ Some p)) z.seen
stuck_raise v t u z number c x h g took_is stands looked_there is full =
    let l : Looked counters (after_take v c g) number h u = subst (λ y. Looked counters y number h u) took_is looked_there in
    let whole : z ≡ after_give_back (after_look (after_take v c g) h) c = is ∙ ap (λ y. after_give_back y c) l.is in
    let here = seen_value (after_take v c g) u number c x h g l (held_here v.held c (Some g)) stands in
    let same : u.seen ≡ z.seen = sym (ap (λ y. y.seen) is) in (
      looked_only v z h _ _ whole l.legal l.seen l.own,
      λ e its legal. no_raise its.0 c x z.seen (subst (λ y. projection_of counter_projections c y ≡ Some x) same here) full (subst (λ y. counters.Legal (z.seen ++ y ∷ [])) its.1 legal),
    )

pub stuck_carry : (v t s u y z : K) (number a b : ℕ) (h g k : List CounterEvent) → t ≡ after_take v 0 g → counters.Stands 0 a g → s ≡ after_take t 1 k → counters.Stands 1 b k → Looked counters s number h u → y ≡ after_give_back u 1 → z ≡ after_give_back y 0
    → ¬ ((0 < a) × (b < most)) → IsLookedOnly counters v z × NoneFollows (λ e. e ≡ Carry) z.seen
stuck_carry v t s u y z number a b h g k first stands second also looked_there is last full =
    let two : K = after_take (after_take v 0 g) 1 k in
    let both : s ≡ two = second ∙ ap (λ w. after_take w 1 k) first in
    let l : Looked counters two number h u = subst (λ w. Looked counters w number h u) both looked_there in
    let whole : z ≡ after_give_back (after_give_back (after_look two h) 1) 0 = last ∙ (ap (λ w. after_give_back w 0) is ∙ ap (λ w. after_give_back (after_give_back w 1) 0) l.is) in
    let here = seen_value two u number 0 a h g l refl stands in
    let there = seen_value two u number 1 b h k l refl also in
    let same : u.seen ≡ z.seen = sym (ap (λ w. w.seen) last ∙ ap (λ w. w.seen) is) in (
      looked_only v z h _ _ whole l.legal l.seen l.own,
      λ e its legal. no_carry a b z.seen (subst (λ w. projection_of counter_projections 0 w ≡ Some a) same here) (subst (λ w. projection_of counter_projections 1 w ≡ Some b) same there) full (subst (λ w. counters.Legal (z.seen ++ w ∷ [])) its legal),
    )

-- the second counter, after the first was raised and given back: it is held as it was, and what was seen agrees with it there
pub record Next (v z : K) (g : List CounterEvent) : Type 0 where
  pub held : held_at z.held 1 ≡ Some g
  pub agrees : counters.Agree 1 g z.seen
  pub legal : counters.Legal z.seen
  pub party : z.party ≡ v.party

pub next_there : (v u w z : K) (number place p x : ℕ) (h k g : List CounterEvent) → Looked counters v number h u → projection_of counter_projections 0 u.seen ≡ Some x → Committed counters u (Raise p 0) place k w → z ≡ after_give_back w 0 → held_at v.held 1 ≡ Some g → Next v z g
next_there v u w z number place p x h k g l here t is held =
    let there : held_at z.held 1 ≡ Some g = other_held v u w z number place 0 p 1 h k x l here t is (λ e. absurd (omega arith)) ∙ held in
    let kept : held_at w.held 1 ≡ Some g = sym (held_else w.held 0 1 None (λ e. absurd (omega arith))) ∙ (sym (ap (λ y. held_at y.held 1) is) ∙ there) in
    let seen : k ++ Raise p 0 ∷ [] ≡ z.seen = sym (ap (λ y. y.seen) is ∙ ap (λ y. y.seen) t.is) in
    record {
      held = there;
      agrees = subst (λ y. counters.Agree 1 g y) seen (t.held 1 g kept).1;
      legal = subst (λ y. counters.Legal y) seen t.legal;
      party = ap (λ y. y.party) is ∙ (ap (λ y. y.party) t.is ∙ ap (λ y. y.party) l.is);
    }

pub may_next : (v z : K) (p x : ℕ) (g : List CounterEvent) → Next v z g → v.party ≡ Some p → counters.Stands 1 x g → x < most → MayCommit counters z (Raise p 1)
may_next v z p x g n party stands lt = may_raise z 1 x p g (n.party ∙ party) n.legal n.held n.agrees stands lt

pub next_stands : (v z w : K) (p x place : ℕ) (g k : List CounterEvent) → Next v z g → counters.Stands 1 x g → x < most → Committed counters z (Raise p 1) place k w → (f : List CounterEvent) × (held_at w.held 1 ≡ Some f) × counters.Stands 1 (x + 1) f
next_stands v z w p x place g k n stands lt t = raised_stands z w 1 x p place k (sym n.agrees ∙ projection_value 1 x g stands) lt t

pub raised_both : (v u w z w' z' : K) (number place place' p : ℕ) (h k k' : List CounterEvent) → Looked counters v number h u → Committed counters u (Raise p 0) place k w → z ≡ after_give_back w 0 → Committed counters z (Raise p 1) place' k' w' → z' ≡ after_give_back w' 1
    → RaisedBoth v p place' z'
raised_both v u w z w' z' number place place' p h k k' l t is t' is' =
    let first = ap (λ y. y.seen) is ∙ ap (λ y. y.seen) t.is in
    let more : IsPrefix k (k ++ Raise p 0 ∷ []) = (Raise p 0 ∷ [], refl) in
    let seen : z'.seen ≡ k' ++ Raise p 1 ∷ [] = ap (λ y. y.seen) is' ∙ ap (λ y. y.seen) t'.is in
    let at_k : IsPrefix v.seen k = prefix_trans v.seen h k l.seen (subst (λ y. IsPrefix y.seen k) l.is t.seen) in
    let mine : z.mine ≡ v.mine ++ Raise p 0 ∷ [] = ap (λ y. y.mine) is ∙ (ap (λ y. y.mine) t.is ∙ ap (λ y. y.mine ++ Raise p 0 ∷ []) l.is) in
    record {
      before = k';
      seen = seen;
      legal = subst (λ y. counters.Legal y) (sym seen) t'.legal;
      goes_on = prefix_trans v.seen (k ++ Raise p 0 ∷ []) k' (prefix_trans v.seen k (k ++ Raise p 0 ∷ []) at_k more) (subst (λ y. IsPrefix y k') first t'.seen);
      place_is = t'.place_is;
      mine = ap (λ y. y.mine) is' ∙ (ap (λ y. y.mine) t'.is ∙ ap (λ y. y ++ Raise p 1 ∷ []) mine);
      looks = (length h, ap (λ y. y.looks) is' ∙ (ap (λ y. y.looks) t'.is ∙ (ap (λ y. y.looks) is ∙ (ap (λ y. y.looks) t.is ∙ ap (λ y. y.looks) l.is))));
      missed = ap (λ y. y.missed) is' ∙ (ap (λ y. y.missed) t'.is ∙ (ap (λ y. y.missed) is ∙ (ap (λ y. y.missed) t.is ∙ ap (λ y. y.missed) l.is)));
      party = ap (λ y. y.party) is' ∙ (ap (λ y. y.party) t'.is ∙ (ap (λ y. y.party) is ∙ (ap (λ y. y.party) t.is ∙ ap (λ y. y.party) l.is)));
      start = ap (λ y. y.start) is' ∙ (ap (λ y. y.start) t'.is ∙ (ap (λ y. y.start) is ∙ (ap (λ y. y.start) t.is ∙ ap (λ y. y.start) l.is)));
    }

-- what is held of other counters stays where the second is raised and given back
next_held : (z w' z' : K) (place p x i : ℕ) (k : List CounterEvent) → projection_of counter_projections 1 z.seen ≡ Some x → Committed counters z (Raise p 1) place k w' → z' ≡ after_give_back w' 1 → i ≢ 1 → held_at z'.held i ≡ held_at z.held i
next_held z w' z' place p x i k here t is ne =
    let off : list_any (eqb i) (counters.shards_of z.seen (Raise p 1)) ≡ false = subst (λ y. list_any (eqb i) y ≡ false) (sym (one_shard p 1 x z.seen here)) (ap (λ b. b || false) (ne_eqb i 1 ne)) in
    ap (λ y. held_at y.held i) is ∙ (held_else w'.held 1 i None ne ∙ (ap (λ y. held_at y.held i) t.is ∙ held_apart (counters.shards_of z.seen (Raise p 1)) (k ++ Raise p 1 ∷ []) z.held i off))

pub both_given : (v u w z w' z' : K) (number place place' p a b : ℕ) (h k k' : List CounterEvent) → Looked counters v number h u → projection_of counter_projections 0 u.seen ≡ Some a → Committed counters u (Raise p 0) place k w → z ≡ after_give_back w 0
    → projection_of counter_projections 1 z.seen ≡ Some b → Committed counters z (Raise p 1) place' k' w' → z' ≡ after_give_back w' 1 → ((i : ℕ) → 1 < i → held_at v.held i ≡ None) → (i : ℕ) → held_at z'.held i ≡ None
both_given v u w z w' z' number place place' p a b h k k' l here t is there t' is' others i = dite (ℕ_discrete i 1)
    (λ same. subst (λ j. held_at z'.held j ≡ None) (sym same) (given w' z' 1 is'))
    (λ ne. next_held z w' z' place' p b i k' there t' is' ne ∙ dite (ℕ_discrete i 0)
    (λ same. subst (λ j. held_at z.held j ≡ None) (sym same) (given w z 0 is))
    (λ apart. other_held v u w z number place 0 p i h k a l here t is apart ∙ others i (omega arith)))
