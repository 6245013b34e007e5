-- A machine of projections keeps the laws of a machine whose state lies in shards.
use Rattle.std.proofs.Common.{◌≡◌, ◌≢◌, ℕ, zero, suc, ◌+◌, ◌^◌, ◌<◌, ◌≤◌, true, false, ◌||◌, eqb, eq-eqb, ne_eqb, List, [], ◌∷◌, ◌++◌, length, set, slice_get, Option, None, Some, refl, ap, sym, subst, ◌∙◌, arith}
use mathlib.Core.Logic.{dite}
use native.Mathlib.Decide.{ℕ_discrete}
use Rattle.std.specs.Prelude.{option_and_then}
use Rattle.std.proofs.Math.Bool.{or-true}
use Rattle.std.specs.List.{list_any}
use Rattle.commit_table.specs.Machine.{Machine, Laws}
use Rattle.commit_table.specs.Projections.{ProjectedMachine, projections_at, with_projections, acted, stepped, run, projections_of, projection_of, peers_of, machine_of, Lasts, ArePartsOf, AreApart}

module _ {A B : Type 0} where
  -- what a chain came from
  pub chained : (f : A → Option B) (o : Option A) (y : B) → option_and_then f o ≡ Some y → (x : A) × (o ≡ Some x) × (f x ≡ Some y)
  chained f None y e = absurd cc
  chained f (Some x) y e = (x, refl, e)

  pub chain_at : (f : A → Option B) (o : Option A) (x : A) → o ≡ Some x → option_and_then f o ≡ f x
  chain_at f o x e = ap (λ z. option_and_then f z) e

chain_some : {A : Type 0} (o : Option A) → option_and_then (λ x. Some x) o ≡ o
chain_some None = refl
chain_some (Some x) = refl

module _ {A : Type 0} where
  pub get_set_else : (xs : List A) (i j : ℕ) (a : A) → j ≢ i → slice_get (set xs i a) j ≡ slice_get xs j
  get_set_else [] i j a ne = refl
  get_set_else (x ∷ xs) zero zero a ne = absurd (ne refl)
  get_set_else (x ∷ xs) zero (suc j) a ne = refl
  get_set_else (x ∷ xs) (suc i) zero a ne = refl
  get_set_else (x ∷ xs) (suc i) (suc j) a ne = get_set_else xs i j a (λ e. ne (ap suc e))

apart_here : (i j : ℕ) (is : List ℕ) → list_any (eqb i) (j ∷ is) ≡ false → (i ≢ j) × (list_any (eqb i) is ≡ false)
apart_here i j is e = dite (ℕ_discrete i j)
    (λ same. absurd (let b = eq-eqb i j same in cc (simp b at e)))
    (λ ne. (ne, let b = ne_eqb i j ne in simp b at e))

among_later : (i j : ℕ) (is : List ℕ) → list_any (eqb i) is ≡ true → list_any (eqb i) (j ∷ is) ≡ true
among_later i j is e = ap (λ b. eqb i j || b) e ∙ or-true (eqb i j)

among_first : (j : ℕ) (is : List ℕ) → list_any (eqb j) (j ∷ is) ≡ true
among_first j is = ap (λ b. b || list_any (eqb j) is) (eq-eqb j j refl)

module _ {P : Type 0} where
  pub with_apart : (ps : List P) (is : List ℕ) (qs : List P) (i : ℕ) → list_any (eqb i) is ≡ false → slice_get (with_projections ps is qs) i ≡ slice_get ps i
  with_apart ps [] qs i off = refl
  with_apart ps (j ∷ is) [] i off = refl
  with_apart ps (j ∷ is) (q ∷ qs) i off = let a = apart_here i j is off in with_apart (set ps j q) is qs i a.1 ∙ get_set_else ps j i q a.0

  pub parts_same : (ps ks : List P) (is : List ℕ) → ((j : ℕ) → list_any (eqb j) is ≡ true → slice_get ps j ≡ slice_get ks j) → projections_at ps is ≡ projections_at ks is
  parts_same ps ks [] same = refl
  parts_same ps ks (i ∷ is) same =
      let here = same i (among_first i is) in
      let rest = parts_same ps ks is (λ j e. same j (among_later j i is e)) in
      ap (λ z. option_and_then (λ p. option_and_then (λ qs. Some (p ∷ qs)) (projections_at ps is)) z) here ∙ ap (λ z. option_and_then (λ p. option_and_then (λ qs. Some (p ∷ qs)) z) (slice_get ks i)) rest

pub among_at : (is : List ℕ) (k j : ℕ) → slice_get is k ≡ Some j → list_any (eqb j) is ≡ true
among_at [] k j e = absurd cc
among_at (i ∷ is) zero j e = let here : i ≡ j = cc in subst (λ z. list_any (eqb z) (i ∷ is) ≡ true) here (among_first i is)
among_at (i ∷ is) (suc k) j e = among_later j i is (among_at is k j e)

module _ {P : Type 0} where
  pub get_set_here : (ps : List P) (i : ℕ) (p q : P) → slice_get ps i ≡ Some p → slice_get (set ps i q) i ≡ Some q
  get_set_here [] i p q e = absurd cc
  get_set_here (x ∷ xs) zero p q e = refl
  get_set_here (x ∷ xs) (suc i) p q e = get_set_here xs i p q e

  -- where the projections of shards were found, each is in its place
  pub parts_found : (ps : List P) (is : List ℕ) (others : List P) (k j : ℕ) → projections_at ps is ≡ Some others → slice_get is k ≡ Some j → (x : P) × (slice_get others k ≡ Some x) × (slice_get ps j ≡ Some x)
  parts_found ps [] others k j e at = absurd cc
  parts_found ps (i ∷ is) others k j e at =
      let x = chained (λ (p : P). option_and_then (λ (qs : List P). Some (p ∷ qs)) (projections_at ps is)) (slice_get ps i) others e in
      let y = chained (λ (qs : List P). Some (x.0 ∷ qs)) (projections_at ps is) others x.2 in
      let whole : x.0 ∷ y.0 ≡ others = (let z = y.2 in cc) in
      elim k as (λ n. slice_get (i ∷ is) n ≡ Some j → (x : P) × (slice_get others n ≡ Some x) × (slice_get ps j ≡ Some x)) [
        | zero ↦ λ here. let same : i ≡ j = cc in (x.0, ap (λ (z : List P). slice_get z 0) (sym whole), subst (λ z. slice_get ps z ≡ Some x.0) same x.1)
        | suc n ↦ λ later. let r = parts_found ps is y.0 n j y.1 later in (r.0, ap (λ (z : List P). slice_get z (suc n)) (sym whole) ∙ r.1, r.2)
      ] at

  -- each shard that is named once has its new projection
  pub with_there : (ps : List P) (is : List ℕ) (qs : List P) (k j : ℕ) (p was : P) → AreApart is → slice_get is k ≡ Some j → slice_get qs k ≡ Some p → slice_get ps j ≡ Some was → slice_get (with_projections ps is qs) j ≡ Some p
  with_there ps [] qs k j p was once at part there = absurd cc
  with_there ps (i ∷ is) [] k j p was once at part there = absurd cc
  with_there ps (i ∷ is) (q ∷ qs) zero j p was once at part there =
      let same : i ≡ j = cc in let new : q ≡ p = cc in
      subst (λ z. slice_get (with_projections (set ps i q) is qs) z ≡ Some p) same
      (with_apart (set ps i q) is qs i once.0 ∙ (get_set_here ps i was q (subst (λ z. slice_get ps z ≡ Some was) (sym same) there) ∙ ap (λ z. Some z) new))
  with_there ps (i ∷ is) (q ∷ qs) (suc k) j p was once at part there =
      let ne : j ≢ i = λ same. absurd (let x = among_at is k j at in let y = once.0 in let z = ap (λ z. list_any (eqb z) is) same in cc) in
      with_there (set ps i q) is qs k j p was once.1 at part (get_set_else ps i j q ne ∙ there)

module _ {P X E : Type 0} (a : ProjectedMachine P X E) where
  -- an event happened, at a place
  pub record Did (place : ℕ) (ps : List P) (e : E) (after : List P) : Type 0 where
    pub own : P
    pub own_there : slice_get ps (a.owner e) ≡ Some own
    pub others : List P
    pub others_there : projections_at ps (a.peers own e) ≡ Some others
    pub new : P × List P
    pub acts : a.act place e own others ≡ Some new
    pub is : after ≡ with_projections (set ps (a.owner e) (a.noted place e new.0)) (a.peers own e) new.1

  pub did : (place : ℕ) (ps : List P) (e : E) (after : List P) → stepped a place ps e ≡ Some after → Did place ps e after
  did place ps e after s =
      let x = chained (acted a place ps e) (slice_get ps (a.owner e)) after s in
      let own = x.0 in
      let y = chained (λ qs. option_and_then (λ (new : P × List P). Some (with_projections (set ps (a.owner e) (a.noted place e new.0)) (a.peers own e) new.1)) (a.act place e own qs)) (projections_at ps (a.peers own e)) after x.2 in
      let z = chained (λ (new : P × List P). Some (with_projections (set ps (a.owner e) (a.noted place e new.0)) (a.peers own e) new.1)) (a.act place e own y.0) after y.2 in
      record { own = own; own_there = x.1; others = y.0; others_there = y.1; new = z.0; acts = z.1; is = let e = z.2 in cc }

  -- an event may happen where its projections are those with which it may
  pub may : (place : ℕ) (ps : List P) (e : E) (own : P) (others : List P) (new : P × List P) → slice_get ps (a.owner e) ≡ Some own → projections_at ps (a.peers own e) ≡ Some others
      → a.act place e own others ≡ Some new → (after : List P) × (stepped a place ps e ≡ Some after)
  may place ps e own others new here there acts = (
    with_projections (set ps (a.owner e) (a.noted place e new.0)) (a.peers own e) new.1,
    chain_at (acted a place ps e) (slice_get ps (a.owner e)) own here
        ∙ (chain_at (λ qs. option_and_then (λ (new : P × List P). Some (with_projections (set ps (a.owner e) (a.noted place e new.0)) (a.peers own e) new.1)) (a.act place e own qs)) (projections_at ps (a.peers own e)) others there
        ∙ chain_at (λ (new : P × List P). Some (with_projections (set ps (a.owner e) (a.noted place e new.0)) (a.peers own e) new.1)) (a.act place e own others) new acts),
  )

  -- the last event of a history comes after the others
  pub run_last : (place : ℕ) (ps : List P) (h : List E) (e : E) → run a place ps (h ++ e ∷ []) ≡ option_and_then (λ qs. stepped a (place + length h) qs e) (run a place ps h)
  run_last place ps [] e = chain_some (stepped a place ps e) ∙ ap (λ n. stepped a n ps e) (omega arith)
  run_last place ps (x ∷ h) e = elim (stepped a place ps x) as (λ o. option_and_then (λ qs. run a (suc place) qs (h ++ e ∷ [])) o ≡ option_and_then (λ qs. stepped a (place + length (x ∷ h)) qs e) (option_and_then (λ qs. run a (suc place) qs h) o))
      [ None ↦ refl | Some qs ↦ run_last (suc place) qs h e ∙ ap (λ n. option_and_then (λ qs. stepped a n qs e) (run a (suc place) qs h)) (omega arith) ]

  pub run_begins : (place : ℕ) (ps : List P) (h rest : List E) (after : List P) → run a place ps (h ++ rest) ≡ Some after → (qs : List P) × (run a place ps h ≡ Some qs)
  run_begins place ps [] rest after e = (ps, refl)
  run_begins place ps (x ∷ h) rest after e =
      let s = chained (λ qs. run a (suc place) qs (h ++ rest)) (stepped a place ps x) after e in
      let r = run_begins (suc place) s.0 h rest after s.2 in (r.0, chain_at (λ qs. run a (suc place) qs h) (stepped a place ps x) s.0 s.1 ∙ r.1)

  abbrev M : Machine X E
  M = machine_of a

  pub last_did : (h : List E) (e : E) (after : List P) → projections_of a (h ++ e ∷ []) ≡ Some after → (ps : List P) × (projections_of a h ≡ Some ps) × Did (zero + length h) ps e after
  last_did h e after s =
      let x = chained (λ qs. stepped a (zero + length h) qs e) (projections_of a h) after (sym (run_last zero a.first h e) ∙ s) in
      (x.0, x.1, did (zero + length h) x.0 e after x.2)

  -- the projection of a shard, of all projections
  pub part_there : (h : List E) (ps : List P) (i : ℕ) → projections_of a h ≡ Some ps → projection_of a i h ≡ slice_get ps i
  part_there h ps i e = chain_at (λ (ps : List P). slice_get ps i) (projections_of a h) ps e

  frame : (h : List E) (e : E) (i : ℕ) → M.Legal (h ++ e ∷ []) → list_any (eqb i) (M.shards_of h e) ≡ false → M.Agree i h (h ++ e ∷ [])
  frame h e i legal off =
      let d = last_did h e legal.0 legal.1 in
      let r = d.2 in
      let own : projection_of a (a.owner e) h ≡ Some r.own = part_there h d.0 (a.owner e) d.1 ∙ r.own_there in
      let far = apart_here i (a.owner e) (peers_of a (projection_of a (a.owner e) h) e) off in
      let beside : list_any (eqb i) (a.peers r.own e) ≡ false = subst (λ o. list_any (eqb i) (peers_of a o e) ≡ false) own far.1 in
      let same : slice_get legal.0 i ≡ slice_get d.0 i = ap (λ z. slice_get z i) r.is ∙ (with_apart (set d.0 (a.owner e) (a.noted (zero + length h) e r.new.0)) (a.peers r.own e) r.new.1 i beside ∙ get_set_else d.0 (a.owner e) i (a.noted (zero + length h) e r.new.0) far.0) in
      part_there h d.0 i d.1 ∙ (sym same ∙ sym (part_there (h ++ e ∷ []) legal.0 i legal.1))

  follows : Lasts a → (h k : List E) (e : E) → M.Legal (h ++ e ∷ []) → M.Legal k → length h ≤ length k → ((i : ℕ) → list_any (eqb i) (M.shards_of h e) ≡ true → M.Agree i h k) → M.Legal (k ++ e ∷ [])
  follows lasts h k e legal there longer agree =
      let d = last_did h e legal.0 legal.1 in
      let r = d.2 in
      let own : projection_of a (a.owner e) h ≡ Some r.own = part_there h d.0 (a.owner e) d.1 ∙ r.own_there in
      let to : (i : ℕ) → list_any (eqb i) (M.shards_of h e) ≡ true → slice_get d.0 i ≡ slice_get there.0 i = λ i among. sym (part_there h d.0 i d.1) ∙ (agree i among ∙ part_there k there.0 i there.1) in
      let here : slice_get there.0 (a.owner e) ≡ Some r.own = sym (to (a.owner e) (among_first (a.owner e) (peers_of a (projection_of a (a.owner e) h) e))) ∙ r.own_there in
      let peers : projections_at there.0 (a.peers r.own e) ≡ Some r.others = sym (parts_same d.0 there.0 (a.peers r.own e) (λ j among. to j (among_later j (a.owner e) (peers_of a (projection_of a (a.owner e) h) e) (subst (λ o. list_any (eqb j) (peers_of a o e) ≡ true) (sym own) among)))) ∙ r.others_there in
      let later = lasts (zero + length h) (zero + length k) e r.own r.others r.new (omega arith) r.acts in
      let s = may (zero + length k) there.0 e r.own r.others later.0 here peers later.1 in
      (s.0, run_last zero a.first k e ∙ (chain_at (λ qs. stepped a (zero + length k) qs e) (projections_of a k) there.0 there.1 ∙ s.1))

  -- a machine of projections is lawful, where its histories are bounded, and places are not tested
  pub projection_laws : Lasts a → ((h : List E) (ps : List P) → projections_of a h ≡ Some ps → length h < 2 ^ 64) → Laws M
  projection_laws lasts bounded = record {
    bounded = λ h legal. bounded h legal.0 legal.1;
    opening = (a.first, refl);
    beginning = λ h rest legal. run_begins zero a.first h rest legal.0 legal.1;
    agree_self = λ i h. refl;
    agree_back = λ i h k e. sym e;
    agree_through = λ i h k l e f. e ∙ f;
    stands = λ i x h k s e. (s.0, sym e ∙ s.1, s.2);
    frame = frame;
    follows = follows lasts;
    owned = λ h e legal. among_first (a.owner e) (peers_of a (projection_of a (a.owner e) h) e);
    same_shards = λ h k e legal there agree. ap (λ o. a.owner e ∷ peers_of a o e) agree;
  }

  -- histories are bounded where each event adds weight, and what the projections can weigh is bounded
  pub weighed : (Ok : List P → Type 0) (weight : List P → ℕ) → ((place : ℕ) (ps : List P) (e : E) (qs : List P) → Ok ps → stepped a place ps e ≡ Some qs → Ok qs × (weight ps < weight qs))
      → (place : ℕ) (ps : List P) (h : List E) (after : List P) → Ok ps → run a place ps h ≡ Some after → Ok after × (weight ps + length h ≤ weight after)
  weighed Ok weight grows place ps [] after ok e = let is : ps ≡ after = cc in (subst Ok is ok, subst (λ z. weight ps + 0 ≤ weight z) is (omega arith))
  weighed Ok weight grows place ps (x ∷ h) after ok e =
      let s = chained (λ qs. run a (suc place) qs h) (stepped a place ps x) after e in
      let g = grows place ps x s.0 ok s.1 in
      let r = weighed Ok weight grows (suc place) s.0 h after g.0 s.2 in
      let lt = g.1 in let le = r.1 in (r.0, omega arith)

  -- after an event, its owner's projection and those of its peers are the new ones
  pub new_own : (h : List E) (e : E) (own : P) (others : List P) (new : P × List P) → M.Legal (h ++ e ∷ []) → projection_of a (a.owner e) h ≡ Some own
      → ((ps : List P) → projections_of a h ≡ Some ps → projections_at ps (a.peers own e) ≡ Some others) → a.act (zero + length h) e own others ≡ Some new → list_any (eqb (a.owner e)) (a.peers own e) ≡ false
      → projection_of a (a.owner e) (h ++ e ∷ []) ≡ Some (a.noted (zero + length h) e new.0)
  new_own h e own others new legal here there acts apart =
      let d = last_did h e legal.0 legal.1 in
      let r = d.2 in
      let same : r.own ≡ own = (let x = r.own_there in let y = part_there h d.0 (a.owner e) d.1 in cc) in
      let peers : a.peers r.own e ≡ a.peers own e = ap (λ z. a.peers z e) same in
      let all : r.others ≡ others = (let x = r.others_there in let y = there d.0 d.1 in let z = ap (λ z. projections_at d.0 z) peers in cc) in
      let is : r.new ≡ new = (let x = r.acts in let y : a.act (zero + length h) e r.own r.others ≡ a.act (zero + length h) e own others = ap (λ z. a.act (zero + length h) e z r.others) same ∙ ap (λ z. a.act (zero + length h) e own z) all in cc) in
      let off : list_any (eqb (a.owner e)) (a.peers r.own e) ≡ false = ap (λ z. list_any (eqb (a.owner e)) z) peers ∙ apart in
      part_there (h ++ e ∷ []) legal.0 (a.owner e) legal.1
      ∙ (ap (λ z. slice_get z (a.owner e)) r.is
      ∙ (with_apart (set d.0 (a.owner e) (a.noted (zero + length h) e r.new.0)) (a.peers r.own e) r.new.1 (a.owner e) off
      ∙ (get_set_here d.0 (a.owner e) r.own (a.noted (zero + length h) e r.new.0) r.own_there ∙ ap (λ (z : P × List P). Some (a.noted (zero + length h) e z.0)) is)))

  -- the projections of these shards are those of the list
  pub parts_there : (h : List E) (ps : List P) (is : List ℕ) (others : List P) → projections_of a h ≡ Some ps → ArePartsOf a h is others → projections_at ps is ≡ Some others
  parts_there h ps [] [] at there = refl
  parts_there h ps [] (q ∷ others) at there = absurd there
  parts_there h ps (i ∷ is) [] at there = absurd there
  parts_there h ps (i ∷ is) (q ∷ others) at there =
      let here : slice_get ps i ≡ Some q = sym (part_there h ps i at) ∙ there.0 in
      ap (λ o. option_and_then (λ p. option_and_then (λ qs. Some (p ∷ qs)) (projections_at ps is)) o) here ∙ ap (λ o. option_and_then (λ qs. Some (q ∷ qs)) o) (parts_there h ps is others at there.1)

  pub new_peers : (h : List E) (e : E) (own : P) (others : List P) (new : P × List P) → M.Legal (h ++ e ∷ []) → projection_of a (a.owner e) h ≡ Some own → ArePartsOf a h (a.peers own e) others
      → a.act (zero + length h) e own others ≡ Some new → list_any (eqb (a.owner e)) (a.peers own e) ≡ false → AreApart (a.peers own e)
      → (k j : ℕ) (p : P) → slice_get (a.peers own e) k ≡ Some j → slice_get new.1 k ≡ Some p → projection_of a j (h ++ e ∷ []) ≡ Some p
  new_peers h e own others new legal here there acts apart once k j p peer part =
      let d = last_did h e legal.0 legal.1 in
      let r = d.2 in
      let same : r.own ≡ own = (let x = r.own_there in let y = part_there h d.0 (a.owner e) d.1 in cc) in
      let peers : a.peers r.own e ≡ a.peers own e = ap (λ z. a.peers z e) same in
      let found : projections_at d.0 (a.peers own e) ≡ Some others = parts_there h d.0 (a.peers own e) others d.1 there in
      let all : r.others ≡ others = (let x = r.others_there in let z = ap (λ z. projections_at d.0 z) peers in cc) in
      let is : r.new ≡ new = (let x = r.acts in let y : a.act (zero + length h) e r.own r.others ≡ a.act (zero + length h) e own others = ap (λ z. a.act (zero + length h) e z r.others) same ∙ ap (λ z. a.act (zero + length h) e own z) all in cc) in
      let ps' : List P = set d.0 (a.owner e) (a.noted (zero + length h) e r.new.0) in
      let off : (i : ℕ) → list_any (eqb i) (a.peers own e) ≡ true → i ≢ a.owner e = λ i among same. absurd (let x = ap (λ z. list_any (eqb z) (a.peers own e)) same in cc) in
      let was = parts_found d.0 (a.peers own e) others k j found peer in
      let kept : slice_get ps' j ≡ Some was.0 = get_set_else d.0 (a.owner e) j (a.noted (zero + length h) e r.new.0) (off j (among_at (a.peers own e) k j peer)) ∙ was.2 in
      part_there (h ++ e ∷ []) legal.0 j legal.1
      ∙ (ap (λ z. slice_get z j) r.is
      ∙ (ap (λ z. slice_get (with_projections ps' z r.new.1) j) peers
      ∙ (ap (λ (z : P × List P). slice_get (with_projections ps' (a.peers own e) z.1) j) is ∙ with_there ps' (a.peers own e) new.1 k j p was.0 once peer part kept)))

  -- an event may follow where its projections let it
  pub may_follow : (h : List E) (e : E) (own : P) (others : List P) (new : P × List P) → M.Legal h → projection_of a (a.owner e) h ≡ Some own
      → ((ps : List P) → projections_of a h ≡ Some ps → projections_at ps (a.peers own e) ≡ Some others) → a.act (zero + length h) e own others ≡ Some new → M.Legal (h ++ e ∷ [])
  may_follow h e own others new legal here there acts =
      let at_own = sym (part_there h legal.0 (a.owner e) legal.1) ∙ here in
      let s = may (zero + length h) legal.0 e own others new at_own (there legal.0 legal.1) acts in
      (s.0, run_last zero a.first h e ∙ (chain_at (λ qs. stepped a (zero + length h) qs e) (projections_of a h) legal.0 legal.1 ∙ s.1))
