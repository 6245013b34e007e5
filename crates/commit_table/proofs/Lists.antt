-- Beginnings of one history, the events of a party, what is held of a shard, and lists read by `get_elem?`.
use Rattle.std.proofs.Common.{eqb, ◌≡◌, ◌≢◌, ℕ, zero, suc, ◌+◌, ◌<◌, ◌≤◌, ◌⊎◌, inl, inr, ⊎_elim, Bool, true, false, cond, eq-eqb, ne_eqb, List, [], ◌∷◌, ◌++◌, length, set, Option, None, Some, refl, ap, sym, subst, ◌∙◌, arith, append_assoc, append-nil, length-append, map, get_or, slice_get}
use Rattle.std.proofs.lemmas.List.{map-append, get_or-set_other}
use Rattle.std.specs.List.{list_any}
use mathlib.Core.Logic.{dite}
use mathlib.Core.Option.{some, some-injective, some-ne-none}
use mathlib.Core.List.{IsPrefix}
use native.Mathlib.Decide.{ℕ_discrete}
use lib.ListN.{get_elem?}
use Rattle.commit_table.specs.Machine.{is_party, events_by}
use Rattle.commit_table.specs.Calls.{slot_of, spread}
use Rattle.commit_table.specs.Views.{held_at, holds_all}

module _ {A : Type 0} where
  pub prefix_self : (xs : List A) → IsPrefix xs xs
  prefix_self [] = ([], refl)
  prefix_self (x ∷ xs) = (let r = prefix_self xs in r.0, ap (λ ys. x ∷ ys) (prefix_self xs).1)

  pub prefix_none : (xs : List A) → IsPrefix [] xs
  prefix_none xs = (xs, refl)

  pub prefix_trans : (xs ys zs : List A) → IsPrefix xs ys → IsPrefix ys zs → IsPrefix xs zs
  prefix_trans xs ys zs p q = (p.0 ++ q.0, sym (append_assoc xs p.0 q.0) ∙ (ap (λ w. w ++ q.0) p.1 ∙ q.1))

  pub prefix_more : (xs ys zs : List A) → IsPrefix xs ys → IsPrefix xs (ys ++ zs)
  prefix_more xs ys zs p = prefix_trans xs ys (ys ++ zs) p (zs, refl)

  pub prefix_length : (xs ys : List A) → IsPrefix xs ys → length xs ≤ length ys
  prefix_length xs ys p = omega (arith, sym (ap length p.1) ∙ length-append xs p.0)

  -- two lists each of which is a beginning of the other
  pub prefix_both : (xs ys : List A) → IsPrefix xs ys → IsPrefix ys xs → xs ≡ ys
  prefix_both xs ys p q = go p.0 p.1
    where
      go : (rest : List A) → xs ++ rest ≡ ys → xs ≡ ys
      go [] is = sym (append-nil xs) ∙ is
      go (x ∷ rest) is = absurd (let m = ap length is in let l = length-append xs (x ∷ rest) in let o = ap length q.1 in let r = length-append ys q.0 in omega arith)

  -- of two beginnings of one list the shorter begins the longer
  pub prefix_within : (xs ys zs : List A) → IsPrefix xs zs → IsPrefix ys zs → length xs ≤ length ys → IsPrefix xs ys
  prefix_within [] ys zs p q le = prefix_none ys
  prefix_within (x ∷ xs) [] zs p q le = absurd (omega arith)
  prefix_within (x ∷ xs) (y ∷ ys) zs p q le =
      let both : x ∷ (xs ++ p.0) ≡ y ∷ (ys ++ q.0) = p.1 ∙ sym q.1 in
      let first : x ≡ y = cc in
      let later : xs ++ p.0 ≡ ys ++ q.0 = cc in
      let rest = prefix_within xs ys (ys ++ q.0) (p.0, later) (q.0, refl) (omega arith) in
      (rest.0, subst (λ z. x ∷ (xs ++ rest.0) ≡ z ∷ ys) first (ap (λ zs. x ∷ zs) rest.1))

  -- where something stands, it can be replaced
  pub at_here : (l : List A) (i : ℕ) (a b : A) → get_elem? l i ≡ some b → get_elem? (set l i a) i ≡ some a
  at_here [] i a b e = absurd (some-ne-none b (sym e))
  at_here (x ∷ xs) zero a b e = refl
  at_here (x ∷ xs) (suc i) a b e = at_here xs i a b e

  pub at_below : (l : List A) (i : ℕ) (a : A) → get_elem? l i ≡ some a → i < length l
  at_below [] i a e = absurd (some-ne-none a (sym e))
  at_below (x ∷ xs) zero a e = omega arith
  at_below (x ∷ xs) (suc i) a e = let r = at_below xs i a e in omega arith

  pub one_there : (l : List A) (i : ℕ) (a b : A) → get_elem? l i ≡ some a → get_elem? l i ≡ some b → a ≡ b
  one_there l i a b p q = some-injective a b (sym p ∙ q)

  -- what stands in a list with one more at its end
  pub at_end : (l : List A) (a b : A) (j : ℕ) → get_elem? (l ++ a ∷ []) j ≡ some b → (get_elem? l j ≡ some b) ⊎ ((j ≡ length l) × (a ≡ b))
  at_end [] a b zero e = inr (refl, some-injective a b e)
  at_end [] a b (suc j) e = absurd (some-ne-none b (sym e))
  at_end (x ∷ xs) a b zero e = inl e
  at_end (x ∷ xs) a b (suc j) e = ⊎_elim (λ t. inl t) (λ t. inr (ap suc t.0, t.1)) (at_end xs a b j e)

module _ {E : Type 0} (party : E → Option ℕ) (p : ℕ) where
  pub events_by-append : (xs ys : List E) → events_by party p (xs ++ ys) ≡ events_by party p xs ++ events_by party p ys
  events_by-append [] ys = refl
  events_by-append (x ∷ xs) ys =
      let r = events_by-append xs ys in
      let P : Bool → Type 0 = λ b. cond b (x ∷ events_by party p (xs ++ ys)) (events_by party p (xs ++ ys)) ≡ cond b (x ∷ events_by party p xs) (events_by party p xs) ++ events_by party p ys in
      elim (is_party p (party x)) as P [ true ↦ ap (λ l. x ∷ l) r | false ↦ r ]

  -- what lies between two histories with the same events of the party has just these
  pub events_between : (xs ys zs mine : List E) → IsPrefix xs ys → IsPrefix ys zs → events_by party p xs ≡ mine → events_by party p zs ≡ mine → events_by party p ys ≡ mine
  events_between xs ys zs mine below above first last =
      let by = events_by party p in
      prefix_both (by ys) mine
      (by above.0, sym (events_by-append ys above.0) ∙ (ap by above.1 ∙ last))
      (by below.0, ap (λ z. z ++ by below.0) (sym first) ∙ (sym (events_by-append xs below.0) ∙ ap by below.1))

module _ {E : Type 0} where
  pub held_here : (held : List (ℕ × Option (List E))) (i : ℕ) (g : Option (List E)) → held_at ((i, g) ∷ held) i ≡ g
  held_here held i g = subst (λ b. cond b g (held_at held i) ≡ g) (sym (eq-eqb i i refl)) refl

  pub held_else : (held : List (ℕ × Option (List E))) (i j : ℕ) (g : Option (List E)) → j ≢ i → held_at ((i, g) ∷ held) j ≡ held_at held j
  held_else held i j g ne = subst (λ b. cond b g (held_at held j) ≡ held_at held j) (sym (ne_eqb j i ne)) refl

  pub held_among : (is : List ℕ) (g : List E) (held : List (ℕ × Option (List E))) (j : ℕ) → list_any (eqb j) is ≡ true → held_at (holds_all is g held) j ≡ Some g
  held_among [] g held j e = absurd (cc)
  held_among (i ∷ is) g held j e = dite (ℕ_discrete j i)
      (λ same. subst (λ b. cond b (Some g) (held_at (holds_all is g held) j) ≡ Some g) (sym (eq-eqb j i same)) refl)
      (λ ne. subst (λ b. cond b (Some g) (held_at (holds_all is g held) j) ≡ Some g) (sym (ne_eqb j i ne)) (held_among is g held j (simp (ne_eqb j i ne) at e)))

  pub held_apart : (is : List ℕ) (g : List E) (held : List (ℕ × Option (List E))) (j : ℕ) → list_any (eqb j) is ≡ false → held_at (holds_all is g held) j ≡ held_at held j
  held_apart [] g held j e = refl
  held_apart (i ∷ is) g held j e = dite (ℕ_discrete j i)
      (λ same. absurd (let b = eq-eqb j i same in cc (simp b at e)))
      (λ ne. subst (λ b. cond b (Some g) (held_at (holds_all is g held) j) ≡ held_at held j) (sym (ne_eqb j i ne)) (held_apart is g held j (simp (ne_eqb j i ne) at e)))

module _ {A : Type 0} where
  -- the two ways to read a list at a place
  pub found_there : (xs : List A) (i : ℕ) → i < length xs → (x : A) × (slice_get xs i ≡ Some x) × (get_elem? xs i ≡ some x)
  found_there [] i lt = absurd (omega arith)
  found_there (x ∷ xs) zero lt = (x, refl, refl)
  found_there (x ∷ xs) (suc i) lt = found_there xs i (omega arith)

  pub get_some : (xs : List A) (i : ℕ) (x : A) → slice_get xs i ≡ Some x → get_elem? xs i ≡ some x
  get_some [] i x e = absurd cc
  get_some (y ∷ xs) zero x e = let a : y ≡ x = cc in ap (λ (z : A). some z) a
  get_some (y ∷ xs) (suc i) x e = get_some xs i x e

  pub some_get : (xs : List A) (i : ℕ) (x : A) → get_elem? xs i ≡ some x → slice_get xs i ≡ Some x
  some_get [] i x e = absurd (some-ne-none x (sym e))
  some_get (y ∷ xs) zero x e = ap (λ (z : A). Some z) (some-injective y x e)
  some_get (y ∷ xs) (suc i) x e = some_get xs i x e

module _ {A B : Type 0} (f : A → B) where
  pub map_more : (xs : List A) (x : A) (l : List B) (b : B) → l ≡ map f xs → b ≡ f x → l ++ b ∷ [] ≡ map f (xs ++ x ∷ [])
  map_more xs x l b is last = ap (λ z. z ++ b ∷ []) is ∙ (ap (λ z. map f xs ++ z ∷ []) last ∙ sym (map-append f xs (x ∷ [])))

module _ {A : Type 0} where
  pub left_first : (rest xs : List A) (x : A) → rest ≡ x ∷ xs → slice_get rest 0 ≡ Some x
  left_first rest xs x e = subst (λ z. slice_get z 0 ≡ Some x) (sym e) refl

  pub left_later : (rest xs : List A) (x y : A) (k : ℕ) → rest ≡ x ∷ xs → slice_get xs k ≡ Some y → slice_get rest (suc k) ≡ Some y
  left_later rest xs x y k e there = subst (λ z. slice_get z (suc k) ≡ Some y) (sym e) there

  pub set_default : (xs : List A) (i : ℕ) (a : A) → get_or (set xs i a) i a ≡ a
  set_default [] i a = refl
  set_default (x ∷ xs) zero a = refl
  set_default (x ∷ xs) (suc i) a = set_default xs i a

pub emptied_more : (xs : List Bool) (i : ℕ) → ((k : ℕ) → k < i → get_or xs k false ≡ false) → (k : ℕ) → k < i + 1 → get_or (set xs i false) k false ≡ false
emptied_more xs i before k below = dite (ℕ_discrete k i)
    (λ same. subst (λ z. get_or (set xs i false) z false ≡ false) (sym same) (set_default xs i false))
    (λ ne. get_or-set_other xs i k false false ne ∙ before k (omega arith))

module _ {A : Type 0} where
  -- each value is found in its slot
  pub spread_at : (xs : List A) (i : ℕ) (x : A) → get_elem? xs i ≡ some x → get_elem? (spread xs) (slot_of i) ≡ some (Some x)
  spread_at [] i x e = absurd (some-ne-none x (sym e))
  spread_at (y ∷ xs) zero x e = ap (λ (z : A). some (Some z)) (some-injective y x e)
  spread_at (y ∷ xs) (suc i) x e =
      let next : suc (suc (suc (suc (suc (suc (suc (suc (slot_of i)))))))) ≡ slot_of (suc i) = omega arith in
      subst (λ z. get_elem? (spread (y ∷ xs)) z ≡ some (Some x)) next (spread_at xs i x e)

  pub length_spread : (xs : List A) → length (spread xs) ≡ slot_of (length xs)
  length_spread [] = refl
  length_spread (x ∷ xs) = let r = length_spread xs in omega arith

  -- one value more is spread behind the others
  pub spread_more : (xs : List A) (x : A) → spread (xs ++ x ∷ []) ≡ spread xs ++ spread (x ∷ [])
  spread_more [] x = refl
  spread_more (y ∷ xs) x = ap (λ z. Some y ∷ None ∷ None ∷ None ∷ None ∷ None ∷ None ∷ None ∷ z) (spread_more xs x)

  -- values that are read in order, each from its slot, with one value more
  pub spread_so_far : (xs : List A) (x : A) (l : List (Option A)) → ((k : ℕ) (y : A) → slice_get xs k ≡ Some y → get_elem? l (slot_of k) ≡ some (Some y)) → get_elem? l (slot_of (length xs)) ≡ some (Some x)
      → (k : ℕ) (y : A) → slice_get (xs ++ x ∷ []) k ≡ Some y → get_elem? l (slot_of k) ≡ some (Some y)
  spread_so_far xs x l old new k y e = ⊎_elim (λ t. old k y (some_get xs k y t)) (λ t. subst (λ z. get_elem? l (slot_of z) ≡ some (Some y)) (sym t.0) (subst (λ z. get_elem? l (slot_of (length xs)) ≡ some (Some z)) t.1 new)) (at_end xs x y k (get_some (xs ++ x ∷ []) k y e))
