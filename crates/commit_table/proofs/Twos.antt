-- Two passes of one table.
use Rattle.std.proofs.Common.{◌≡◌, ℕ, zero, suc, ◌<◌, List, [], ◌∷◌, ◌++◌, length, slice_get, Option, Some, refl, ap, sym, subst, ◌∙◌, arith, length-append}
use Rattle.commit_table.specs.Views.{new_pass}
use Rattle.commit_table.specs.Calls.{TableValue, PassValue, IsOf, HoldsNone, AreWhole}

module _ {S E : Type 0} where
  one_of_two : (t : TableValue S) (a b : PassValue S E) → IsOf t a × HoldsNone a.known → IsOf t b × HoldsNone b.known → (k : ℕ) (p : PassValue S E) → slice_get (a ∷ b ∷ []) k ≡ Some p → IsOf t p × HoldsNone p.known
  one_of_two t a b f g zero p e = let is : a ≡ p = cc in subst (λ (z : PassValue S E). IsOf t z × HoldsNone z.known) is f
  one_of_two t a b f g (suc zero) p e = let is : b ≡ p = cc in subst (λ (z : PassValue S E). IsOf t z × HoldsNone z.known) is g
  one_of_two t a b f g (suc (suc k)) p e = absurd cc

  each_party : (a b : PassValue S E) → a.known.party ≡ Some 0 → b.known.party ≡ Some 1 → (party : ℕ) → party < 2 → (k : ℕ) × (p : PassValue S E) × (slice_get (a ∷ b ∷ []) k ≡ Some p) × (p.known.party ≡ Some party)
  each_party a b f g zero lt = (0, a, refl, f)
  each_party a b f g (suc zero) lt = (1, b, refl, g)
  each_party a b f g (suc (suc k)) lt = absurd (omega arith)

  pub whole_two : (t : TableValue S) (a b : PassValue S E) (l : List (PassValue S E)) → l ≡ a ∷ b ∷ [] → t.passes ≡ 2
      → IsOf t a × HoldsNone a.known × (a.known.party ≡ Some 0) → IsOf t b × HoldsNone b.known × (b.known.party ≡ Some 1) → AreWhole t l
  whole_two t a b l is two f g = subst (λ z. AreWhole t z) (sym is) (
    one_of_two t a b (f.0, f.1) (g.0, g.1),
    λ party lt. each_party a b f.2 g.2 party (subst (λ n. party < n) two lt),
  )

module _ {A : Type 0} where
  -- a list of two was taken from its end
  pub two_popped : (l m n : List A) (x y : A) → length l ≡ 2 → l ≡ m ++ y ∷ [] → m ≡ n ++ x ∷ [] → (slice_get l 0 ≡ Some x) × (slice_get l 1 ≡ Some y)
  two_popped l m [] x y len e f = let is : l ≡ x ∷ y ∷ [] = e ∙ ap (λ z. z ++ y ∷ []) f in (ap (λ z. slice_get z 0) is, ap (λ z. slice_get z 1) is)
  two_popped l m (z ∷ n) x y len e f = absurd (let a = ap length e in let b = ap length f in omega (arith, length-append m (y ∷ []), length-append (z ∷ n) (x ∷ []), a, b))

module _ {S E : Type 0} where
  pub made_first : (t : TableValue S) (start : S) (k : ℕ) (l : List (PassValue S E)) (a : PassValue S E) → slice_get l k ≡ Some (record { table = t.table; known = new_pass start (Some k) [] }) → slice_get l k ≡ Some a → t.start ≡ start
      → IsOf t a × HoldsNone a.known × (a.known.party ≡ Some k)
  made_first t start k l a e f is =
      let new : PassValue S E = record { table = t.table; known = new_pass start (Some k) [] } in
      let same : new ≡ a = (let g : ◌≡◌ {A = Option (PassValue S E)} (Some new) (Some a) = sym e ∙ f in cc) in
      subst (λ (z : PassValue S E). IsOf t z × HoldsNone z.known × (z.known.party ≡ Some k)) same ((refl, ap Some (sym is)), (λ i. refl), refl)
