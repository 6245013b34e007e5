-- The values of two shards.
use Rattle.std.proofs.Common.{◌≡◌, ◌≢◌, ◌<◌, ℕ, Bool, cond, eq-eqb, ne_eqb, List, [], ◌∷◌, Option, None, Some, refl, sym, ap, ◌∙◌, subst}
use mathlib.Core.Logic.{dite}
use native.Mathlib.Decide.{ℕ_discrete}
use Rattle.gaspi_types.specs.World.{ShapeValue}
use Rattle.gaspi_types.specs.declared.events.Event.{Event}
use Rattle.commit_table.specs.Attempts.{IsLookedOnly}
use Rattle.commit_table.specs.Calls.{HoldsNone, Looked}
use Rattle.commit_table.specs.Views.{held_at, after_take, after_give_back}
use Rattle.commit_table.specs.declared.views.PassView.{PassView}
use Rattle.commit_table.proofs.Lists.{held_here, held_else}
use Rattle.gaspi_world.specs.ShardProjections.{value_at, TookBoth, Holds}
use Rattle.gaspi_world.specs.Numbering.{Numbering}
use Rattle.gaspi_world.specs.ShardMachine.{Meaning, IsValueAfter, shard_machine}
use Rattle.gaspi_world.proofs.HeldShards.{looked-holds, given-holds}

module _ {X : Type 0} where
  pub here : (rest : List (ℕ × X)) (a i : ℕ) (x : X) → i ≡ a → value_at ((a, x) ∷ rest) i ≡ Some x
  here rest a i x is = ap (λ (b : Bool). cond b (Some x) (value_at rest i)) (eq-eqb i a is)

  pub elsewhere : (rest : List (ℕ × X)) (a i : ℕ) (x : X) → i ≢ a → value_at ((a, x) ∷ rest) i ≡ value_at rest i
  elsewhere rest a i x ne = ap (λ (b : Bool). cond b (Some x) (value_at rest i)) (ne_eqb i a ne)

  same-value : (x y : X) → ◌≡◌ {A = Option X} (Some x) (Some y) → x ≡ y
  same-value x y e = cc

  -- what is so of each of two values
  pub of-two : (P : ℕ → X → Type 0) (a b : ℕ) (x y : X) → P a x → P b y → (i : ℕ) (z : X) → value_at ((a, x) ∷ (b, y) ∷ []) i ≡ Some z → P i z
  of-two P a b x y first second i z at = dite (ℕ_discrete i a)
      (λ is. subst (λ (j : ℕ). P j z) (sym is) (subst (λ (q : X). P a q) (same-value x z (sym (here ((b, y) ∷ []) a i x is) ∙ at)) first))
      (λ ne. dite (ℕ_discrete i b)
      (λ is. subst (λ (j : ℕ). P j z) (sym is) (subst (λ (q : X). P b q) (same-value y z (sym (elsewhere ((b, y) ∷ []) a i x ne ∙ here [] b i y is) ∙ at)) second))
      (λ apart. absurd (let none = sym (elsewhere ((b, y) ∷ []) a i x ne ∙ elsewhere [] b i y apart) ∙ at in let no : ⊥ = cc in no)))

  pub not-first : (rest : List (ℕ × X)) (a i : ℕ) (x : X) → value_at ((a, x) ∷ rest) i ≡ None → i ≢ a
  not-first rest a i x at is = let some = sym (here rest a i x is) ∙ at in let no : ⊥ = cc in no

  pub not-second : (a b i : ℕ) (x y : X) → value_at ((a, x) ∷ (b, y) ∷ []) i ≡ None → i ≢ b
  not-second a b i x y at is = not-first [] b i y (sym (elsewhere ((b, y) ∷ []) a i x (not-first ((b, y) ∷ []) a i x at)) ∙ at) is

module _ {S X : Type 0} (n : Numbering) (w : ShapeValue) (m : Meaning X) (party : Event → Option ℕ) where
  -- what two takes leave
  took-low : (v u : PassView S Event) (low high : ℕ) (x y : X) → low ≢ high → (t : TookBoth (shard_machine n w m party) v low high x y u) → held_at u.held low ≡ Some t.first
  took-low v u low high x y ne t = ap (λ (z : PassView S Event). held_at z.held low) t.is ∙ (held_else ((low, Some t.first) ∷ v.held) high low (Some t.second) ne ∙ held_here v.held low (Some t.first))

  took-high : (v u : PassView S Event) (low high : ℕ) (x y : X) → (t : TookBoth (shard_machine n w m party) v low high x y u) → held_at u.held high ≡ Some t.second
  took-high v u low high x y t = ap (λ (z : PassView S Event). held_at z.held high) t.is ∙ held_here ((low, Some t.first) ∷ v.held) high (Some t.second)

  took-none : (v u : PassView S Event) (low high : ℕ) (x y : X) (i : ℕ) → HoldsNone v → i ≢ low → i ≢ high → TookBoth (shard_machine n w m party) v low high x y u → held_at u.held i ≡ None
  took-none v u low high x y i free ne also t =
      ap (λ (z : PassView S Event). held_at z.held i) t.is ∙ (held_else ((low, Some t.first) ∷ v.held) high i (Some t.second) also ∙ (held_else v.held low i (Some t.first) ne ∙ free i))

  -- After two takes and a look the pass holds the two shards, in either order.
  pub low-first : (v u z : PassView S Event) (low high number : ℕ) (h : List Event) (x y : X) → HoldsNone v → low ≢ high → low < n.shards → high < n.shards
      → TookBoth (shard_machine n w m party) v low high x y u → Looked (shard_machine n w m party) u number h z → Holds n w m party ((low, x) ∷ (high, y) ∷ []) z
  low-first v u z low high number h x y free ne lt also t l = looked-holds n w m party ((low, x) ∷ (high, y) ∷ []) u z number h l
      (of-two (λ i q. (g : List Event) × (held_at u.held i ≡ Some g) × IsValueAfter n w m i q g) low high x y (t.first, took-low v u low high x y ne t, t.low_stands) (t.second, took-high v u low high x y t, t.high_stands))
      (of-two (λ i q. i < n.shards) low high x y lt also)
      (λ i at. took-none v u low high x y i free (not-first ((high, y) ∷ []) low i x at) (not-second low high i x y at) t)

  pub high-first : (v u z : PassView S Event) (low high number : ℕ) (h : List Event) (x y : X) → HoldsNone v → low ≢ high → low < n.shards → high < n.shards
      → TookBoth (shard_machine n w m party) v low high x y u → Looked (shard_machine n w m party) u number h z → Holds n w m party ((high, y) ∷ (low, x) ∷ []) z
  high-first v u z low high number h x y free ne lt also t l = looked-holds n w m party ((high, y) ∷ (low, x) ∷ []) u z number h l
      (of-two (λ i q. (g : List Event) × (held_at u.held i ≡ Some g) × IsValueAfter n w m i q g) high low y x (t.second, took-high v u low high x y t, t.high_stands) (t.first, took-low v u low high x y ne t, t.low_stands))
      (of-two (λ i q. i < n.shards) high low y x also lt)
      (λ i at. took-none v u low high x y i free (not-second high low i y x at) (not-first ((low, x) ∷ []) high i y at) t)

  -- and has looked once
  pub both-looked : (v u z : PassView S Event) (low high number : ℕ) (h : List Event) (x y : X) → TookBoth (shard_machine n w m party) v low high x y u → Looked (shard_machine n w m party) u number h z → IsLookedOnly (shard_machine n w m party) v z
  both-looked v u z low high number h x y t l =
      let two : PassView S Event = after_take (after_take v low t.first) high t.second in
      let there : Looked (shard_machine n w m party) two number h z = subst (λ (k : PassView S Event). Looked (shard_machine n w m party) k number h z) t.is l in
      subst (λ (k : PassView S Event). IsLookedOnly (shard_machine n w m party) v k) (sym there.is) (record {
        goes_on = there.seen;
        legal = there.legal;
        own = there.own;
        looks = refl;
        mine = refl;
        commits = refl;
        missed = refl;
        met = refl;
        party = refl;
        start = refl;
      })

  -- The second of two shards was given back, and then the first.
  pub second-given : (v u : PassView S Event) (a b : ℕ) (x y : X) → b ≢ a → Holds n w m party ((a, x) ∷ (b, y) ∷ []) v → u ≡ after_give_back v b → Holds n w m party ((a, x) ∷ []) u
  second-given v u a b x y ne holds is = given-holds n w m party ((a, x) ∷ (b, y) ∷ []) ((a, x) ∷ []) v u b holds is (elsewhere [] a b x ne)
      (λ j apart. dite (ℕ_discrete j a)
      (λ same. here [] a j x same ∙ sym (here ((b, y) ∷ []) a j x same))
      (λ other. elsewhere [] a j x other ∙ sym (elsewhere ((b, y) ∷ []) a j x other ∙ elsewhere [] b j y apart)))

  pub first-given : (v u : PassView S Event) (a : ℕ) (x : X) → Holds n w m party ((a, x) ∷ []) v → u ≡ after_give_back v a → HoldsNone u
  first-given v u a x holds is =
      let none : Holds n w m party [] u = given-holds n w m party ((a, x) ∷ []) [] v u a holds is refl (λ j apart. sym (elsewhere [] a j x apart)) in
      λ i. none.others i refl
