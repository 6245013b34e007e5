-- A miss counts for its shard and for no other.
use Rattle.std.proofs.Common.{◌≡◌, ◌≢◌, ℕ, ◌+◌, ◌-◌, ◌^◌, ◌<◌, ◌⊎◌, inl, inr, min, cond, eqb, eq-eqb, ne_eqb, List, [], ◌∷◌, ◌++◌, length, get_or, set, refl, ap, sym, subst, ◌∙◌, arith}
use Rattle.std.specs.List.{count_by}
use mathlib.Core.Logic.{dite}
use Rattle.std.proofs.Math.Decide.{dec_lt}
use native.Mathlib.Decide.{ℕ_discrete}
use Rattle.std.proofs.lemmas.List.{get_or-set_same, get_or-set_other}
use Rattle.std.proofs.lemmas.List.Sums.{sum_by-append}
use Rattle.std.proofs.Math.ListN.{length-set}
use Rattle.commit_table.specs.Calls.{misses_in, Counts}

count_one : (i j : ℕ) (missed : List ℕ) (n : ℕ) → cond (eqb i j) 1 0 ≡ n → count_by (λ k. eqb k j) (missed ++ i ∷ []) ≡ count_by (λ k. eqb k j) missed + n
count_one i j missed n e = let a = sum_by-append (λ k. cond (eqb k j) 1 0) missed (i ∷ []) in omega (arith, a, e)

pub counted : (counters missed : List ℕ) (i c : ℕ) → Counts counters missed → i < length counters → c ≡ min (get_or counters i 0 + 1) (2 ^ 64 - 1) → Counts (set counters i c) (missed ++ i ∷ [])
counted counters missed i c counts within is j below =
    let lt : j < length counters = let e = length-set counters i c in omega arith in
    let before = counts j lt in
    dite (ℕ_discrete j i)
    (λ same.
    let one : count_by (λ k. eqb k j) (missed ++ i ∷ []) ≡ count_by (λ k. eqb k j) missed + 1 = count_one i j missed 1 (subst (λ b. cond {A = ℕ} b 1 0 ≡ 1) (sym (eq-eqb i j (sym same))) refl) in
    let here : get_or (set counters i c) j 0 ≡ c = subst (λ z. get_or (set counters i c) z 0 ≡ c) (sym same) (get_or-set_same counters i c 0 within) in
    let old : get_or counters i 0 ≡ misses_in missed j = ap (λ z. get_or counters z 0) (sym same) ∙ before in
    omega arith)
    (λ ne.
    let none : count_by (λ k. eqb k j) (missed ++ i ∷ []) ≡ count_by (λ k. eqb k j) missed + 0 = count_one i j missed 0 (subst (λ b. cond {A = ℕ} b 1 0 ≡ 0) (sym (ne_eqb i j (λ e. ne (sym e)))) refl) in
    let other = get_or-set_other counters i j c 0 ne in
    omega arith)

-- a miss raises the shard's count, unless that stands at the end of its type; and no other's
pub miss_rises : (missed : List ℕ) (i : ℕ) → (misses_in missed i < misses_in (missed ++ i ∷ []) i) ⊎ (misses_in (missed ++ i ∷ []) i ≡ 2 ^ 64 - 1)
miss_rises missed i =
    let one : count_by (λ k. eqb k i) (missed ++ i ∷ []) ≡ count_by (λ k. eqb k i) missed + 1 = count_one i i missed 1 (subst (λ b. cond {A = ℕ} b 1 0 ≡ 1) (sym (eq-eqb i i refl)) refl) in
    dite (dec_lt (count_by (λ k. eqb k i) missed) (2 ^ 64 - 1)) (λ lt. inl (omega arith)) (λ over. inr (omega arith))

pub miss_leaves : (missed : List ℕ) (i j : ℕ) → j ≢ i → misses_in (missed ++ i ∷ []) j ≡ misses_in missed j
miss_leaves missed i j ne =
    let none : count_by (λ k. eqb k j) (missed ++ i ∷ []) ≡ count_by (λ k. eqb k j) missed + 0 = count_one i j missed 0 (subst (λ b. cond {A = ℕ} b 1 0 ≡ 0) (sym (ne_eqb i j (λ e. ne (sym e)))) refl) in omega arith
