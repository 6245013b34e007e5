-- The two counters are a lawful machine: each event adds weight, and what they can weigh is bounded.
use Rattle.std.proofs.Common.{◌≡◌, ℕ, zero, suc, ◌+◌, ◌-◌, ◌*◌, ◌^◌, ◌<◌, ◌≤◌, Bool, true, false, cond, ltb, ◌&&◌, List, [], ◌∷◌, length, None, Some, refl, ap, sym, subst, arith}
use Rattle.std.proofs.lemmas.Bool.{ltb-true}
use Rattle.commit_table.specs.Machine.{Laws}
use Rattle.std.specs.Prelude.{option_and_then}
use Rattle.commit_table.specs.Projections.{stepped, projections_of, with_projections, Lasts}
use Rattle.commit_table.specs.declared.counters.CounterEvent.{CounterEvent}
use Rattle.commit_table.specs.declared.counters.CounterEvent.TheVariants.{Raise, Carry}
use Rattle.commit_table.specs.Counters.{most, counter_projections, counters}
use Rattle.commit_table.specs.ProjectionLaws.{weighed, projection_laws}

abbrev AreTwo : List ℕ → Type 0
AreTwo ps = (a : ℕ) × (b : ℕ) × (ps ≡ a ∷ b ∷ []) × (a ≤ most) × (b ≤ most)

abbrev weight : List ℕ → ℕ
weight [] = 0
weight (a ∷ []) = a
weight (a ∷ (b ∷ rest)) = a + 2 * b

raised : (own : ℕ) (b : Bool) (f : ℕ → List ℕ) (qs : List ℕ) → b ≡ ltb own most → option_and_then (λ (new : ℕ × List ℕ). Some (f new.0)) (cond b (Some (own + 1, [])) None) ≡ Some qs → (qs ≡ f (own + 1)) × (own < most)
raised own true f qs is e = (let a : f (own + 1) ≡ qs = cc in sym a, ltb-true own most (sym is))
raised own false f qs is e = absurd cc

both_true : (a b : Bool) → (a && b) ≡ true → (a ≡ true) × (b ≡ true)
both_true true b e = (refl, e)
both_true false b e = absurd cc

carried : (own other : ℕ) (b : Bool) (f : ℕ × List ℕ → List ℕ) (qs : List ℕ) → b ≡ (ltb 0 own && ltb other most)
    → option_and_then (λ (new : ℕ × List ℕ). Some (f new)) (cond b (Some (own - 1, (other + 1) ∷ [])) None) ≡ Some qs → (qs ≡ f (own - 1, (other + 1) ∷ [])) × (0 < own) × (other < most)
carried own other true f qs is e = (let a : f (own - 1, (other + 1) ∷ []) ≡ qs = cc in let both = both_true (ltb 0 own) (ltb other most) (sym is) in (sym a, ltb-true 0 own both.0, ltb-true other most both.1))
carried own other false f qs is e = absurd cc

grows_at : (place a b : ℕ) (e : CounterEvent) (qs : List ℕ) → a ≤ most → b ≤ most → stepped counter_projections place (a ∷ b ∷ []) e ≡ Some qs → AreTwo qs × (weight (a ∷ b ∷ []) < weight qs)
grows_at place a b (Raise p zero) qs la lb s = let r = raised a (ltb a most) (λ n. n ∷ b ∷ []) qs refl s in let lt = r.1 in ((a + 1, b, r.0, omega arith, lb), subst (λ z. a + 2 * b < weight z) (sym r.0) (omega arith))
grows_at place a b (Raise p (suc zero)) qs la lb s = let r = raised b (ltb b most) (λ n. a ∷ n ∷ []) qs refl s in let lt = r.1 in ((a, b + 1, r.0, la, omega arith), subst (λ z. a + 2 * b < weight z) (sym r.0) (omega arith))
grows_at place a b (Raise p (suc (suc k))) qs la lb s = absurd cc
grows_at place a b Carry qs la lb s =
    let r = carried a b (ltb 0 a && ltb b most) (λ new. with_projections (new.0 ∷ b ∷ []) (1 ∷ []) new.1) qs refl s in
    let lt = r.1 in let lo = r.2 in ((a - 1, b + 1, r.0, omega arith, omega arith), subst (λ z. a + 2 * b < weight z) (sym r.0) (omega arith))

grows : (place : ℕ) (ps : List ℕ) (e : CounterEvent) (qs : List ℕ) → AreTwo ps → stepped counter_projections place ps e ≡ Some qs → AreTwo qs × (weight ps < weight qs)
grows place ps e qs two s = let step = subst (λ z. stepped counter_projections place z e ≡ Some qs) two.2 s in
    let g = grows_at place two.0 two.1 e qs two.3 two.4 step in (g.0, subst (λ z. weight z < weight qs) (sym two.2) g.1)

bounded : (h : List CounterEvent) (ps : List ℕ) → projections_of counter_projections h ≡ Some ps → length h < 2 ^ 64
bounded h ps e =
    let w = weighed counter_projections AreTwo weight grows zero (0 ∷ 0 ∷ []) h ps (0, 0, refl, omega arith, omega arith) e in
    let two = w.0 in let le = w.1 in let is : weight ps ≡ two.0 + 2 * two.1 = ap weight two.2 in let a = two.3 in let b = two.4 in omega arith

lasts : Lasts counter_projections
lasts place later (Raise p c) own others new le acts = (new, acts)
lasts place later Carry own [] new le acts = absurd cc
lasts place later Carry own (other ∷ []) new le acts = (new, acts)
lasts place later Carry own (other ∷ (more ∷ rest)) new le acts = absurd cc

pub counters_lawful : Laws counters
counters_lawful = projection_laws counter_projections lasts bounded
