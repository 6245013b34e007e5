-- Each number below how many callers there are is that of a caller.
use Rattle.std.proofs.Common.{◌≡◌, ℕ, zero, suc, ◌+◌, ◌<◌, ◌≤◌, Bool, true, false, cond, ◌==◌, List, [], ◌∷◌, length, Some, count_by, refl, sym, ap, ◌∙◌, subst, arith, inl, inr, ◌⊎◌}
use Rattle.std.specs.List.{slice_get, list_any}
use Rattle.std.proofs.lemmas.Bool.{eqb-true, eqb-false, eq-eqb, cases_lt}
use Rattle.gaspi_types.specs.World.{ShapeValue, IsShape, is_caller}
use Rattle.gaspi_types.specs.declared.events.Event.{Event}
use Rattle.gaspi_types.specs.declared.shapes.CallerId.{CallerId}
use Rattle.commit_table.specs.Views.{new_pass}
use Rattle.gaspi_world.specs.Callers.{IsPassOf}
use Rattle.gaspi_model.specs.Parties.{number_of}
use Rattle.gaspi_world.specs.declared.starts.Start.{Start}
use Rattle.gaspi_world.proofs.Numbers.{counts-is, there-any, number-below, same-number}

-- a count over a test that those in the list meet which meet another
counts-there : (p q : CallerId → Bool) (cs : List CallerId) → ((place : ℕ) (c : CallerId) → slice_get cs place ≡ Some c → p c ≡ true → q c ≡ true) → count_by p cs ≤ count_by q cs
counts-there p q [] weaker = omega arith
counts-there p q (c ∷ cs) weaker = go (counts-there p q cs (λ place d at. weaker (suc place) d at)) (p c) (q c) refl refl
  where
    go : count_by p cs ≤ count_by q cs → (a b : Bool) → p c ≡ a → q c ≡ b → count_by p (c ∷ cs) ≤ count_by q (c ∷ cs)
    go less true true isp isq = (let one : count_by p (c ∷ cs) ≡ 1 + count_by p cs = counts-is p c cs true isp in let two : count_by q (c ∷ cs) ≡ 1 + count_by q cs = counts-is q c cs true isq in omega arith)
    go less true false isp isq = absurd (let no : ◌≡◌ {A = Bool} false true = sym isq ∙ weaker 0 c refl isp in let never : ⊥ = cc in never)
    go less false true isp isq = (let one : count_by p (c ∷ cs) ≡ 0 + count_by p cs = counts-is p c cs false isp in let two : count_by q (c ∷ cs) ≡ 1 + count_by q cs = counts-is q c cs true isq in omega arith)
    go less false false isp isq = (let one : count_by p (c ∷ cs) ≡ 0 + count_by p cs = counts-is p c cs false isp in let two : count_by q (c ∷ cs) ≡ 0 + count_by q cs = counts-is q c cs false isq in omega arith)

-- one that is counted is there
counted-there : (p : CallerId → Bool) (cs : List CallerId) → 0 < count_by p cs → (place : ℕ) × (c : CallerId) × (slice_get cs place ≡ Some c) × (p c ≡ true)
counted-there p [] some = absurd (omega arith)
counted-there p (c ∷ cs) some = go (counted-there p cs) (p c) refl
  where
    go : (0 < count_by p cs → (place : ℕ) × (d : CallerId) × (slice_get cs place ≡ Some d) × (p d ≡ true)) → (b : Bool) → p c ≡ b
        → (place : ℕ) × (d : CallerId) × (slice_get (c ∷ cs) place ≡ Some d) × (p d ≡ true)
    go rest true is = (0, c, refl, is)
    go rest false is = (let none : count_by p (c ∷ cs) ≡ 0 + count_by p cs = counts-is p c cs false is in let later = rest (omega arith) in (suc later.0, later.1, later.2, later.3))

module _ (f : CallerId → ℕ) where
  hits : ℕ → List CallerId → ℕ
  hits k cs = count_by (λ (c : CallerId). f c == k) cs

  -- those with a number below another
  hits-below : ℕ → List CallerId → ℕ
  hits-below zero cs = 0
  hits-below (suc n) cs = hits n cs + hits-below n cs

  hit : (k : ℕ) (c : CallerId) (cs : List CallerId) (b : Bool) → (f c == k) ≡ b → hits k (c ∷ cs) ≡ cond b 1 0 + hits k cs
  unfolding hits
  hit k c cs b is = counts-is (λ (d : CallerId). f d == k) c cs b is

  below-past : (n : ℕ) (c : CallerId) (cs : List CallerId) → n ≤ f c → hits-below n (c ∷ cs) ≡ hits-below n cs
  unfolding hits-below
  below-past zero c cs past = refl
  below-past (suc n) c cs past = go (below-past n c cs (omega arith)) (f c == n) refl
    where
      go : hits-below n (c ∷ cs) ≡ hits-below n cs → (b : Bool) → (f c == n) ≡ b → hits n (c ∷ cs) + hits-below n (c ∷ cs) ≡ hits n cs + hits-below n cs
      go rest true is = absurd (let same = eqb-true (f c) n is in omega arith)
      go rest false is = (let one : hits n (c ∷ cs) ≡ 0 + hits n cs = hit n c cs false is in omega arith)

  below-one : (n : ℕ) (c : CallerId) (cs : List CallerId) → f c < n → hits-below n (c ∷ cs) ≡ 1 + hits-below n cs
  unfolding hits-below
  below-one zero c cs less = absurd (omega arith)
  below-one (suc n) c cs less = go (below-one n c cs) (f c == n) refl
    where
      go : (f c < n → hits-below n (c ∷ cs) ≡ 1 + hits-below n cs) → (b : Bool) → (f c == n) ≡ b → hits n (c ∷ cs) + hits-below n (c ∷ cs) ≡ 1 + (hits n cs + hits-below n cs)
      go rest true is = (let same = eqb-true (f c) n is in let one : hits n (c ∷ cs) ≡ 1 + hits n cs = hit n c cs true is in let past = below-past n c cs (omega arith) in omega arith)
      go rest false is = (let other = eqb-false (f c) n is in let one : hits n (c ∷ cs) ≡ 0 + hits n cs = hit n c cs false is in let fewer = rest (omega arith) in omega arith)

  below-all : (n : ℕ) (cs : List CallerId) → ((place : ℕ) (c : CallerId) → slice_get cs place ≡ Some c → f c < n) → hits-below n cs ≡ length cs
  unfolding hits-below hits
  below-all n [] less = none n
    where
      none : (m : ℕ) → hits-below m [] ≡ 0
      none zero = refl
      none (suc m) = (let rest = none m in omega arith)
  below-all n (c ∷ cs) less = (let one = below-one n c cs (less 0 c refl) in let rest = below-all n cs (λ place d at. less (suc place) d at) in omega arith)

  below-few : (n : ℕ) (cs : List CallerId) → ((k : ℕ) → k < n → hits k cs ≤ 1) → hits-below n cs ≤ n
  unfolding hits-below
  below-few zero cs few = omega arith
  below-few (suc n) cs few = (let one = few n (omega arith) in let rest = below-few n cs (λ k less. few k (omega arith)) in omega arith)

  below-fewer : (n : ℕ) (cs : List CallerId) → ((k : ℕ) → k < n → hits k cs ≤ 1) → (j : ℕ) → j < n → hits j cs ≡ 0 → hits-below n cs < n
  unfolding hits-below
  below-fewer zero cs few j less none = absurd (omega arith)
  below-fewer (suc n) cs few j less none = go (λ earlier. below-fewer n cs (λ k fewer. few k (omega arith)) j earlier none) (cases_lt j n)
    where
      go : (j < n → hits-below n cs < n) → (j < n) ⊎ (n ≤ j) → hits n cs + hits-below n cs < suc n
      go rest (inl earlier) = (let one = few n (omega arith) in let fewer = rest earlier in omega arith)
      go rest (inr last) = (let here : j ≡ n = omega arith in let zero_here : hits n cs ≡ 0 = subst (λ (k : ℕ). hits k cs ≡ 0) here none in let all = below-few n cs (λ k fewer. few k (omega arith)) in omega arith)

  -- as many callers as numbers, no two of one number: each number has one
  each-hit : (cs : List CallerId) → ((place : ℕ) (c : CallerId) → slice_get cs place ≡ Some c → f c < length cs) → ((k : ℕ) → k < length cs → hits k cs ≤ 1) → (j : ℕ) → j < length cs
      → (place : ℕ) × (c : CallerId) × (slice_get cs place ≡ Some c) × (f c ≡ j)
  unfolding hits
  each-hit cs less few j below = go (count_by (λ (c : CallerId). f c == j) cs) refl
    where
      go : (n : ℕ) → count_by (λ (c : CallerId). f c == j) cs ≡ n → (place : ℕ) × (c : CallerId) × (slice_get cs place ≡ Some c) × (f c ≡ j)
      go zero none = absurd (let all = below-all (length cs) cs less in let short = below-fewer (length cs) cs few j below none in omega arith)
      go (suc n) some = (let found = counted-there (λ (c : CallerId). f c == j) cs (omega (arith, some)) in (found.0, found.1, found.2, eqb-true (f found.1) j found.3))

  few-hits : (cs : List CallerId) → ((rank thread : ℕ) → count_by (is_caller rank thread) cs ≤ 1) → ((place other : ℕ) (c d : CallerId) → slice_get cs place ≡ Some c → slice_get cs other ≡ Some d → f c ≡ f d → c ≡ d) → (k : ℕ) → hits k cs ≤ 1
  unfolding hits
  few-hits cs once only k = go (count_by (λ (c : CallerId). f c == k) cs) refl
    where
      go : (n : ℕ) → count_by (λ (c : CallerId). f c == k) cs ≡ n → count_by (λ (c : CallerId). f c == k) cs ≤ 1
      go zero none = omega (arith, none)
      go (suc n) some =
          let found = counted-there (λ (c : CallerId). f c == k) cs (omega (arith, some)) in
          let less = counts-there (λ (c : CallerId). f c == k) (is_caller found.1.rank found.1.thread) cs (λ place c at is.
          let same : c ≡ found.1 = only place found.0 c found.1 at found.2 (eqb-true (f c) k is ∙ sym (eqb-true (f found.1) k found.3)) in
          rw (eq-eqb c.rank found.1.rank (ap (λ (d : CallerId). d.rank) same), eq-eqb c.thread found.1.thread (ap (λ (d : CallerId). d.thread) same)) refl) in
          let most = once found.1.rank found.1.thread in
          omega arith

pub each-number : (w : ShapeValue) → IsShape w → (k : ℕ) → k < length w.callers → (c : CallerId) × (list_any (is_caller c.rank c.thread) w.callers ≡ true) × (number_of w.callers c ≡ k)
each-number w world k below =
    let found = each-hit (number_of w.callers) w.callers (λ place c at. number-below w.callers c (there-any w.callers place c at))
    (λ j less. few-hits (number_of w.callers) w.callers world.once (λ place other c d at_c at_d same. same-number w c d world (there-any w.callers place c at_c) (there-any w.callers other d at_d) same) j) k below in
    (found.1, there-any w.callers found.0 found.1 found.2, found.3)

pub each-pass : (w : ShapeValue) (start : Start) → IsShape w → (k : ℕ) → k < length w.callers → (c : CallerId) × IsPassOf {S = Start} {E = Event} w c (new_pass start (Some k) [])
each-pass w start world k below = (let found = each-number w world k below in (found.0, (found.1, ap (λ (n : ℕ). Some n) (sym found.2))))
