-- A caller is told by its number.
use Rattle.std.proofs.Common.{◌≡◌, ℕ, zero, suc, ◌+◌, ◌*◌, ◌<◌, ◌≤◌, Bool, true, false, cond, ◌==◌, nat_lt, List, [], ◌∷◌, ◌++◌, length, Option, Some, count_by, find, map, refl, sym, ap, ◌∙◌, subst, arith}
use Rattle.std.specs.List.{slice_get, list_any, range_with_len}
use Rattle.std.proofs.lemmas.Bool.{eqb-true, eq-eqb, ltb-true, lt-ltb}
use Rattle.std.proofs.lemmas.List.FromFn.{map-range_with_len_more}
use Rattle.std.proofs.lemmas.List.Sums.{sum_by-cons}
use Rattle.std.proofs.lemmas.Option.{slice_get-map}
use Rattle.gaspi_types.specs.World.{ShapeValue, IsShape, is_caller}
use Rattle.gaspi_types.specs.declared.shapes.CallerId.{CallerId}
use Rattle.gaspi_types.proofs.Chains.{both}
use Rattle.commit_table.specs.declared.views.PassView.{PassView}
use Rattle.gaspi_model.proofs.Sound.Rounds.{in-range}
use Rattle.gaspi_world.specs.Callers.{numbered, all_numbered, IsPassOf}
use Rattle.gaspi_model.specs.Parties.{comes_before, number_of}

abbrev key : CallerId → ℕ
key c = c.rank * 4 + c.thread

counts-cons : (p : CallerId → Bool) (c : CallerId) (cs : List CallerId) → count_by p (c ∷ cs) ≡ cond (p c) 1 0 + count_by p cs
counts-cons p c cs = sum_by-cons (λ (d : CallerId). cond (p d) 1 0) c cs

pub counts-is : (p : CallerId → Bool) (c : CallerId) (cs : List CallerId) (b : Bool) → p c ≡ b → count_by p (c ∷ cs) ≡ cond b 1 0 + count_by p cs
counts-is p c cs b is = counts-cons p c cs ∙ ap (λ (x : Bool). cond x 1 0 + count_by p cs) is

-- a count over a weaker test is no less
counts-less : (p q : CallerId → Bool) (cs : List CallerId) → ((c : CallerId) → p c ≡ true → q c ≡ true) → count_by p cs ≤ count_by q cs
counts-less p q [] weaker = omega arith
counts-less p q (c ∷ cs) weaker = go (counts-less p q cs weaker) (p c) (q c) refl refl
  where
    go : count_by p cs ≤ count_by q cs → (a b : Bool) → p c ≡ a → q c ≡ b → count_by p (c ∷ cs) ≤ count_by q (c ∷ cs)
    go less true true isp isq = (let one : count_by p (c ∷ cs) ≡ 1 + count_by p cs = counts-is p c cs true isp in let two : count_by q (c ∷ cs) ≡ 1 + count_by q cs = counts-is q c cs true isq in omega arith)
    go less true false isp isq = absurd (let no : ◌≡◌ {A = Bool} false true = sym isq ∙ weaker c isp in let never : ⊥ = cc in never)
    go less false true isp isq = (let one : count_by p (c ∷ cs) ≡ 0 + count_by p cs = counts-is p c cs false isp in let two : count_by q (c ∷ cs) ≡ 1 + count_by q cs = counts-is q c cs true isq in omega arith)
    go less false false isp isq = (let one : count_by p (c ∷ cs) ≡ 0 + count_by p cs = counts-is p c cs false isp in let two : count_by q (c ∷ cs) ≡ 0 + count_by q cs = counts-is q c cs false isq in omega arith)

-- and is more where one that is there meets it and not the stronger one
counts-more : (p q : CallerId → Bool) (cs : List CallerId) (place : ℕ) (d : CallerId) → ((c : CallerId) → p c ≡ true → q c ≡ true) → slice_get cs place ≡ Some d → p d ≡ false → q d ≡ true
    → count_by p cs < count_by q cs
counts-more p q [] place d weaker at isp isq = absurd (let no : ⊥ = cc in no)
counts-more p q (c ∷ cs) zero d weaker at isp isq =
    let same : c ≡ d = cc in
    let one : count_by p (c ∷ cs) ≡ 0 + count_by p cs = counts-is p c cs false (ap p same ∙ isp) in
    let two : count_by q (c ∷ cs) ≡ 1 + count_by q cs = counts-is q c cs true (ap q same ∙ isq) in
    let less = counts-less p q cs weaker in
    omega arith
counts-more p q (c ∷ cs) (suc place) d weaker at isp isq = go (counts-more p q cs place d weaker at isp isq) (p c) (q c) refl refl
  where
    go : count_by p cs < count_by q cs → (a b : Bool) → p c ≡ a → q c ≡ b → count_by p (c ∷ cs) < count_by q (c ∷ cs)
    go less true true hp hq = (let one : count_by p (c ∷ cs) ≡ 1 + count_by p cs = counts-is p c cs true hp in let two : count_by q (c ∷ cs) ≡ 1 + count_by q cs = counts-is q c cs true hq in omega arith)
    go less true false hp hq = absurd (let no : ◌≡◌ {A = Bool} false true = sym hq ∙ weaker c hp in let never : ⊥ = cc in never)
    go less false true hp hq = (let one : count_by p (c ∷ cs) ≡ 0 + count_by p cs = counts-is p c cs false hp in let two : count_by q (c ∷ cs) ≡ 1 + count_by q cs = counts-is q c cs true hq in omega arith)
    go less false false hp hq = (let one : count_by p (c ∷ cs) ≡ 0 + count_by p cs = counts-is p c cs false hp in let two : count_by q (c ∷ cs) ≡ 0 + count_by q cs = counts-is q c cs false hq in omega arith)

-- a caller that is declared stands in the list
pub declared-at : (rank thread : ℕ) (cs : List CallerId) → list_any (is_caller rank thread) cs ≡ true → (place : ℕ) × (slice_get cs place ≡ Some (record { rank = rank; thread = thread }))
declared-at rank thread [] any = absurd (let no : ⊥ = cc in no)
declared-at rank thread (c ∷ cs) any = go (declared-at rank thread cs) (is_caller rank thread c) refl
  where
    go : (list_any (is_caller rank thread) cs ≡ true → (place : ℕ) × (slice_get cs place ≡ Some (record { rank = rank; thread = thread })))
        → (b : Bool) → is_caller rank thread c ≡ b → (place : ℕ) × (slice_get (c ∷ cs) place ≡ Some (record { rank = rank; thread = thread }))
    go rest true is =
        let parts = both (c.rank == rank) (c.thread == thread) is in
        let ranks : c.rank ≡ rank = eqb-true c.rank rank parts.0 in
        let threads : c.thread ≡ thread = eqb-true c.thread thread parts.1 in
        (0, rw (sym ranks, sym threads) refl)
    go rest false is = let later = rest (rw is at any) in (suc later.0, later.1)

before-less : (a b c : CallerId) → key b ≤ key c → comes_before a b ≡ true → comes_before a c ≡ true
before-less a b c less before = lt-ltb (key a) (key c) (let first = ltb-true (key a) (key b) before in omega arith)

not-before-itself : (c : CallerId) → comes_before c c ≡ false
not-before-itself c = go (comes_before c c) refl
  where
    go : (b : Bool) → comes_before c c ≡ b → comes_before c c ≡ false
    go false is = is
    go true is = absurd (let less = ltb-true (key c) (key c) is in omega arith)

-- the numbers of callers that are there are in their order
numbers-rise : (cs : List CallerId) (c d : CallerId) → list_any (is_caller c.rank c.thread) cs ≡ true → key c < key d → number_of cs c < number_of cs d
numbers-rise cs c d there less =
    let at = declared-at c.rank c.thread cs there in
    counts-more (λ e. comes_before e c) (λ e. comes_before e d) cs at.0 c (λ e before. before-less e c d (omega arith) before) at.1 (not-before-itself c) (lt-ltb (key c) (key d) less)

pub number-below : (cs : List CallerId) (c : CallerId) → list_any (is_caller c.rank c.thread) cs ≡ true → number_of cs c < length cs
number-below cs c there =
    let at = declared-at c.rank c.thread cs there in
    let more = counts-more (λ e. comes_before e c) (λ e. true) cs at.0 c (λ e before. refl) at.1 (not-before-itself c) refl in
    let all = all-count cs in
    omega arith
  where
    all-count : (es : List CallerId) → count_by (λ (e : CallerId). true) es ≡ length es
    all-count [] = refl
    all-count (e ∷ es) = (let rest = all-count es in let one : count_by (λ (f : CallerId). true) (e ∷ es) ≡ 1 + count_by (λ (f : CallerId). true) es = counts-cons (λ f. true) e es in omega arith)

-- callers of one number are the same
pub same-number : (w : ShapeValue) (c d : CallerId) → IsShape w → list_any (is_caller c.rank c.thread) w.callers ≡ true → list_any (is_caller d.rank d.thread) w.callers ≡ true
    → number_of w.callers c ≡ number_of w.callers d → c ≡ d
same-number w c d world c_there d_there same = go (nat_lt (key c) (key d)) (nat_lt (key d) (key c)) refl refl
  where
    c_at : (place : ℕ) × (slice_get w.callers place ≡ Some c)
    c_at = declared-at c.rank c.thread w.callers c_there

    d_at : (place : ℕ) × (slice_get w.callers place ≡ Some d)
    d_at = declared-at d.rank d.thread w.callers d_there

    go : (a b : Bool) → nat_lt (key c) (key d) ≡ a → nat_lt (key d) (key c) ≡ b → c ≡ d
    go true b is isb = absurd (let less = numbers-rise w.callers c d c_there (ltb-true (key c) (key d) is) in omega arith)
    go false true is isb = absurd (let less = numbers-rise w.callers d c d_there (ltb-true (key d) (key c) isb) in omega arith)
    go false false is isb =
        let c_low = (world.within c_at.0 c c_at.1).1 in
        let d_low = (world.within d_at.0 d d_at.1).1 in
        let one : key c < key d → ⊥ = λ less. (let lt = lt-ltb (key c) (key d) less in let no : ◌≡◌ {A = Bool} false true = sym is ∙ lt in let never : ⊥ = cc in never) in
        let two : key d < key c → ⊥ = λ less. (let lt = lt-ltb (key d) (key c) less in let no : ◌≡◌ {A = Bool} false true = sym isb ∙ lt in let never : ⊥ = cc in never) in
        let keys : key c ≡ key d = omega arith in
        let ranks : c.rank ≡ d.rank = omega arith in
        let threads : c.thread ≡ d.thread = omega arith in
        ap (λ (r : ℕ). (let e : CallerId = record { rank = r; thread = c.thread } in e)) ranks ∙ ap (λ (t : ℕ). (let e : CallerId = record { rank = d.rank; thread = t } in e)) threads

-- the caller of a number is that of the pass which has it
found-first : (p : CallerId → Bool) (cs : List CallerId) (place : ℕ) (c : CallerId) → slice_get cs place ≡ Some c → p c ≡ true → ((d : CallerId) (at : ℕ) → slice_get cs at ≡ Some d → p d ≡ true → d ≡ c) → find p cs ≡ Some c
found-first p [] place c at is only = absurd (let no : ⊥ = cc in no)
found-first p (d ∷ cs) place c at is only = go (λ earlier here. found-first p cs earlier c here is (λ e at_e. only e (suc at_e))) (p d) refl place at
  where
    go : ((earlier : ℕ) → slice_get cs earlier ≡ Some c → find p cs ≡ Some c) → (b : Bool) → p d ≡ b → (place : ℕ) → slice_get (d ∷ cs) place ≡ Some c → find p (d ∷ cs) ≡ Some c
    go rest true meets place at = rw meets (ap (λ (e : CallerId). Some e) (only d 0 refl meets))
    go rest false meets zero at = absurd (let same : d ≡ c = cc in let no : ◌≡◌ {A = Bool} false true = sym meets ∙ (ap p same ∙ is) in let never : ⊥ = cc in never)
    go rest false meets (suc earlier) at = rw meets (rest earlier at)

pub there-any : (cs : List CallerId) (place : ℕ) (c : CallerId) → slice_get cs place ≡ Some c → list_any (is_caller c.rank c.thread) cs ≡ true
there-any [] place c at = absurd (let no : ⊥ = cc in no)
there-any (d ∷ cs) zero c at = (let same : d ≡ c = cc in let rank = eq-eqb d.rank c.rank (ap (λ (e : CallerId). e.rank) same) in let thread = eq-eqb d.thread c.thread (ap (λ (e : CallerId). e.thread) same) in rw (rank, thread) refl)
there-any (d ∷ cs) (suc place) c at = go (there-any cs place c at) (is_caller c.rank c.thread d) refl
  where
    go : list_any (is_caller c.rank c.thread) cs ≡ true → (b : Bool) → is_caller c.rank c.thread d ≡ b → list_any (is_caller c.rank c.thread) (d ∷ cs) ≡ true
    go rest true is = rw is refl
    go rest false is = rw is rest

pub numbered-itself : (w : ShapeValue) (c : CallerId) → IsShape w → list_any (is_caller c.rank c.thread) w.callers ≡ true → numbered w.callers (number_of w.callers c) ≡ Some c
numbered-itself w c world there =
    let at = declared-at c.rank c.thread w.callers there in
    found-first (λ (d : CallerId). number_of w.callers d == number_of w.callers c) w.callers at.0 c at.1 (eq-eqb (number_of w.callers c) (number_of w.callers c) refl)
    (λ d place here same. same-number w d c world (there-any w.callers place d here) there (eqb-true (number_of w.callers d) (number_of w.callers c) same))

pub numbered_more : (callers : List CallerId) (n : ℕ) → map (numbered callers) (range_with_len 0 (n + 1)) ≡ map (numbered callers) (range_with_len 0 n) ++ numbered callers n ∷ []
numbered_more callers n = map-range_with_len_more (numbered callers) 0 n n (omega arith)

pub indexed : (w : ShapeValue) (c : CallerId) → IsShape w → list_any (is_caller c.rank c.thread) w.callers ≡ true → slice_get (all_numbered w.callers) (number_of w.callers c) ≡ Some (Some c)
indexed w c world there =
    let n = number_of w.callers c in
    let at : slice_get (range_with_len 0 (length w.callers)) n ≡ Some n = in-range 0 (length w.callers) n (number-below w.callers c there) ∙ ap (λ (m : ℕ). Some m) (let same : 0 + n ≡ n = omega arith in same) in
    slice_get-map (numbered w.callers) (range_with_len 0 (length w.callers)) n ∙ rw at (ap (λ (o : Option CallerId). Some o) (numbered-itself w c world there))

-- what stands at the number of a pass is its caller
pub stands-there : {S E : Type 0} (w : ShapeValue) (c : CallerId) (v : PassView S E) (number : ℕ) → IsShape w → IsPassOf w c v → v.party ≡ Some number → slice_get (all_numbered w.callers) number ≡ Some (Some c)
stands-there w c v number world pass party =
    let same : ◌≡◌ {A = Option ℕ} (Some (number_of w.callers c)) (Some number) = sym pass.1 ∙ party in
    let here : number_of w.callers c ≡ number = cc in
    subst (λ (n : ℕ). slice_get (all_numbered w.callers) n ≡ Some (Some c)) here (indexed w c world pass.0)

pub stands-in : {S E : Type 0} (rows : List (Option CallerId)) (w shape : ShapeValue) (c : CallerId) (v : PassView S E) (number : ℕ) → rows ≡ all_numbered w.callers → shape ≡ w → IsShape shape → IsPassOf w c v → v.party ≡ Some number
    → slice_get rows number ≡ Some (Some c)
stands-in rows w shape c v number all same world pass party =
    ap (λ (r : List (Option CallerId)). slice_get r number) all ∙ stands-there w c v number (subst IsShape same world) pass party
