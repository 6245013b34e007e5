-- The schedule at its start.
use Rattle.std.proofs.Common.{◌≡◌, ℕ, zero, suc, ◌+◌, ◌<◌, ◌≤◌, Bool, true, false, ◌&&◌, List, [], ◌∷◌, Option, None, Some, refl, sym, ap, ◌∙◌, subst, arith, ◌==◌, find, cond, count_by, if◌then◌else◌, map, ◌⊎◌, inl, inr}
use Rattle.std.specs.List.{slice_get, sum_by, flat_map, range_with_len, list_any}
use Rattle.std.specs.Option.{option_map}
use Rattle.std.proofs.lemmas.Bool.{eqb-true, eq-eqb, eqb-false}
use Rattle.std.proofs.lemmas.List.Sums.{sum_by-append, sum_by-cons}
use Rattle.std.proofs.lemmas.Option.{slice_get-map}
use Rattle.std.proofs.lemmas.List.Elements.{All-nil}
use Rattle.gaspi_texts.specs.EventText.{HasOwnValues}
use Rattle.gaspi_types.proofs.Found.{found_passes}
use Rattle.gaspi_types.specs.World.{ShapeValue, IsShape, is_caller}
use Rattle.gaspi_types.specs.declared.shapes.CallerId.{CallerId}
use Rattle.gaspi_model.specs.State.{opening, opening_posts, opening_thread}
use Rattle.gaspi_model.specs.Sound.{IsSound}
use Rattle.gaspi_model.specs.Step.{is_active}
use Rattle.gaspi_types.proofs.Items.{flat_map-parts}
use Rattle.rank_script.specs.Runs.{at_first_line}
use Rattle.rank_script.specs.WorldText.{is_script_of, AreScriptsOf}
use Rattle.rank_script.specs.declared.scripts.Script.{Script}
use Rattle.plain_schedule.specs.Schedule.{starting, thread_starts, rank_starts, starts, started}
use Rattle.plain_schedule.specs.declared.schedule_states.ActiveCaller.{ActiveCaller}
use Rattle.plain_schedule.proofs.Good.{IsGood}
use Rattle.plain_schedule.proofs.Running.{IsRunning, Goes, active_count, count-at, find-there}

-- Sums over numbers.

-- a number of a range
range-at : (a n i r : ℕ) → slice_get (range_with_len a n) i ≡ Some r → (r ≡ a + i) × (i < n)
range-at a zero i r at = absurd (let no : ⊥ = cc in no)
range-at a (suc n) zero r at = ((let same : a ≡ r = cc in sym same ∙ omega arith), omega arith)
range-at a (suc n) (suc i) r at = let rest = range-at (a + 1) n i r at in (rest.0 ∙ omega arith, (let less = rest.1 in omega arith))

-- a sum over numbers none of which counts
sum-none : (g : ℕ → ℕ) (a n : ℕ) → ((k : ℕ) → a ≤ k → k < a + n → g k ≡ 0) → sum_by g (range_with_len a n) ≡ 0
sum-none g a zero none = refl
sum-none g a (suc n) none =
    let sum = sum_by-cons g a (range_with_len (a + 1) n) in
    let here = none a (omega arith) (omega arith) in
    let rest = sum-none g (a + 1) n (λ k low high. none k (omega arith) (omega arith)) in
    omega arith

-- one of which alone counts
sum-one : (g : ℕ → ℕ) (a n r : ℕ) → a ≤ r → r < a + n → ((k : ℕ) → (k ≡ r → ⊥) → g k ≡ 0) → sum_by g (range_with_len a n) ≡ g r
sum-one g a zero r low high others = absurd (omega arith)
sum-one g a (suc n) r low high others = go (a == r) refl (λ l h. sum-one g (a + 1) n r l h others)
  where
    go : (b : Bool) → (a == r) ≡ b → (a + 1 ≤ r → r < a + 1 + n → sum_by g (range_with_len (a + 1) n) ≡ g r) → sum_by g (range_with_len a (suc n)) ≡ g r
    go true is later =
        let same = eqb-true a r is in
        let sum = sum_by-cons g a (range_with_len (a + 1) n) in
        let rest = sum-none g (a + 1) n (λ k l h. others k (λ e. omega arith)) in
        let here = ap g same in
        omega arith
    go false is later =
        let apart : a ≡ r → ⊥ = λ e. eqb-false a r is e in
        let sum = sum_by-cons g a (range_with_len (a + 1) n) in
        let here = others a apart in
        let rest = later (omega arith) (omega arith) in
        omega arith

-- how many of lists that are joined pass
count-flat_map : {A B : Type 0} (p : B → Bool) (f : A → List B) (xs : List A) → count_by p (flat_map f xs) ≡ sum_by (λ x. count_by p (f x)) xs
count-flat_map p f [] = refl
count-flat_map {A} {B} p f (x ∷ xs) =
    sum_by-append (λ (y : B). cond (p y) 1 0) (f x) (flat_map f xs) ∙ ap (λ (n : ℕ). count_by p (f x) + n) (count-flat_map p f xs)
    ∙ sym (sum_by-cons (λ (z : A). count_by p (f z)) x xs)

both : (a b : Bool) → (a && b) ≡ true → (a ≡ true) × (b ≡ true)
both true b h = (refl, h)
both false b h = absurd (let no : ⊥ = cc in no)

-- Scripts that are found.

none-counted : {A : Type 0} (p : A → Bool) (xs : List A) → find p xs ≡ None → count_by p xs ≡ 0
none-counted p [] h = refl
none-counted {A} p (y ∷ xs) h = go (p y) refl h (λ e. none-counted p xs e)
  where
    go : (b : Bool) → p y ≡ b → (if b then Some y else find p xs) ≡ None → (find p xs ≡ None → count_by p xs ≡ 0) → count_by p (y ∷ xs) ≡ 0
    go true is e later = absurd (let no : ⊥ = cc in no)
    go false is e later =
        let rest = later e in
        let zeroes : cond {A = ℕ} (p y) 1 0 ≡ 0 = ap (λ (b : Bool). cond {A = ℕ} b 1 0) is in
        let sum = sum_by-cons (λ (z : A). cond (p z) 1 0) y xs in
        omega arith

-- what is counted of the start of one caller
start-count : (scripts : List Script) (r t : ℕ) → count_by (λ (s : Script). is_caller r t s.caller) scripts ≤ 1
    → active_count r t (thread_starts scripts r t) ≡ count_by (λ (s : Script). is_caller r t s.caller) scripts
start-count scripts r t once = go (find (is_script_of (record { rank = r; thread = t })) scripts) refl
  where
    go : (o : Option Script) → find (is_script_of (record { rank = r; thread = t })) scripts ≡ o → active_count r t (starting o) ≡ count_by (λ (s : Script). is_caller r t s.caller) scripts
    go None is = sym (none-counted (λ (s : Script). is_caller r t s.caller) scripts is)
    go (Some s) is =
        let pass = found_passes (λ (s : Script). is_caller r t s.caller) scripts s is in
        let there = find-there (λ (s : Script). is_caller r t s.caller) scripts s is in
        let one = count-at (λ (s : Script). is_caller r t s.caller) scripts there.0 s there.1 pass in
        rw pass (omega arith)

-- the start of another caller is not counted
other-start : (scripts : List Script) (r t a b : ℕ) → ((a ≡ r) × (b ≡ t) → ⊥) → active_count r t (thread_starts scripts a b) ≡ 0
other-start scripts r t a b apart = go (find (is_script_of (record { rank = a; thread = b })) scripts) refl
  where
    is-false : (s : Script) → is_caller a b s.caller ≡ true → (x : Bool) → is_caller r t s.caller ≡ x → x ≡ false
    is-false s pass false is = refl
    is-false s pass true is =
        let here = both (s.caller.rank == a) (s.caller.thread == b) pass in
        let there = both (s.caller.rank == r) (s.caller.thread == t) is in
        absurd (apart (sym (eqb-true s.caller.rank a here.0) ∙ eqb-true s.caller.rank r there.0, sym (eqb-true s.caller.thread b here.1) ∙ eqb-true s.caller.thread t there.1))

    go : (o : Option Script) → find (is_script_of (record { rank = a; thread = b })) scripts ≡ o → active_count r t (starting o) ≡ 0
    go None is = refl
    go (Some s) is =
        let pass = found_passes (is_script_of (record { rank = a; thread = b })) scripts s is in
        let no : is_caller r t s.caller ≡ false = is-false s pass (is_caller r t s.caller) refl in
        rw no refl

-- Scripts of a world's callers.

pub count-map : {A B : Type 0} (p : B → Bool) (f : A → B) (xs : List A) → count_by p (map f xs) ≡ count_by (λ x. p (f x)) xs
count-map p f [] = refl
count-map {A} {B} p f (x ∷ xs) =
    sum_by-cons (λ (y : B). cond (p y) 1 0) (f x) (map f xs) ∙ ap (λ (n : ℕ). cond (p (f x)) 1 0 + n) (count-map p f xs)
    ∙ sym (sum_by-cons (λ (z : A). cond (p (f z)) 1 0) x xs)

pub scripts-once : (w : ShapeValue) (scripts : List Script) (r t : ℕ) → IsShape w → AreScriptsOf w scripts → count_by (λ (s : Script). is_caller r t s.caller) scripts ≤ 1
scripts-once w scripts r t world are =
    let same = count-map (is_caller r t) (λ (s : Script). s.caller) scripts in
    let one = world.once r t in
    let callers : count_by (is_caller r t) (map (λ (s : Script). s.caller) scripts) ≡ count_by (is_caller r t) w.callers = ap (λ (cs : List CallerId). count_by (is_caller r t) cs) are in
    omega arith

-- a script that was found is of a caller of the world
script-caller : (w : ShapeValue) (scripts : List Script) (a b : ℕ) (s : Script) → AreScriptsOf w scripts → find (is_script_of (record { rank = a; thread = b })) scripts ≡ Some s
    → (k : ℕ) × (slice_get w.callers k ≡ Some s.caller) × (s.caller.rank ≡ a) × (s.caller.thread ≡ b)
script-caller w scripts a b s are is =
    let there = find-there (is_script_of (record { rank = a; thread = b })) scripts s is in
    let pass = both (s.caller.rank == a) (s.caller.thread == b) (found_passes (is_script_of (record { rank = a; thread = b })) scripts s is) in
    let mapped : slice_get (map (λ (x : Script). x.caller) scripts) there.0 ≡ Some s.caller = slice_get-map (λ (x : Script). x.caller) scripts there.0 ∙ ap (λ (o : Option Script). option_map (λ (x : Script). x.caller) o) there.1 in
    (there.0, subst (λ (cs : List CallerId). slice_get cs there.0 ≡ Some s.caller) are mapped, eqb-true s.caller.rank a pass.0, eqb-true s.caller.thread b pass.1)

decide-both : (a r b t : ℕ) → ((a ≡ r) × (b ≡ t)) ⊎ ((a ≡ r) × (b ≡ t) → ⊥)
decide-both a r b t = go (a == r) (b == t) refl refl
  where
    go : (x y : Bool) → (a == r) ≡ x → (b == t) ≡ y → ((a ≡ r) × (b ≡ t)) ⊎ ((a ≡ r) × (b ≡ t) → ⊥)
    go true true p q = inl (eqb-true a r p, eqb-true b t q)
    go true false p q = inr (λ h. eqb-false b t q h.1)
    go false y p q = inr (λ h. eqb-false a r p h.0)

-- how many callers that start are of a rank and thread: as many as scripts are
starts-counted : (w : ShapeValue) (scripts : List Script) (r t : ℕ) → IsShape w → AreScriptsOf w scripts → active_count r t (starts w scripts) ≡ count_by (λ (s : Script). is_caller r t s.caller) scripts
starts-counted w scripts r t world are = go (find (is_script_of (record { rank = r; thread = t })) scripts) refl
  where
    by-thread : (a : ℕ) → active_count r t (rank_starts scripts a) ≡ sum_by (λ b. active_count r t (thread_starts scripts a b)) (range_with_len 0 4)
    by-thread a = count-flat_map (λ (x : ActiveCaller). is_caller r t x.caller) (thread_starts scripts a) (range_with_len 0 4)

    by-rank : active_count r t (starts w scripts) ≡ sum_by (λ a. active_count r t (rank_starts scripts a)) (range_with_len 0 w.limits.ranks)
    by-rank = count-flat_map (λ (x : ActiveCaller). is_caller r t x.caller) (rank_starts scripts) (range_with_len 0 w.limits.ranks)

    other-rank : (a : ℕ) → (a ≡ r → ⊥) → active_count r t (rank_starts scripts a) ≡ 0
    other-rank a apart = by-thread a ∙ sum-none (λ b. active_count r t (thread_starts scripts a b)) 0 4 (λ b low high. other-start scripts r t a b (λ h. apart h.0))

    missing : find (is_script_of (record { rank = r; thread = t })) scripts ≡ None → (a b : ℕ) → ((a ≡ r) × (b ≡ t)) ⊎ ((a ≡ r) × (b ≡ t) → ⊥) → active_count r t (thread_starts scripts a b) ≡ 0
    missing none a b (inl h) =
        let here : find (is_script_of (record { rank = a; thread = b })) scripts ≡ None =
        subst (λ (n : ℕ). find (is_script_of (record { rank = a; thread = n })) scripts ≡ None) (sym h.1) (subst (λ (n : ℕ). find (is_script_of (record { rank = n; thread = t })) scripts ≡ None) (sym h.0) none) in
        rw here refl
    missing none a b (inr apart) = other-start scripts r t a b apart

    go : (o : Option Script) → find (is_script_of (record { rank = r; thread = t })) scripts ≡ o → active_count r t (starts w scripts) ≡ count_by (λ (s : Script). is_caller r t s.caller) scripts
    go None is =
        by-rank ∙ sum-none (λ a. active_count r t (rank_starts scripts a)) 0 w.limits.ranks (λ a low high.
        by-thread a ∙ sum-none (λ b. active_count r t (thread_starts scripts a b)) 0 4 (λ b l h. missing is a b (decide-both a r b t)))
        ∙ sym (none-counted (λ (s : Script). is_caller r t s.caller) scripts is)
    go (Some s) is =
        let caller = script-caller w scripts r t s are is in
        let within = world.within caller.0 s.caller caller.1 in
        let low = within.0 in
        let few = within.1 in
        let same = caller.2 in
        let same' = caller.3 in
        by-rank ∙ sum-one (λ a. active_count r t (rank_starts scripts a)) 0 w.limits.ranks r (omega arith) (omega arith) other-rank
        ∙ by-thread r ∙ sum-one (λ b. active_count r t (thread_starts scripts r b)) 0 4 t (omega arith) (omega arith) (λ b apart. other-start scripts r t r b (λ h. apart h.1))
        ∙ start-count scripts r t (scripts-once w scripts r t world are)

-- where a caller that starts comes from
starts-body : (w : ShapeValue) (scripts : List Script) (place : ℕ) (x : ActiveCaller) → slice_get (starts w scripts) place ≡ Some x
    → (a : ℕ) × (b : ℕ) × (s : Script) × (a < w.limits.ranks) × (find (is_script_of (record { rank = a; thread = b })) scripts ≡ Some s) × (x ≡ record { caller = s.caller; cursor = at_first_line s.lines; looks = 0 })
starts-body w scripts place x at =
    let r = flat_map-parts (rank_starts scripts) (range_with_len 0 w.limits.ranks) place x at in
    let rank = range-at 0 w.limits.ranks r.0 r.1 r.3 in
    let t = flat_map-parts (thread_starts scripts r.1) (range_with_len 0 4) r.2 x r.4 in
    go r.1 t.1 (find (is_script_of (record { rank = r.1; thread = t.1 })) scripts) refl t.2 t.4 (let is = rank.0 in let low = rank.1 in omega arith)
  where
    go : (a b : ℕ) (o : Option Script) → find (is_script_of (record { rank = a; thread = b })) scripts ≡ o → (j : ℕ) → slice_get (thread_starts scripts a b) j ≡ Some x → a < w.limits.ranks
        → (a : ℕ) × (b : ℕ) × (s : Script) × (a < w.limits.ranks) × (find (is_script_of (record { rank = a; thread = b })) scripts ≡ Some s) × (x ≡ record { caller = s.caller; cursor = at_first_line s.lines; looks = 0 })
    go a b None is j here low = absurd (let none = rw is at here in let no : ⊥ = cc in no)
    go a b (Some s) is zero here low =
        let one : ◌≡◌ {A = Option ActiveCaller} (Some (record { caller = s.caller; cursor = at_first_line s.lines; looks = 0 })) (Some x) = rw is at here in
        (a, b, s, low, is, (let same : ◌≡◌ {A = ActiveCaller} (record { caller = s.caller; cursor = at_first_line s.lines; looks = 0 }) x = cc in sym same))
    go a b (Some s) is (suc j) here low = absurd (let none = rw is at here in let no : ⊥ = cc in no)

-- Callers that start are active.

range-get : (a n i : ℕ) → i < n → slice_get (range_with_len a n) i ≡ Some (a + i)
range-get a zero i less = absurd (omega arith)
range-get a (suc n) zero less = ap (λ (k : ℕ). Some k) (let same : a ≡ a + 0 = omega arith in same)
range-get a (suc n) (suc i) less = range-get (a + 1) n i (omega arith) ∙ ap (λ (k : ℕ). Some k) (let same : a + 1 + i ≡ a + suc i = omega arith in same)

map-range-get : {A : Type 0} (f : ℕ → A) (n i : ℕ) → i < n → slice_get (map f (range_with_len 0 n)) i ≡ Some (f i)
map-range-get {A} f n i less =
    slice_get-map f (range_with_len 0 n) i ∙ ap (λ (o : Option ℕ). option_map f o) (range-get 0 n i less) ∙ ap (λ (k : ℕ). Some (f k)) (let same : 0 + i ≡ i = omega arith in same)

any-at : {A : Type 0} (p : A → Bool) (xs : List A) (k : ℕ) (x : A) → slice_get xs k ≡ Some x → p x ≡ true → list_any p xs ≡ true
any-at p [] k x at pass = absurd (let no : ⊥ = cc in no)
any-at {A} p (y ∷ xs) zero x at pass = let same : y ≡ x = cc in let here : p y ≡ true = ap p same ∙ pass in rw here refl
any-at {A} p (y ∷ xs) (suc k) x at pass = go (p y) (any-at p xs k x at pass)
  where
    go : (b : Bool) → list_any p xs ≡ true → (Rattle.std.specs.Prelude.◌||◌ b (list_any p xs)) ≡ true
    go true rest = refl
    go false rest = rest

starting-active : (w : ShapeValue) (c : CallerId) (k : ℕ) → IsShape w → slice_get w.callers k ≡ Some c → is_active (opening w) c.rank c.thread ≡ true
starting-active w c k world at =
    let within = world.within k c at in
    let posts = map-range-get (opening_posts w) w.limits.ranks c.rank within.0 in
    let thread = map-range-get (opening_thread w c.rank) 4 c.thread within.1 in
    let any = any-at (is_caller c.rank c.thread) w.callers k c at (rw (eq-eqb c.rank c.rank refl, eq-eqb c.thread c.thread refl) refl) in
    rw (posts, thread, any) refl

pub good-started : ((v : ShapeValue) → IsShape v → IsSound (opening v)) → (w : ShapeValue) (scripts : List Script) (seed : ℕ) → IsShape w → AreScriptsOf w scripts → IsGood w (started w scripts seed)
good-started opens w scripts seed world are = record {
  legal = refl;
  sound = opens w world;
  limits = refl;
  ranked = λ place x at. ranked-at x (starts-body w scripts place x at);
  own = All-nil HasOwnValues;
}
  where
    ranked-at : (x : ActiveCaller) → ((a : ℕ) × (b : ℕ) × (s : Script) × (a < w.limits.ranks) × (find (is_script_of (record { rank = a; thread = b })) scripts ≡ Some s) × (x ≡ record { caller = s.caller; cursor = at_first_line s.lines; looks = 0 }))
        → x.caller.rank < w.limits.ranks
    ranked-at x h =
        let caller = script-caller w scripts h.0 h.1 h.2 are h.4 in
        let same : x.caller.rank ≡ h.0 = ap (λ (y : ActiveCaller). y.caller.rank) h.5 ∙ caller.2 in
        subst (λ (n : ℕ). n < w.limits.ranks) (sym same) h.3

pub running-started : (w : ShapeValue) (scripts : List Script) (seed : ℕ) → IsShape w → AreScriptsOf w scripts → IsRunning w scripts (started w scripts seed)
running-started w scripts seed world are = record {
  active = λ place x at. active-at x (starts-body w scripts place x at);
  goes = λ place x at. goes-at x (starts-body w scripts place x at);
  joined = λ place x line tried lines at going h. absurd (let no : ⊥ = cc in no);
  ended = λ place f at. absurd (let no : ⊥ = cc in no);
  counted = λ r t. (let all = starts-counted w scripts r t world are in omega arith);
  once = λ r t. scripts-once w scripts r t world are;
}
  where
    active-at : (x : ActiveCaller) → ((a : ℕ) × (b : ℕ) × (s : Script) × (a < w.limits.ranks) × (find (is_script_of (record { rank = a; thread = b })) scripts ≡ Some s) × (x ≡ record { caller = s.caller; cursor = at_first_line s.lines; looks = 0 }))
        → is_active (opening w) x.caller.rank x.caller.thread ≡ true
    active-at x h =
        let caller = script-caller w scripts h.0 h.1 h.2 are h.4 in
        subst (λ (y : ActiveCaller). is_active (opening w) y.caller.rank y.caller.thread ≡ true) (sym h.5) (starting-active w h.2.caller caller.0 world caller.1)

    goes-at : (x : ActiveCaller) → ((a : ℕ) × (b : ℕ) × (s : Script) × (a < w.limits.ranks) × (find (is_script_of (record { rank = a; thread = b })) scripts ≡ Some s) × (x ≡ record { caller = s.caller; cursor = at_first_line s.lines; looks = 0 }))
        → Goes w scripts [] x
    goes-at x h =
        let caller = script-caller w scripts h.0 h.1 h.2 are h.4 in
        let found : find (is_script_of h.2.caller) scripts ≡ Some h.2 =
        subst (λ (n : ℕ). find (is_script_of (record { rank = h.2.caller.rank; thread = n })) scripts ≡ Some h.2) (sym caller.3)
        (subst (λ (n : ℕ). find (is_script_of (record { rank = n; thread = h.1 })) scripts ≡ Some h.2) (sym caller.2) h.4) in
        subst (λ (y : ActiveCaller). Goes w scripts [] y) (sym h.5) (record { script = h.2; is_script = found; come = inl (refl, tt) })
