-- What is counted over a journal, and what over the calls of each rank.
use Rattle.std.proofs.Common.{◌≡◌, ℕ, ◌+◌, ◌*◌, ◌<◌, Bool, true, false, cond, List, [], ◌∷◌, ◌++◌, length, refl, sym, ap, ◌∙◌, arith}
use Rattle.std.specs.List.{count_by}
use Rattle.std.proofs.lemmas.Bool.{eq-eqb, ne_eqb}
use Rattle.std.proofs.lemmas.List.Sums.{sum_by-cons, sum_by-append}
use Rattle.gaspi_types.specs.World.{is_caller}
use Rattle.gaspi_types.specs.declared.calls.Call.{Call}
use Rattle.gaspi_types.specs.declared.events.Event.{Event}
use Rattle.gaspi_types.specs.declared.events.Event.TheVariants.{Called, Joined, Take, Put}
use Rattle.gaspi_types.specs.declared.replies.Reply.{Reply}
use Rattle.gaspi_types.specs.declared.shapes.CallerId.{CallerId}
use Rattle.gaspi_model.specs.Step.{recorded_calls}
use Rattle.call_journal.proofs.Sums.{sum_until, sum-constant, sum-one}

abbrev pub Pair : Type 0
Pair = Call × Reply

pub count-cons : {A : Type 0} (p : A → Bool) (x : A) (xs : List A) → count_by p (x ∷ xs) ≡ cond (p x) 1 0 + count_by p xs
count-cons p x xs = sum_by-cons (λ y. cond (p y) 1 0) x xs

pub count-append : {A : Type 0} (p : A → Bool) (xs ys : List A) → count_by p (xs ++ ys) ≡ count_by p xs + count_by p ys
count-append p xs ys = sum_by-append (λ y. cond (p y) 1 0) xs ys

-- tests that agree count the same
pub count-alike : {A : Type 0} (p q : A → Bool) (xs : List A) → ((x : A) → p x ≡ q x) → count_by p xs ≡ count_by q xs
count-alike p q [] same = refl
count-alike p q (x ∷ xs) same = count-cons p x xs ∙ rw (same x) (let rest = count-alike p q xs same in ap (λ (n : ℕ). cond (q x) 1 0 + n) rest) ∙ sym (count-cons q x xs)

pub count-every : {A : Type 0} (xs : List A) → count_by (λ (x : A). true) xs ≡ length xs
count-every {A} [] = refl
count-every {A} (x ∷ xs) = count-cons (λ (y : A). true) x xs ∙ (let rest = count-every xs in omega arith)

-- a test of a call with its reply, as one of events
abbrev pub pair_test : (Pair → Bool) → Event → Bool
pair_test p (Called c call reply) = p (call, reply)
pair_test p (Joined c id args) = false
pair_test p (Take origin queue target number outcome) = false
pair_test p (Put origin queue target number outcome) = false

-- each call is one of thread 0 of one of so many ranks
abbrev pub IsOfFirst : ℕ → Event → Type 0
IsOfFirst ranks (Called c call reply) = (c.rank < ranks) × (c.thread ≡ 0)
IsOfFirst ranks (Joined c id args) = Unit {0}
IsOfFirst ranks (Take origin queue target number outcome) = Unit {0}
IsOfFirst ranks (Put origin queue target number outcome) = Unit {0}

abbrev pub AreOfFirst : ℕ → List Event → Type 0
AreOfFirst ranks [] = Unit {0}
AreOfFirst ranks (e ∷ events) = IsOfFirst ranks e × AreOfFirst ranks events

pub caller-mine : (c : CallerId) → c.thread ≡ 0 → is_caller c.rank 0 c ≡ true
caller-mine c first = rw (eq-eqb c.rank c.rank refl, eq-eqb c.thread 0 first) refl

pub caller-other : (c : CallerId) (rank : ℕ) → (rank ≡ c.rank → ⊥) → is_caller rank 0 c ≡ false
caller-other c rank apart = rw (ne_eqb c.rank rank (λ e. apart (sym e))) refl

pub own-mine : (c : CallerId) (call : Call) (reply : Reply) (events : List Event) → c.thread ≡ 0 → recorded_calls c.rank 0 (Called c call reply ∷ events) ≡ (call, reply) ∷ recorded_calls c.rank 0 events
own-mine c call reply events first = rw (caller-mine c first) refl

pub own-other : (c : CallerId) (call : Call) (reply : Reply) (events : List Event) (rank : ℕ) → (rank ≡ c.rank → ⊥) → recorded_calls rank 0 (Called c call reply ∷ events) ≡ recorded_calls rank 0 events
own-other c call reply events rank apart = rw (caller-other c rank apart) refl

-- what is counted over the calls of all ranks
pub count-all : (p : Pair → Bool) (ranks : ℕ) (events : List Event) → AreOfFirst ranks events
    → count_by (pair_test p) events ≡ sum_until (λ (rank : ℕ). count_by p (recorded_calls rank 0 events)) ranks
count-all p ranks [] are = (let none = sum-constant (λ (rank : ℕ). 0) 0 ranks (λ k less. refl) in let zeros : ranks * 0 ≡ 0 = omega arith in sym (none ∙ zeros))
count-all p ranks (Called c call reply ∷ events) are =
    let rest = count-all p ranks events are.1 in
    let one = sum-one (λ (rank : ℕ). count_by p (recorded_calls rank 0 events)) (λ (rank : ℕ). count_by p (recorded_calls rank 0 (Called c call reply ∷ events))) c.rank ranks (cond (p (call, reply)) 1 0) are.0.0
    (ap (count_by p) (own-mine c call reply events are.0.1) ∙ count-cons p (call, reply) (recorded_calls c.rank 0 events) ∙ omega arith)
    (λ rank apart. ap (count_by p) (own-other c call reply events rank apart)) in
    let cons : count_by (pair_test p) (Called c call reply ∷ events) ≡ cond (p (call, reply)) 1 0 + count_by (pair_test p) events = count-cons (pair_test p) (Called c call reply) events in
    omega (arith, rest, one, cons)
count-all p ranks (Joined c id args ∷ events) are = (let cons = count-cons (pair_test p) (Joined c id args) events in let rest = count-all p ranks events are.1 in omega (arith, cons, rest))
count-all p ranks (Take origin queue target number outcome ∷ events) are = (let cons = count-cons (pair_test p) (Take origin queue target number outcome) events in let rest = count-all p ranks events are.1 in omega (arith, cons, rest))
count-all p ranks (Put origin queue target number outcome ∷ events) are = (let cons = count-cons (pair_test p) (Put origin queue target number outcome) events in let rest = count-all p ranks events are.1 in omega (arith, cons, rest))
