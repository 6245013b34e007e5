-- Histories of the ring: what is counted over their events.
use Rattle.std.proofs.Common.{◌≡◌, ℕ, ◌+◌, ◌*◌, ◌<◌, ◌≤◌, Bool, true, false, ◌==◌, cond, List, [], ◌∷◌, ◌++◌, Ok, refl, sym, ap, ◌∙◌, subst, arith}
use Rattle.std.specs.List.{count_by}
use Rattle.gaspi_types.specs.declared.calls.Call.{Call}
use Rattle.gaspi_types.specs.declared.events.Event.{Event}
use Rattle.gaspi_types.specs.declared.events.Event.TheVariants.{Called, Joined, Take, Put}
use Rattle.gaspi_types.specs.declared.events.Outcome.{Outcome}
use Rattle.gaspi_types.specs.declared.groups.Args.{Args}
use Rattle.gaspi_types.specs.declared.replies.Reply.{Reply}
use Rattle.gaspi_types.specs.declared.shapes.CallerId.{CallerId}
use Rattle.gaspi_types.proofs.Items.{same-or-not}
use Rattle.gaspi_model.specs.Step.{step, after, owner_of, recorded_calls}
use Rattle.gaspi_model.specs.declared.states.State.{State}
use Rattle.gaspi_model.proofs.Histories.{after-first}
use Rattle.rank_script.specs.Bench.{right_of}
use Rattle.call_journal.specs.Numbers.{is_transfer}
use Rattle.call_journal.proofs.Counts.{Pair, AreOfFirst, count-cons, own-mine, own-other}
use Rattle.call_journal.proofs.RingCalls.{RingCall, call_of, call-local}
use Rattle.call_journal.proofs.RingEffects.{local-ring, local-owed, local-slot, local-quiet, counted-mine, counted-other, owner-within}
use Rattle.call_journal.proofs.RingState.{IsRing, IsLocal, owed_in, notes_in, slot_in, second_word, is_post, resets, posts_made, moves, counted_for}
use Rattle.call_journal.proofs.RingTransfers.{join-local, take-local, put-local}
use Rattle.call_journal.proofs.Sums.{sum_until, sum-constant, sum-one}
use Rattle.call_journal.proofs.Totals.{is_found_pair}

-- a call of a script of a rank
abbrev pub IsRingCall : ℕ → ℕ → Call → Type 0
IsRingCall ranks rank call = (r : RingCall) × (call ≡ call_of ranks rank r)

abbrev pub IsRingEvent : ℕ → Event → Type 0
IsRingEvent ranks (Called c call reply) = IsRingCall ranks c.rank call
IsRingEvent ranks (Joined c id args) = Unit {0}
IsRingEvent ranks (Take origin queue target number outcome) = Unit {0}
IsRingEvent ranks (Put origin queue target number outcome) = Unit {0}

abbrev pub AreRingEvents : ℕ → List Event → Type 0
AreRingEvents ranks [] = Unit {0}
AreRingEvents ranks (e ∷ events) = IsRingEvent ranks e × AreRingEvents ranks events

pub ring-append : (ranks : ℕ) (a b : List Event) → AreRingEvents ranks (a ++ b) → AreRingEvents ranks a × AreRingEvents ranks b
ring-append ranks [] b are = (tt, are)
ring-append ranks (e ∷ a) b are = (let rest = ring-append ranks a b are.1 in ((are.0, rest.0), rest.1))

pub event-local : (ranks : ℕ) (s t : State) (e : Event) → IsRing ranks s → IsRingEvent ranks e → step s e ≡ Ok t → IsLocal ranks s t e
event-local ranks s t (Called c call reply) ring is h =
    subst (λ (x : Call). IsLocal ranks s t (Called c x reply)) (sym is.1)
    (call-local ranks s t c is.0 reply ring (subst (λ (x : Call). step s (Called c x reply) ≡ Ok t) is.1 h))
event-local ranks s t (Joined c id args) ring is h = join-local ranks s t c id args ring h
event-local ranks s t (Take origin queue target number outcome) ring is h = take-local ranks s t origin queue target number outcome ring h
event-local ranks s t (Put origin queue target number outcome) ring is h = put-local ranks s t origin queue target number outcome ring h

-- what is counted over events for a rank
abbrev pub counted_over : (Event → ℕ) → ℕ → List Event → ℕ
counted_over f rank [] = 0
counted_over f rank (e ∷ events) = counted_for f rank e + counted_over f rank events

pub over-append : (f : Event → ℕ) (rank : ℕ) (a b : List Event) → counted_over f rank (a ++ b) ≡ counted_over f rank a + counted_over f rank b
over-append f rank [] b = omega arith
over-append f rank (e ∷ a) b = (let rest = over-append f rank a b in omega arith)

pub after-ring : (ranks : ℕ) (s t : State) (events : List Event) → IsRing ranks s → AreRingEvents ranks events → after s events ≡ Ok t → IsRing ranks t
after-ring ranks s t [] ring are h = (let same : s ≡ t = cc in subst (IsRing ranks) same ring)
after-ring ranks s t (e ∷ events) ring are h =
    let first = after-first s t e events h in
    after-ring ranks first.0 t events (local-ring ranks s first.0 e ring first.1 (event-local ranks s first.0 e ring are.0 first.1)) are.1 first.2

pub after-owed : (ranks : ℕ) (s t : State) (events : List Event) (rank : ℕ) → IsRing ranks s → AreRingEvents ranks events → after s events ≡ Ok t
    → counted_over moves rank events + owed_in t rank ≡ owed_in s rank + 4 * counted_over posts_made rank events
after-owed ranks s t [] rank ring are h = (let same : s ≡ t = cc in let owed : owed_in s rank ≡ owed_in t rank = ap (λ (x : State). owed_in x rank) same in omega (arith, owed))
after-owed ranks s t (e ∷ events) rank ring are h =
    let first = after-first s t e events h in
    let l = event-local ranks s first.0 e ring are.0 first.1 in
    let rest = after-owed ranks first.0 t events rank (local-ring ranks s first.0 e ring first.1 l) are.1 first.2 in
    let here = local-owed ranks s first.0 e rank l in
    omega (arith, rest, here)

pub after-slot : (ranks : ℕ) (s t : State) (events : List Event) (rank right : ℕ) → rank < ranks → right ≡ right_of ranks rank → IsRing ranks s → AreRingEvents ranks events → after s events ≡ Ok t
    → counted_over resets right events + slot_in t right + notes_in t rank ≤ slot_in s right + notes_in s rank + counted_over posts_made rank events
after-slot ranks s t [] rank right less is ring are h =
    let same : s ≡ t = cc in
    let slot : slot_in s right ≡ slot_in t right = ap (λ (x : State). slot_in x right) same in
    let notes : notes_in s rank ≡ notes_in t rank = ap (λ (x : State). notes_in x rank) same in
    omega (arith, slot, notes)
after-slot ranks s t (e ∷ events) rank right less is ring are h =
    let first = after-first s t e events h in
    let l = event-local ranks s first.0 e ring are.0 first.1 in
    let rest = after-slot ranks first.0 t events rank right less is (local-ring ranks s first.0 e ring first.1 l) are.1 first.2 in
    let here = local-slot ranks s first.0 e rank right ring less is l in
    omega (arith, rest, here)

pub after-quiet : (ranks : ℕ) (s t : State) (events : List Event) (rank right : ℕ) → rank < ranks → right ≡ right_of ranks rank → IsRing ranks s → AreRingEvents ranks events → after s events ≡ Ok t
    → notes_in s rank ≡ 0 → counted_over posts_made rank events ≡ 0 → second_word t right ≡ second_word s right
after-quiet ranks s t [] rank right less is ring are h none posts = (let same : s ≡ t = cc in ap (λ (x : State). second_word x right) (sym same))
after-quiet ranks s t (e ∷ events) rank right less is ring are h none posts =
    let first = after-first s t e events h in
    let l = event-local ranks s first.0 e ring are.0 first.1 in
    let here = local-quiet ranks s first.0 e rank right ring less is l none (omega arith) in
    after-quiet ranks first.0 t events rank right less is (local-ring ranks s first.0 e ring first.1 l) are.1 first.2 here.0 (omega arith) ∙ here.1

-- What is counted over the calls of a rank.

unmade : (f : Event → ℕ) (rank : ℕ) (e : Event) → f e ≡ 0 → counted_for f rank e ≡ 0
unmade f rank e none = go (owner_of e == rank)
  where
    go : (b : Bool) → cond b (f e) 0 ≡ 0
    go true = none
    go false = refl

own-made : (f : Event → ℕ) (p : Pair → Bool) (rank : ℕ) (ranks : ℕ) (events : List Event) → AreOfFirst ranks events
    → ((c : CallerId) (call : Call) (reply : Reply) → f (Called c call reply) ≡ cond (p (call, reply)) 1 0)
    → ((c : CallerId) (id : ℕ) (args : Args) → f (Joined c id args) ≡ 0) → ((origin queue target number : ℕ) (outcome : Outcome) → f (Take origin queue target number outcome) ≡ 0)
    → ((origin queue target number : ℕ) (outcome : Outcome) → f (Put origin queue target number outcome) ≡ 0)
    → counted_over f rank events ≡ count_by p (recorded_calls rank 0 events)
own-made f p rank ranks [] first called joined take put = refl
own-made f p rank ranks (Called c call reply ∷ events) first called joined take put =
    let rest = own-made f p rank ranks events first.1 called joined take put in
    same-or-not c.rank rank
    (λ here.
    let mine : counted_for f rank (Called c call reply) ≡ f (Called c call reply) = subst (λ (r : ℕ). counted_for f r (Called c call reply) ≡ f (Called c call reply)) here (counted-mine f (Called c call reply)) in
    let own : recorded_calls rank 0 (Called c call reply ∷ events) ≡ (call, reply) ∷ recorded_calls rank 0 events =
    subst (λ (r : ℕ). recorded_calls r 0 (Called c call reply ∷ events) ≡ (call, reply) ∷ recorded_calls r 0 events) here (own-mine c call reply events first.0.1) in
    let cons = count-cons p (call, reply) (recorded_calls rank 0 events) in
    let all : count_by p (recorded_calls rank 0 (Called c call reply ∷ events)) ≡ count_by p ((call, reply) ∷ recorded_calls rank 0 events) = ap (count_by p) own in
    let value = called c call reply in
    omega (arith, mine, cons, all, value, rest))
    (λ apart.
    let other = counted-other f rank (Called c call reply) apart in
    let own : count_by p (recorded_calls rank 0 (Called c call reply ∷ events)) ≡ count_by p (recorded_calls rank 0 events) = ap (count_by p) (own-other c call reply events rank (λ e. apart (sym e))) in
    omega (arith, other, own, rest))
own-made f p rank ranks (Joined c id args ∷ events) first called joined take put =
    let rest = own-made f p rank ranks events first.1 called joined take put in
    let none = unmade f rank (Joined c id args) (joined c id args) in
    omega (arith, none, rest)
own-made f p rank ranks (Take origin queue target number outcome ∷ events) first called joined take put =
    let rest = own-made f p rank ranks events first.1 called joined take put in
    let none = unmade f rank (Take origin queue target number outcome) (take origin queue target number outcome) in
    omega (arith, none, rest)
own-made f p rank ranks (Put origin queue target number outcome ∷ events) first called joined take put =
    let rest = own-made f p rank ranks events first.1 called joined take put in
    let none = unmade f rank (Put origin queue target number outcome) (put origin queue target number outcome) in
    omega (arith, none, rest)

abbrev pub is_post_pair : Pair → Bool
is_post_pair pair = is_post pair.0 pair.1

pub own-posts : (rank ranks : ℕ) (events : List Event) → AreOfFirst ranks events → counted_over posts_made rank events ≡ count_by is_post_pair (recorded_calls rank 0 events)
own-posts rank ranks events first =
    own-made posts_made is_post_pair rank ranks events first (λ c call reply. refl) (λ c id args. refl) (λ origin queue target number outcome. refl) (λ origin queue target number outcome. refl)

pub own-resets : (rank ranks : ℕ) (events : List Event) → AreOfFirst ranks events → counted_over resets rank events ≡ count_by is_found_pair (recorded_calls rank 0 events)
own-resets rank ranks events first =
    own-made resets is_found_pair rank ranks events first (λ c call reply. refl) (λ c id args. refl) (λ origin queue target number outcome. refl) (λ origin queue target number outcome. refl)

-- The transfers of all ranks.

moves-one : (e : Event) → cond (is_transfer e) 1 0 ≡ moves e
moves-one (Called c call reply) = refl
moves-one (Joined c id args) = refl
moves-one (Take origin queue target number outcome) = refl
moves-one (Put origin queue target number outcome) = refl

pub all-moves : (ranks : ℕ) (s t : State) (events : List Event) → IsRing ranks s → AreRingEvents ranks events → after s events ≡ Ok t
    → count_by is_transfer events ≡ sum_until (λ (rank : ℕ). counted_over moves rank events) ranks
all-moves ranks s t [] ring are h = (let none = sum-constant (λ (rank : ℕ). 0) 0 ranks (λ k less. refl) in let zeros : ranks * 0 ≡ 0 = omega arith in sym (none ∙ zeros))
all-moves ranks s t (e ∷ events) ring are h =
    let first = after-first s t e events h in
    let l = event-local ranks s first.0 e ring are.0 first.1 in
    let rest = all-moves ranks first.0 t events (local-ring ranks s first.0 e ring first.1 l) are.1 first.2 in
    let within = owner-within ranks s first.0 e ring l in
    let mine = counted-mine moves e in
    let one = sum-one (λ (rank : ℕ). counted_over moves rank events) (λ (rank : ℕ). counted_over moves rank (e ∷ events)) (owner_of e) ranks (moves e) within (omega (arith, mine))
    (λ rank apart. (let other = counted-other moves rank e (λ same. apart (sym same)) in omega (arith, other))) in
    let cons = count-cons is_transfer e events in
    let is = moves-one e in
    omega (arith, rest, one, cons, is)

-- The calls of each rank are those of its script.

abbrev pub AreRingPairs : ℕ → ℕ → List Pair → Type 0
AreRingPairs ranks rank [] = Unit {0}
AreRingPairs ranks rank (pair ∷ pairs) = IsRingCall ranks rank pair.0 × AreRingPairs ranks rank pairs

pub pairs-append : (ranks rank : ℕ) (a b : List Pair) → AreRingPairs ranks rank a → AreRingPairs ranks rank b → AreRingPairs ranks rank (a ++ b)
pairs-append ranks rank [] b are more = more
pairs-append ranks rank (pair ∷ a) b are more = (are.0, pairs-append ranks rank a b are.1 more)

pub ring-events : (ranks : ℕ) (events : List Event) → AreOfFirst ranks events → ((rank : ℕ) → rank < ranks → AreRingPairs ranks rank (recorded_calls rank 0 events)) → AreRingEvents ranks events
ring-events ranks [] first pairs = tt
ring-events ranks (Called c call reply ∷ events) first pairs =
    let mine = subst (AreRingPairs ranks c.rank) (own-mine c call reply events first.0.1) (pairs c.rank first.0.0) in
    (mine.0, ring-events ranks events first.1 (λ rank less. later rank (pairs rank less)))
  where
    later : (rank : ℕ) → AreRingPairs ranks rank (recorded_calls rank 0 (Called c call reply ∷ events)) → AreRingPairs ranks rank (recorded_calls rank 0 events)
    later rank are = same-or-not c.rank rank
        (λ here.
        (subst (AreRingPairs ranks rank) (subst (λ (r : ℕ). recorded_calls r 0 (Called c call reply ∷ events) ≡ (call, reply) ∷ recorded_calls r 0 events) here (own-mine c call reply events first.0.1)) are).1)
        (λ apart. subst (AreRingPairs ranks rank) (own-other c call reply events rank (λ e. apart (sym e))) are)
ring-events ranks (Joined c id args ∷ events) first pairs = (tt, ring-events ranks events first.1 pairs)
ring-events ranks (Take origin queue target number outcome ∷ events) first pairs = (tt, ring-events ranks events first.1 pairs)
ring-events ranks (Put origin queue target number outcome ∷ events) first pairs = (tt, ring-events ranks events first.1 pairs)
