-- The calls and the notifications of a journal in which every script ran to its end.
use Rattle.std.proofs.Common.{◌≡◌, ℕ, zero, suc, ◌+◌, ◌*◌, ◌<◌, Bool, true, false, List, refl, ap, ◌∙◌, arith}
use Rattle.std.specs.List.{count_by}
use Rattle.gaspi_types.specs.declared.calls.Call.{Call}
use Rattle.gaspi_types.specs.declared.calls.Call.TheVariants.{Reset}
use Rattle.gaspi_types.specs.declared.events.Event.{Event}
use Rattle.gaspi_types.specs.declared.events.Event.TheVariants.{Called, Joined, Take, Put}
use Rattle.gaspi_types.specs.declared.replies.Reply.{Reply}
use Rattle.gaspi_model.specs.Step.{recorded_calls}
use Rattle.rank_script.specs.Bench.{bench_bytes, left_of}
use Rattle.call_journal.specs.Laws.{RanToTheEnd}
use Rattle.call_journal.specs.Numbers.{is_call, is_found_reset, is_set_value}
use Rattle.rank_script.specs.Runs.{end_pair}
use Rattle.call_journal.proofs.Callers.{bench-first}
use Rattle.call_journal.proofs.Counts.{Pair, pair_test, count-all, count-alike, count-append}
use Rattle.call_journal.proofs.Rounds.{AreRounds, round_pairs, run-rounds}
use Rattle.call_journal.proofs.Sums.{sum-constant}

-- so many pairs of each round pass
abbrev pub PassEach : ℕ → ℕ → (Pair → Bool) → ℕ → Type 0
PassEach ranks rank p x = (bytes loaded : List ℕ) (stored posted waited met : Reply) → count_by p (round_pairs ranks rank bytes loaded stored posted waited met) ≡ x

pub rounds-count : (ranks rank : ℕ) (bytes : ℕ → ℕ → List ℕ) (p : Pair → Bool) (x rounds : ℕ) (pairs : List Pair) → PassEach ranks rank p x
    → AreRounds ranks rank bytes rounds pairs → count_by p pairs ≡ rounds * x
rounds-count ranks rank bytes p x zero pairs each are = rw are (omega arith)
rounds-count ranks rank bytes p x (suc round) pairs each are =
    let rest = rounds-count ranks rank bytes p x round are.0 each are.5 in
    let last = each (bytes round rank) (bytes round (left_of ranks rank)) are.1 are.2 are.3 are.4 in
    let more : suc round * x ≡ round * x + x = omega arith in
    ap (count_by p) are.6 ∙ count-append p are.0 (round_pairs ranks rank (bytes round rank) (bytes round (left_of ranks rank)) are.1 are.2 are.3 are.4) ∙ omega (arith, rest, last, more)

-- what passes in the run of each rank, its end included
own-count : (seed ranks rounds : ℕ) (journal : List Event) (p : Pair → Bool) (x : ℕ) → RanToTheEnd seed ranks rounds journal → ((rank : ℕ) → PassEach ranks rank p x) → (rank : ℕ) → rank < ranks
    → count_by p (recorded_calls rank 0 journal) ≡ rounds * x + count_by p end_pair
own-count seed ranks rounds journal p x ran each rank less =
    let run = run-rounds seed ranks rounds rank rounds (recorded_calls rank 0 journal) (ran.runs rank less) in
    let front = rounds-count ranks rank (bench_bytes seed ranks) p x rounds run.0 (each rank) run.2 in
    ap (count_by p) run.1 ∙ count-append p run.0 end_pair ∙ ap (λ (n : ℕ). n + count_by p end_pair) front

pub total-count : (seed ranks rounds : ℕ) (journal : List Event) (p : Pair → Bool) (x : ℕ) → RanToTheEnd seed ranks rounds journal → ((rank : ℕ) → PassEach ranks rank p x)
    → count_by (pair_test p) journal ≡ ranks * (rounds * x + count_by p end_pair)
total-count seed ranks rounds journal p x ran each =
    count-all p ranks journal (bench-first ranks rounds journal ran.state ran.leads)
    ∙ sum-constant (λ (rank : ℕ). count_by p (recorded_calls rank 0 journal)) (rounds * x + count_by p end_pair) ranks (own-count seed ranks rounds journal p x ran each)

call-alike : (e : Event) → is_call e ≡ pair_test (λ (pair : Pair). true) e
call-alike (Called c call reply) = refl
call-alike (Joined c id args) = refl
call-alike (Take origin queue target number outcome) = refl
call-alike (Put origin queue target number outcome) = refl

pub calls-counted : (seed ranks rounds : ℕ) (journal : List Event) → RanToTheEnd seed ranks rounds journal → count_by is_call journal ≡ ranks * (7 * rounds + 1)
calls-counted seed ranks rounds journal ran =
    count-alike is_call (pair_test (λ (pair : Pair). true)) journal call-alike
    ∙ total-count seed ranks rounds journal (λ (pair : Pair). true) 7 ran (λ rank bytes loaded stored posted waited met. refl)
    ∙ ap (λ (n : ℕ). ranks * n) (let same : rounds * 7 + 1 ≡ 7 * rounds + 1 = omega arith in same)

-- a reset that found its notification set
abbrev pub is_found : Call → Reply → Bool
is_found (Reset call) reply = is_set_value reply
is_found call reply = false

abbrev pub is_found_pair : Pair → Bool
is_found_pair pair = is_found pair.0 pair.1

notification-alike : (e : Event) → is_found_reset e ≡ pair_test is_found_pair e
notification-alike (Called c (Reset call) reply) = refl
notification-alike (Called c call reply) = refl
notification-alike (Joined c id args) = refl
notification-alike (Take origin queue target number outcome) = refl
notification-alike (Put origin queue target number outcome) = refl

pub notifications-counted : (seed ranks rounds : ℕ) (journal : List Event) → RanToTheEnd seed ranks rounds journal → count_by is_found_reset journal ≡ ranks * rounds
notifications-counted seed ranks rounds journal ran =
    count-alike is_found_reset (pair_test is_found_pair) journal notification-alike
    ∙ total-count seed ranks rounds journal is_found_pair 1 ran (λ rank bytes loaded stored posted waited met. refl)
    ∙ ap (λ (n : ℕ). ranks * n) (let same : rounds * 1 + 0 ≡ rounds = omega arith in same)
