-- The world of `bench` and its scripts, and what a run of it to its end is.
use Rattle.std.proofs.Common.{◌≡◌, ◌==◌, ℕ, zero, suc, ◌+◌, ◌-◌, ◌*◌, ◌%◌, ◌^◌, ◌<◌, ◌≤◌, Bool, true, false, if◌then◌else◌, List, [], ◌∷◌, ◌++◌, map, ◌⊎◌, inl, inr, Some, Result, Ok, count_by, refl, sym, ap, ◌∙◌, subst, arith}
use Rattle.std.specs.List.{All, slice_get}
use Rattle.std.proofs.Math.Nat.{eq-or-lt_of_le}
use Rattle.std.proofs.lemmas.Bool.{eqb-true, eq-eqb}
use Rattle.std.proofs.lemmas.List.{map-append}
use Rattle.std.proofs.lemmas.List.Elements.{All-nil, All-cons, All-append}
use Rattle.gaspi_types.specs.World.{ShapeValue, is_caller}
use Rattle.gaspi_types.specs.declared.events.Event.{Event}
use Rattle.gaspi_types.specs.declared.shapes.CallerId.{CallerId}
use Rattle.gaspi_model.specs.Step.{recorded_calls}
use Rattle.gaspi_model.proofs.Sound.OpenCounts.{count-append}
use Rattle.gaspi_model.specs.declared.states.State.{State}
use Rattle.gaspi_model.specs.declared.states.Why.{Why}
use Rattle.call_journal.specs.Laws.{RanToTheEnd, draws_until}
use Rattle.call_journal.specs.Numbers.{is_call, is_transfer, is_found_reset, words_until, AreNumbers}
use Rattle.call_journal.specs.declared.journal_numbers.Numbers4.{Numbers4}
use Rattle.rank_script.specs.Bench.{bench_callers, bench_lines, bench_shape}
use Rattle.rank_script.specs.BenchScripts.{bench_scripts}
use Rattle.rank_script.specs.Runs.{IsRun}
use Rattle.rank_script.specs.WorldText.{AreScriptsOf, is_script_of}
use Rattle.rank_script.specs.declared.scripts.RunOutcome.{RunOutcome}
use Rattle.rank_script.specs.declared.scripts.RunOutcome.TheVariants as outcomes
use Rattle.rank_script.specs.declared.scripts.Script.{Script}
use Rattle.rank_script.specs.declared.scripts.ScriptLine.{ScriptLine}
use Rattle.gaspi_run.specs.Command.{is_failed_or_stuck, is_limit_outcome, has_failed_or_stuck, is_any_limit, run_status, bench_limit, numbers_text, AreClosed, HasBenched}
use Rattle.plain_schedule.specs.Endings.{HasLimitCause}
use Rattle.gaspi_run.specs.Threads.{AnswerTally, HasRunWorld}
use Rattle.plain_schedule.specs.declared.schedule_states.EndedCaller.{EndedCaller}
use Rattle.gaspi_run.proofs.OneOfEach.{counts, found-is, found-all, none-there}
use Rattle.gaspi_run.proofs.SameCallers.{is-itself, only-itself}

module _ (seed ranks rounds : ℕ) where
  abbrev caller-of : ℕ → CallerId
  caller-of rank = record { rank = rank; thread = 0 }

  abbrev script-of : ℕ → Script
  script-of rank = record { caller = caller-of rank; lines = bench_lines seed ranks rounds rank rounds }

  -- The scripts are those of the callers.

  callers-of : (n : ℕ) → map (λ (s : Script). s.caller) (bench_scripts seed ranks rounds n) ≡ bench_callers n
  callers-of zero = refl
  callers-of (suc n) = map-append (λ (s : Script). s.caller) (bench_scripts seed ranks rounds n) (script-of n ∷ []) ∙ ap (λ (cs : List CallerId). cs ++ caller-of n ∷ []) (callers-of n)

  pub bench-scripts-of : AreScriptsOf (bench_shape ranks rounds) (bench_scripts seed ranks rounds ranks)
  bench-scripts-of = callers-of ranks

  -- Each rank has one.

  abbrev IsOfBench : Script → Type 0
  IsOfBench s = s.lines ≡ bench_lines seed ranks rounds s.caller.rank rounds

  all-of-bench : (n : ℕ) → All IsOfBench (bench_scripts seed ranks rounds n)
  all-of-bench zero = All-nil IsOfBench
  all-of-bench (suc n) = All-append IsOfBench (bench_scripts seed ranks rounds n) (script-of n ∷ []) (all-of-bench n) (All-cons IsOfBench (script-of n) [] refl (All-nil IsOfBench))

  abbrev is-of : ℕ → Script → Bool
  is-of rank s = is_caller rank 0 s.caller

  one-of-each : (n rank : ℕ) → rank < n → 1 ≤ count_by (is-of rank) (bench_scripts seed ranks rounds n)
  one-of-each zero rank less = absurd (omega arith)
  one-of-each (suc n) rank less = go (rank == n) refl (one-of-each n rank)
    where
      both : count_by (is-of rank) (bench_scripts seed ranks rounds (suc n)) ≡ count_by (is-of rank) (bench_scripts seed ranks rounds n) + count_by (is-of rank) (script-of n ∷ [])
      both = count-append (is-of rank) (bench_scripts seed ranks rounds n) (script-of n ∷ [])

      last : rank ≡ n → count_by (is-of rank) (script-of n ∷ []) ≡ 1
      last is = counts (is-of rank) (script-of n) [] true (subst (λ (r : ℕ). is_caller r 0 (caller-of n) ≡ true) (sym is) (is-itself (caller-of n)))

      below-it : (r m : ℕ) → r < suc m → (r ≡ m → ⊥) → r < m
      below-it r m less apart = go-on (eq-or-lt_of_le (omega arith))
        where
          go-on : (r ≡ m) ⊎ (r < m) → r < m
          go-on (inl same) = absurd (apart same)
          go-on (inr below) = below

      go : (b : Bool) → (rank == n) ≡ b → (rank < n → 1 ≤ count_by (is-of rank) (bench_scripts seed ranks rounds n)) → 1 ≤ count_by (is-of rank) (bench_scripts seed ranks rounds (suc n))
      go true is rest = (let one = last (eqb-true rank n is) in let all = both in omega arith)
      go false is rest = (
          let apart : rank ≡ n → ⊥ = λ same. (let no : ◌≡◌ {A = Bool} true false = sym (eq-eqb rank n same) ∙ is in let never : ⊥ = cc in never) in
          let below : rank < n = below-it rank n less apart in
          let some = rest below in
          let all = both in
          omega arith
          )

-- what is counted stands somewhere
some-counted : {A : Type 0} (p : A → Bool) (xs : List A) → 1 ≤ count_by p xs → (k : ℕ) × (x : A) × (slice_get xs k ≡ Some x) × (p x ≡ true)
some-counted p [] some = absurd (omega arith)
some-counted {A} p (y ∷ xs) some = go (p y) refl (some-counted p xs)
  where
    go : (b : Bool) → p y ≡ b → (1 ≤ count_by p xs → (k : ℕ) × (x : A) × (slice_get xs k ≡ Some x) × (p x ≡ true)) → (k : ℕ) × (x : A) × (slice_get (y ∷ xs) k ≡ Some x) × (p x ≡ true)
    go true is rest = (0, y, refl, is)
    go false is rest =
        let one : count_by p (y ∷ xs) ≡ 0 + count_by p xs = counts p y xs false is in
        let found = rest (omega arith) in
        (suc found.0, found.1, found.2, found.3)

-- A run of status 0 ended well.

-- an outcome that is neither wrong nor at the limit, and has memory
ended-well : (w : _) (journal : List Event) (c : CallerId) (lines : _) (o : RunOutcome) → is_failed_or_stuck o ≡ false → is_limit_outcome o ≡ false → HasLimitCause w journal c lines o → o ≡ outcomes.Ended
ended-well w journal c lines outcomes.Ended right room cause = refl
ended-well w journal c lines (outcomes.Failed line) right room cause = absurd (let no : ⊥ = cc in no)
ended-well w journal c lines (outcomes.Stuck line) right room cause = absurd (let no : ⊥ = cc in no)
ended-well w journal c lines (outcomes.Limit line) right room cause = absurd (let no : ⊥ = cc in no)
ended-well w journal c lines (outcomes.NoMemory line) right room cause = absurd cause

none-wrong : (finished : List EndedCaller) → run_status finished ≡ 0 → (has_failed_or_stuck finished ≡ false) × (is_any_limit finished ≡ false)
none-wrong finished is = go (has_failed_or_stuck finished) (is_any_limit finished) is
  where
    go : (a b : Bool) → ◌≡◌ {A = ℕ} (if a then 3 else (if b then 8 else 0)) 0 → (a ≡ false) × (b ≡ false)
    go false false at = (refl, refl)
    go false true at = absurd (omega arith)
    go true b at = absurd (omega arith)

module _ (seed ranks rounds workers limit : ℕ) (journal : List Event) (tally : AnswerTally) (finished : List EndedCaller)
    (ran : HasRunWorld (bench_shape ranks rounds) (bench_scripts seed ranks rounds ranks) workers limit journal tally finished) (well : run_status finished ≡ 0) where
  abbrev lines-of : ℕ → List ScriptLine
  lines-of rank = bench_lines seed ranks rounds rank rounds

  ran-lines : (rank : ℕ) → rank < ranks → IsRun (lines-of rank) (recorded_calls rank 0 journal) outcomes.Ended
  ran-lines rank less = go at.1 at.2 (only-itself rank 0 at.1.caller at.3)
    where
      at : (k : ℕ) × (f : EndedCaller) × (slice_get finished k ≡ Some f) × (is_caller rank 0 f.caller ≡ true)
      at = some-counted (λ (f : EndedCaller). is_caller rank 0 f.caller) finished (let all = ran.ended.once rank 0 in let one = one-of-each seed ranks rounds ranks rank less in omega arith)

      go : (f : EndedCaller) → slice_get finished at.0 ≡ Some f → (f.caller.rank ≡ rank) × (f.caller.thread ≡ 0) → IsRun (lines-of rank) (recorded_calls rank 0 journal) outcomes.Ended
      go f there is =
          let has = ran.ended.each at.0 f there in
          let none = none-wrong finished well in
          let right = none-there (λ (g : EndedCaller). is_failed_or_stuck g.outcome) finished none.0 at.0 f there in
          let room = none-there (λ (g : EndedCaller). is_limit_outcome g.outcome) finished none.1 at.0 f there in
          let ended = ended-well (bench_shape ranks rounds) journal f.caller has.script.lines f.outcome right room has.limit in
          let found = found-is (is_script_of f.caller) (bench_scripts seed ranks rounds ranks) has.script has.is_script in
          let same = only-itself f.caller.rank f.caller.thread has.script.caller found in
          let rank_is : has.script.caller.rank ≡ rank = same.0 ∙ is.0 in
          let of = found-all (is_script_of f.caller) (IsOfBench seed ranks rounds) (bench_scripts seed ranks rounds ranks) has.script (all-of-bench seed ranks rounds ranks) has.is_script in
          let lines : has.script.lines ≡ lines-of rank = of ∙ ap (λ (r : ℕ). lines-of r) rank_is in
          let calls : recorded_calls f.caller.rank f.caller.thread journal ≡ recorded_calls rank 0 journal = ap (λ (r : ℕ). recorded_calls r f.caller.thread journal) is.0 ∙ ap (λ (t : ℕ). recorded_calls rank t journal) is.1 in
          subst (λ (o : RunOutcome). IsRun (lines-of rank) (recorded_calls rank 0 journal) o) ended
          (subst (λ (ps : _). IsRun (lines-of rank) ps f.outcome) calls (subst (λ (ls : _). IsRun ls (recorded_calls f.caller.rank f.caller.thread journal) f.outcome) lines has.run))

  -- it came to the end of every script
  pub bench-ran : (1 ≤ ranks) × (ranks ≤ 16) → (1 ≤ rounds) × (rounds ≤ 5000) → RanToTheEnd seed ranks rounds journal
  bench-ran few short = record {
    some_ranks = few.0;
    few_ranks = few.1;
    some_rounds = short.0;
    few_rounds = short.1;
    state = ran.settled.state;
    leads = ran.settled.leads;
    settled = ran.settled.settled;
    runs = ran-lines;
  }

-- What `bench` tells, by the laws of its runs.

abbrev pub CallsLaw : Type 0
CallsLaw = (seed ranks rounds : ℕ) (journal : List Event) → RanToTheEnd seed ranks rounds journal → count_by is_call journal ≡ ranks * (7 * rounds + 1)

abbrev pub TransfersLaw : Type 0
TransfersLaw = (seed ranks rounds : ℕ) (journal : List Event) → RanToTheEnd seed ranks rounds journal → count_by is_transfer journal ≡ 4 * ranks * rounds

abbrev pub NotificationsLaw : Type 0
NotificationsLaw = (seed ranks rounds : ℕ) (journal : List Event) → RanToTheEnd seed ranks rounds journal → count_by is_found_reset journal ≡ ranks * rounds

abbrev pub WordsLaw : Type 0
WordsLaw = (seed ranks rounds : ℕ) (journal : List Event) (ran : RanToTheEnd seed ranks rounds journal) → words_until ran.state ranks ≡ draws_until seed ranks (rounds - 1) ranks

module _ (calls : CallsLaw) (transfers : TransfersLaw) (notifications : NotificationsLaw) (words : WordsLaw) where
  closed-forms : (seed ranks rounds : ℕ) (journal : List Event) (numbers : Numbers4) → RanToTheEnd seed ranks rounds journal → AreNumbers (bench_shape ranks rounds) journal numbers → AreClosed seed ranks rounds numbers
  closed-forms seed ranks rounds journal numbers ran counted =
      let both : ◌≡◌ {A = Result State Why} (Ok counted.state) (Ok ran.state) = sym counted.leads ∙ ran.leads in
      let same : counted.state ≡ ran.state = cc in
      record {
        calls = counted.calls ∙ calls seed ranks rounds journal ran;
        transfers = counted.transfers ∙ transfers seed ranks rounds journal ran;
        notifications = counted.notifications ∙ notifications seed ranks rounds journal ran;
        sum = counted.sum ∙ ap (λ (n : ℕ). n % 2 ^ 64) (ap (λ (s : State). words_until s ranks) same ∙ words seed ranks rounds journal ran);
      }

  pub has-benched : (seed ranks rounds : ℕ) (shape : ShapeValue) (scripts : List Script) (journal : List Event) (tally : AnswerTally) (finished : List EndedCaller) (numbers : Numbers4) (status : ℕ) (text : List ℕ)
      → (1 ≤ ranks) × (ranks ≤ 16) → (1 ≤ rounds) × (rounds ≤ 5000) → shape ≡ bench_shape ranks rounds → scripts ≡ bench_scripts seed ranks rounds ranks
      → HasRunWorld shape scripts 1 bench_limit journal tally finished → AreNumbers shape journal numbers → text ≡ numbers_text numbers → status ≡ run_status finished
      → HasBenched seed ranks rounds journal tally status text
  has-benched seed ranks rounds shape scripts journal tally finished numbers status text few short shape_is scripts_are ran counted text_is status_is =
      let here = subst (λ (w : ShapeValue). HasRunWorld w (bench_scripts seed ranks rounds ranks) 1 bench_limit journal tally finished) shape_is (subst (λ (ss : List Script). HasRunWorld shape ss 1 bench_limit journal tally finished) scripts_are ran) in
      let numbered = subst (λ (w : ShapeValue). AreNumbers w journal numbers) shape_is counted in
      record {
        finished = finished;
        ran = here;
        numbers = numbers;
        counted = numbered;
        closed = λ well. closed-forms seed ranks rounds journal numbers (bench-ran seed ranks rounds 1 bench_limit journal tally finished here (sym status_is ∙ well) few short) numbered;
        text_is = text_is;
        status_is = status_is;
      }
