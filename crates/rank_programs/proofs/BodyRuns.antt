-- What bodies need before they run, and what is known of their passes then.
use Rattle.std.proofs.Common.{◌≡◌, ℕ, zero, suc, ◌<◌, ◌≤◌, List, [], ◌∷◌, ◌++◌, length, length-append, take, map, get_or, Some, Option, Result, Ok, Err, IfOk, true, refl, sym, ap, ◌∙◌, subst, arith}
use Rattle.std.specs.List.{All, slice_get}
use Rattle.std.proofs.lemmas.List.{length-map}
use Rattle.std.proofs.lemmas.Option.{slice_get-get_or, slice_get_within}
use Rattle.std.proofs.Math.Seq.{take-append_seam}
use mathlib.Core.List.{IsPrefix}
use Rattle.gaspi_types.specs.World.{ShapeValue}
use Rattle.gaspi_types.specs.declared.events.Event.{Event}
use Rattle.gaspi_types.proofs.Items.{map-at, there-within}
use Rattle.gaspi_model.specs.Settled.{IsSettled}
use Rattle.gaspi_model.specs.State.{opening}
use Rattle.gaspi_model.specs.Step.{after, reached, is_legal}
use Rattle.gaspi_model.specs.declared.states.State.{State}
use Rattle.gaspi_model.proofs.Histories.{leads, after-both}
use Rattle.commit_table.specs.Calls.{TableValue, PassValue}
use Rattle.gaspi_world.specs.Closing.{HaveSeen}
use Rattle.gaspi_world.specs.declared.launching.Task.{Task}
use Rattle.gaspi_world.specs.declared.starts.Start.{Start}
use Rattle.transfer_worker.specs.Turns.{IsDrained}
use Rattle.rank_programs.specs.ThreadBodies.{EachAt, made_pass, AreCallersThere, BodyNeeds, outcome_of, outcomes_in, BodyDid, HaveAllRun, IsBodyOf, IsReady, HasRunPass, HaveRun}
use Rattle.rank_programs.specs.declared.thread_bodies.ThreadBody.{ThreadBody}
use Rattle.rank_programs.specs.declared.thread_bodies.ThreadBody.TheVariants.{Caller, Worker}

-- a fact of each item of a list and its place, and of one more
pub each-more : {A : Type 0} (Is : ℕ → A → Type 0) (xs : List A) (x : A) → EachAt Is xs → Is (length xs) x → EachAt Is (xs ++ x ∷ [])
each-more Is [] x all last zero y at = (let same : x ≡ y = cc in subst (Is 0) same last)
each-more Is [] x all last (suc k) y at = absurd (let never : ⊥ = cc in never)
each-more Is (z ∷ xs) x all last zero y at = all 0 y at
each-more {A} Is (z ∷ xs) x all last (suc k) y at = each-more (λ (n : ℕ) (a : A). Is (suc n) a) xs x (λ j b there. all (suc j) b there) last k y at

-- what stands in the front of a list that was cut there
pub front-at : {A : Type 0} (n : ℕ) (front rest : List A) (place : ℕ) (x : A) → n ≡ length front → slice_get (take n (front ++ rest)) place ≡ Some x → slice_get front place ≡ Some x
front-at {A} n front rest place x many at =
    let whole : take n (front ++ rest) ≡ front = ap (λ (m : ℕ). take m (front ++ rest)) many ∙ take-append_seam front rest in
    sym (ap (λ (xs : List A). slice_get xs place) whole) ∙ at

-- the passes of a world as it was made
pub made-each : (world : TableValue Start) (n : ℕ) (passes : List (PassValue Start Event)) → length passes ≡ n → ((k : ℕ) → k < n → slice_get passes k ≡ Some (made_pass world k)) → EachAt (λ place pass. pass ≡ made_pass world place) passes
made-each world n passes count made k p at =
    let less = slice_get_within passes k p at in
    let both : ◌≡◌ {A = Option (PassValue Start Event)} (Some p) (Some (made_pass world k)) = sym at ∙ made k (omega arith) in
    let same : p ≡ made_pass world k = cc in
    same

at-middle : {A : Type 0} (xs : List A) (x : A) (ys : List A) → slice_get (xs ++ x ∷ ys) (length xs) ≡ Some x
at-middle [] x ys = refl
at-middle (y ∷ xs) x ys = at-middle xs x ys

-- the next of passes as they were made
pub made-next : (world : TableValue Start) (before : List (PassValue Start Event)) (p : PassValue Start Event) (later all : List (PassValue Start Event)) (n : ℕ) → EachAt (λ place pass. pass ≡ made_pass world place) all → before ++ p ∷ later ≡ all → n ≡ length before → p ≡ made_pass world n
made-next world before p later all n made are is =
    subst (λ (m : ℕ). p ≡ made_pass world m) (sym is) (made (length before) p (subst (λ (ps : List (PassValue Start Event)). slice_get ps (length before) ≡ Some p) are (at-middle before p later)))

-- what follows from what holds where there is no error
pub if_ok-more : {A E : Type 0} (Is More : A → Type 0) (r : Result A E) → ((a : A) → Is a → More a) → IfOk r Is → IfOk r More
if_ok-more Is More (Ok a) more is = more a is
if_ok-more Is More (Err e) more is = is

-- the first of tasks have one outcome each, and the others none
outcomes-many : {P T : Type 0} (n : ℕ) (tasks : List (Task (ThreadBody P T))) → n ≤ length tasks
    → EachAt (λ place t. (place < n → length (outcome_of t.body) ≡ 1) × (n ≤ place → length (outcome_of t.body) ≡ 0)) tasks → length (outcomes_in tasks) ≡ n
outcomes-many zero [] less each = refl
outcomes-many (suc n) [] less each = absurd (omega arith)
outcomes-many {P} {T} zero (t ∷ tasks) less each =
    let rest = outcomes-many zero tasks (omega arith) (λ place u at. ((λ fewer. absurd (omega arith)), (λ behind. (each (suc place) u at).1 (omega arith)))) in
    let none = (each zero t refl).1 (omega arith) in
    let whole = length-append (outcome_of t.body) (outcomes_in tasks) in
    omega (arith, rest, none, whole)
outcomes-many {P} {T} (suc n) (t ∷ tasks) less each =
    let rest = outcomes-many n tasks (omega arith) (λ place u at. ((λ fewer. (each (suc place) u at).0 (omega arith)), (λ behind. (each (suc place) u at).1 (omega arith)))) in
    let one = (each zero t refl).0 (omega arith) in
    let whole = length-append (outcome_of t.body) (outcomes_in tasks) in
    omega (arith, rest, one, whole)

module _ {P T : Type 0} (world : TableValue Start) (there : AreCallersThere world) where
  needs-made : (place : ℕ) (body : ThreadBody P T) → IsBodyOf world place body → BodyNeeds body world (made_pass world place)
  needs-made place (Caller program outcome) is = ((refl, refl), (λ i. refl), there place is)
  needs-made place (Worker first_turn) is = ((refl, refl), (λ i. refl), (place, refl, is))

  needs : (place : ℕ) (task : Task (ThreadBody P T)) → IsReady world place task → BodyNeeds task.body world task.pass
  needs place task ready = subst (BodyNeeds task.body world) (sym ready.0) (needs-made place task.body ready.1)

  pub all-need : (tasks : List (Task (ThreadBody P T))) → EachAt (IsReady world) tasks → All (λ (t : Task (ThreadBody P T)). BodyNeeds t.body world t.pass) tasks
  all-need tasks ready = λ k d less. needs k (get_or tasks k d) (ready k (get_or tasks k d) (slice_get-get_or tasks k d less))

  ran-made : (place : ℕ) (body next : ThreadBody P T) (q : PassValue Start Event) → IsBodyOf world place body → BodyDid body (made_pass world place) next q → HasRunPass world place q
  ran-made place (Caller program outcome) next q is did =
      let may = did.1 world (needs-made place (Caller program outcome) is) in
      record { of_table = may.0; free = may.1; none_left = λ behind. absurd (omega arith) }
  ran-made place (Worker first_turn) next q is did = record { of_table = (did.1.table, did.1.goes_on.start); free = did.1.free; none_left = λ behind. did.1.none_left world.start refl }

  ran : (place : ℕ) (task next : Task (ThreadBody P T)) → IsReady world place task → BodyDid task.body task.pass next.body next.pass → HasRunPass world place next.pass
  ran place task next ready did =
      ran-made place task.body next.body next.pass ready.1 (subst (λ (p : PassValue Start Event). BodyDid task.body p next.body next.pass) ready.0 did)

  -- what is known of the passes of tasks that have run
  pub have-run : (old new : List (Task (ThreadBody P T))) (passes : List (PassValue Start Event)) → EachAt (IsReady world) old → HaveAllRun old new → passes ≡ map (λ (t : Task (ThreadBody P T)). t.pass) new
      → length new ≡ length old → length world.start.shape.callers < length old → HaveRun world passes
  have-run old new passes ready all are count more = record { each = each; worker = worker }
    where
      each : EachAt (HasRunPass world) passes
      each place p at =
          let from = map-at (λ (t : Task (ThreadBody P T)). t.pass) new place p (subst (λ (ps : List (PassValue Start Event)). slice_get ps place ≡ Some p) are at) in
          let did = all place from.0 from.1 in
          subst (HasRunPass world place) (sym from.2) (ran place did.0 from.0 (ready place did.0 did.1) did.2)

      worker : length world.start.shape.callers < length passes
      worker = (let same = ap length are in let many = length-map new (λ (t : Task (ThreadBody P T)). t.pass) in omega (arith, same, many, count, more))

  -- how many outcomes a task has that has run
  outcome-many : (place : ℕ) (task next : Task (ThreadBody P T)) → IsReady world place task → BodyDid task.body task.pass next.body next.pass
      → (place < length world.start.shape.callers → length (outcome_of next.body) ≡ 1) × (length world.start.shape.callers ≤ place → length (outcome_of next.body) ≡ 0)
  outcome-many place task next ready did = go task.body ready.1 did
    where
      go : (body : ThreadBody P T) → IsBodyOf world place body → BodyDid body task.pass next.body next.pass
          → (place < length world.start.shape.callers → length (outcome_of next.body) ≡ 1) × (length world.start.shape.callers ≤ place → length (outcome_of next.body) ≡ 0)
      go (Caller program outcome) is did = ((λ less. did.0), (λ behind. absurd (omega arith)))
      go (Worker first_turn) is did = ((λ less. absurd (omega arith)), (λ behind. did.0))

  -- each caller has come to something
  pub outcomes-all : (old new : List (Task (ThreadBody P T))) → EachAt (IsReady world) old → HaveAllRun old new → length new ≡ length old → length world.start.shape.callers < length old
      → length (outcomes_in new) ≡ length world.start.shape.callers
  outcomes-all old new ready all count more =
      outcomes-many (length world.start.shape.callers) new (omega (arith, count, more))
      (λ place t at. let did = all place t at in outcome-many place did.0 t (ready place did.0 did.1) did.2)

-- What is settled stays so.
pub drained-later : ((s t : State) (events : List Event) → IsSettled s → after s events ≡ Ok t → IsSettled t) → (w : ShapeValue) (seen journal : List Event) → is_legal w journal ≡ true → IsPrefix seen journal → IsDrained w seen → IsDrained w journal
drained-later stays w seen journal legal more drained =
    let all = leads (reached w journal) legal in
    let bodies = after-both (opening w) all.0 seen more.0 (ap (reached w) more.1 ∙ all.1) in
    let same : ◌≡◌ {A = Result State _} (Ok drained.0) (Ok bodies.0) = sym drained.1 ∙ bodies.1 in
    let is : drained.0 ≡ bodies.0 = cc in
    (all.0, all.1, stays bodies.0 all.0 more.0 (subst IsSettled is drained.2) bodies.2)

-- a worker has left no transfer, so none is left in the journal
pub run-drained : ((s t : State) (events : List Event) → IsSettled s → after s events ≡ Ok t → IsSettled t) → (world : TableValue Start) (passes : List (PassValue Start Event)) (journal : List Event) → HaveRun world passes
    → is_legal world.start.shape journal ≡ true → HaveSeen journal passes → IsDrained world.start.shape journal
run-drained stays world passes journal run legal seen =
    let callers = length world.start.shape.callers in
    let at = there-within passes callers run.worker in
    let has = run.each callers at.0 at.1 in
    drained-later stays world.start.shape at.0.known.seen journal legal (seen callers at.0 at.1) (has.none_left (omega arith))
