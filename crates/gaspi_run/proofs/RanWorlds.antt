-- What is known of a world whose parts have all run, once it is closed.
use Rattle.std.proofs.Common.{◌≡◌, ℕ, zero, suc, ◌+◌, ◌<◌, ◌≤◌, Bool, true, false, cond, ◌||◌, List, [], ◌∷◌, ◌++◌, map, length, Option, None, Some, Result, Ok, count_by, find, refl, sym, ap, ◌∙◌, subst, arith}
use Rattle.std.specs.List.{slice_get, list_any}
use Rattle.std.specs.Option.{option_map}
use Rattle.std.proofs.lemmas.List.{length-map}
use Rattle.std.proofs.lemmas.List.Elements.{All-nil, All-cons}
use Rattle.std.proofs.lemmas.Option.{slice_get-map, slice_get_within}
use mathlib.Core.List.{IsPrefix}
use Rattle.gaspi_types.specs.World.{ShapeValue, IsShape, is_caller}
use Rattle.gaspi_types.specs.declared.calls.Call.TheVariants.{End}
use Rattle.gaspi_types.specs.declared.events.Event.{Event}
use Rattle.gaspi_types.specs.declared.shapes.CallerId.{CallerId}
use Rattle.gaspi_types.proofs.Items.{map-at, there-within, flat_map-parts}
use Rattle.gaspi_texts.specs.EventText.{HasOwnValues}
use Rattle.gaspi_texts.specs.JournalText.{HaveOwnValues}
use Rattle.gaspi_model.specs.Settled.{IsSettled}
use Rattle.gaspi_model.specs.State.{opening}
use Rattle.gaspi_model.specs.Step.{after, reached, is_legal, recorded_calls}
use Rattle.gaspi_model.specs.declared.states.State.{State}
use Rattle.gaspi_model.proofs.Histories.{leads, after-first, after-both}
use Rattle.commit_table.specs.Calls.{TableValue, PassValue, TallyValue, IsOf, HoldsNone, AreWhole}
use Rattle.commit_table.specs.declared.views.PassView.{PassView}
use Rattle.gaspi_model.specs.CallerEvents.{events_of}
use Rattle.gaspi_world.specs.Callers.{IsPassOf}
use Rattle.gaspi_world.specs.Closing.{HaveSeen, HaveDone}
use Rattle.gaspi_world.specs.Waits.{Waited}
use Rattle.gaspi_model.specs.Parties.{number_of}
use Rattle.gaspi_world.specs.declared.launching.Task.{Task}
use Rattle.gaspi_world.specs.declared.starts.Start.{Start}
use Rattle.gaspi_world.proofs.Numbers.{number-below, same-number, there-any, declared-at}
use Rattle.rank_script.specs.PlainScripts.{IsPlain, HasPlainLines, ArePlain}
use Rattle.rank_script.specs.Runs.{at_first_line, IsRun}
use Rattle.rank_script.specs.WorldText.{AreScriptsOf, is_script_of}
use Rattle.rank_script.specs.declared.scripts.RunOutcome.{RunOutcome}
use Rattle.rank_script.specs.declared.scripts.Script.{Script}
use Rattle.rank_script.specs.declared.scripts.ScriptLine.{ScriptLine}
use Rattle.gaspi_run.specs.Looks.{looks_along, AreWithin}
use Rattle.commit_table.proofs.Lists.{prefix_trans}
use Rattle.gaspi_run.specs.Runs.{HasRun}
use Rattle.gaspi_run.specs.declared.bodies.ScriptBody.{ScriptBody}
use Rattle.gaspi_run.proofs.CallsOfEvents.{own-events}
use Rattle.transfer_worker.specs.Order.{Drains}
use Rattle.transfer_worker.specs.Turns.{IsDrained}
use Rattle.plain_schedule.specs.Joins.{AreJoinsFollowed}
use Rattle.plain_schedule.specs.Endings.{HasEnded, HaveEnded, HasSettled}
use Rattle.gaspi_run.specs.ThreadBodies.{EachAt, HasRunTask, HasRunThreadBody, HasRunWorker, IsDone, HaveRun, made_pass, ended_caller, ended_with, ended_callers, is_not_out_of_memory}
use Rattle.gaspi_run.specs.Threads.{HadPass, HadWorker, IsTallyOf}
use Rattle.gaspi_run.specs.declared.thread_bodies.ThreadBody.{ThreadBody}
use Rattle.gaspi_run.specs.declared.thread_bodies.ThreadBody.TheVariants.{Caller, Worker}
use Rattle.plain_schedule.specs.declared.schedule_states.EndedCaller.{EndedCaller}
use Rattle.gaspi_run.proofs.CallersEnd.{own-is, own-calls, limit-cause, stopped-before}
use Rattle.gaspi_run.proofs.OneOfEach.{counts, count-none, count-one, count-some, find-one, found-all, count-map, none-there, all-at}
use Rattle.plain_schedule.proofs.OwnValues.{step-has-own}
use Rattle.gaspi_run.proofs.SameCallers.{is-itself, only-itself, same-caller}

-- A legal history has its own values.

pub own-along : (s t : State) (events : List Event) → after s events ≡ Ok t → HaveOwnValues events
own-along s t [] is = All-nil HasOwnValues
own-along s t (e ∷ events) is =
    let first = after-first s t e events is in
    All-cons HasOwnValues e events (step-has-own s first.0 e first.1) (own-along first.0 t events first.2)

pub legal-has-own : (w : ShapeValue) (journal : List Event) → is_legal w journal ≡ true → HaveOwnValues journal
legal-has-own w journal legal = let state = leads (reached w journal) legal in own-along (opening w) state.0 journal state.1

-- What is settled stays so.

pub settled-later : ((s t : State) (events : List Event) → IsSettled s → after s events ≡ Ok t → IsSettled t) → (w : ShapeValue) (seen journal : List Event) → is_legal w journal ≡ true → IsPrefix seen journal → IsDrained w seen → HasSettled w journal
settled-later stays w seen journal legal more drained =
    let all = leads (reached w journal) legal in
    let parts = after-both (opening w) all.0 seen more.0 (ap (reached w) more.1 ∙ all.1) in
    let same : ◌≡◌ {A = Result State _} (Ok drained.0) (Ok parts.0) = sym drained.1 ∙ parts.1 in
    let is : drained.0 ≡ parts.0 = cc in
    record {
      state = all.0;
      leads = all.1;
      settled = stays parts.0 all.0 more.0 (subst IsSettled is drained.2) parts.2;
    }

module _ (world : TableValue Start) (scripts : List Script) (limit : ℕ) (passes : List (PassValue Start Event)) (finished : List EndedCaller) (run : HaveRun world scripts limit passes finished) where
  abbrev w : ShapeValue
  w = world.start.shape

  pass-at : (k : ℕ) (t : Task ThreadBody) → slice_get run.tasks k ≡ Some t → slice_get passes k ≡ Some t.pass
  pass-at k t at =
      ap (λ (ps : List (PassValue Start Event)). slice_get ps k) run.passes_are
      ∙ (slice_get-map (λ (u : Task ThreadBody). u.pass) run.tasks k ∙ ap (option_map (λ (u : Task ThreadBody). u.pass)) at)

  -- All passes are there again.

  pub whole : AreWhole world passes
  whole = (each, all)
    where
      each : (k : ℕ) (p : PassValue Start Event) → slice_get passes k ≡ Some p → IsOf world p × HoldsNone p.known
      each k p at =
          let from = map-at (λ (t : Task ThreadBody). t.pass) run.tasks k p (subst (λ (ps : List (PassValue Start Event)). slice_get ps k ≡ Some p) run.passes_are at) in
          let has = run.ran k from.0 from.1 in
          subst (λ (q : PassValue Start Event). IsOf world q × HoldsNone q.known) (sym from.2) ((has.table, has.start), has.free)

      all : (party : ℕ) → party < world.passes → (k : ℕ) × (p : PassValue Start Event) × (slice_get passes k ≡ Some p) × (p.known.party ≡ Some party)
      all party less =
          let from = there-within run.tasks party (let many = run.count in omega arith) in
          let has = run.ran party from.0 from.1 in
          (party, from.0.pass, pass-at party from.0 from.1, has.party)

  -- The parts of callers stand at their numbers.

  abbrev HasRunBody : ScriptBody → ℕ → Task ThreadBody → Type 0
  HasRunBody body k t = HasRunThreadBody world scripts limit k (Caller body) t.pass.known

  caller-number : (k : ℕ) (t : Task ThreadBody) (body : ScriptBody) → slice_get run.tasks k ≡ Some t → t.body ≡ Caller body → HasRunBody body k t × (number_of w.callers body.script.now.caller ≡ k)
  caller-number k t body at is =
      let has = run.ran k t at in
      let ran : HasRunBody body k t = subst (λ (part : ThreadBody). HasRunThreadBody world scripts limit k part t.pass.known) is has.part in
      let same : ◌≡◌ {A = Option ℕ} (Some (number_of w.callers body.script.now.caller)) (Some k) = sym ran.caller.1 ∙ has.party in
      let number : number_of w.callers body.script.now.caller ≡ k = cc in
      (ran, number)

  module _ (valid : IsShape w) (many : length w.callers < world.passes) where
    caller-at : (c : CallerId) → list_any (is_caller c.rank c.thread) w.callers ≡ true
        → (t : Task ThreadBody) × (body : ScriptBody) × (slice_get run.tasks (number_of w.callers c) ≡ Some t) × (t.body ≡ Caller body) × HasRunBody body (number_of w.callers c) t × (body.script.now.caller ≡ c)
    caller-at c there = go at.0.body refl has.part
      where
        below : number_of w.callers c < length w.callers
        below = number-below w.callers c there

        at : (t : Task ThreadBody) × (slice_get run.tasks (number_of w.callers c) ≡ Some t)
        at = there-within run.tasks (number_of w.callers c) (let less = below in let count = run.count in omega arith)

        has : HasRunTask world scripts limit (number_of w.callers c) at.0
        has = run.ran (number_of w.callers c) at.0 at.1

        go : (part : ThreadBody) → at.0.body ≡ part → HasRunThreadBody world scripts limit (number_of w.callers c) part at.0.pass.known
            → (t : Task ThreadBody) × (body : ScriptBody) × (slice_get run.tasks (number_of w.callers c) ≡ Some t) × (t.body ≡ Caller body) × HasRunBody body (number_of w.callers c) t × (body.script.now.caller ≡ c)
        go (Caller body) is ran =
            let number = caller-number (number_of w.callers c) at.0 body at.1 is in
            (at.0, body, at.1, is, ran, same-number w body.script.now.caller c valid ran.caller.0 there number.1)
        go (Worker turns) is ran = absurd (let less = below in let behind = ran.place_is in omega arith)

    -- No transfer is left.

    worker-drained : (t : Task ThreadBody) → slice_get run.tasks (length w.callers) ≡ Some t → IsDrained w t.pass.known.seen
    worker-drained t at = go t.body refl
      where
        go : (part : ThreadBody) → t.body ≡ part → IsDrained w t.pass.known.seen
        go (Caller body) is = (
            let number = caller-number (length w.callers) t body at is in
            let below = number-below w.callers body.script.now.caller number.0.caller.0 in
            let behind = number.1 in
            absurd (omega arith)
            )
        go (Worker turns) is =
            let ran : HasRunThreadBody world scripts limit (length w.callers) (Worker turns) t.pass.known = subst (λ (part : ThreadBody). HasRunThreadBody world scripts limit (length w.callers) part t.pass.known) is (run.ran (length w.callers) t at).part in
            ran.none_left

    -- The parts of workers stand behind them.

    worker-at : (worker : ℕ) → length w.callers + worker < world.passes → (t : Task ThreadBody) × (slice_get run.tasks (length w.callers + worker) ≡ Some t) × HasRunWorker world scripts limit (length w.callers + worker) t.pass.known
    worker-at worker less = go at.0.body refl
      where
        place : ℕ
        place = length w.callers + worker

        at : (t : Task ThreadBody) × (slice_get run.tasks place ≡ Some t)
        at = there-within run.tasks place (let count = run.count in omega arith)

        go : (part : ThreadBody) → at.0.body ≡ part → (t : Task ThreadBody) × (slice_get run.tasks place ≡ Some t) × HasRunWorker world scripts limit place t.pass.known
        go (Caller body) is = (
            let number = caller-number place at.0 body at.1 is in
            let below = number-below w.callers body.script.now.caller number.0.caller.0 in
            let behind = number.1 in
            absurd (omega arith)
            )
        go (Worker turns) is = (at.0, at.1, subst (λ (part : ThreadBody). HasRunThreadBody world scripts limit place part at.0.pass.known) is (run.ran place at.0 at.1).part)

    module _ (journal : List Event) (legal : is_legal w journal ≡ true) (seen : HaveSeen journal passes) where
      -- each had its pass
      had-worker : (known : List (PassView Start Event)) → known ≡ map (λ (p : PassValue Start Event). p.known) passes → (worker : ℕ) → length w.callers + worker < world.passes → HadWorker world.start journal known worker
      had-worker known known_are worker less =
          let here = worker-at worker less in
          let t = here.0 in
          let ran = here.2 in
          let place = length w.callers + worker in
          let pass = pass-at place t here.1 in
          let same : ran.worker ≡ worker = (let is = ran.place_is in omega arith) in
          record {
            pass = t.pass.known;
            there = ap (λ (ps : List (PassView Start Event)). slice_get ps place) known_are ∙ (slice_get-map (λ (p : PassValue Start Event). p.known) passes place ∙ ap (option_map (λ (p : PassValue Start Event). p.known)) pass);
            mine = ran.mine;
            saw = seen place t.pass pass;
            settled = ran.none_left;
            next = ran.next;
            turned = subst (λ (k : ℕ). Drains w k (made_pass world place).known ran.next t.pass.known) same ran.turned;
          }

      pub settled : ((s t : State) (events : List Event) → IsSettled s → after s events ≡ Ok t → IsSettled t) → HasSettled w journal
      settled stays =
          let at = there-within run.tasks (length w.callers) (let count = run.count in omega arith) in
          settled-later stays w at.0.pass.known.seen journal legal (seen (length w.callers) at.0.pass (pass-at (length w.callers) at.0 at.1)) (worker-drained at.0 at.1)

      module _ (done : HaveDone w journal passes) (plain : ArePlain scripts) where
        -- Each caller ended so.

        ended : (k : ℕ) (t : Task ThreadBody) (body : ScriptBody) → slice_get run.tasks k ≡ Some t → t.body ≡ Caller body → (told : RunOutcome) → body.outcome ≡ Some told
            → HasEnded w scripts journal (record { caller = body.script.now.caller; outcome = told })
        ended k t body at is told is_told_so =
            let ran = (caller-number k t body at is).0 in
            let script = body.script.now in
            let here = pass-at k t at in
            let saw = seen k t.pass here in
            let did = done script.caller k t.pass here ran.caller in
            let same : ◌≡◌ {A = Option RunOutcome} (Some ran.told) (Some told) = sym ran.is_told ∙ is_told_so in
            let one : ran.told ≡ told = cc in
            let run_is = subst (λ (o : RunOutcome). HasRun w script.caller script.lines limit o (made_pass world k).known t.pass.known) one ran.run in
            let good = good-told k t body at is told is_told_so in
            let lines = plain-lines script ran.is_script in
            let calls = own-calls w script.caller script.lines journal legal t.pass.known t.pass.known saw did in
            record {
              script = script;
              is_script = ran.is_script;
              run = subst (λ (ps : _). IsRun script.lines ps told) calls run_is.run;
              stopped = run_is.unmade;
              stopped_before = stopped-before w script.caller script.lines journal legal t.pass.known t.pass.known saw did lines told good run_is.unmade run_is.stopped_before;
              joins = subst (AreJoinsFollowed run_is.unmade) (sym (own-is script.caller journal ∙ did)) run_is.followed;
              limit = limit-cause w script.caller script.lines journal legal t.pass.known t.pass.known saw did lines told good run_is.cause;
            }
          where
            good-told : (k : ℕ) (t : Task ThreadBody) (body : ScriptBody) → slice_get run.tasks k ≡ Some t → t.body ≡ Caller body → (told : RunOutcome) → body.outcome ≡ Some told → is_not_out_of_memory told ≡ true
            good-told k t body at is told so =
                let has : IsDone (Caller body) = subst IsDone is (all-at (λ (u : Task ThreadBody). IsDone u.body) run.tasks k t run.told at) in
                let same : ◌≡◌ {A = Option RunOutcome} (Some has.0) (Some told) = sym has.1 ∙ so in
                let one : has.0 ≡ told = cc in
                subst (λ (o : RunOutcome). is_not_out_of_memory o ≡ true) one has.2

            plain-lines : (script : Script) → find (is_script_of script.caller) scripts ≡ Some script → (k : ℕ) (line : ScriptLine) → slice_get script.lines k ≡ Some line → line.call ≡ End → ⊥
            plain-lines script found k line there = all-at IsPlain script.lines k line (found-all (is_script_of script.caller) HasPlainLines scripts script plain found) there

        pub each : (place : ℕ) (f : EndedCaller) → slice_get finished place ≡ Some f → HasEnded w scripts journal f
        each place f at = go from.1.body refl from.4
          where
            from : (i : ℕ) × (t : Task ThreadBody) × (j : ℕ) × (slice_get run.tasks i ≡ Some t) × (slice_get (ended_caller t.body) j ≡ Some f)
            from = flat_map-parts (λ (t : Task ThreadBody). ended_caller t.body) run.tasks place f (subst (λ (fs : List EndedCaller). slice_get fs place ≡ Some f) run.finished_are at)

            with_outcome : (body : ScriptBody) → from.1.body ≡ Caller body → (o : Option RunOutcome) → body.outcome ≡ o → (j : ℕ) → slice_get (ended_with body.script.now.caller o) j ≡ Some f → HasEnded w scripts journal f
            with_outcome body is None so j here = absurd (let never : ⊥ = cc in never)
            with_outcome body is (Some told) so zero here =
                let same : record { caller = body.script.now.caller; outcome = told } ≡ f = cc in
                subst (HasEnded w scripts journal) same (ended from.0 from.1 body from.3 is told so)
            with_outcome body is (Some told) so (suc j) here = absurd (let never : ⊥ = cc in never)

            go : (part : ThreadBody) → from.1.body ≡ part → slice_get (ended_caller part) from.2 ≡ Some f → HasEnded w scripts journal f
            go (Caller body) is here = with_outcome body is body.outcome refl from.2 here
            go (Worker turns) is here = absurd (let never : ⊥ = cc in never)

        -- Each has one outcome.

        module _ (rank thread : ℕ) where
          abbrev is_one : EndedCaller → Bool
          is_one f = is_caller rank thread f.caller

          abbrev is_ones : Task ThreadBody → Bool
          is_ones t = list_any is_one (ended_caller t.body)

          count-front : (part : ThreadBody) (rest : List EndedCaller) → count_by is_one (ended_caller part ++ rest) ≡ cond (list_any is_one (ended_caller part)) 1 0 + count_by is_one rest
          count-front (Caller body) rest = with_outcome body.outcome
            where
              with_outcome : (o : Option RunOutcome) → count_by is_one (ended_with body.script.now.caller o ++ rest) ≡ cond (list_any is_one (ended_with body.script.now.caller o)) 1 0 + count_by is_one rest
              with_outcome None = (let same : count_by is_one rest ≡ 0 + count_by is_one rest = omega arith in same)
              with_outcome (Some told) = go (is_one (record { caller = body.script.now.caller; outcome = told })) refl
                where
                  go : (b : Bool) → is_one (record { caller = body.script.now.caller; outcome = told }) ≡ b
                      → count_by is_one (ended_with body.script.now.caller (Some told) ++ rest) ≡ cond (list_any is_one (ended_with body.script.now.caller (Some told))) 1 0 + count_by is_one rest
                  go true meets = (let one = counts is_one (record { caller = body.script.now.caller; outcome = told }) rest true meets in rw meets (rw meets at one))
                  go false fails = (let one = counts is_one (record { caller = body.script.now.caller; outcome = told }) rest false fails in rw fails (rw fails at one))
          count-front (Worker turns) rest = (let same : count_by is_one rest ≡ 0 + count_by is_one rest = omega arith in same)

          count-tasks : (tasks : List (Task ThreadBody)) → count_by is_one (ended_callers tasks) ≡ count_by is_ones tasks
          count-tasks [] = refl
          count-tasks (t ∷ tasks) =
              let front = count-front t.body (ended_callers tasks) in
              let one = counts is_ones t tasks (is_ones t) refl in
              let rest = count-tasks tasks in
              omega arith

          -- a task that counts is that of the caller
          ones-caller : (k : ℕ) (t : Task ThreadBody) → slice_get run.tasks k ≡ Some t → is_ones t ≡ true → (body : ScriptBody) × (t.body ≡ Caller body) × (is_caller rank thread body.script.now.caller ≡ true)
          ones-caller k t at counted = go t.body refl counted
            where
              with_outcome : (body : ScriptBody) → t.body ≡ Caller body → (o : Option RunOutcome) → list_any is_one (ended_with body.script.now.caller o) ≡ true → (body : ScriptBody) × (t.body ≡ Caller body) × (is_caller rank thread body.script.now.caller ≡ true)
              with_outcome body is None any = absurd (let never : ⊥ = cc in never)
              with_outcome body is (Some told) any = (body, is, or-false (is_caller rank thread body.script.now.caller) any)
                where
                  or-false : (b : Bool) → (b || false) ≡ true → b ≡ true
                  or-false true holds = refl
                  or-false false holds = holds

              go : (part : ThreadBody) → t.body ≡ part → list_any is_one (ended_caller part) ≡ true → (body : ScriptBody) × (t.body ≡ Caller body) × (is_caller rank thread body.script.now.caller ≡ true)
              go (Caller body) is any = with_outcome body is body.outcome any
              go (Worker turns) is any = absurd (let never : ⊥ = cc in never)

          abbrev one : CallerId
          one = record { rank = rank; thread = thread }

          is-one : (d : CallerId) → is_caller rank thread d ≡ true → d ≡ one
          is-one d meets =
              let same = only-itself rank thread d meets in
              same-caller d one same.0 same.1

          count-declared : list_any (is_caller rank thread) w.callers ≡ true → count_by is_ones run.tasks ≡ 1
          count-declared there =
              let here = caller-at one there in
              let has = here.4 in
              count-one is_ones run.tasks (number_of w.callers one) here.0 here.2 (counts-here here.0 here.1 here.3 has.told has.is_told here.5) only
            where
              counts-here : (t : Task ThreadBody) (body : ScriptBody) → t.body ≡ Caller body → (told : RunOutcome) → body.outcome ≡ Some told → body.script.now.caller ≡ one → is_ones t ≡ true
              counts-here t body is told so caller = rw is (rw so (rw caller (or-true (is_caller rank thread one) (is-itself one))))
                where
                  or-true : (b : Bool) → b ≡ true → (b || false) ≡ true
                  or-true true holds = refl
                  or-true false holds = holds

              only : (k : ℕ) (t : Task ThreadBody) → slice_get run.tasks k ≡ Some t → is_ones t ≡ true → k ≡ number_of w.callers one
              only k t at counted =
                  let caller = ones-caller k t at counted in
                  let number = caller-number k t caller.0 at caller.1 in
                  sym number.1 ∙ ap (number_of w.callers) (is-one caller.0.script.now.caller caller.2)

          count-undeclared : list_any (is_caller rank thread) w.callers ≡ false → count_by is_ones run.tasks ≡ 0
          count-undeclared none = count-none is_ones run.tasks (λ k t at. go k t at (is_ones t) refl)
            where
              go : (k : ℕ) (t : Task ThreadBody) → slice_get run.tasks k ≡ Some t → (b : Bool) → is_ones t ≡ b → b ≡ false
              go k t at false fails = refl
              go k t at true counted =
                  let caller = ones-caller k t at counted in
                  let number = caller-number k t caller.0 at caller.1 in
                  let same = is-one caller.0.script.now.caller caller.2 in
                  let there : list_any (is_caller rank thread) w.callers ≡ true = subst (λ (d : CallerId). list_any (is_caller d.rank d.thread) w.callers ≡ true) same number.0.caller.0 in
                  absurd (let wrong : ◌≡◌ {A = Bool} true false = sym there ∙ none in let never : ⊥ = cc in never)

          count-scripts : AreScriptsOf w scripts → count_by (λ (s : Script). is_caller rank thread s.caller) scripts ≡ count_by (is_caller rank thread) w.callers
          count-scripts are = sym (count-map (λ (s : Script). s.caller) (is_caller rank thread) scripts) ∙ ap (count_by (is_caller rank thread)) are

          once-each : AreScriptsOf w scripts → count_by is_one finished ≡ count_by (λ (s : Script). is_caller rank thread s.caller) scripts
          once-each are = go (list_any (is_caller rank thread) w.callers) refl
            where
              all : count_by is_one finished ≡ count_by is_ones run.tasks
              all = ap (count_by is_one) run.finished_are ∙ count-tasks run.tasks

              go : (b : Bool) → list_any (is_caller rank thread) w.callers ≡ b → count_by is_one finished ≡ count_by (λ (s : Script). is_caller rank thread s.caller) scripts
              go true there =
                  let at = declared-at rank thread w.callers there in
                  let some = count-some (is_caller rank thread) w.callers at.0 one at.1 (is-itself one) in
                  let most = valid.once rank thread in
                  let ours = count-declared there in
                  let theirs = count-scripts are in
                  let same = all in
                  omega arith
              go false none =
                  let zero_there = count-none (is_caller rank thread) w.callers (none-there (is_caller rank thread) w.callers none) in
                  let ours = count-undeclared none in
                  let theirs = count-scripts are in
                  let same = all in
                  omega arith

        pub have-ended : AreScriptsOf w scripts → HaveEnded w scripts journal finished
        have-ended are = record { each = each; once = λ rank thread. once-each rank thread are }

        -- Each had its pass.

        module _ (are : AreScriptsOf w scripts) where
          script-declared : (place : ℕ) (script : Script) → slice_get scripts place ≡ Some script → list_any (is_caller script.caller.rank script.caller.thread) w.callers ≡ true
          script-declared place script at =
              there-any w.callers place script.caller
              (ap (λ (cs : List CallerId). slice_get cs place) (sym are) ∙ (slice_get-map (λ (s : Script). s.caller) scripts place ∙ ap (option_map (λ (s : Script). s.caller)) at))

          script-found : (place : ℕ) (script : Script) → slice_get scripts place ≡ Some script → find (is_script_of script.caller) scripts ≡ Some script
          script-found place script at =
              find-one (is_script_of script.caller) scripts place script at (is-itself script.caller)
              (let same = count-scripts script.caller.rank script.caller.thread are in let most = valid.once script.caller.rank script.caller.thread in omega arith)

          had-pass : ((w : ShapeValue) (c : CallerId) (history later : List Event) (looks ns : List ℕ) → Waited w c history looks ns → recorded_calls c.rank c.thread (history ++ later) ≡ recorded_calls c.rank c.thread history → Waited w c (history ++ later) looks ns)
              → (known : List (PassView Start Event)) → known ≡ map (λ (p : PassValue Start Event). p.known) passes → (place : ℕ) (script : Script) → slice_get scripts place ≡ Some script → HadPass w limit journal known script
          had-pass last known known_are place script at =
              let there = script-declared place script at in
              let here = caller-at script.caller there in
              let ran = here.4 in
              let t = here.0 in
              let body = here.1 in
              let number = number_of w.callers script.caller in
              let pass = pass-at number t here.2 in
              let saw = seen number t.pass pass in
              let caller : IsPassOf w script.caller t.pass.known = subst (λ (c : CallerId). IsPassOf w c t.pass.known) here.5 ran.caller in
              let did = done script.caller number t.pass pass caller in
              let found : find (is_script_of script.caller) scripts ≡ Some body.script.now = subst (λ (c : CallerId). find (is_script_of c) scripts ≡ Some body.script.now) here.5 ran.is_script in
              let both : ◌≡◌ {A = Option Script} (Some body.script.now) (Some script) = sym found ∙ script-found place script at in
              let same : body.script.now ≡ script = cc in
              let run_is = subst (λ (s : Script). HasRun w s.caller s.lines limit ran.told (made_pass world number).known t.pass.known) same ran.run in
              record {
                place = number;
                pass = t.pass.known;
                there = ap (λ (ps : List (PassView Start Event)). slice_get ps number) known_are ∙ (slice_get-map (λ (p : PassValue Start Event). p.known) passes number ∙ ap (option_map (λ (p : PassValue Start Event). p.known)) pass);
                caller = caller;
                did = did;
                saw = saw;
                waited = waited-on last script t.pass.known saw did run_is;
                looks = run_is.looks;
                last = run_is.last;
                looked = run_is.looked.looks;
                by_call = λ i j ks h group look.
                    let told = run_is.by_call i j ks h group look in
                    (prefix_trans h t.pass.known.seen journal told.0 saw, told.1);
                within = subst (λ (ps : _). AreWithin run_is.looks (looks_along limit (at_first_line script.lines) ps)) (ap (recorded_calls script.caller.rank script.caller.thread) (sym did) ∙ own-events script.caller journal) run_is.within;
              }
            where
              waited-on : ((w : ShapeValue) (c : CallerId) (history later : List Event) (looks ns : List ℕ) → Waited w c history looks ns → recorded_calls c.rank c.thread (history ++ later) ≡ recorded_calls c.rank c.thread history → Waited w c (history ++ later) looks ns)
                  → (script : Script) (n : PassView Start Event) → IsPrefix n.seen journal → events_of script.caller journal ≡ n.mine → {v : PassView Start Event} → {told : RunOutcome} → HasRun w script.caller script.lines limit told v n
                  → Waited w script.caller journal n.looks (looks_along limit (at_first_line script.lines) (recorded_calls script.caller.rank script.caller.thread journal))
              waited-on last script n saw did run_is =
                  let c = script.caller in
                  let calls : recorded_calls c.rank c.thread journal ≡ recorded_calls c.rank c.thread n.mine = sym (own-events c journal) ∙ ap (recorded_calls c.rank c.thread) did in
                  let before : recorded_calls c.rank c.thread n.seen ≡ recorded_calls c.rank c.thread n.mine = sym (own-events c n.seen) ∙ ap (recorded_calls c.rank c.thread) run_is.goes_on.own in
                  let still : recorded_calls c.rank c.thread (n.seen ++ saw.0) ≡ recorded_calls c.rank c.thread n.seen = ap (recorded_calls c.rank c.thread) saw.1 ∙ (calls ∙ sym before) in
                  let then = last w c n.seen saw.0 n.looks (looks_along limit (at_first_line script.lines) (recorded_calls c.rank c.thread n.mine)) run_is.waited.waited still in
                  subst (λ (h : List Event). Waited w c h n.looks (looks_along limit (at_first_line script.lines) (recorded_calls c.rank c.thread journal))) saw.1
                  (subst (λ (ps : _). Waited w c (n.seen ++ saw.0) n.looks (looks_along limit (at_first_line script.lines) ps)) (sym calls) then)

          pub tallied : ((w : ShapeValue) (c : CallerId) (history later : List Event) (looks ns : List ℕ) → Waited w c history looks ns → recorded_calls c.rank c.thread (history ++ later) ≡ recorded_calls c.rank c.thread history → Waited w c (history ++ later) looks ns)
              → (tally : TallyValue Start Event) → tally.start ≡ Some world.start → tally.journal ≡ journal → tally.passes ≡ map (λ (p : PassValue Start Event). p.known) passes
              → (workers : ℕ) → world.passes ≡ length w.callers + workers → IsTallyOf w scripts workers limit journal tally
          tallied last tally start journal_is known_are workers all = record {
            start = world.start;
            began = start;
            world = refl;
            journal_is = journal_is;
            passes = λ place script at. had-pass last tally.passes known_are place script at;
            count = ap length known_are ∙ (length-map passes (λ (p : PassValue Start Event). p.known) ∙ (ap length run.passes_are ∙ (length-map run.tasks (λ (t : Task ThreadBody). t.pass) ∙ (run.count ∙ all))));
            workers_had = λ worker less. had-worker tally.passes known_are worker (omega arith);
          }

-- The passes of a world as it was made.

pub made-each : (world : TableValue Start) (n : ℕ) (passes : List (PassValue Start Event)) → length passes ≡ n → ((k : ℕ) → k < n → slice_get passes k ≡ Some (made_pass world k)) → EachAt (λ place pass. pass ≡ made_pass world place) passes
made-each world n passes count made place pass at =
    let within = slice_get_within passes place pass at in
    let both : ◌≡◌ {A = Option (PassValue Start Event)} (Some pass) (Some (made_pass world place)) = sym at ∙ made place (omega arith) in
    let same : pass ≡ made_pass world place = cc in
    same

-- All that is known of a world that was made of a shape, has run and was closed.
pub known : (world : TableValue Start) (scripts : List Script) (limit workers : ℕ) (passes : List (PassValue Start Event)) (finished : List EndedCaller) (shape : ShapeValue) (journal : List Event) (tally : TallyValue Start Event)
    → world.start.shape ≡ shape → world.passes ≡ length shape.callers + workers → 1 ≤ workers → IsShape shape → AreScriptsOf shape scripts → ArePlain scripts → HaveRun world scripts limit passes finished
    → (tally.start ≡ Some world.start) × (tally.journal ≡ journal) → tally.passes ≡ map (λ (p : PassValue Start Event). p.known) passes → is_legal world.start.shape journal ≡ true → HaveSeen journal passes → HaveDone world.start.shape journal passes
    → ((s t : State) (events : List Event) → IsSettled s → after s events ≡ Ok t → IsSettled t)
    → ((w : ShapeValue) (c : CallerId) (history later : List Event) (looks ns : List ℕ) → Waited w c history looks ns → recorded_calls c.rank c.thread (history ++ later) ≡ recorded_calls c.rank c.thread history → Waited w c (history ++ later) looks ns)
    → IsTallyOf shape scripts workers limit journal tally × HaveEnded shape scripts journal finished × HasSettled shape journal
known world scripts limit workers passes finished shape journal tally start all some valid are plain run began known_are legal seen done stays last =
    let callers : length world.start.shape.callers ≡ length shape.callers = ap (λ (w : ShapeValue). length w.callers) start in
    let many : length world.start.shape.callers < world.passes = omega arith in
    let good = subst IsShape (sym start) valid in
    let scripts_are = subst (λ (w : ShapeValue). AreScriptsOf w scripts) (sym start) are in (
      subst (λ (w : ShapeValue). IsTallyOf w scripts workers limit journal tally) start (tallied world scripts limit passes finished run good many journal legal seen done plain scripts_are last tally began.0 began.1 known_are workers (all ∙ ap (λ (n : ℕ). n + workers) (sym callers))),
      subst (λ (w : ShapeValue). HaveEnded w scripts journal finished) start (have-ended world scripts limit passes finished run good many journal legal seen done plain scripts_are),
      subst (λ (w : ShapeValue). HasSettled w journal) start (settled world scripts limit passes finished run good many journal legal seen stays),
    )
