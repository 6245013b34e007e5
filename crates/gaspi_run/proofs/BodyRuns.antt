-- What parts need before they run, and what is known of them then.
use Rattle.std.proofs.Common.{◌≡◌, ℕ, zero, suc, ◌<◌, ◌+◌, ◌≤◌, Bool, true, false, List, [], ◌∷◌, ◌++◌, length, take, get_or, append-nil, None, Some, find, refl, sym, ap, ◌∙◌, subst, arith}
use Rattle.std.specs.List.{All, slice_get, list_any}
use Rattle.std.proofs.lemmas.Grind.{flat_map-append}
use Rattle.std.proofs.lemmas.List.{take_more}
use Rattle.std.proofs.lemmas.Option.{slice_get-get_or}
use Rattle.std.proofs.Math.Seq.{take-append_seam}
use Rattle.std.proofs.lemmas.List.Elements.{All-nil, All-cons, All-append}
use Rattle.gaspi_types.specs.World.{is_caller}
use Rattle.gaspi_types.specs.declared.events.Event.{Event}
use Rattle.gaspi_types.specs.declared.shapes.CallerId.{CallerId}
use Rattle.commit_table.specs.Calls.{TableValue, PassValue, HoldsNone}
use Rattle.gaspi_world.specs.Callers.{IsPassOf}
use Rattle.gaspi_world.specs.declared.launching.Task.{Task}
use Rattle.gaspi_world.specs.declared.starts.Start.{Start}
use Rattle.rank_script.specs.PlainScripts.{HasPlainLines, HasLookingLines, ArePlain, AreLooking}
use Rattle.rank_script.specs.WorldText.{AreScriptsOf, is_script_of}
use Rattle.rank_script.specs.declared.scripts.Script.{Script}
use Rattle.gaspi_run.specs.Bodies.{HasRunScript}
use Rattle.gaspi_run.specs.Runs.{HasRun}
use Rattle.gaspi_run.specs.declared.bodies.ScriptBody.{ScriptBody}
use Rattle.gaspi_run.specs.ThreadBodies.{BodyNeeds, BodyDid, EachAt, HaveAllRun, made_pass, IsBodyOf, IsReady, HasRunCaller, HasRunThreadBody, HasRunTask, IsDone, ended_caller, ended_callers}
use Rattle.plain_schedule.specs.declared.schedule_states.EndedCaller.{EndedCaller}
use Rattle.gaspi_run.specs.declared.thread_bodies.ThreadBody.{ThreadBody}
use Rattle.gaspi_run.specs.declared.thread_bodies.ThreadBody.TheVariants.{Caller, Worker}
use Rattle.gaspi_run.proofs.OneOfEach.{found-all, found-is, found-any, any-map}
use Rattle.gaspi_run.proofs.SameCallers.{only-itself, same-caller}

module _ (world : TableValue Start) (scripts : List Script) (limit : ℕ) where
  needs-made : (place : ℕ) (part : ThreadBody) → IsBodyOf world scripts limit place part → 1 ≤ limit → ArePlain scripts → AreLooking scripts → BodyNeeds part world (made_pass world place)
  needs-made place (Caller body) is some plain looks = (
    record {
      plain = found-all (is_script_of body.script.now.caller) HasPlainLines scripts body.script.now plain is.1;
      looks = found-all (is_script_of body.script.now.caller) HasLookingLines scripts body.script.now looks is.1;
      blocks = subst (λ (n : ℕ). 1 ≤ n) (sym is.0) some;
    },
    record { table = (refl, refl); free = λ i. refl; caller = is.2; fresh = refl },
    is.3,
  )
  needs-made place (Worker turns) is some plain looks = ((refl, refl), λ i. refl, (place, refl, omega arith))

  needs : (place : ℕ) (task : Task ThreadBody) → IsReady world scripts limit place task → 1 ≤ limit → ArePlain scripts → AreLooking scripts → BodyNeeds task.body world task.pass
  needs place task ready some plain looks = subst (BodyNeeds task.body world) (sym ready.0) (needs-made place task.body ready.1 some plain looks)

  pub all-need : (tasks : List (Task ThreadBody)) → EachAt (IsReady world scripts limit) tasks → 1 ≤ limit → ArePlain scripts → AreLooking scripts → All (λ (t : Task ThreadBody). BodyNeeds t.body world t.pass) tasks
  all-need tasks ready some plain looks = λ k d less. needs k (get_or tasks k d) (ready k (get_or tasks k d) (slice_get-get_or tasks k d less)) some plain looks

  -- what a caller's part has come to
  ran-caller : (place : ℕ) (body next : ScriptBody) (q : PassValue Start Event) → IsBodyOf world scripts limit place (Caller body) → next.script ≡ body.script → HasRunScript body.script.now body.limit next.outcome (made_pass world place) q
      → (q.known.party ≡ Some place) × (q.known.start ≡ Some world.start) × HasRunCaller world scripts limit next (made_pass world place).known q.known
  ran-caller place body next q is same has =
      let run = has.run world.start refl in
      let goes_on = run.2.goes_on in
      let limited = subst (λ (n : ℕ). HasRun world.start.shape body.script.now.caller body.script.now.lines n run.0 (made_pass world place).known q.known) is.0 run.2 in
      let script = ap (λ (s : _). s.now) same in (
        goes_on.party,
        goes_on.start,
        record {
          is_script = subst (λ (s : Script). find (is_script_of s.caller) scripts ≡ Some s) (sym script) is.1;
          caller = subst (λ (s : Script). IsPassOf world.start.shape s.caller q.known) (sym script) (is.2.0, goes_on.party ∙ is.2.1);
          told = run.0;
          is_told = run.1;
          run = subst (λ (s : Script). HasRun world.start.shape s.caller s.lines limit run.0 (made_pass world place).known q.known) (sym script) limited;
        },
      )

  ran-made : (place : ℕ) (part next : ThreadBody) (q : PassValue Start Event) → IsBodyOf world scripts limit place part → BodyDid part (made_pass world place) next q
      → (q.table ≡ world.table) × (q.known.start ≡ Some world.start) × (q.known.party ≡ Some place) × HoldsNone q.known × HasRunThreadBody world scripts limit place next q.known
  ran-made place (Caller body) (Caller next) q is did = (let has = ran-caller place body next q is did.0 did.2 in (did.2.table, has.1, has.0, did.2.free, has.2))
  ran-made place (Caller body) (Worker turns) q is did = absurd did
  ran-made place (Worker turns) (Caller next) q is did = absurd did
  ran-made place (Worker turns) (Worker now) q is did =
      let turned = did.turned world.start refl in
      (did.table, did.goes_on.start, did.goes_on.party, did.free, record { worker = turns; place_is = is; none_left = did.none_left world.start refl; mine = did.goes_on.mine; next = turned.0; turned = turned.1 })

  ran : (place : ℕ) (task next : Task ThreadBody) → IsReady world scripts limit place task → BodyDid task.body task.pass next.body next.pass → HasRunTask world scripts limit place next
  ran place task next ready did =
      let has = ran-made place task.body next.body next.pass ready.1 (subst (λ (p : PassValue Start Event). BodyDid task.body p next.body next.pass) ready.0 did) in
      record { table = has.0; start = has.1; party = has.2; free = has.3; part = has.4 }

  pub all-ran : (old new : List (Task ThreadBody)) → EachAt (IsReady world scripts limit) old → HaveAllRun old new → EachAt (HasRunTask world scripts limit) new
  all-ran old new ready all place task at = (let did = all place task at in ran place did.0 task (ready place did.0 did.1) did.2)

  -- the part of the caller whose script was found
  pub caller-body : (place : ℕ) (c : CallerId) (script : Script) (pass : PassValue Start Event) → pass ≡ made_pass world place → IsPassOf world.start.shape c pass.known → find (is_script_of c) scripts ≡ Some script
      → (find (is_script_of script.caller) scripts ≡ Some script) × IsPassOf world.start.shape script.caller (made_pass world place).known
  caller-body place c script pass made is found =
      let same = only-itself c.rank c.thread script.caller (found-is (is_script_of c) scripts script found) in
      let one : script.caller ≡ c = same-caller script.caller c same.0 same.1 in (
        subst (λ (d : CallerId). find (is_script_of d) scripts ≡ Some script) (sym one) found,
        subst (λ (d : CallerId). IsPassOf world.start.shape d (made_pass world place).known) (sym one) (subst (λ (p : PassValue Start Event). IsPassOf world.start.shape c p.known) made is),
      )

  -- a caller that is declared has a script
  pub has-script : (c : CallerId) → AreScriptsOf world.start.shape scripts → list_any (is_caller c.rank c.thread) world.start.shape.callers ≡ true → find (is_script_of c) scripts ≡ None → ⊥
  has-script c are there none =
      let absent = found-any (is_script_of c) scripts none in
      let same = any-map (λ (s : Script). s.caller) (is_caller c.rank c.thread) scripts in
      let wrong : ◌≡◌ {A = Bool} true false = sym there ∙ (ap (list_any (is_caller c.rank c.thread)) (sym are) ∙ (same ∙ absent)) in
      let never : ⊥ = cc in
      never

-- a fact of each item of a list and its place, and of one more
pub each-more : {A : Type 0} (P : ℕ → A → Type 0) (xs : List A) (x : A) → EachAt P xs → P (length xs) x → EachAt P (xs ++ x ∷ [])
each-more P [] x all last zero y at = (let same : x ≡ y = cc in subst (P 0) same last)
each-more P [] x all last (suc k) y at = absurd (let never : ⊥ = cc in never)
each-more P (z ∷ xs) x all last zero y at = all 0 y at
each-more {A} P (z ∷ xs) x all last (suc k) y at = each-more (λ (n : ℕ) (a : A). P (suc n) a) xs x (λ j b there. all (suc j) b there) last k y at

-- what stands in the front of a list that was cut there
pub front-at : {A : Type 0} (n : ℕ) (front rest : List A) (place : ℕ) (x : A) → n ≡ length front → slice_get (take n (front ++ rest)) place ≡ Some x → slice_get front place ≡ Some x
front-at {A} n front rest place x many at =
    let whole : take n (front ++ rest) ≡ front = ap (λ (m : ℕ). take m (front ++ rest)) many ∙ take-append_seam front rest in
    sym (ap (λ (xs : List A). slice_get xs place) whole) ∙ at

-- one item more
take-one : {A : Type 0} (xs : List A) (i : ℕ) (x : A) → i < length xs → x ≡ get_or xs i x → take (i + 1) xs ≡ take i xs ++ x ∷ []
take-one xs i x less is = take_more xs i x less ∙ ap (λ (y : _). take i xs ++ y ∷ []) (sym is)

-- the outcomes of one task more
pub finished-more : (tasks : List (Task ThreadBody)) (i : ℕ) (task : Task ThreadBody) (had next : List EndedCaller) → i < length tasks → task ≡ get_or tasks i task → had ≡ ended_callers (take i tasks) → next ≡ had ++ ended_caller task.body → next ≡ ended_callers (take (i + 1) tasks)
finished-more tasks i task had next less is before more =
    more ∙ (ap (λ (fs : List EndedCaller). fs ++ ended_caller task.body) before
    ∙ (ap (λ (fs : List EndedCaller). ended_callers (take i tasks) ++ fs) (sym (append-nil (ended_caller task.body)))
    ∙ (sym (flat_map-append (λ (t : Task ThreadBody). ended_caller t.body) (take i tasks) (task ∷ []))
    ∙ ap (λ (ts : List (Task ThreadBody)). ended_callers ts) (sym (take-one tasks i task less is)))))

pub told-more : (tasks : List (Task ThreadBody)) (i : ℕ) (task : Task ThreadBody) → i < length tasks → task ≡ get_or tasks i task → All (λ (t : Task ThreadBody). IsDone t.body) (take i tasks) → IsDone task.body → All (λ (t : Task ThreadBody). IsDone t.body) (take (i + 1) tasks)
told-more tasks i task less is before told =
    subst (All (λ (t : Task ThreadBody). IsDone t.body)) (sym (take-one tasks i task less is))
    (All-append (λ (t : Task ThreadBody). IsDone t.body) (take i tasks) (task ∷ []) before (All-cons (λ (t : Task ThreadBody). IsDone t.body) task [] told (All-nil (λ (t : Task ThreadBody). IsDone t.body))))
