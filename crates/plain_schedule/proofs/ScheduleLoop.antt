-- The loop of the schedule.
use Rattle.std.proofs.Common.{◌≡◌, ℕ, suc, ◌+◌, ◌<◌, ◌≤◌, Bool, true, false, ◌&&◌, ◌==◌, List, [], ◌∷◌, length, map, cond, count_by, Some, Ok, inl, inr, refl, sym, ap, ◌∙◌, subst, arith}
use Rattle.std.specs.Prelude.{MatchBool}
use Rattle.std.specs.List.{slice_get, list_any}
use Rattle.std.proofs.lemmas.Bool.{eqb-true}
use Rattle.std.proofs.lemmas.List.Sums.{sum_by-cons}
use Rattle.gaspi_types.specs.World.{ShapeValue, IsShape, is_caller}
use Rattle.gaspi_types.specs.declared.shapes.CallerId.{CallerId}
use Rattle.gaspi_types.specs.declared.calls.Call.{Call}
use Rattle.gaspi_types.specs.declared.calls.Call.TheVariants.{End}
use Rattle.gaspi_types.specs.declared.replies.Reply.{Reply}
use Rattle.gaspi_types.specs.declared.replies.Reply.TheVariants as replies
use Rattle.gaspi_types.specs.declared.events.Event.{Event}
use Rattle.gaspi_texts.specs.JournalText.{HaveOwnValues}
use Rattle.gaspi_model.specs.State.{opening}
use Rattle.gaspi_model.specs.Sound.{IsSound}
use Rattle.gaspi_model.specs.Settled.{AreLanesEmpty}
use Rattle.gaspi_model.specs.Transfers.{transfers}
use Rattle.gaspi_model.specs.Step.{reached, recorded_calls, is_active, is_legal}
use Rattle.gaspi_model.specs.declared.states.State.{State}
use Rattle.rank_script.specs.PlainScripts.{ArePlain}
use Rattle.rank_script.specs.Runs.{is_stuck, is_retried, is_failed, end_pair, IsRunFrom, IsRun}
use Rattle.rank_script.specs.WorldText.{AreScriptsOf}
use Rattle.rank_script.specs.declared.scripts.Script.{Script}
use Rattle.rank_script.specs.declared.scripts.ScriptLine.{ScriptLine}
use Rattle.rank_script.specs.declared.scripts.RunOutcome.{RunOutcome}
use Rattle.plain_schedule.specs.Endings.{HasSettled, HaveEnded}
use Rattle.plain_schedule.specs.Schedule.{started, iterate, iterations, candidates, AreActive}
use Rattle.plain_schedule.specs.declared.schedule_states.EndedCaller.{EndedCaller}
use Rattle.plain_schedule.specs.declared.schedule_states.ActiveCaller.{ActiveCaller}
use Rattle.plain_schedule.specs.declared.schedule_states.ScheduleState.{ScheduleState}
use Rattle.plain_schedule.proofs.Work.{work, iteration-less, Counts, TransfersAreSteps, WorkLaws}
use Rattle.plain_schedule.proofs.Good.{IsGood, Steps, LimitsStay, good-iterations, iterations-more}
use Rattle.plain_schedule.proofs.Running.{IsRunning}
use Rattle.plain_schedule.proofs.Iterations.{ActiveStays, Onward}
use Rattle.plain_schedule.proofs.RunningEnds.{EndsRun, StopsRun}
use Rattle.plain_schedule.proofs.RunningAll.{Laws, CallsAreSteps, JoinLaws, running-iterations}
use Rattle.plain_schedule.proofs.Started.{good-started, running-started, count-map}

-- the schedule has come to where some number of iterations leads
pub record HasTurned (w : ShapeValue) (scripts : List Script) (seed limit : ℕ) (t : ScheduleState) : Type 0 where
  pub count : ℕ
  pub is : t ≡ iterations limit count (started w scripts seed)

-- what is known of the scripts and the world, with the laws
pub record Known (w : ShapeValue) (scripts : List Script) : Type 0 where
  pub laws : Laws
  pub counts : Counts
  pub transfers : TransfersAreSteps
  pub opens : (v : ShapeValue) → IsShape v → IsSound (opening v)
  pub world : IsShape w
  pub are : AreScriptsOf w scripts
  pub plain : ArePlain scripts

pub laws : Steps → LimitsStay → ActiveStays → CallsAreSteps → JoinLaws → Onward → EndsRun → StopsRun → Laws
laws steps stay active calls joins onward ends stops = record {
  steps = steps;
  stay = stay;
  active = active;
  calls = calls;
  joins = joins;
  onward = onward;
  ends = ends;
  stops = stops;
}

pub known : (w : ShapeValue) (scripts : List Script) → Laws → Counts → TransfersAreSteps → ((v : ShapeValue) → IsShape v → IsSound (opening v)) → IsShape w → AreScriptsOf w scripts → ArePlain scripts → Known w scripts
known w scripts l counts transfers opens world are plain = record {
  laws = l;
  counts = counts;
  transfers = transfers;
  opens = opens;
  world = world;
  are = are;
  plain = plain;
}

pub iterated-good : (w : ShapeValue) (scripts : List Script) (seed limit : ℕ) (t : ScheduleState) → Known w scripts → HasTurned w scripts seed limit t → IsGood w t
iterated-good w scripts seed limit t k h =
    subst (λ (u : ScheduleState). IsGood w u) (sym h.is) (good-iterations k.laws.steps k.laws.stay limit h.count w (started w scripts seed) (good-started k.opens w scripts seed k.world k.are))

pub iterated-running : (w : ShapeValue) (scripts : List Script) (seed limit : ℕ) (t : ScheduleState) → Known w scripts → HasTurned w scripts seed limit t → IsRunning w scripts t
iterated-running w scripts seed limit t k h =
    subst (λ (u : ScheduleState). IsRunning w scripts u) (sym h.is)
    (running-iterations k.laws limit h.count w scripts (started w scripts seed) k.plain (good-started k.opens w scripts seed k.world k.are) (running-started w scripts seed k.world k.are))

pub iterated-active : (w : ShapeValue) (scripts : List Script) (seed limit : ℕ) (t : ScheduleState) → Known w scripts → HasTurned w scripts seed limit t → AreActive t
iterated-active w scripts seed limit t k h place x at = (iterated-running w scripts seed limit t k h).active place x at

pub iterated-own : (w : ShapeValue) (scripts : List Script) (seed limit : ℕ) (t : ScheduleState) → Known w scripts → HasTurned w scripts seed limit t → HaveOwnValues t.journal
iterated-own w scripts seed limit t k h = (iterated-good w scripts seed limit t k h).own

pub iterated-less : (w : ShapeValue) (scripts : List Script) (seed limit : ℕ) (t : ScheduleState) → Known w scripts → HasTurned w scripts seed limit t → 0 < candidates t → work limit (iterate limit t) < work limit t
iterated-less w scripts seed limit t k h some =
    let good = iterated-good w scripts seed limit t k h in
    let w-laws : WorkLaws = record { counts = k.counts; transfers = k.transfers; joins = k.laws.joins.steps; steps = k.laws.steps } in
    iteration-less w-laws limit t good.sound
    (λ place x at. subst (λ (l : Rattle.gaspi_types.specs.declared.shapes.Limits.Limits). x.caller.rank < l.ranks) (sym good.limits) (good.ranked place x at)) (iterated-active w scripts seed limit t k h) some

pub iterated-more : (w : ShapeValue) (scripts : List Script) (seed limit : ℕ) (t u : ScheduleState) → HasTurned w scripts seed limit t → u ≡ iterate limit t → HasTurned w scripts seed limit u
iterated-more w scripts seed limit t u h is = record {
  count = suc h.count;
  is = is ∙ ap (λ (x : ScheduleState). iterate limit x) h.is ∙ sym (iterations-more limit h.count (started w scripts seed));
}

-- At the end.

pub over-legal : (w : ShapeValue) (scripts : List Script) (seed limit : ℕ) (t : ScheduleState) → Known w scripts → HasTurned w scripts seed limit t → is_legal w t.journal ≡ true
over-legal w scripts seed limit t k h = rw (iterated-good w scripts seed limit t k h).legal refl

pub over-ended : (w : ShapeValue) (scripts : List Script) (seed limit : ℕ) (t : ScheduleState) → Known w scripts → HasTurned w scripts seed limit t → candidates t ≡ 0 → HaveEnded w scripts t.journal t.ended
over-ended w scripts seed limit t k h over =
    let running = iterated-running w scripts seed limit t k h in
    record {
      each = running.ended;
      once = λ rank thread. (let all = running.counted rank thread in let none = no-count t.active rank thread (let none : length t.active ≡ 0 = omega arith in none) in omega arith);
    }
  where
    no-count : (ws : List ActiveCaller) (rank thread : ℕ) → length ws ≡ 0 → Rattle.plain_schedule.proofs.Running.active_count rank thread ws ≡ 0
    no-count [] rank thread none = refl
    no-count (y ∷ ws) rank thread none = absurd (omega arith)

-- At the end every caller has ended, and nothing is on its way.

-- what the machine's laws say of ends
pub record EndLaws : Type 0 where
  pub empties : (s : State) → IsSound s → transfers s.limits s.posts ≡ [] → AreLanesEmpty s
  pub endings : (w : ShapeValue) (history : List Event) (s : State) (rank thread : ℕ) → reached w history ≡ Ok s → is_active s rank thread ≡ true
      → (list_any (is_caller rank thread) w.callers ≡ true) × ((k : ℕ) (reply : Reply) → slice_get (recorded_calls rank thread history) k ≡ Some (End, reply) → ⊥)

-- what a whole run has among its pairs
abbrev HasEndAt : List (Call × Reply) → Type 0
HasEndAt pairs = (k : ℕ) × (slice_get pairs k ≡ Some (End, replies.Done))

end-first : (pairs : List (Call × Reply)) → pairs ≡ end_pair → HasEndAt pairs
end-first pairs is = (0, ap (λ (ps : List (Call × Reply)). slice_get ps 0) is)

-- of what may follow a reply, the case that comes has the end
end-after : (stuck repeated failed : Bool) (pairs : List (Call × Reply)) (Stuck Failed Again Later : Type 0) → (Again → HasEndAt pairs) → (Later → HasEndAt pairs)
    → MatchBool stuck ((pairs ≡ end_pair) × Stuck) (MatchBool repeated Again (MatchBool failed ((pairs ≡ end_pair) × Failed) Later)) → HasEndAt pairs
end-after true repeated failed pairs Stuck Failed Again Later again later h = end-first pairs h.0
end-after false true failed pairs Stuck Failed Again Later again later h = again h
end-after false false true pairs Stuck Failed Again Later again later h = end-first pairs h.0
end-after false false false pairs Stuck Failed Again Later again later h = later h

-- a run has the end among its pairs
run-has-end : (tried : ℕ) (lines : List ScriptLine) (pairs : List (Call × Reply)) (outcome : RunOutcome) → IsRunFrom tried lines pairs outcome → HasEndAt pairs
run-has-end tried [] pairs outcome h = end-first pairs h.0
run-has-end tried (line ∷ lines) [] outcome h = absurd h
run-has-end tried (line ∷ lines) (pair ∷ pairs) outcome (inl h) = end-first (pair ∷ pairs) h.0
run-has-end tried (line ∷ lines) (pair ∷ pairs) outcome (inr h) =
    let found = end-after (is_stuck line pair.1) (is_retried line tried pair.1) (is_failed line pair.1) pairs _ _ _ _ (run-has-end (tried + 1) (line ∷ lines) pairs outcome) (run-has-end 0 lines pairs outcome) h.1 in
    (suc found.0, found.1)

run-ends : (lines : List ScriptLine) (pairs : List (Call × Reply)) (outcome : RunOutcome) → IsRun lines pairs outcome → (k : ℕ) × (slice_get pairs k ≡ Some (End, replies.Done))
run-ends lines pairs outcome h = run-has-end 0 lines pairs outcome h

-- what is counted is there
counted-there : {A : Type 0} (p : A → Bool) (xs : List A) → 1 ≤ count_by p xs → (k : ℕ) × (x : A) × (slice_get xs k ≡ Some x) × (p x ≡ true)
counted-there p [] some = absurd (omega arith)
counted-there {A} p (x ∷ xs) some = go (p x) refl (λ h. counted-there p xs h)
  where
    go : (b : Bool) → p x ≡ b → (1 ≤ count_by p xs → (k : ℕ) × (y : A) × (slice_get xs k ≡ Some y) × (p y ≡ true)) → (k : ℕ) × (y : A) × (slice_get (x ∷ xs) k ≡ Some y) × (p y ≡ true)
    go true is later = (0, x, refl, is)
    go false is later =
        let none : cond {A = ℕ} (p x) 1 0 ≡ 0 = ap (λ (b : Bool). cond {A = ℕ} b 1 0) is in
        let sum = sum_by-cons (λ (y : A). cond (p y) 1 0) x xs in
        let rest = later (omega arith) in
        (suc rest.0, rest.1, rest.2, rest.3)

-- what is there is counted
any-counted : {A : Type 0} (p : A → Bool) (xs : List A) → list_any p xs ≡ true → 1 ≤ count_by p xs
any-counted p [] h = absurd (let no : ⊥ = cc in no)
any-counted {A} p (x ∷ xs) h = go (p x) refl (λ r. any-counted p xs r)
  where
    go : (b : Bool) → p x ≡ b → (list_any p xs ≡ true → 1 ≤ count_by p xs) → 1 ≤ count_by p (x ∷ xs)
    go true is later =
        let one : cond {A = ℕ} (p x) 1 0 ≡ 1 = ap (λ (b : Bool). cond {A = ℕ} b 1 0) is in
        let sum = sum_by-cons (λ (y : A). cond (p y) 1 0) x xs in
        omega arith
    go false is later =
        let rest = later (rw is at h) in
        let sum = sum_by-cons (λ (y : A). cond (p y) 1 0) x xs in
        omega arith

both-true : (a b : Bool) → (a && b) ≡ true → (a ≡ true) × (b ≡ true)
both-true true b h = (refl, h)
both-true false b h = absurd (let no : ⊥ = cc in no)

none-active : (w : ShapeValue) (scripts : List Script) (journal : List Event) (finished : List EndedCaller) (s : State) (rank thread : ℕ) → EndLaws → AreScriptsOf w scripts → reached w journal ≡ Ok s
    → HaveEnded w scripts journal finished → is_active s rank thread ≡ false
none-active w scripts journal finished s rank thread l are leads ended = go (is_active s rank thread) refl
  where
    go : (b : Bool) → is_active s rank thread ≡ b → is_active s rank thread ≡ false
    go false is = is
    go true is =
        let law = l.endings w journal s rank thread leads is in
        let callers = any-counted (is_caller rank thread) w.callers law.0 in
        let mapped : count_by (is_caller rank thread) (map (λ (x : Script). x.caller) scripts) ≡ count_by (is_caller rank thread) w.callers = ap (λ (cs : List CallerId). count_by (is_caller rank thread) cs) are in
        let same = count-map (is_caller rank thread) (λ (x : Script). x.caller) scripts in
        let once = ended.once rank thread in
        let there = counted-there (λ (f : EndedCaller). is_caller rank thread f.caller) finished (omega arith) in
        let f = there.1 in
        let mine = both-true (f.caller.rank == rank) (f.caller.thread == thread) there.3 in
        let run = (ended.each there.0 f there.2).run in
        let end = run-ends (ended.each there.0 f there.2).script.lines (recorded_calls f.caller.rank f.caller.thread journal) f.outcome run in
        let here : slice_get (recorded_calls rank thread journal) end.0 ≡ Some (End, replies.Done) =
        subst (λ (n : ℕ). slice_get (recorded_calls rank n journal) end.0 ≡ Some (End, replies.Done)) (eqb-true f.caller.thread thread mine.1)
        (subst (λ (n : ℕ). slice_get (recorded_calls n f.caller.thread journal) end.0 ≡ Some (End, replies.Done)) (eqb-true f.caller.rank rank mine.0) end.1) in
        absurd (law.1 end.0 replies.Done here)

no-items : {A : Type 0} (xs : List A) → length xs ≡ 0 → xs ≡ []
no-items [] h = refl
no-items (x ∷ xs) h = absurd (omega arith)

pub over-settled : (w : ShapeValue) (scripts : List Script) (seed limit : ℕ) (t : ScheduleState) → Known w scripts → EndLaws → HasTurned w scripts seed limit t → candidates t ≡ 0 → HasSettled w t.journal
over-settled w scripts seed limit t k l h over =
    let good = iterated-good w scripts seed limit t k h in
    record {
      state = t.state;
      leads = good.legal;
      settled = record {
        callers = λ rank thread. none-active w scripts t.journal t.ended t.state rank thread l k.are good.legal (over-ended w scripts seed limit t k h over);
        lanes = l.empties t.state good.sound (no-items (transfers t.state.limits t.state.posts) (omega arith));
      };
    }

pub end_laws : ((s : State) → IsSound s → transfers s.limits s.posts ≡ [] → AreLanesEmpty s)
    → ((w : ShapeValue) (history : List Event) (s : State) (rank thread : ℕ) → reached w history ≡ Ok s → is_active s rank thread ≡ true
    → (list_any (is_caller rank thread) w.callers ≡ true) × ((k : ℕ) (reply : Reply) → slice_get (recorded_calls rank thread history) k ≡ Some (End, reply) → ⊥)) → EndLaws
end_laws empties endings = record { empties = empties; endings = endings }
