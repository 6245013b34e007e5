-- What every iteration of the schedule keeps.
use Rattle.std.proofs.Common.{◌≡◌, ℕ, zero, suc, ◌+◌, ◌-◌, ◌<◌, Bool, true, false, List, [], ◌∷◌, ◌++◌, length, Option, None, Some, Result, Ok, Err, refl, sym, subst, ◌∙◌, nat_lt, nat_le, ◌==◌, remove, ◌⊎◌, inl, inr}
use Rattle.std.specs.List.{slice_get}
use Rattle.gaspi_types.specs.World.{ShapeValue}
use Rattle.gaspi_types.specs.declared.calls.Call.{Call}
use Rattle.gaspi_types.specs.declared.calls.Call.TheVariants.{End}
use Rattle.gaspi_types.specs.declared.replies.Reply.{Reply}
use Rattle.gaspi_types.specs.declared.replies.Reply.TheVariants as replies
use Rattle.gaspi_types.specs.declared.replies.Ready.{Ready}
use Rattle.gaspi_types.specs.declared.replies.Ready.TheVariants as ready
use Rattle.gaspi_types.specs.declared.events.Event.{Event}
use Rattle.gaspi_types.specs.declared.events.Event.TheVariants.{Called}
use Rattle.gaspi_types.specs.declared.events.Transfer.{Transfer}
use Rattle.gaspi_types.specs.declared.groups.Args.{Args}
use Rattle.gaspi_texts.specs.JournalText.{HaveOwnValues}
use Rattle.gaspi_model.specs.State.{opening}
use Rattle.gaspi_model.specs.Sound.{IsSound}
use Rattle.gaspi_model.specs.Step.{step, after, reached, transfer_event, answer_in, used_room}
use Rattle.gaspi_model.specs.Transfers.{transfers}
use Rattle.gaspi_model.specs.declared.states.State.{State}
use Rattle.gaspi_model.specs.declared.states.Why.{Why}
use Rattle.gaspi_types.proofs.Items.{slice_get-set, remove-part}
use Rattle.gaspi_model.specs.CollectiveCalls.{join_event}
use Rattle.rank_script.specs.Runs.{RunPosition, AtLine, RunEnded, advanced, stopped}
use Rattle.rank_script.specs.declared.scripts.RunStop.TheVariants as halts
use Rattle.rank_script.specs.declared.scripts.ScriptLine.{ScriptLine}
use Rattle.rank_script.specs.declared.scripts.RunOutcome.{RunOutcome}
use Rattle.rank_script.specs.Generator.{drawn}
use Rattle.plain_schedule.specs.Generator.{picked}
use Rattle.plain_schedule.specs.Endings.{present_need}
use Rattle.plain_schedule.specs.Schedule.{made, looks_of, with_active, recorded, looked, joined, joined_answered, joined_iteration, answered, active_iteration, end_iteration, run_iteration, candidate_iteration, candidates, with_draw, iterate, iterations}
use Rattle.plain_schedule.specs.declared.schedule_states.ActiveCaller.{ActiveCaller}
use Rattle.plain_schedule.specs.declared.schedule_states.ScheduleState.{ScheduleState}
use Rattle.plain_schedule.proofs.OwnValues.{own-more}

-- a history goes on by a step
pub after-more : (s t u : State) (history : List Event) (e : Event) → after s history ≡ Ok t → step t e ≡ Ok u → after s (history ++ e ∷ []) ≡ Ok u
after-more s t u [] e reached made = let same : s ≡ t = cc in rw same (rw made refl)
after-more s t u (x ∷ history) e reached made = go (step s x) refl (λ next is. after-more next t u history e is made)
  where
    go : (r : Result State Why) → step s x ≡ r → ((next : State) → after next history ≡ Ok t → after next (history ++ e ∷ []) ≡ Ok u) → after s ((x ∷ history) ++ e ∷ []) ≡ Ok u
    go (Ok next) is rest = rw is (rest next (rw is at reached))
    go (Err why) is rest = absurd (let none = rw is at reached in let no : ⊥ = cc in no)

-- where the schedule stands: its events lead to its state, which is sound, and its callers are of ranks that are there
pub record IsGood (w : ShapeValue) (t : ScheduleState) : Type 0 where
  pub legal : reached w t.journal ≡ Ok t.state
  pub sound : IsSound t.state
  pub limits : t.state.limits ≡ w.limits
  pub ranked : (place : ℕ) (x : ActiveCaller) → slice_get t.active place ≡ Some x → x.caller.rank < w.limits.ranks
  pub own : HaveOwnValues t.journal

-- what the machine's laws say
abbrev pub Steps : Type 0
Steps = (s t : State) (e : Event) → IsSound s → step s e ≡ Ok t → IsSound t

abbrev pub LimitsStay : Type 0
LimitsStay = (s t : State) (e : Event) → step s e ≡ Ok t → t.limits ≡ s.limits

pub good-made : Steps → LimitsStay → (w : ShapeValue) (t : ScheduleState) (e : Event) → IsGood w t → IsGood w (made t e)
good-made steps stay w t e good = go (step t.state e) refl
  where
    go : (r : Result State Why) → step t.state e ≡ r → IsGood w (made t e)
    go (Err why) is = rw is good
    go (Ok s) is = rw is (record {
      legal = after-more (opening w) t.state s t.journal e good.legal is;
      sound = steps t.state s e good.sound is;
      limits = stay t.state s e is ∙ good.limits;
      ranked = good.ranked;
      own = own-more t.state s t.journal e good.own is;
    })

-- an event that is made leaves those that wait
pub made-waiting : (t : ScheduleState) (e : Event) → (made t e).active ≡ t.active
made-waiting t e = go (step t.state e) refl
  where
    go : (r : Result State Why) → step t.state e ≡ r → (made t e).active ≡ t.active
    go (Err why) is = rw is refl
    go (Ok s) is = rw is refl

pub good-waiting : (w : ShapeValue) (t : ScheduleState) (place : ℕ) (x x' : ActiveCaller) → IsGood w t → slice_get t.active place ≡ Some x → x'.caller ≡ x.caller → IsGood w (with_active t place x')
good-waiting w t place x x' good at same = record {
  legal = good.legal;
  sound = good.sound;
  limits = good.limits;
  ranked = λ p y here. parts p y (slice_get-set t.active place p x' y here);
  own = good.own;
}
  where
    parts : (p : ℕ) (y : ActiveCaller) → ((p ≡ place) × (y ≡ x')) ⊎ (slice_get t.active p ≡ Some y) → y.caller.rank < w.limits.ranks
    parts p y (inl here) = rw (here.1, same) (good.ranked place x at)
    parts p y (inr there) = good.ranked p y there

good-recorded : Steps → LimitsStay → (w : ShapeValue) (t : ScheduleState) (place : ℕ) (x : ActiveCaller) (call : Call) (reply : Reply) → IsGood w t → slice_get t.active place ≡ Some x → IsGood w (recorded t place x call reply)
good-recorded steps stay w t place x call reply good at =
    let x' : ActiveCaller = record { caller = x.caller; cursor = advanced x.cursor reply; looks = 0 } in
    good-made steps stay w (with_active t place x') (Called x.caller call reply) (good-waiting w t place x x' good at refl)

good-looked : Steps → LimitsStay → (limit : ℕ) (w : ShapeValue) (t : ScheduleState) (place : ℕ) (x : ActiveCaller) (line : ScriptLine) → IsGood w t → slice_get t.active place ≡ Some x → IsGood w (looked limit t place x line)
good-looked steps stay limit w t place x line good at = go (nat_le (looks_of limit line.timeout) (x.looks + 1)) refl
  where
    go : (b : Bool) → nat_le (looks_of limit line.timeout) (x.looks + 1) ≡ b → IsGood w (looked limit t place x line)
    go true last = rw last (good-recorded steps stay w t place x line.call replies.Timeout good at)
    go false more =
        let x' : ActiveCaller = record { caller = x.caller; cursor = x.cursor; looks = x.looks + 1 } in
        rw more (good-waiting w t place x x' good at refl)

good-joined-answered : Steps → LimitsStay → (limit : ℕ) (w : ShapeValue) (t : ScheduleState) (place : ℕ) (x : ActiveCaller) (line : ScriptLine) (found : Option Ready) → IsGood w t → slice_get t.active place ≡ Some x → IsGood w (joined_answered limit t place x line found)
good-joined-answered steps stay limit w t place x line None good at = good
good-joined-answered steps stay limit w t place x line (Some (ready.Reply reply)) good at = good-recorded steps stay w t place x line.call reply good at
good-joined-answered steps stay limit w t place x line (Some (ready.Join args)) good at = good
good-joined-answered steps stay limit w t place x line (Some ready.NotReady) good at = good-looked steps stay limit w t place x line good at

good-joined-iteration : Steps → LimitsStay → (limit : ℕ) (w : ShapeValue) (t : ScheduleState) (place : ℕ) (x : ActiveCaller) (line : ScriptLine) (args : Args) → IsGood w t → slice_get t.active place ≡ Some x → IsGood w (joined_iteration limit (joined t x line args) place x line)
good-joined-iteration steps stay limit w t place x line args good at =
    let e = join_event x.caller line.call args in
    let t' = made t e in
    good-joined-answered steps stay limit w t' place x line (answer_in t'.state x.caller.rank x.caller.thread line.call) (good-made steps stay w t e good)
    (subst (λ (ws : List ActiveCaller). slice_get ws place ≡ Some x) (sym (made-waiting t e)) at)

good-answered : Steps → LimitsStay → (limit : ℕ) (w : ShapeValue) (t : ScheduleState) (place : ℕ) (x : ActiveCaller) (line : ScriptLine) (found : Option Ready) → IsGood w t → slice_get t.active place ≡ Some x → IsGood w (answered limit t place x line found)
good-answered steps stay limit w t place x line None good at = good
good-answered steps stay limit w t place x line (Some (ready.Reply reply)) good at = good-recorded steps stay w t place x line.call reply good at
good-answered steps stay limit w t place x line (Some (ready.Join args)) good at = good-joined-iteration steps stay limit w t place x line args good at
good-answered steps stay limit w t place x line (Some ready.NotReady) good at = good-looked steps stay limit w t place x line good at

good-going : Steps → LimitsStay → (limit : ℕ) (w : ShapeValue) (t : ScheduleState) (place : ℕ) (x : ActiveCaller) (line : ScriptLine) → IsGood w t → slice_get t.active place ≡ Some x → IsGood w (active_iteration limit t place x line)
good-going steps stay limit w t place x line good at = go (nat_lt t.state.limits.events (used_room t.state x.caller.rank + present_need t.state x.caller line)) refl
  where
    go : (b : Bool) → nat_lt t.state.limits.events (used_room t.state x.caller.rank + present_need t.state x.caller line) ≡ b → IsGood w (active_iteration limit t place x line)
    go true full =
        let x' : ActiveCaller = record { caller = x.caller; cursor = stopped x.cursor halts.Limit; looks = 0 } in
        rw full (good-waiting w t place x x' good at refl)
    go false room = rw room (good-answered steps stay limit w t place x line (answer_in t.state x.caller.rank x.caller.thread line.call) good at)

good-ending : Steps → LimitsStay → (w : ShapeValue) (t : ScheduleState) (place : ℕ) (x : ActiveCaller) (outcome : RunOutcome) → IsGood w t → IsGood w (end_iteration t place x outcome)
good-ending steps stay w t place x outcome good =
    let t' : ScheduleState = record t { active = remove t.active place; ended = t.ended ++ record { caller = x.caller; outcome = outcome } ∷ [] } in
    good-made steps stay w t' (Called x.caller End replies.Done) (record {
      legal = good.legal;
      sound = good.sound;
      limits = good.limits;
      ranked = λ p y here. (let was = remove-part t.active place p y here in good.ranked was.0 y was.1);
      own = good.own;
    })

good-progress : Steps → LimitsStay → (limit : ℕ) (w : ShapeValue) (t : ScheduleState) (place : ℕ) (x : ActiveCaller) (p : RunPosition) → IsGood w t → slice_get t.active place ≡ Some x → IsGood w (run_iteration limit t place x p)
good-progress steps stay limit w t place x (AtLine line tried lines) good at = good-going steps stay limit w t place x line good at
good-progress steps stay limit w t place x (RunEnded outcome) good at = good-ending steps stay w t place x outcome good

good-candidate : Steps → LimitsStay → (limit : ℕ) (w : ShapeValue) (t : ScheduleState) (candidate : ℕ) → IsGood w t → IsGood w (candidate_iteration limit t candidate)
good-candidate steps stay limit w t candidate good = of-caller (slice_get t.active candidate) refl
  where
    of-transfer : (o : Option Transfer) → slice_get t.active candidate ≡ None → slice_get (transfers t.state.limits t.state.posts) (candidate - length t.active) ≡ o → IsGood w (candidate_iteration limit t candidate)
    of-transfer None past none = rw (past, none) good
    of-transfer (Some transfer) past at = rw (past, at) (good-made steps stay w t (transfer_event t.state transfer) good)

    of-caller : (o : Option ActiveCaller) → slice_get t.active candidate ≡ o → IsGood w (candidate_iteration limit t candidate)
    of-caller (Some x) at = rw at (good-progress steps stay limit w t candidate x x.cursor good at)
    of-caller None past = of-transfer (slice_get (transfers t.state.limits t.state.posts) (candidate - length t.active)) past refl

pub good-iteration : Steps → LimitsStay → (limit : ℕ) (w : ShapeValue) (t : ScheduleState) → IsGood w t → IsGood w (iterate limit t)
good-iteration steps stay limit w t good = go (candidates t == 0) refl
  where
    draw : IsGood w (with_draw t)
    draw = record { legal = good.legal; sound = good.sound; limits = good.limits; ranked = good.ranked; own = good.own }

    go : (b : Bool) → (candidates t == 0) ≡ b → IsGood w (iterate limit t)
    go true over = rw over good
    go false some = rw some (good-candidate steps stay limit w (with_draw t) (picked (drawn t.x) (candidates t)) draw)

pub good-iterations : Steps → LimitsStay → (limit n : ℕ) (w : ShapeValue) (t : ScheduleState) → IsGood w t → IsGood w (iterations limit n t)
good-iterations steps stay limit zero w t good = good
good-iterations steps stay limit (suc n) w t good = good-iterations steps stay limit n w (iterate limit t) (good-iteration steps stay limit w t good)

-- one iteration more
pub iterations-more : (limit n : ℕ) (t : ScheduleState) → iterations limit (suc n) t ≡ iterate limit (iterations limit n t)
iterations-more limit zero t = refl
iterations-more limit (suc n) t = iterations-more limit n (iterate limit t)
