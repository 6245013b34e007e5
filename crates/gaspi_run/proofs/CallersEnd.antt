-- How a caller whose part has run ended, told by the journal of its world.
use Rattle.std.proofs.Common.{◌≡◌, ℕ, ◌+◌, ◌<◌, Bool, true, false, not, List, ◌++◌, Option, None, Some, Ok, inl, inr, refl, sym, ap, ◌∙◌, subst, arith, append_assoc}
use Rattle.std.specs.List.{slice_get}
use Rattle.std.proofs.lemmas.Bool.{ltb-true}
use mathlib.Core.List.{IsPrefix}
use Rattle.gaspi_types.specs.CallRows.{need_of}
use Rattle.gaspi_types.specs.World.{ShapeValue}
use Rattle.gaspi_types.specs.declared.calls.Call.{Call}
use Rattle.gaspi_types.specs.declared.calls.Call.TheVariants.{End}
use Rattle.gaspi_types.specs.declared.events.Event.{Event}
use Rattle.gaspi_types.specs.declared.shapes.CallerId.{CallerId}
use Rattle.gaspi_model.specs.State.{opening}
use Rattle.gaspi_model.specs.Step.{recorded_calls, reached, is_legal, is_active, is_pending, used_room, lacks_room_in}
use Rattle.gaspi_model.specs.declared.states.State.{State}
use Rattle.gaspi_model.proofs.Histories.{leads, prefix, after-limits}
use Rattle.commit_table.specs.declared.views.PassView.{PassView}
use Rattle.rank_script.specs.Runs.{IsStopped}
use Rattle.rank_script.specs.declared.scripts.RunOutcome.{RunOutcome}
use Rattle.rank_script.specs.declared.scripts.RunOutcome.TheVariants as outcomes
use Rattle.rank_script.specs.declared.scripts.ScriptLine.{ScriptLine}
use Rattle.gaspi_model.specs.CallerEvents.{events_of}
use Rattle.gaspi_run.specs.Runs.{LackedRoom as HadNone, HasCause, IsStoppedBefore as WasStoppedBefore}
use Rattle.gaspi_run.proofs.CallsOfEvents.{own-events}
use Rattle.plain_schedule.specs.Endings.{own_events, IsStoppedBefore, LackedRoom, HasLimitCause}
use Rattle.gaspi_run.specs.ThreadBodies.{is_not_out_of_memory}
use Rattle.gaspi_run.proofs.RunLines.{line-there, need-plain}

-- a caller's own events are those of its rank and thread
pub own-is : (c : CallerId) (history : List Event) → own_events c.rank c.thread history ≡ events_of c history
own-is c history = refl

module _ (w : ShapeValue) (c : CallerId) (lines : List ScriptLine) (journal : List Event) (legal : is_legal w journal ≡ true) where
  module _ {S : Type 0} (v n : PassView S Event) (seen : IsPrefix n.seen journal) (done : events_of c journal ≡ n.mine) where
    -- the journal has the calls of the caller that its pass made
    pub own-calls : recorded_calls c.rank c.thread n.mine ≡ recorded_calls c.rank c.thread journal
    own-calls = ap (recorded_calls c.rank c.thread) (sym done) ∙ own-events c journal

    -- where there was no room for a line, there was none in the journal
    no-room : ((k : ℕ) (line : ScriptLine) → slice_get lines k ≡ Some line → line.call ≡ End → ⊥) → (number : ℕ) → HadNone w c lines number n
        → (place : ℕ) × (line : ScriptLine) × (slice_get lines place ≡ Some line) × (line.number ≡ number) × LackedRoom w journal c line
    no-room plain number had =
        let at = line-there lines (recorded_calls c.rank c.thread had.history) had.line had.made had.later had.follows in
        let later = had.begins.0 ++ seen.0 in
        let begins : had.history ++ later ≡ journal = begins-is in
        let state = leads (reached w had.history) (prefix w had.history later (subst (λ (h : List Event). is_legal w h ≡ true) (sym begins) legal)) in (
          at.0,
          had.line,
          at.1,
          had.is_line,
          record {
            before = had.history;
            later = later;
            begins = begins;
            events = had.events ∙ sym done;
            state = state.0;
            leads = state.1;
            full = full state.0 state.1 (plain at.0 had.line at.1);
          },
        )
      where
        begins-is : had.history ++ (had.begins.0 ++ seen.0) ≡ journal
        begins-is = sym (append_assoc had.history had.begins.0 seen.0) ∙ (ap (λ (h : List Event). h ++ seen.0) had.begins.1 ∙ seen.1)

        full : (s : State) → reached w had.history ≡ Ok s → (had.line.call ≡ End → ⊥) → w.limits.events < used_room s c.rank + need_of had.line.call (is_pending s c.rank c.thread had.line.call) false
        full s is no_end =
            let now : lacks_room_in s c had.line.call ≡ true = rw is at had.full in
            let over = ltb-true s.limits.events (used_room s c.rank + need_of had.line.call (is_pending s c.rank c.thread had.line.call) (not (is_active s c.rank c.thread))) now in
            let same = need-plain had.line.call (is_pending s c.rank c.thread had.line.call) (not (is_active s c.rank c.thread)) false no_end in
            let limits : s.limits ≡ w.limits = after-limits (opening w) s had.history is in
            let events : s.limits.events ≡ w.limits.events = ap (λ (l : _). l.events) limits in
            omega arith

    module _ (plain : (k : ℕ) (line : ScriptLine) → slice_get lines k ≡ Some line → line.call ≡ End → ⊥) where
      pub limit-cause : (told : RunOutcome) → is_not_out_of_memory told ≡ true → HasCause w c lines told n → HasLimitCause w journal c lines told
      limit-cause outcomes.Ended good cause = tt
      limit-cause (outcomes.Failed number) good cause = tt
      limit-cause (outcomes.Stuck number) good cause = tt
      limit-cause (outcomes.Limit number) good cause = no-room plain number cause
      limit-cause (outcomes.NoMemory number) good cause = (let never : ⊥ = cc in never)

      pub stopped-before : (told : RunOutcome) → is_not_out_of_memory told ≡ true → (unmade : Option Call) → ((call : Call) → unmade ≡ Some call → WasStoppedBefore w c lines told n call) → IsStoppedBefore lines told unmade
      stopped-before told good None before = tt
      stopped-before told good (Some call) before =
          let was = before call refl in
          let at = line-there lines was.pairs was.line was.made was.later was.follows in
          (at.0, was.line, at.1, was.is_call, limit was.line.number was.is_stopped)
        where
          limit : (number : ℕ) → IsStopped number told → told ≡ outcomes.Limit number
          limit number (inl is) = is
          limit number (inr is) = absurd (let wrong : ◌≡◌ {A = Bool} false true = ap is_not_out_of_memory (sym is) ∙ good in let never : ⊥ = cc in never)
