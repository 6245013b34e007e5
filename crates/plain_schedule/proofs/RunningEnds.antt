-- The end of a caller keeps that the callers' calls are runs of their scripts.
use Rattle.std.proofs.Common.{◌≡◌, ℕ, zero, suc, ◌+◌, Bool, true, false, List, [], ◌∷◌, ◌++◌, None, Some, Ok, refl, sym, ap, ◌∙◌, subst, arith, remove, ◌⊎◌, inl, inr, cond, count_by, if◌then◌else◌, append_assoc}
use Rattle.std.specs.List.{slice_get, sum_by}
use Rattle.std.proofs.lemmas.List.Sums.{sum_by-remove, sum_by_push}
use Rattle.std.proofs.lemmas.Option.{slice_get_within, get_or_from_slice_get}
use Rattle.gaspi_types.specs.World.{ShapeValue, is_caller}
use Rattle.gaspi_types.specs.declared.shapes.CallerId.{CallerId}
use Rattle.gaspi_types.specs.declared.calls.Call.{Call}
use Rattle.gaspi_types.specs.declared.calls.Call.TheVariants.{End}
use Rattle.gaspi_types.specs.declared.replies.Reply.{Reply}
use Rattle.gaspi_types.specs.declared.replies.Reply.TheVariants as replies
use Rattle.gaspi_types.specs.declared.events.Event.{Event}
use Rattle.gaspi_types.specs.declared.events.Event.TheVariants.{Called}
use Rattle.gaspi_model.specs.Sound.{IsSound}
use Rattle.gaspi_model.specs.Step.{step, recorded_calls, is_active, is_pending, ends_caller}
use Rattle.gaspi_model.specs.declared.states.State.{State}
use Rattle.gaspi_model.proofs.StaysPending.{pending-stays}
use Rattle.gaspi_types.proofs.Items.{append-parts}
use Rattle.rank_script.specs.Runs.{RunPosition, AtLine, RunEnded, at_first_line, advanced, is_stuck, is_retried, is_failed, Follows, IsRun, IsStopped, end_pair}
use Rattle.rank_script.specs.declared.scripts.Script.{Script}
use Rattle.rank_script.specs.declared.scripts.ScriptLine.{ScriptLine}
use Rattle.rank_script.specs.declared.scripts.RunOutcome.{RunOutcome}
use Rattle.rank_script.specs.declared.scripts.RunOutcome.TheVariants as outcomes
use Rattle.plain_schedule.specs.declared.schedule_states.EndedCaller.{EndedCaller}
use Rattle.plain_schedule.specs.Joins.{AreJoinsFollowed}
use Rattle.plain_schedule.specs.Endings.{own_events, HasLimitCause, HasEnded}
use Rattle.plain_schedule.specs.declared.schedule_states.ActiveCaller.{ActiveCaller}
use Rattle.plain_schedule.specs.declared.schedule_states.ScheduleState.{ScheduleState}
use Rattle.plain_schedule.proofs.JoinsFollowed.{AreFollowedSoFar, ends_joined, followed-at-end}
use Rattle.plain_schedule.proofs.Running.{IsRunning, Goes, HasCome, active_count, finished_count, present, line-there, come-more, ended-more, own_events-append, events-same, events-more, called-other}
use Rattle.plain_schedule.proofs.Iterations.{ActiveStays, apart-waiting, apart-finished, own-more}

abbrev pub EndsRun : Type 0
EndsRun = (lines : List ScriptLine) (pairs : List (Call × Reply)) (outcome : RunOutcome) → Follows (at_first_line lines) pairs (RunEnded outcome) → IsRun lines (pairs ++ end_pair) outcome

abbrev pub StopsRun : Type 0
StopsRun = (lines : List ScriptLine) (pairs : List (Call × Reply)) (line : ScriptLine) (tried : ℕ) (rest : List ScriptLine) (outcome : RunOutcome)
    → Follows (at_first_line lines) pairs (AtLine line tried rest) → IsStopped line.number outcome → IsRun lines (pairs ++ end_pair) outcome

-- what stands in a list with an item taken out stood in it, at another place
remove-apart : {A : Type 0} (xs : List A) (i j : ℕ) (y : A) → slice_get (remove xs i) j ≡ Some y → (k : ℕ) × (i ≡ k → ⊥) × (slice_get xs k ≡ Some y)
remove-apart [] zero j y at = absurd (let no : ⊥ = cc in no)
remove-apart [] (suc i) j y at = absurd (let no : ⊥ = cc in no)
remove-apart (x ∷ xs) zero j y at = (suc j, (λ e. omega (arith, e)), at)
remove-apart (x ∷ xs) (suc i) zero y at = (0, (λ e. omega (arith, e)), at)
remove-apart (x ∷ xs) (suc i) (suc j) y at = let rest = remove-apart xs i j y at in (suc rest.0, (λ e. rest.1 (omega (arith, e))), rest.2)

-- an outcome that no want of room leads to
IsFree : RunOutcome → Type 0
IsFree outcomes.Ended = Unit {0}
IsFree (outcomes.Failed number) = Unit {0}
IsFree (outcomes.Stuck number) = Unit {0}
IsFree (outcomes.Limit number) = ⊥
IsFree (outcomes.NoMemory number) = ⊥

-- a run that goes on, or that is over by itself
GoesFree : RunPosition → Type 0
GoesFree (RunEnded outcome) = IsFree outcome
GoesFree (AtLine line tried lines) = Unit {0}

free-cause : (w : ShapeValue) (journal : List Event) (c : CallerId) (all : List ScriptLine) (outcome : RunOutcome) → IsFree outcome → HasLimitCause w journal c all outcome
unfolding IsFree
free-cause w journal c all outcomes.Ended free = tt
free-cause w journal c all (outcomes.Failed number) free = tt
free-cause w journal c all (outcomes.Stuck number) free = tt
free-cause w journal c all (outcomes.Limit number) free = absurd free
free-cause w journal c all (outcomes.NoMemory number) free = absurd free

free-on : (lines : List ScriptLine) → GoesFree (at_first_line lines)
unfolding GoesFree IsFree
free-on [] = tt
free-on (line ∷ lines) = tt

free-advanced : (line : ScriptLine) (tried : ℕ) (lines : List ScriptLine) (reply : Reply) → GoesFree (advanced (AtLine line tried lines) reply)
unfolding GoesFree IsFree
free-advanced line tried lines reply = stuck-or (is_stuck line reply)
  where
    failed-or : (b : Bool) → GoesFree (if b then RunEnded (outcomes.Failed line.number) else at_first_line lines)
    failed-or true = tt
    failed-or false = free-on lines

    repeated-or : (b : Bool) → GoesFree (if b then AtLine line (tried + 1) lines else (if is_failed line reply then RunEnded (outcomes.Failed line.number) else at_first_line lines))
    repeated-or true = tt
    repeated-or false = failed-or (is_failed line reply)

    stuck-or : (b : Bool) → GoesFree (if b then RunEnded (outcomes.Stuck line.number) else (if is_retried line tried reply then AtLine line (tried + 1) lines
        else (if is_failed line reply then RunEnded (outcomes.Failed line.number) else at_first_line lines)))
    stuck-or true = tt
    stuck-or false = repeated-or (is_retried line tried reply)

-- a run that pairs alone led to its end was not stopped
free-end : (p : RunPosition) (pairs : List (Call × Reply)) (outcome : RunOutcome) → GoesFree p → Follows p pairs (RunEnded outcome) → IsFree outcome
unfolding GoesFree
free-end p [] outcome free follows = subst GoesFree (sym follows) free
free-end (RunEnded made) (pair ∷ pairs) outcome free follows = absurd follows
free-end (AtLine line tried lines) (pair ∷ pairs) outcome free follows =
    free-end (advanced (AtLine line tried lines) pair.1) pairs outcome (free-advanced line tried lines pair.1) follows.1

follows-cause : (w : ShapeValue) (journal : List Event) (c : CallerId) (all lines : List ScriptLine) (pairs : List (Call × Reply)) (outcome : RunOutcome) → Follows (at_first_line lines) pairs (RunEnded outcome) → HasLimitCause w journal c all outcome
follows-cause w journal c all lines pairs outcome follows =
    free-cause w journal c all outcome (free-end (at_first_line lines) pairs outcome (free-on lines) follows)

-- how a caller has ended
ended-of : EndsRun → StopsRun → (w : ShapeValue) (scripts : List Script) (journal : List Event) (x : ActiveCaller) (outcome : RunOutcome) → x.cursor ≡ RunEnded outcome → Goes w scripts journal x
    → HasEnded w scripts (journal ++ Called x.caller End replies.Done ∷ []) (record { caller = x.caller; outcome = outcome })
ended-of ends stops w scripts journal x outcome over g = by-come g.come
  where
    pairs-is : recorded_calls x.caller.rank x.caller.thread (journal ++ Called x.caller End replies.Done ∷ []) ≡ recorded_calls x.caller.rank x.caller.thread journal ++ end_pair
    pairs-is = own-more w journal x.caller End replies.Done

    events-is : own_events x.caller.rank x.caller.thread (journal ++ Called x.caller End replies.Done ∷ []) ≡ own_events x.caller.rank x.caller.thread journal ++ Called x.caller End replies.Done ∷ []
    events-is = own_events-append x.caller.rank x.caller.thread journal (Called x.caller End replies.Done ∷ []) ∙ ap (λ (es : List Event). own_events x.caller.rank x.caller.thread journal ++ es) (events-same x.caller End replies.Done)

    by-come : HasCome w journal x.caller g.script.lines x.cursor → HasEnded w scripts (journal ++ Called x.caller End replies.Done ∷ []) (record { caller = x.caller; outcome = outcome })
    by-come (inl f) =
        let follows = subst (λ (p : RunPosition). Follows (at_first_line g.script.lines) (recorded_calls x.caller.rank x.caller.thread journal) p) over f.0 in
        let so_far = subst (λ (p : RunPosition). AreFollowedSoFar (present p) (own_events x.caller.rank x.caller.thread journal)) over f.1 in
        record {
          script = g.script;
          is_script = g.is_script;
          run = subst (λ (ps : List (Call × Reply)). IsRun g.script.lines ps outcome) (sym pairs-is) (ends g.script.lines (recorded_calls x.caller.rank x.caller.thread journal) outcome follows);
          stopped = None;
          stopped_before = tt;
          joins = subst (λ (es : List Event). AreJoinsFollowed None es) (sym events-is) (followed-at-end None (own_events x.caller.rank x.caller.thread journal) x.caller replies.Done so_far);
          limit = follows-cause w (journal ++ Called x.caller End replies.Done ∷ []) x.caller g.script.lines g.script.lines (recorded_calls x.caller.rank x.caller.thread journal) outcome follows;
        }
    by-come (inr stopped) =
        let s = stopped.2 in
        let two : ◌≡◌ {A = RunPosition} (RunEnded outcome) (RunEnded stopped.0) = sym over ∙ stopped.1 in
        let same : outcome ≡ stopped.0 = cc in
        let limit : outcome ≡ outcomes.Limit s.line.number = same ∙ s.limit in
        let there = line-there g.script.lines (recorded_calls x.caller.rank x.caller.thread journal) s.line s.tried s.rest s.follows in
        let cause : HasLimitCause w (journal ++ Called x.caller End replies.Done ∷ []) x.caller g.script.lines (outcomes.Limit s.line.number) = (
          there.0,
          s.line,
          there.1,
          refl,
          record {
            before = s.before;
            later = s.later ++ Called x.caller End replies.Done ∷ [];
            begins = sym (append_assoc s.before s.later (Called x.caller End replies.Done ∷ [])) ∙ ap (λ (h : List Event). h ++ Called x.caller End replies.Done ∷ []) s.begins;
            events = ap (λ (es : List Event). es ++ Called x.caller End replies.Done ∷ []) s.events ∙ sym events-is;
            state = s.state;
            leads = s.leads;
            full = s.full;
          },
        ) in
        record {
          script = g.script;
          is_script = g.is_script;
          run = subst (λ (ps : List (Call × Reply)). IsRun g.script.lines ps outcome) (sym pairs-is)
              (stops g.script.lines (recorded_calls x.caller.rank x.caller.thread journal) s.line s.tried s.rest outcome s.follows (inl limit));
          stopped = Some s.line.call;
          stopped_before = (there.0, s.line, there.1, refl, limit);
          joins = subst (λ (es : List Event). AreJoinsFollowed (Some s.line.call) es) (sym events-is)
              (followed-at-end (Some s.line.call) (own_events x.caller.rank x.caller.thread journal) x.caller replies.Done s.joins);
          limit = subst (λ (o : RunOutcome). HasLimitCause w (journal ++ Called x.caller End replies.Done ∷ []) x.caller g.script.lines o) (sym limit) cause;
        }

-- the end of a caller, made
pub ending-step : ActiveStays → EndsRun → StopsRun → (w : ShapeValue) (scripts : List Script) (t : ScheduleState) (place : ℕ) (x : ActiveCaller) (outcome : RunOutcome) (s : State)
    → IsSound t.state → IsRunning w scripts t → slice_get t.active place ≡ Some x → x.cursor ≡ RunEnded outcome → step t.state (Called x.caller End replies.Done) ≡ Ok s
    → IsRunning w scripts (record t { state = s; active = remove t.active place; ended = t.ended ++ record { caller = x.caller; outcome = outcome } ∷ []; journal = t.journal ++ Called x.caller End replies.Done ∷ [] })
ending-step stays ends stops w scripts t place x outcome s sound running at over is = record {
  active = λ q y here. active-at y (remove-apart t.active place q y here);
  goes = λ q y here. goes-at y (remove-apart t.active place q y here);
  joined = λ q y line tried lines here going h. joined-at y line tried lines (remove-apart t.active place q y here) going h;
  ended = λ k f here. ended-at f (append-parts t.ended (record { caller = x.caller; outcome = outcome } ∷ []) k f here);
  counted = counts;
  once = running.once;
}
  where
    foreign : (rank thread : ℕ) → is_caller rank thread x.caller ≡ false → ends_caller rank thread (Called x.caller End replies.Done) ≡ false
    foreign rank thread apart = rw apart refl

    active-at : (y : ActiveCaller) → ((k : ℕ) × (place ≡ k → ⊥) × (slice_get t.active k ≡ Some y)) → is_active s y.caller.rank y.caller.thread ≡ true
    active-at y here =
        stays t.state s (Called x.caller End replies.Done) y.caller.rank y.caller.thread is (foreign y.caller.rank y.caller.thread (apart-waiting w scripts t place here.0 x y running at here.2 here.1))
        ∙ running.active here.0 y here.2

    goes-at : (y : ActiveCaller) → ((k : ℕ) × (place ≡ k → ⊥) × (slice_get t.active k ≡ Some y)) → Goes w scripts (t.journal ++ Called x.caller End replies.Done ∷ []) y
    goes-at y here =
        let g = running.goes here.0 y here.2 in
        record {
          script = g.script;
          is_script = g.is_script;
          come = come-more w t.journal (Called x.caller End replies.Done) y.caller g.script.lines y.cursor
              (called-other y.caller.rank y.caller.thread x.caller End replies.Done (apart-waiting w scripts t place here.0 x y running at here.2 here.1)) g.come;
        }

    joined-at : (y : ActiveCaller) (line : ScriptLine) (tried : ℕ) (lines : List ScriptLine) → ((k : ℕ) × (place ≡ k → ⊥) × (slice_get t.active k ≡ Some y)) → y.cursor ≡ AtLine line tried lines
        → ends_joined (own_events y.caller.rank y.caller.thread (t.journal ++ Called x.caller End replies.Done ∷ [])) ≡ true → is_pending s y.caller.rank y.caller.thread line.call ≡ true
    joined-at y line tried lines here going h =
        let none = called-other y.caller.rank y.caller.thread x.caller End replies.Done (apart-waiting w scripts t place here.0 x y running at here.2 here.1) in
        pending-stays t.state s (Called x.caller End replies.Done) y.caller.rank y.caller.thread line.call sound is none
        (running.joined here.0 y line tried lines here.2 going (subst (λ (es : List Event). ends_joined es ≡ true) (events-more y.caller t.journal (Called x.caller End replies.Done) none) h))

    new-at : (f : EndedCaller) (j : ℕ) → slice_get (record { caller = x.caller; outcome = outcome } ∷ []) j ≡ Some f → HasEnded w scripts (t.journal ++ Called x.caller End replies.Done ∷ []) f
    new-at f zero here =
        let same : ◌≡◌ {A = EndedCaller} (record { caller = x.caller; outcome = outcome }) f = cc in
        subst (λ (g : EndedCaller). HasEnded w scripts (t.journal ++ Called x.caller End replies.Done ∷ []) g) same (ended-of ends stops w scripts t.journal x outcome over (running.goes place x at))
    new-at f (suc j) here = absurd (let no : ⊥ = cc in no)

    ended-at : (f : EndedCaller) → ((j : ℕ) × (slice_get t.ended j ≡ Some f)) ⊎ ((j : ℕ) × (slice_get (record { caller = x.caller; outcome = outcome } ∷ []) j ≡ Some f)) → HasEnded w scripts (t.journal ++ Called x.caller End replies.Done ∷ []) f
    ended-at f (inl here) = ended-more w scripts t.journal (Called x.caller End replies.Done) f
        (called-other f.caller.rank f.caller.thread x.caller End replies.Done (apart-finished w scripts t place here.0 x f running at here.1)) (running.ended here.0 f here.1)
    ended-at f (inr here) = new-at f here.0 here.1

    counts : (rank thread : ℕ) → active_count rank thread (remove t.active place) + finished_count rank thread (t.ended ++ record { caller = x.caller; outcome = outcome } ∷ [])
        ≡ count_by (λ (s : Script). is_caller rank thread s.caller) scripts
    counts rank thread =
        let f = λ (z : ActiveCaller). cond {A = ℕ} (is_caller rank thread z.caller) 1 0 in
        let gone = subst (λ (y : ActiveCaller). sum_by f (remove t.active place) + f y ≡ sum_by f t.active) (get_or_from_slice_get t.active place x x at) (sum_by-remove f t.active place x (slice_get_within t.active place x at)) in
        let more = sum_by_push (λ (z : EndedCaller). cond {A = ℕ} (is_caller rank thread z.caller) 1 0) t.ended (record { caller = x.caller; outcome = outcome }) in
        let all = running.counted rank thread in
        omega arith
