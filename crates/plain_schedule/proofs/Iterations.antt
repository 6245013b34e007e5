-- Each iteration keeps that the callers' calls are runs of their scripts.
use Rattle.std.proofs.Common.{◌≡◌, ℕ, ◌+◌, Bool, true, false, ◌&&◌, List, [], ◌∷◌, ◌++◌, ◌==◌, Option, Some, Ok, append-nil, refl, sym, ap, ◌∙◌, subst, arith, ◌⊎◌, inl, inr, cond}
use Rattle.std.specs.List.{slice_get, slice_set, sum_by}
use Rattle.std.proofs.lemmas.Bool.{eqb-true, eqb-false, eq-eqb}
use Rattle.std.proofs.lemmas.List.Sums.{sum_by-set}
use Rattle.std.proofs.lemmas.Option.{slice_get_within, get_or_from_slice_get}
use Rattle.gaspi_types.specs.World.{ShapeValue, is_caller}
use Rattle.gaspi_types.specs.declared.shapes.CallerId.{CallerId}
use Rattle.gaspi_types.specs.declared.calls.Call.{Call}
use Rattle.gaspi_types.specs.declared.replies.Reply.{Reply}
use Rattle.gaspi_types.specs.declared.events.Event.{Event}
use Rattle.gaspi_types.specs.declared.events.Event.TheVariants.{Called, Joined}
use Rattle.gaspi_types.specs.declared.groups.Args.{Args}
use Rattle.gaspi_model.specs.CollectiveCalls.{joining_call}
use Rattle.gaspi_model.specs.Sound.{IsSound}
use Rattle.gaspi_model.specs.Step.{step, recorded_calls, is_active, is_pending, ends_caller}
use Rattle.gaspi_types.specs.CallRows.{is_end}
use Rattle.gaspi_model.specs.declared.states.State.{State}
use Rattle.gaspi_model.proofs.OwnCalls.{own_calls-append}
use Rattle.gaspi_model.proofs.StaysPending.{pending-stays}
use Rattle.gaspi_types.proofs.Items.{slice_get-set}
use Rattle.rank_script.specs.Runs.{RunPosition, AtLine, at_first_line, advanced, Follows}
use Rattle.rank_script.specs.declared.scripts.Script.{Script}
use Rattle.rank_script.specs.declared.scripts.ScriptLine.{ScriptLine}
use Rattle.plain_schedule.specs.declared.schedule_states.EndedCaller.{EndedCaller}
use Rattle.plain_schedule.specs.Endings.{own_events}
use Rattle.plain_schedule.specs.Schedule.{with_active}
use Rattle.plain_schedule.specs.declared.schedule_states.ActiveCaller.{ActiveCaller}
use Rattle.plain_schedule.specs.declared.schedule_states.ScheduleState.{ScheduleState}
use Rattle.plain_schedule.proofs.JoinsFollowed.{AreFollowedSoFar, ends_joined, called-ends, called-so-far, joined-so-far}
use Rattle.call_journal.proofs.OwnCalls.{own-same}
use Rattle.plain_schedule.proofs.Running.{IsRunning, Goes, present, come-going, own_events-append, events-same, events-more, called-other, active_count, finished_count, count-at, count-two, come-more, ended-more, set-cases}

-- what the machine's and the runs' laws say
abbrev pub ActiveStays : Type 0
ActiveStays = (s t : State) (e : Event) (rank thread : ℕ) → step s e ≡ Ok t → ends_caller rank thread e ≡ false → is_active t rank thread ≡ is_active s rank thread

abbrev pub Onward : Type 0
Onward = (p : RunPosition) (pairs : List (Call × Reply)) (line : ScriptLine) (tried : ℕ) (lines : List ScriptLine) (reply : Reply)
    → Follows p pairs (AtLine line tried lines) → Follows p (pairs ++ (line.call, reply) ∷ []) (advanced (AtLine line tried lines) reply)

-- an event of no caller
pub foreign-step : ActiveStays → (w : ShapeValue) (scripts : List Script) (t : ScheduleState) (e : Event) (s : State) → IsSound t.state → IsRunning w scripts t → step t.state e ≡ Ok s
    → ((rank thread : ℕ) → own_events rank thread (e ∷ []) ≡ []) → ((rank thread : ℕ) → ends_caller rank thread e ≡ false)
    → IsRunning w scripts (record t { state = s; journal = t.journal ++ e ∷ [] })
foreign-step stays w scripts t e s sound running is foreign ends = record {
  active = λ place x at. stays t.state s e x.caller.rank x.caller.thread is (ends x.caller.rank x.caller.thread) ∙ running.active place x at;
  goes = λ place x at. (let g = running.goes place x at in record {
    script = g.script;
    is_script = g.is_script;
    come = come-more w t.journal e x.caller g.script.lines x.cursor (foreign x.caller.rank x.caller.thread) g.come;
  });
  joined = λ place x line tried lines at going h.
      pending-stays t.state s e x.caller.rank x.caller.thread line.call sound is (foreign x.caller.rank x.caller.thread)
      (running.joined place x line tried lines at going (subst (λ (es : List Event). ends_joined es ≡ true) (events-more x.caller t.journal e (foreign x.caller.rank x.caller.thread)) h));
  ended = λ place f at. ended-more w scripts t.journal e f (foreign f.caller.rank f.caller.thread) (running.ended place f at);
  counted = running.counted;
  once = running.once;
}

is_caller-self : (c : CallerId) → is_caller c.rank c.thread c ≡ true
is_caller-self c = rw (eq-eqb c.rank c.rank refl, eq-eqb c.thread c.thread refl) refl

-- no two callers that wait, and none that waits and one that has finished, are the same
pub apart-waiting : (w : ShapeValue) (scripts : List Script) (t : ScheduleState) (i j : ℕ) (x y : ActiveCaller) → IsRunning w scripts t → slice_get t.active i ≡ Some x → slice_get t.active j ≡ Some y → (i ≡ j → ⊥)
    → is_caller y.caller.rank y.caller.thread x.caller ≡ false
apart-waiting w scripts t i j x y running ati atj apart = go (is_caller y.caller.rank y.caller.thread x.caller) refl
  where
    go : (b : Bool) → is_caller y.caller.rank y.caller.thread x.caller ≡ b → is_caller y.caller.rank y.caller.thread x.caller ≡ false
    go false is = is
    go true is =
        let two = count-two (λ (z : ActiveCaller). is_caller y.caller.rank y.caller.thread z.caller) t.active i j x y ati atj apart is (is_caller-self y.caller) in
        let all = running.counted y.caller.rank y.caller.thread in
        let one = running.once y.caller.rank y.caller.thread in
        absurd (omega arith)

pub apart-finished : (w : ShapeValue) (scripts : List Script) (t : ScheduleState) (i j : ℕ) (x : ActiveCaller) (f : EndedCaller) → IsRunning w scripts t → slice_get t.active i ≡ Some x → slice_get t.ended j ≡ Some f
    → is_caller f.caller.rank f.caller.thread x.caller ≡ false
apart-finished w scripts t i j x f running ati atj = go (is_caller f.caller.rank f.caller.thread x.caller) refl
  where
    go : (b : Bool) → is_caller f.caller.rank f.caller.thread x.caller ≡ b → is_caller f.caller.rank f.caller.thread x.caller ≡ false
    go false is = is
    go true is =
        let waits = count-at (λ (z : ActiveCaller). is_caller f.caller.rank f.caller.thread z.caller) t.active i x ati is in
        let ended = count-at (λ (z : EndedCaller). is_caller f.caller.rank f.caller.thread z.caller) t.ended j f atj (is_caller-self f.caller) in
        let all = running.counted f.caller.rank f.caller.thread in
        let one = running.once f.caller.rank f.caller.thread in
        absurd (omega arith)

-- a caller changed in place is counted as before
count-set : (ws : List ActiveCaller) (place : ℕ) (x x' : ActiveCaller) (rank thread : ℕ) → slice_get ws place ≡ Some x → x'.caller ≡ x.caller → active_count rank thread (slice_set ws place x') ≡ active_count rank thread ws
count-set ws place x x' rank thread at same =
    let f = λ (z : ActiveCaller). cond {A = ℕ} (is_caller rank thread z.caller) 1 0 in
    let sum = subst (λ (y : ActiveCaller). sum_by f (slice_set ws place x') + f y ≡ sum_by f ws + f x') (get_or_from_slice_get ws place x x at) (sum_by-set f ws place x' x (slice_get_within ws place x at)) in
    let one : f x' ≡ f x = ap (λ (c : CallerId). cond {A = ℕ} (is_caller rank thread c) 1 0) same in
    omega arith

-- where a caller's run stands is changed, and no event is made
pub waiting-changed : (w : ShapeValue) (scripts : List Script) (t : ScheduleState) (place : ℕ) (x x' : ActiveCaller) → IsRunning w scripts t → slice_get t.active place ≡ Some x → x'.caller ≡ x.caller
    → ((line : ScriptLine) (tried : ℕ) (lines : List ScriptLine) → x'.cursor ≡ AtLine line tried lines → x.cursor ≡ AtLine line tried lines) → Goes w scripts t.journal x' → IsRunning w scripts (with_active t place x')
waiting-changed w scripts t place x x' running at same stands goes = record {
  active = λ q y here. active-at q y (slice_get-set t.active place q x' y here);
  goes = λ q y here. goes-at q y (slice_get-set t.active place q x' y here);
  joined = λ q y line tried lines here going h. joined-at q y line tried lines (slice_get-set t.active place q x' y here) going h;
  ended = running.ended;
  counted = λ rank thread. ap (λ (n : ℕ). n + finished_count rank thread t.ended) (count-set t.active place x x' rank thread at same) ∙ running.counted rank thread;
  once = running.once;
}
  where
    active-at : (q : ℕ) (y : ActiveCaller) → ((q ≡ place) × (y ≡ x')) ⊎ (slice_get t.active q ≡ Some y) → is_active t.state y.caller.rank y.caller.thread ≡ true
    active-at q y (inl here) = rw (here.1, same) (running.active place x at)
    active-at q y (inr there) = running.active q y there

    joined-at : (q : ℕ) (y : ActiveCaller) (line : ScriptLine) (tried : ℕ) (lines : List ScriptLine) → ((q ≡ place) × (y ≡ x')) ⊎ (slice_get t.active q ≡ Some y) → y.cursor ≡ AtLine line tried lines
        → ends_joined (own_events y.caller.rank y.caller.thread t.journal) ≡ true → is_pending t.state y.caller.rank y.caller.thread line.call ≡ true
    joined-at q y line tried lines (inl here) going h =
        let callers : y.caller ≡ x.caller = ap (λ (z : ActiveCaller). z.caller) here.1 ∙ same in
        let cursor : x'.cursor ≡ AtLine line tried lines = sym (ap (λ (z : ActiveCaller). z.cursor) here.1) ∙ going in
        subst (λ (c : CallerId). is_pending t.state c.rank c.thread line.call ≡ true) (sym callers)
        (running.joined place x line tried lines at (stands line tried lines cursor) (subst (λ (c : CallerId). ends_joined (own_events c.rank c.thread t.journal) ≡ true) callers h))
    joined-at q y line tried lines (inr there) going h = running.joined q y line tried lines there going h

    goes-at : (q : ℕ) (y : ActiveCaller) → ((q ≡ place) × (y ≡ x')) ⊎ (slice_get t.active q ≡ Some y) → Goes w scripts t.journal y
    goes-at q y (inl here) = subst (λ (z : ActiveCaller). Goes w scripts t.journal z) (sym here.1) goes
    goes-at q y (inr there) = running.goes q y there

and-false : (b : Bool) → (b && false) ≡ false
and-false true = refl
and-false false = refl

-- a whole caller's iteration with a call of its own
pub own-more : (w : ShapeValue) (journal : List Event) (c : CallerId) (call : Call) (reply : Reply) → recorded_calls c.rank c.thread (journal ++ Called c call reply ∷ []) ≡ recorded_calls c.rank c.thread journal ++ (call, reply) ∷ []
own-more w journal c call reply = own_calls-append c.rank c.thread journal (Called c call reply ∷ []) ∙ ap (λ (ps : List (Call × Reply)). recorded_calls c.rank c.thread journal ++ ps) (own-same c call reply)

-- the same of its events
pub own-events-more : (journal : List Event) (c : CallerId) (call : Call) (reply : Reply) → own_events c.rank c.thread (journal ++ Called c call reply ∷ []) ≡ own_events c.rank c.thread journal ++ Called c call reply ∷ []
own-events-more journal c call reply = own_events-append c.rank c.thread journal (Called c call reply ∷ []) ∙ ap (λ (es : List Event). own_events c.rank c.thread journal ++ es) (events-same c call reply)

-- the run of a caller whose present call was recorded
goes-on : Onward → (w : ShapeValue) (scripts : List Script) (journal : List Event) (x : ActiveCaller) (line : ScriptLine) (tried : ℕ) (lines : List ScriptLine) (reply : Reply) → x.cursor ≡ AtLine line tried lines → Goes w scripts journal x
    → Goes w scripts (journal ++ Called x.caller line.call reply ∷ []) (record { caller = x.caller; cursor = advanced x.cursor reply; looks = 0 })
goes-on onward w scripts journal x line tried lines reply going g =
    let f = come-going w journal x.caller g.script.lines x.cursor line tried lines going g.come in
    record {
      script = g.script;
      is_script = g.is_script;
      come = inl (
        subst (λ (ps : List (Call × Reply)). Follows (at_first_line g.script.lines) ps (advanced x.cursor reply)) (sym (own-more w journal x.caller line.call reply))
            (subst (λ (p : RunPosition). Follows (at_first_line g.script.lines) (recorded_calls x.caller.rank x.caller.thread journal ++ (line.call, reply) ∷ []) (advanced p reply)) (sym going)
            (onward (at_first_line g.script.lines) (recorded_calls x.caller.rank x.caller.thread journal) line tried lines reply f.0)),
        subst (λ (es : List Event). AreFollowedSoFar (present (advanced x.cursor reply)) es) (sym (own-events-more journal x.caller line.call reply))
            (called-so-far (present (advanced x.cursor reply)) (own_events x.caller.rank x.caller.thread journal) x.caller line.call reply f.1),
      );
    }

-- a join of the present call: the run of its caller stays where it is
pub joining-step : ActiveStays → (w : ShapeValue) (scripts : List Script) (t : ScheduleState) (place : ℕ) (x : ActiveCaller) (line : ScriptLine) (tried : ℕ) (lines : List ScriptLine) (id : ℕ) (args : Args) (s : State)
    → IsSound t.state → IsRunning w scripts t → slice_get t.active place ≡ Some x → x.cursor ≡ AtLine line tried lines → step t.state (Joined x.caller id args) ≡ Ok s
    → joining_call id args ≡ line.call → ends_joined (own_events x.caller.rank x.caller.thread t.journal) ≡ false → is_pending s x.caller.rank x.caller.thread line.call ≡ true
    → IsRunning w scripts (record t { state = s; journal = t.journal ++ Joined x.caller id args ∷ [] })
joining-step stays w scripts t place x line tried lines id args s sound running at going is itself ends pends = record {
  active = λ q y here. stays t.state s e y.caller.rank y.caller.thread is refl ∙ running.active q y here;
  goes = λ q y here. goes-at q y here (place == q) refl;
  joined = λ q y line' tried' lines' here going' h. joined-at q y line' tried' lines' here going' h (place == q) refl;
  ended = λ k f here. ended-more w scripts t.journal e f (apart f.caller.rank f.caller.thread (apart-finished w scripts t place k x f running at here)) (running.ended k f here);
  counted = running.counted;
  once = running.once;
}
  where
    e : Event
    e = Joined x.caller id args

    apart : (rank thread : ℕ) → is_caller rank thread x.caller ≡ false → own_events rank thread (e ∷ []) ≡ []
    apart rank thread other = rw other refl

    calls : recorded_calls x.caller.rank x.caller.thread (t.journal ++ e ∷ []) ≡ recorded_calls x.caller.rank x.caller.thread t.journal
    calls = own_calls-append x.caller.rank x.caller.thread t.journal (e ∷ []) ∙ append-nil _

    events : own_events x.caller.rank x.caller.thread (t.journal ++ e ∷ []) ≡ own_events x.caller.rank x.caller.thread t.journal ++ e ∷ []
    events = own_events-append x.caller.rank x.caller.thread t.journal (e ∷ []) ∙ rw (is_caller-self x.caller) refl

    own-goes : Goes w scripts (t.journal ++ e ∷ []) x
    own-goes =
        let g = running.goes place x at in
        let f = come-going w t.journal x.caller g.script.lines x.cursor line tried lines going g.come in
        let so_far : AreFollowedSoFar (Some line.call) (own_events x.caller.rank x.caller.thread (t.journal ++ e ∷ [])) =
        subst (λ (es : List Event). AreFollowedSoFar (Some line.call) es) (sym events)
        (subst (λ (c : Call). AreFollowedSoFar (Some c) (own_events x.caller.rank x.caller.thread t.journal ++ e ∷ [])) itself
        (joined-so-far (Some line.call) (own_events x.caller.rank x.caller.thread t.journal) x.caller id args ends f.1)) in
        record {
          script = g.script;
          is_script = g.is_script;
          come = inl (
            subst (λ (p : RunPosition). Follows (at_first_line g.script.lines) (recorded_calls x.caller.rank x.caller.thread (t.journal ++ e ∷ [])) p) (sym going)
                (subst (λ (ps : List (Call × Reply)). Follows (at_first_line g.script.lines) ps (AtLine line tried lines)) (sym calls) f.0),
            subst (λ (p : RunPosition). AreFollowedSoFar (present p) (own_events x.caller.rank x.caller.thread (t.journal ++ e ∷ []))) (sym going) so_far,
          );
        }

    the-same : (q : ℕ) (y : ActiveCaller) → slice_get t.active q ≡ Some y → (place == q) ≡ true → x ≡ y
    the-same q y here is-place =
        let there : slice_get t.active q ≡ Some x = subst (λ (n : ℕ). slice_get t.active n ≡ Some x) (eqb-true place q is-place) at in
        let some : ◌≡◌ {A = Option ActiveCaller} (Some x) (Some y) = sym there ∙ here in
        cc

    foreign : (q : ℕ) (y : ActiveCaller) → slice_get t.active q ≡ Some y → (place == q) ≡ false → own_events y.caller.rank y.caller.thread (e ∷ []) ≡ []
    foreign q y here is-other = apart y.caller.rank y.caller.thread (apart-waiting w scripts t place q x y running at here (λ h. eqb-false place q is-other h))

    goes-at : (q : ℕ) (y : ActiveCaller) → slice_get t.active q ≡ Some y → (b : Bool) → (place == q) ≡ b → Goes w scripts (t.journal ++ e ∷ []) y
    goes-at q y here true is-place = subst (λ (z : ActiveCaller). Goes w scripts (t.journal ++ e ∷ []) z) (the-same q y here is-place) own-goes
    goes-at q y here false is-other =
        let g = running.goes q y here in
        record {
          script = g.script;
          is_script = g.is_script;
          come = come-more w t.journal e y.caller g.script.lines y.cursor (foreign q y here is-other) g.come;
        }

    joined-at : (q : ℕ) (y : ActiveCaller) (line' : ScriptLine) (tried' : ℕ) (lines' : List ScriptLine) → slice_get t.active q ≡ Some y → y.cursor ≡ AtLine line' tried' lines'
        → ends_joined (own_events y.caller.rank y.caller.thread (t.journal ++ e ∷ [])) ≡ true → (b : Bool) → (place == q) ≡ b → is_pending s y.caller.rank y.caller.thread line'.call ≡ true
    joined-at q y line' tried' lines' here going' h true is-place =
        let one = the-same q y here is-place in
        let cursors : ◌≡◌ {A = RunPosition} (AtLine line tried lines) (AtLine line' tried' lines') = sym going ∙ ap (λ (z : ActiveCaller). z.cursor) one ∙ going' in
        let same_line : line ≡ line' = cc in
        subst (λ (l : ScriptLine). is_pending s y.caller.rank y.caller.thread l.call ≡ true) same_line
        (subst (λ (z : ActiveCaller). is_pending s z.caller.rank z.caller.thread line.call ≡ true) one pends)
    joined-at q y line' tried' lines' here going' h false is-other =
        let none = foreign q y here is-other in
        pending-stays t.state s e y.caller.rank y.caller.thread line'.call sound is none
        (running.joined q y line' tried' lines' here going' (subst (λ (es : List Event). ends_joined es ≡ true) (events-more y.caller t.journal e none) h))

-- a call of the present line, recorded
pub called-step : ActiveStays → Onward → (w : ShapeValue) (scripts : List Script) (t : ScheduleState) (place : ℕ) (x : ActiveCaller) (line : ScriptLine) (tried : ℕ) (lines : List ScriptLine) (reply : Reply) (s : State)
    → IsSound t.state → IsRunning w scripts t → slice_get t.active place ≡ Some x → x.cursor ≡ AtLine line tried lines → is_end line.call ≡ false → step t.state (Called x.caller line.call reply) ≡ Ok s
    → IsRunning w scripts (record t { state = s; active = slice_set t.active place (record { caller = x.caller; cursor = advanced x.cursor reply; looks = 0 }); journal = t.journal ++ Called x.caller line.call reply ∷ [] })
called-step stays onward w scripts t place x line tried lines reply s sound running at going plain is = record {
  active = λ q y here. active-at q y (set-cases t.active place q x (record { caller = x.caller; cursor = advanced x.cursor reply; looks = 0 }) y at here);
  goes = λ q y here. goes-at q y (set-cases t.active place q x (record { caller = x.caller; cursor = advanced x.cursor reply; looks = 0 }) y at here);
  joined = λ q y line' tried' lines' here going' h.
      joined-at q y line' tried' lines' (set-cases t.active place q x (record { caller = x.caller; cursor = advanced x.cursor reply; looks = 0 }) y at here) going' h;
  ended = λ k f here. ended-more w scripts t.journal (Called x.caller line.call reply) f (called-other f.caller.rank f.caller.thread x.caller line.call reply (apart-finished w scripts t place k x f running at here)) (running.ended k f here);
  counted = λ rank thread. ap (λ (n : ℕ). n + finished_count rank thread t.ended) (count-set t.active place x (record { caller = x.caller; cursor = advanced x.cursor reply; looks = 0 }) rank thread at refl) ∙ running.counted rank thread;
  once = running.once;
}
  where
    ends : (rank thread : ℕ) → ends_caller rank thread (Called x.caller line.call reply) ≡ false
    ends rank thread = rw plain (and-false (is_caller rank thread x.caller))

    active-at : (q : ℕ) (y : ActiveCaller) → ((q ≡ place) × (y ≡ record { caller = x.caller; cursor = advanced x.cursor reply; looks = 0 })) ⊎ ((place ≡ q → ⊥) × (slice_get t.active q ≡ Some y)) → is_active s y.caller.rank y.caller.thread ≡ true
    active-at q y (inl here) = rw here.1 (stays t.state s (Called x.caller line.call reply) x.caller.rank x.caller.thread is (ends x.caller.rank x.caller.thread) ∙ running.active place x at)
    active-at q y (inr there) = stays t.state s (Called x.caller line.call reply) y.caller.rank y.caller.thread is (ends y.caller.rank y.caller.thread) ∙ running.active q y there.1

    goes-at : (q : ℕ) (y : ActiveCaller) → ((q ≡ place) × (y ≡ record { caller = x.caller; cursor = advanced x.cursor reply; looks = 0 })) ⊎ ((place ≡ q → ⊥) × (slice_get t.active q ≡ Some y)) → Goes w scripts (t.journal ++ Called x.caller line.call reply ∷ []) y
    goes-at q y (inl here) = subst (λ (z : ActiveCaller). Goes w scripts (t.journal ++ Called x.caller line.call reply ∷ []) z) (sym here.1) (goes-on onward w scripts t.journal x line tried lines reply going (running.goes place x at))
    goes-at q y (inr there) =
        let g = running.goes q y there.1 in
        record {
          script = g.script;
          is_script = g.is_script;
          come = come-more w t.journal (Called x.caller line.call reply) y.caller g.script.lines y.cursor (called-other y.caller.rank y.caller.thread x.caller line.call reply (apart-waiting w scripts t place q x y running at there.1 there.0)) g.come;
        }

    joined-at : (q : ℕ) (y : ActiveCaller) (line' : ScriptLine) (tried' : ℕ) (lines' : List ScriptLine)
        → ((q ≡ place) × (y ≡ record { caller = x.caller; cursor = advanced x.cursor reply; looks = 0 })) ⊎ ((place ≡ q → ⊥) × (slice_get t.active q ≡ Some y)) → y.cursor ≡ AtLine line' tried' lines'
        → ends_joined (own_events y.caller.rank y.caller.thread (t.journal ++ Called x.caller line.call reply ∷ [])) ≡ true → is_pending s y.caller.rank y.caller.thread line'.call ≡ true
    joined-at q y line' tried' lines' (inl here) going' h =
        let callers : y.caller ≡ x.caller = ap (λ (z : ActiveCaller). z.caller) here.1 in
        let own : ends_joined (own_events x.caller.rank x.caller.thread (t.journal ++ Called x.caller line.call reply ∷ [])) ≡ true =
        subst (λ (c : CallerId). ends_joined (own_events c.rank c.thread (t.journal ++ Called x.caller line.call reply ∷ [])) ≡ true) callers h in
        let not : ends_joined (own_events x.caller.rank x.caller.thread (t.journal ++ Called x.caller line.call reply ∷ [])) ≡ false =
        ap ends_joined (own-events-more t.journal x.caller line.call reply) ∙ called-ends (own_events x.caller.rank x.caller.thread t.journal) x.caller line.call reply in
        absurd (let never : true ≡ false = sym own ∙ not in let no : ⊥ = cc in no)
    joined-at q y line' tried' lines' (inr there) going' h =
        let none = called-other y.caller.rank y.caller.thread x.caller line.call reply (apart-waiting w scripts t place q x y running at there.1 there.0) in
        pending-stays t.state s (Called x.caller line.call reply) y.caller.rank y.caller.thread line'.call sound is none
        (running.joined q y line' tried' lines' there.1 going' (subst (λ (es : List Event). ends_joined es ≡ true) (events-more y.caller t.journal (Called x.caller line.call reply) none) h))
