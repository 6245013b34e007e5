-- What every iteration of the schedule keeps of the callers: their calls are runs of their scripts.
use Rattle.std.proofs.Common.{◌≡◌, ℕ, zero, suc, ◌+◌, ◌<◌, ◌≤◌, Bool, true, false, List, [], ◌∷◌, ◌++◌, Option, None, Some, Ok, refl, sym, ap, ◌∙◌, subst, arith, ◌==◌, ◌⊎◌, inl, inr, find, cond, count_by, if◌then◌else◌, append_assoc, append-nil}
use Rattle.std.specs.List.{slice_get, slice_set}
use Rattle.std.proofs.lemmas.Bool.{eqb-true, eqb-false, eq-eqb}
use Rattle.std.proofs.lemmas.List.Elements.{filter-append}
use Rattle.std.proofs.lemmas.List.Sums.{sum_by-cons, get_or-le-sum_by}
use Rattle.std.proofs.lemmas.Option.{slice_get_within, get_or_from_slice_get}
use Rattle.gaspi_types.specs.World.{ShapeValue, is_caller}
use Rattle.gaspi_types.specs.declared.shapes.CallerId.{CallerId}
use Rattle.gaspi_types.specs.declared.calls.Call.{Call}
use Rattle.gaspi_types.specs.declared.replies.Reply.{Reply}
use Rattle.gaspi_types.specs.declared.events.Event.{Event}
use Rattle.gaspi_types.specs.declared.events.Event.TheVariants.{Called, Joined, Take, Put}
use Rattle.gaspi_model.specs.Step.{reached, used_room, recorded_calls, is_active, is_pending}
use Rattle.gaspi_model.specs.declared.states.State.{State}
use Rattle.gaspi_model.proofs.OwnCalls.{own_calls-append}
use Rattle.gaspi_types.proofs.Items.{slice_get-set_same, slice_get-set_other}
use Rattle.rank_script.specs.Runs.{RunPosition, AtLine, RunEnded, at_first_line, advanced, stopped, is_stuck, is_retried, is_failed, Follows, IsRun}
use Rattle.rank_script.specs.WorldText.{is_script_of}
use Rattle.rank_script.specs.declared.scripts.Script.{Script}
use Rattle.rank_script.specs.declared.scripts.ScriptLine.{ScriptLine}
use Rattle.rank_script.specs.declared.scripts.RunOutcome.{RunOutcome}
use Rattle.rank_script.specs.declared.scripts.RunOutcome.TheVariants as outcomes
use Rattle.plain_schedule.specs.declared.schedule_states.EndedCaller.{EndedCaller}
use Rattle.plain_schedule.specs.Joins.{AreJoinsFollowed}
use Rattle.plain_schedule.specs.Endings.{present_need, is_own, own_events, HasLimitCause, HasEnded}
use Rattle.plain_schedule.specs.declared.schedule_states.ActiveCaller.{ActiveCaller}
use Rattle.plain_schedule.specs.declared.schedule_states.ScheduleState.{ScheduleState}
use Rattle.call_journal.proofs.OwnCalls.{own_of}
use Rattle.plain_schedule.proofs.JoinsFollowed.{AreFollowedSoFar, ends_joined}

-- What a caller's own events are.

-- its events, one after another
pub own_events-append : (rank thread : ℕ) (a b : List Event) → own_events rank thread (a ++ b) ≡ own_events rank thread a ++ own_events rank thread b
own_events-append rank thread a b = filter-append (is_own rank thread) a b

pub events-same : (c : CallerId) (call : Call) (reply : Reply) → own_events c.rank c.thread (Called c call reply ∷ []) ≡ Called c call reply ∷ []
events-same c call reply = rw (eq-eqb c.rank c.rank refl, eq-eqb c.thread c.thread refl) refl

pub called-other : (rank thread : ℕ) (c : CallerId) (call : Call) (reply : Reply) → is_caller rank thread c ≡ false → own_events rank thread (Called c call reply ∷ []) ≡ []
called-other rank thread c call reply apart = rw apart refl

-- who has no event has no call
no-call : (rank thread : ℕ) (e : Event) → own_events rank thread (e ∷ []) ≡ [] → own_of rank thread e ≡ []
no-call rank thread (Called c call reply) none = go (is_caller rank thread c) none
  where
    go : (b : Bool) → (if b then Called c call reply ∷ [] else []) ≡ [] → if◌then◌else◌ {A = List (Call × Reply)} b ((call, reply) ∷ []) [] ≡ []
    go true h = absurd (let no : ⊥ = cc in no)
    go false h = refl
no-call rank thread (Joined c id args) none = refl
no-call rank thread (Take origin queue target number outcome) none = refl
no-call rank thread (Put origin queue target number outcome) none = refl

-- Callers that are counted.

abbrev pub active_count : ℕ → ℕ → List ActiveCaller → ℕ
active_count rank thread ws = count_by (λ (x : ActiveCaller). is_caller rank thread x.caller) ws

abbrev pub finished_count : ℕ → ℕ → List EndedCaller → ℕ
finished_count rank thread fs = count_by (λ (f : EndedCaller). is_caller rank thread f.caller) fs

one-if : Bool → ℕ
one-if b = cond b 1 0

-- one item that passes is counted
pub count-at : {A : Type 0} (p : A → Bool) (xs : List A) (i : ℕ) (x : A) → slice_get xs i ≡ Some x → p x ≡ true → 1 ≤ count_by p xs
count-at {A} p xs i x at pass =
    let le = get_or-le-sum_by (λ (y : A). cond (p y) 1 0) xs i x (slice_get_within xs i x at) in
    let one : cond {A = ℕ} (p x) 1 0 ≡ 1 = ap (λ (b : Bool). cond {A = ℕ} b 1 0) pass in
    let there = get_or_from_slice_get xs i x x at in
    let le' = subst (λ (y : A). cond {A = ℕ} (p y) 1 0 ≤ count_by p xs) there le in
    omega arith

-- two items that pass, at two places, are counted
pub count-two : {A : Type 0} (p : A → Bool) (xs : List A) (i j : ℕ) (x y : A) → slice_get xs i ≡ Some x → slice_get xs j ≡ Some y → (i ≡ j → ⊥) → p x ≡ true → p y ≡ true → 2 ≤ count_by p xs
count-two p [] i j x y ati atj apart px py = absurd (let no : ⊥ = cc in no)
count-two p (z ∷ xs) zero zero x y ati atj apart px py = absurd (apart refl)
count-two {A} p (z ∷ xs) zero (suc j) x y ati atj apart px py =
    let same : z ≡ x = cc in
    let one : cond {A = ℕ} (p z) 1 0 ≡ 1 = ap (λ (w : A). cond {A = ℕ} (p w) 1 0) same ∙ ap (λ (b : Bool). cond {A = ℕ} b 1 0) px in
    let rest = count-at p xs j y atj py in
    let sum = sum_by-cons (λ (w : A). cond (p w) 1 0) z xs in
    omega arith
count-two {A} p (z ∷ xs) (suc i) zero x y ati atj apart px py =
    let same : z ≡ y = cc in
    let one : cond {A = ℕ} (p z) 1 0 ≡ 1 = ap (λ (w : A). cond {A = ℕ} (p w) 1 0) same ∙ ap (λ (b : Bool). cond {A = ℕ} b 1 0) py in
    let rest = count-at p xs i x ati px in
    let sum = sum_by-cons (λ (w : A). cond (p w) 1 0) z xs in
    omega arith
count-two {A} p (z ∷ xs) (suc i) (suc j) x y ati atj apart px py =
    let rest = count-two p xs i j x y ati atj (λ e. apart (ap (λ (n : ℕ). suc n) e)) px py in
    let sum = sum_by-cons (λ (w : A). cond (p w) 1 0) z xs in
    omega arith

-- Lines of a script.

over-stays : (outcome : RunOutcome) (pairs : List (Call × Reply)) (line : ScriptLine) (tried : ℕ) (rest : List ScriptLine) → Follows (RunEnded outcome) pairs (AtLine line tried rest) → ⊥
over-stays outcome [] line tried rest follows = let no : ⊥ = cc in no
over-stays outcome (pair ∷ pairs) line tried rest follows = follows

-- the lines that a run may still come to, the present one first
lines-left : RunPosition → List ScriptLine
lines-left (RunEnded outcome) = []
lines-left (AtLine line tried lines) = line ∷ lines

-- a line that a run may come to after a reply is one that it could come to before
left-before : (p : RunPosition) (reply : Reply) (line : ScriptLine) (place : ℕ) → slice_get (lines-left (advanced p reply)) place ≡ Some line
    → (before : ℕ) × (slice_get (lines-left p) before ≡ Some line)
unfolding lines-left
left-before (RunEnded outcome) reply line place at = (place, at)
left-before (AtLine first tried lines) reply line place at = stuck-or (is_stuck first reply) at
  where
    none : (outcome : RunOutcome) → slice_get (lines-left (RunEnded outcome)) place ≡ Some line → (before : ℕ) × (slice_get (first ∷ lines) before ≡ Some line)
    none outcome found = absurd (let never : ⊥ = cc in never)

    next : (ls : List ScriptLine) (k : ℕ) → slice_get (lines-left (at_first_line ls)) k ≡ Some line → slice_get ls k ≡ Some line
    next [] k e = e
    next (l ∷ ls) k e = e

    failed-or : (b : Bool) → slice_get (lines-left (if b then RunEnded (outcomes.Failed first.number) else at_first_line lines)) place ≡ Some line
        → (before : ℕ) × (slice_get (first ∷ lines) before ≡ Some line)
    failed-or true e = none (outcomes.Failed first.number) e
    failed-or false e = (suc place, next lines place e)

    repeated-or : (b : Bool) → slice_get (lines-left (if b then AtLine first (tried + 1) lines else (if is_failed first reply then RunEnded (outcomes.Failed first.number) else at_first_line lines))) place ≡ Some line
        → (before : ℕ) × (slice_get (first ∷ lines) before ≡ Some line)
    repeated-or true e = (place, e)
    repeated-or false e = failed-or (is_failed first reply) e

    stuck-or : (b : Bool) → slice_get (lines-left (if b then RunEnded (outcomes.Stuck first.number) else (if is_retried first tried reply then AtLine first (tried + 1) lines
        else (if is_failed first reply then RunEnded (outcomes.Failed first.number) else at_first_line lines)))) place ≡ Some line
        → (before : ℕ) × (slice_get (first ∷ lines) before ≡ Some line)
    stuck-or true e = none (outcomes.Stuck first.number) e
    stuck-or false e = repeated-or (is_retried first tried reply) e

-- a line that a run comes to is one that it could come to
line-left : (p : RunPosition) (pairs : List (Call × Reply)) (line : ScriptLine) (tried : ℕ) (rest : List ScriptLine) → Follows p pairs (AtLine line tried rest)
    → (place : ℕ) × (slice_get (lines-left p) place ≡ Some line)
unfolding lines-left
line-left p [] line tried rest follows = (0, subst (λ (q : RunPosition). slice_get (lines-left q) 0 ≡ Some line) follows refl)
line-left (RunEnded outcome) (pair ∷ pairs) line tried rest follows = absurd follows
line-left (AtLine first made lines) (pair ∷ pairs) line tried rest follows =
    let later = line-left (advanced (AtLine first made lines) pair.1) pairs line tried rest follows.1 in
    left-before (AtLine first made lines) pair.1 line later.0 later.1

-- a line that a run comes to is one of the script's
pub line-there : (lines : List ScriptLine) (pairs : List (Call × Reply)) (line : ScriptLine) (tried : ℕ) (rest : List ScriptLine) → Follows (at_first_line lines) pairs (AtLine line tried rest)
    → (place : ℕ) × (slice_get lines place ≡ Some line)
unfolding lines-left
line-there [] pairs line tried rest follows = absurd (over-stays outcomes.Ended pairs line tried rest follows)
line-there (l ∷ lines) pairs line tried rest follows = line-left (AtLine l 0 lines) pairs line tried rest follows

pub find-there : {A : Type 0} (p : A → Bool) (xs : List A) (x : A) → find p xs ≡ Some x → (k : ℕ) × (slice_get xs k ≡ Some x)
find-there p [] x h = absurd (let no : ⊥ = cc in no)
find-there {A} p (y ∷ xs) x h = go (p y) h (λ e. find-there p xs x e)
  where
    go : (b : Bool) → (if b then Some y else find p xs) ≡ Some x → (find p xs ≡ Some x → (k : ℕ) × (slice_get xs k ≡ Some x)) → (k : ℕ) × (slice_get (y ∷ xs) k ≡ Some x)
    go true e later = (0, e)
    go false e later = let rest = later e in (suc rest.0, rest.1)

-- How far the run of a caller has come, in a history.

-- it was stopped before a line, since its rank had no room after the history that all its calls stand in
pub record WasStopped (w : ShapeValue) (journal : List Event) (c : CallerId) (lines : List ScriptLine) (outcome : RunOutcome) : Type 0 where
  pub line : ScriptLine
  pub tried : ℕ
  pub rest : List ScriptLine
  pub follows : Follows (at_first_line lines) (recorded_calls c.rank c.thread journal) (AtLine line tried rest)
  pub limit : outcome ≡ outcomes.Limit line.number
  pub before : List Event
  pub later : List Event
  pub begins : before ++ later ≡ journal
  pub events : own_events c.rank c.thread before ≡ own_events c.rank c.thread journal
  pub state : State
  pub leads : reached w before ≡ Ok state
  pub full : w.limits.events < used_room state c.rank + present_need state c line
  pub joins : AreFollowedSoFar (Some line.call) (own_events c.rank c.thread journal)

-- the call that comes next
abbrev pub present : RunPosition → Option Call
present (RunEnded outcome) = None
present (AtLine line tried lines) = Some line.call

abbrev pub HasCome : ShapeValue → List Event → CallerId → List ScriptLine → RunPosition → Type 0
HasCome w journal c lines p =
    (Follows (at_first_line lines) (recorded_calls c.rank c.thread journal) p × AreFollowedSoFar (present p) (own_events c.rank c.thread journal)) ⊎ ((outcome : RunOutcome) × (p ≡ RunEnded outcome) × WasStopped w journal c lines outcome)

-- of a run that goes on
pub come-going : (w : ShapeValue) (journal : List Event) (c : CallerId) (all : List ScriptLine) (p : RunPosition) (line : ScriptLine) (tried : ℕ) (lines : List ScriptLine) → p ≡ AtLine line tried lines → HasCome w journal c all p
    → Follows (at_first_line all) (recorded_calls c.rank c.thread journal) (AtLine line tried lines) × AreFollowedSoFar (Some line.call) (own_events c.rank c.thread journal)
come-going w journal c all p line tried lines going (inl f) =
    (subst (λ (q : RunPosition). Follows (at_first_line all) (recorded_calls c.rank c.thread journal) q) going f.0, subst (λ (q : RunPosition). AreFollowedSoFar (present q) (own_events c.rank c.thread journal)) going f.1)
come-going w journal c all p line tried lines going (inr stopped) =
    absurd (let over : ◌≡◌ {A = RunPosition} (AtLine line tried lines) (RunEnded stopped.0) = sym going ∙ stopped.1 in let no : ⊥ = cc in no)

pub record Goes (w : ShapeValue) (scripts : List Script) (journal : List Event) (x : ActiveCaller) : Type 0 where
  pub script : Script
  pub is_script : find (is_script_of x.caller) scripts ≡ Some script
  pub come : HasCome w journal x.caller script.lines x.cursor

-- what each iteration keeps of the callers
pub record IsRunning (w : ShapeValue) (scripts : List Script) (t : ScheduleState) : Type 0 where
  pub active : (place : ℕ) (x : ActiveCaller) → slice_get t.active place ≡ Some x → is_active t.state x.caller.rank x.caller.thread ≡ true
  pub goes : (place : ℕ) (x : ActiveCaller) → slice_get t.active place ≡ Some x → Goes w scripts t.journal x
  pub joined : (place : ℕ) (x : ActiveCaller) (line : ScriptLine) (tried : ℕ) (lines : List ScriptLine) → slice_get t.active place ≡ Some x → x.cursor ≡ AtLine line tried lines
      → ends_joined (own_events x.caller.rank x.caller.thread t.journal) ≡ true → is_pending t.state x.caller.rank x.caller.thread line.call ≡ true
  pub ended : (place : ℕ) (f : EndedCaller) → slice_get t.ended place ≡ Some f → HasEnded w scripts t.journal f
  pub counted : (rank thread : ℕ) → active_count rank thread t.active + finished_count rank thread t.ended ≡ count_by (λ (s : Script). is_caller rank thread s.caller) scripts
  pub once : (rank thread : ℕ) → count_by (λ (s : Script). is_caller rank thread s.caller) scripts ≤ 1

-- An event that is not a caller's own leaves what was said of it.

pub events-more : (c : CallerId) (journal : List Event) (e : Event) → own_events c.rank c.thread (e ∷ []) ≡ [] → own_events c.rank c.thread (journal ++ e ∷ []) ≡ own_events c.rank c.thread journal
events-more c journal e foreign = own_events-append c.rank c.thread journal (e ∷ []) ∙ ap (λ (es : List Event). own_events c.rank c.thread journal ++ es) foreign ∙ append-nil _

pub stopped-more : (w : ShapeValue) (journal : List Event) (e : Event) (c : CallerId) (lines : List ScriptLine) (outcome : RunOutcome) → own_events c.rank c.thread (e ∷ []) ≡ []
    → WasStopped w journal c lines outcome → WasStopped w (journal ++ e ∷ []) c lines outcome
stopped-more w journal e c lines outcome foreign s =
    let same : recorded_calls c.rank c.thread (journal ++ e ∷ []) ≡ recorded_calls c.rank c.thread journal = own_calls-append c.rank c.thread journal (e ∷ []) ∙ rw (no-call _ _ e foreign) (append-nil _) in
    record {
      line = s.line;
      tried = s.tried;
      rest = s.rest;
      follows = subst (λ (ps : List (Call × Reply)). Follows (at_first_line lines) ps (AtLine s.line s.tried s.rest)) (sym same) s.follows;
      limit = s.limit;
      before = s.before;
      later = s.later ++ e ∷ [];
      begins = sym (append_assoc s.before s.later (e ∷ [])) ∙ ap (λ (h : List Event). h ++ e ∷ []) s.begins;
      events = s.events ∙ sym (events-more c journal e foreign);
      state = s.state;
      leads = s.leads;
      full = s.full;
      joins = subst (λ (es : List Event). AreFollowedSoFar (Some s.line.call) es) (sym (events-more c journal e foreign)) s.joins;
    }

pub come-more : (w : ShapeValue) (journal : List Event) (e : Event) (c : CallerId) (lines : List ScriptLine) (p : RunPosition) → own_events c.rank c.thread (e ∷ []) ≡ []
    → HasCome w journal c lines p → HasCome w (journal ++ e ∷ []) c lines p
come-more w journal e c lines p foreign (inl f) =
    let same : recorded_calls c.rank c.thread (journal ++ e ∷ []) ≡ recorded_calls c.rank c.thread journal = own_calls-append c.rank c.thread journal (e ∷ []) ∙ rw (no-call _ _ e foreign) (append-nil _) in
    inl (
      subst (λ (ps : List (Call × Reply)). Follows (at_first_line lines) ps p) (sym same) f.0,
      subst (λ (es : List Event). AreFollowedSoFar (present p) es) (sym (events-more c journal e foreign)) f.1,
    )
come-more w journal e c lines p foreign (inr stopped) = inr (stopped.0, stopped.1, stopped-more w journal e c lines stopped.0 foreign stopped.2)

limit-more : (w : ShapeValue) (journal : List Event) (e : Event) (c : CallerId) (lines : List ScriptLine) (outcome : RunOutcome) → own_events c.rank c.thread (e ∷ []) ≡ []
    → HasLimitCause w journal c lines outcome → HasLimitCause w (journal ++ e ∷ []) c lines outcome
limit-more w journal e c lines outcomes.Ended foreign h = tt
limit-more w journal e c lines (outcomes.Failed number) foreign h = tt
limit-more w journal e c lines (outcomes.Stuck number) foreign h = tt
limit-more w journal e c lines (outcomes.NoMemory number) foreign h = h
limit-more w journal e c lines (outcomes.Limit number) foreign h =
    let r = h.4 in (
      h.0,
      h.1,
      h.2,
      h.3,
      record {
        before = r.before;
        later = r.later ++ e ∷ [];
        begins = sym (append_assoc r.before r.later (e ∷ [])) ∙ ap (λ (x : List Event). x ++ e ∷ []) r.begins;
        events = r.events ∙ sym (events-more c journal e foreign);
        state = r.state;
        leads = r.leads;
        full = r.full;
      },
    )

pub ended-more : (w : ShapeValue) (scripts : List Script) (journal : List Event) (e : Event) (f : EndedCaller) → own_events f.caller.rank f.caller.thread (e ∷ []) ≡ []
    → HasEnded w scripts journal f → HasEnded w scripts (journal ++ e ∷ []) f
ended-more w scripts journal e f foreign h =
    let same : recorded_calls f.caller.rank f.caller.thread (journal ++ e ∷ []) ≡ recorded_calls f.caller.rank f.caller.thread journal = own_calls-append f.caller.rank f.caller.thread journal (e ∷ []) ∙ rw (no-call _ _ e foreign) (append-nil _) in
    record {
      script = h.script;
      is_script = h.is_script;
      run = subst (λ (ps : List (Call × Reply)). IsRun h.script.lines ps f.outcome) (sym same) h.run;
      stopped = h.stopped;
      stopped_before = h.stopped_before;
      joins = subst (λ (es : List Event). AreJoinsFollowed h.stopped es) (sym (events-more f.caller journal e foreign)) h.joins;
      limit = limit-more w journal e f.caller h.script.lines f.outcome foreign h.limit;
    }

-- what stands in a table after a change: at the place what was set, at another what was there
pub set-cases : {A : Type 0} (xs : List A) (i j : ℕ) (x y z : A) → slice_get xs i ≡ Some x → slice_get (slice_set xs i y) j ≡ Some z
    → ((j ≡ i) × (z ≡ y)) ⊎ ((i ≡ j → ⊥) × (slice_get xs j ≡ Some z))
set-cases {A} xs i j x y z at h = go (i == j) refl
  where
    go : (b : Bool) → (i == j) ≡ b → ((j ≡ i) × (z ≡ y)) ⊎ ((i ≡ j → ⊥) × (slice_get xs j ≡ Some z))
    go true is =
        let same = eqb-true i j is in
        let set : ◌≡◌ {A = Option A} (Some y) (Some z) = sym (subst (λ (n : ℕ). slice_get (slice_set xs i y) n ≡ Some y) same (slice_get-set_same xs i x y at)) ∙ h in
        inl (sym same, (let one : y ≡ z = cc in sym one))
    go false is =
        let apart : i ≡ j → ⊥ = λ e. eqb-false i j is e in
        inr (apart, sym (slice_get-set_other xs i j y apart) ∙ h)
