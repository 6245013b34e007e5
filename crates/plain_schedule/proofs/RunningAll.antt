-- Every iteration of the schedule keeps that the callers' calls are runs of their scripts.
use Rattle.std.proofs.Common.{◌≡◌, ◌≢◌, ℕ, zero, suc, ◌+◌, ◌-◌, ◌<◌, ◌≤◌, Bool, true, false, List, [], ◌∷◌, ◌++◌, length, Option, None, Some, Result, Ok, Err, refl, sym, ap, ◌∙◌, subst, arith, nat_lt, nat_le, ◌==◌, IsOk, inr, append-nil, if◌then◌else◌}
use Rattle.std.specs.List.{slice_get, All}
use Rattle.std.proofs.lemmas.Bool.{ltb-true, ltb-false}
use Rattle.std.proofs.lemmas.List.Elements.{All-get_or}
use Rattle.std.proofs.lemmas.Option.{slice_get_within, get_or_from_slice_get}
use Rattle.gaspi_types.specs.World.{ShapeValue}
use Rattle.gaspi_types.specs.CallRows.{need_of, is_end}
use Rattle.gaspi_types.specs.declared.calls.Call.{Call}
use Rattle.gaspi_types.specs.declared.calls.Call.TheVariants.{End}
use Rattle.gaspi_types.specs.declared.replies.Reply.TheVariants as replies
use Rattle.gaspi_types.specs.declared.replies.Ready.{Ready}
use Rattle.gaspi_types.specs.declared.replies.Ready.TheVariants as ready
use Rattle.gaspi_types.specs.declared.events.Event.{Event}
use Rattle.gaspi_types.specs.declared.events.Event.TheVariants.{Called}
use Rattle.gaspi_types.specs.declared.events.Transfer.{Transfer}
use Rattle.gaspi_types.specs.declared.groups.Args.{Args}
use Rattle.gaspi_types.specs.declared.shapes.CallerId.{CallerId}
use Rattle.gaspi_model.specs.State.{thread_at, is_running}
use Rattle.gaspi_model.specs.Calls.{recorded_reply}
use Rattle.gaspi_model.specs.CollectiveCalls.{is_joining, joining_call, group_of, join_event}
use Rattle.gaspi_model.specs.Sound.{IsSound}
use Rattle.gaspi_model.specs.Step.{step, transfer_event, answer_in, used_room, recorded_calls, is_active, is_pending, ends_caller}
use Rattle.gaspi_model.specs.Transfers.{transfers}
use Rattle.gaspi_model.specs.declared.states.Posts.{Posts}
use Rattle.gaspi_model.specs.declared.states.State.{State}
use Rattle.gaspi_model.specs.declared.states.Why.{Why}
use Rattle.gaspi_types.proofs.Items.{past-none}
use Rattle.rank_script.specs.PlainScripts.{IsPlain, HasPlainLines, ArePlain}
use Rattle.rank_script.specs.Runs.{RunPosition, AtLine, RunEnded, stopped}
use Rattle.rank_script.specs.declared.scripts.RunStop.TheVariants as halts
use Rattle.rank_script.specs.declared.scripts.Script.{Script}
use Rattle.rank_script.specs.declared.scripts.ScriptLine.{ScriptLine}
use Rattle.rank_script.specs.declared.scripts.RunOutcome.{RunOutcome}
use Rattle.rank_script.specs.declared.scripts.RunOutcome.TheVariants as outcomes
use Rattle.rank_script.specs.Generator.{drawn}
use Rattle.plain_schedule.specs.Generator.{picked}
use Rattle.plain_schedule.specs.Endings.{present_need, own_events}
use Rattle.plain_schedule.specs.Schedule.{made, looks_of, recorded, looked, joined, joined_answered, joined_iteration, answered, active_iteration, end_iteration, run_iteration, caller_iteration, candidate_iteration, candidates, with_draw, iterate, iterations}
use Rattle.plain_schedule.specs.declared.schedule_states.ActiveCaller.{ActiveCaller}
use Rattle.plain_schedule.specs.declared.schedule_states.ScheduleState.{ScheduleState}
use Rattle.plain_schedule.proofs.Good.{IsGood, Steps, LimitsStay, good-made, good-iteration}
use Rattle.plain_schedule.proofs.Work.{JoinsAreSteps}
use Rattle.plain_schedule.proofs.JoinsFollowed.{ends_joined}
use Rattle.plain_schedule.proofs.Running.{IsRunning, Goes, come-going, line-there, find-there}
use Rattle.plain_schedule.proofs.Iterations.{ActiveStays, Onward, foreign-step, joining-step, waiting-changed, called-step}
use Rattle.plain_schedule.proofs.RunningEnds.{EndsRun, StopsRun, ending-step}

-- a call of an active caller, with the reply that it has, is a step where there is room
abbrev pub CallsAreSteps : Type 0
CallsAreSteps = (s : State) (rank thread : ℕ) (call : Call) (ready : Ready) → IsSound s → is_active s rank thread ≡ true
    → used_room s rank + need_of call (is_pending s rank thread call) false ≤ s.limits.events → answer_in s rank thread call ≡ Some ready → is_joining ready ≡ false
    → IsOk (step s (Called (record { rank = rank; thread = thread }) call (recorded_reply ready)))

-- What a join of the present call of an active caller is and leaves: a step where there is room; its rank has the room that the call
-- needs yet; it is of that call, which was not pending, and is then.
pub record JoinLaws : Type 0 where
  pub steps : JoinsAreSteps
  pub room : (s t : State) (c : CallerId) (line : ScriptLine) (args : Args) → IsSound s → answer_in s c.rank c.thread line.call ≡ Some (ready.Join args)
      → used_room s c.rank + present_need s c line ≤ s.limits.events → step s (join_event c line.call args) ≡ Ok t
      → used_room t c.rank + present_need t c line ≤ t.limits.events
  pub once : (s : State) (c : CallerId) (line : ScriptLine) (args : Args) → answer_in s c.rank c.thread line.call ≡ Some (ready.Join args) → is_pending s c.rank c.thread line.call ≡ false
  pub itself : (s : State) (c : CallerId) (line : ScriptLine) (args : Args) → answer_in s c.rank c.thread line.call ≡ Some (ready.Join args) → joining_call (group_of line.call) args ≡ line.call
  pub pends : (s t : State) (c : CallerId) (line : ScriptLine) (args : Args) → IsSound s → answer_in s c.rank c.thread line.call ≡ Some (ready.Join args)
      → step s (join_event c line.call args) ≡ Ok t → is_pending t c.rank c.thread line.call ≡ true

-- the laws that the iterations rest on
pub record Laws : Type 0 where
  pub steps : Steps
  pub stay : LimitsStay
  pub active : ActiveStays
  pub calls : CallsAreSteps
  pub joins : JoinLaws
  pub onward : Onward
  pub ends : EndsRun
  pub stops : StopsRun

not-end : (call : Call) → call ≢ End → is_end call ≡ false
not-end End other = absurd (other refl)
not-end call other = refl

all-at : {X : Type 0} (P : X → Type 0) (xs : List X) (place : ℕ) (x : X) → All P xs → slice_get xs place ≡ Some x → P x
all-at P xs place x all at = subst P (get_or_from_slice_get xs place x x at) (All-get_or P xs place x (slice_get_within xs place x at) all)

-- the present line of a caller is one of its script, and makes no end
plain-line : (w : ShapeValue) (scripts : List Script) (journal : List Event) (x : ActiveCaller) (line : ScriptLine) (tried : ℕ) (lines : List ScriptLine) → ArePlain scripts → Goes w scripts journal x → x.cursor ≡ AtLine line tried lines → is_end line.call ≡ false
plain-line w scripts journal x line tried lines plain g going =
    let f = come-going w journal x.caller g.script.lines x.cursor line tried lines going g.come in
    let there = line-there g.script.lines (recorded_calls x.caller.rank x.caller.thread journal) line tried lines f.0 in
    let script = find-there _ scripts g.script g.is_script in
    not-end line.call (all-at IsPlain g.script.lines there.0 line (all-at HasPlainLines scripts script.0 g.script plain script.1) there.1)

ok-state : (r : Result State Why) → IsOk r → (s : State) × (r ≡ Ok s)
ok-state (Ok s) h = (s, refl)
ok-state (Err why) h = absurd (let no : ⊥ = cc in no)

-- a reply recorded
recorded-running : Laws → (w : ShapeValue) (scripts : List Script) (t : ScheduleState) (place : ℕ) (x : ActiveCaller) (line : ScriptLine) (tried : ℕ) (lines : List ScriptLine) (found : Ready) → is_joining found ≡ false → ArePlain scripts → IsGood w t → IsRunning w scripts t
    → slice_get t.active place ≡ Some x → x.cursor ≡ AtLine line tried lines → used_room t.state x.caller.rank + present_need t.state x.caller line ≤ t.state.limits.events
    → answer_in t.state x.caller.rank x.caller.thread line.call ≡ Some found → IsRunning w scripts (recorded t place x line.call (recorded_reply found))
recorded-running laws w scripts t place x line tried lines found unjoined plain good running at going room answers =
    let ok = ok-state (step t.state (Called x.caller line.call (recorded_reply found))) (laws.calls t.state x.caller.rank x.caller.thread line.call found good.sound (running.active place x at) room answers unjoined) in
    let made = called-step laws.active laws.onward w scripts t place x line tried lines (recorded_reply found) ok.0 good.sound running at going (plain-line w scripts t.journal x line tried lines plain (running.goes place x at) going) ok.1 in
    rw ok.1 made

looked-running : Laws → (limit : ℕ) (w : ShapeValue) (scripts : List Script) (t : ScheduleState) (place : ℕ) (x : ActiveCaller) (line : ScriptLine) (tried : ℕ) (lines : List ScriptLine) → ArePlain scripts → IsGood w t → IsRunning w scripts t
    → slice_get t.active place ≡ Some x → x.cursor ≡ AtLine line tried lines → used_room t.state x.caller.rank + present_need t.state x.caller line ≤ t.state.limits.events
    → answer_in t.state x.caller.rank x.caller.thread line.call ≡ Some ready.NotReady → IsRunning w scripts (looked limit t place x line)
looked-running laws limit w scripts t place x line tried lines plain good running at going room answers = go (nat_le (looks_of limit line.timeout) (x.looks + 1)) refl
  where
    go : (b : Bool) → nat_le (looks_of limit line.timeout) (x.looks + 1) ≡ b → IsRunning w scripts (looked limit t place x line)
    go true last = rw last (recorded-running laws w scripts t place x line tried lines ready.NotReady refl plain good running at going room answers)
    go false more =
        let x' : ActiveCaller = record { caller = x.caller; cursor = x.cursor; looks = x.looks + 1 } in
        let g = running.goes place x at in
        rw more (waiting-changed w scripts t place x x' running at refl (λ l n ls h. h) (record { script = g.script; is_script = g.is_script; come = g.come }))

-- what the look goes on to find where the present call has joined
joined-answered-running : Laws → (limit : ℕ) (w : ShapeValue) (scripts : List Script) (t : ScheduleState) (place : ℕ) (x : ActiveCaller) (line : ScriptLine) (tried : ℕ) (lines : List ScriptLine) (found : Option Ready) → ArePlain scripts → IsGood w t → IsRunning w scripts t
    → slice_get t.active place ≡ Some x → x.cursor ≡ AtLine line tried lines → used_room t.state x.caller.rank + present_need t.state x.caller line ≤ t.state.limits.events
    → answer_in t.state x.caller.rank x.caller.thread line.call ≡ found → IsRunning w scripts (joined_answered limit t place x line found)
joined-answered-running laws limit w scripts t place x line tried lines None plain good running at going room answers = running
joined-answered-running laws limit w scripts t place x line tried lines (Some (ready.Reply reply)) plain good running at going room answers =
    recorded-running laws w scripts t place x line tried lines (ready.Reply reply) refl plain good running at going room answers
joined-answered-running laws limit w scripts t place x line tried lines (Some (ready.Join args)) plain good running at going room answers = running
joined-answered-running laws limit w scripts t place x line tried lines (Some ready.NotReady) plain good running at going room answers =
    looked-running laws limit w scripts t place x line tried lines plain good running at going room answers

made-is : (t : ScheduleState) (e : Event) (s : State) → step t.state e ≡ Ok s → made t e ≡ record t { state = s; journal = t.journal ++ e ∷ [] }
made-is t e s is = rw is refl

-- the join of the present call, and what is found after it
joined-running : Laws → (limit : ℕ) (w : ShapeValue) (scripts : List Script) (t : ScheduleState) (place : ℕ) (x : ActiveCaller) (line : ScriptLine) (tried : ℕ) (lines : List ScriptLine) (args : Args) → ArePlain scripts → IsGood w t → IsRunning w scripts t
    → slice_get t.active place ≡ Some x → x.cursor ≡ AtLine line tried lines → used_room t.state x.caller.rank + present_need t.state x.caller line ≤ t.state.limits.events
    → answer_in t.state x.caller.rank x.caller.thread line.call ≡ Some (ready.Join args) → IsRunning w scripts (joined_iteration limit (joined t x line args) place x line)
joined-running laws limit w scripts t place x line tried lines args plain good running at going room answers =
    let e = join_event x.caller line.call args in
    let ok = ok-state (step t.state e) (laws.joins.steps t.state x.caller line args good.sound (running.active place x at) room answers) in
    let t' : ScheduleState = record t { state = ok.0; journal = t.journal ++ e ∷ [] } in
    let is : joined t x line args ≡ t' = made-is t e ok.0 ok.1 in
    let good' : IsGood w t' = subst (λ (u : ScheduleState). IsGood w u) is (good-made laws.steps laws.stay w t e good) in
    let running' : IsRunning w scripts t' = joining-step laws.active w scripts t place x line tried lines (group_of line.call) args ok.0 good.sound running at going ok.1
    (laws.joins.itself t.state x.caller line args answers) (closed (ends_joined (own_events x.caller.rank x.caller.thread t.journal)) refl) (laws.joins.pends t.state ok.0 x.caller line args good.sound answers ok.1) in
    let room' = laws.joins.room t.state ok.0 x.caller line args good.sound answers room ok.1 in
    subst (λ (u : ScheduleState). IsRunning w scripts (joined_iteration limit u place x line)) (sym is)
    (joined-answered-running laws limit w scripts t' place x line tried lines (answer_in ok.0 x.caller.rank x.caller.thread line.call) plain good' running' at going room' refl)
  where
    closed : (b : Bool) → ends_joined (own_events x.caller.rank x.caller.thread t.journal) ≡ b → ends_joined (own_events x.caller.rank x.caller.thread t.journal) ≡ false
    closed false h = h
    closed true h =
        let pends = running.joined place x line tried lines at going h in
        let not = laws.joins.once t.state x.caller line args answers in
        absurd (let never : true ≡ false = sym pends ∙ not in let no : ⊥ = cc in no)

answered-running : Laws → (limit : ℕ) (w : ShapeValue) (scripts : List Script) (t : ScheduleState) (place : ℕ) (x : ActiveCaller) (line : ScriptLine) (tried : ℕ) (lines : List ScriptLine) (found : Option Ready) → ArePlain scripts → IsGood w t → IsRunning w scripts t
    → slice_get t.active place ≡ Some x → x.cursor ≡ AtLine line tried lines → used_room t.state x.caller.rank + present_need t.state x.caller line ≤ t.state.limits.events
    → answer_in t.state x.caller.rank x.caller.thread line.call ≡ found → IsRunning w scripts (answered limit t place x line found)
answered-running laws limit w scripts t place x line tried lines None plain good running at going room answers = running
answered-running laws limit w scripts t place x line tried lines (Some (ready.Reply reply)) plain good running at going room answers =
    recorded-running laws w scripts t place x line tried lines (ready.Reply reply) refl plain good running at going room answers
answered-running laws limit w scripts t place x line tried lines (Some (ready.Join args)) plain good running at going room answers =
    joined-running laws limit w scripts t place x line tried lines args plain good running at going room answers
answered-running laws limit w scripts t place x line tried lines (Some ready.NotReady) plain good running at going room answers =
    looked-running laws limit w scripts t place x line tried lines plain good running at going room answers

-- a run that is stopped, since there is no room
stopped-goes : (w : ShapeValue) (scripts : List Script) (t : ScheduleState) (x : ActiveCaller) (line : ScriptLine) (tried : ℕ) (lines : List ScriptLine) → IsGood w t → Goes w scripts t.journal x → x.cursor ≡ AtLine line tried lines
    → t.state.limits.events < used_room t.state x.caller.rank + present_need t.state x.caller line
    → Goes w scripts t.journal (record { caller = x.caller; cursor = stopped x.cursor halts.Limit; looks = 0 })
stopped-goes w scripts t x line tried lines good g going full =
    let f = come-going w t.journal x.caller g.script.lines x.cursor line tried lines going g.come in
    record {
      script = g.script;
      is_script = g.is_script;
      come = inr (
        outcomes.Limit line.number,
        ap (λ (p : RunPosition). stopped p halts.Limit) going,
        record {
          line = line;
          tried = tried;
          rest = lines;
          follows = f.0;
          limit = refl;
          before = t.journal;
          later = [];
          begins = append-nil t.journal;
          events = refl;
          state = t.state;
          leads = good.legal;
          full = subst (λ (n : ℕ). n < used_room t.state x.caller.rank + present_need t.state x.caller line) (ap (λ (l : Rattle.gaspi_types.specs.declared.shapes.Limits.Limits). l.events) good.limits) full;
          joins = f.1;
        },
      );
    }

going-running : Laws → (limit : ℕ) (w : ShapeValue) (scripts : List Script) (t : ScheduleState) (place : ℕ) (x : ActiveCaller) (line : ScriptLine) (tried : ℕ) (lines : List ScriptLine) → ArePlain scripts → IsGood w t → IsRunning w scripts t
    → slice_get t.active place ≡ Some x → x.cursor ≡ AtLine line tried lines → IsRunning w scripts (active_iteration limit t place x line)
going-running laws limit w scripts t place x line tried lines plain good running at going = go (nat_lt t.state.limits.events (used_room t.state x.caller.rank + present_need t.state x.caller line)) refl
  where
    over-not : (l : ScriptLine) (n : ℕ) (ls : List ScriptLine) → stopped x.cursor halts.Limit ≡ AtLine l n ls → x.cursor ≡ AtLine l n ls
    over-not l n ls h =
        let over : ◌≡◌ {A = RunPosition} (stopped (AtLine line tried lines) halts.Limit) (AtLine l n ls) = ap (λ (p : RunPosition). stopped p halts.Limit) (sym going) ∙ h in
        absurd (let no : ⊥ = cc in no)

    go : (b : Bool) → nat_lt t.state.limits.events (used_room t.state x.caller.rank + present_need t.state x.caller line) ≡ b → IsRunning w scripts (active_iteration limit t place x line)
    go true full =
        let x' : ActiveCaller = record { caller = x.caller; cursor = stopped x.cursor halts.Limit; looks = 0 } in
        rw full (waiting-changed w scripts t place x x' running at refl (λ l n ls h. over-not l n ls h)
        (stopped-goes w scripts t x line tried lines good (running.goes place x at) going (ltb-true t.state.limits.events (used_room t.state x.caller.rank + present_need t.state x.caller line) full)))
    go false room =
        let fits = ltb-false t.state.limits.events (used_room t.state x.caller.rank + present_need t.state x.caller line) room in
        rw room (answered-running laws limit w scripts t place x line tried lines (answer_in t.state x.caller.rank x.caller.thread line.call) plain good running at going fits refl)

-- an active caller's end is answered
end-answer : (s : State) (rank thread : ℕ) → IsSound s → rank < s.limits.ranks → is_active s rank thread ≡ true → answer_in s rank thread End ≡ Some (ready.Reply replies.Done)
end-answer s rank thread sound within active = go (slice_get s.posts rank) refl
  where
    go : (p : Option Posts) → slice_get s.posts rank ≡ p → answer_in s rank thread End ≡ Some (ready.Reply replies.Done)
    go None hp = absurd (past-none s.posts rank (let same = sound.ranks in omega arith) hp)
    go (Some posts) hp =
        let running : is_running (thread_at posts thread) ≡ true = rw hp at active in
        rw (hp, running) refl

room-end : (s : State) (rank thread : ℕ) → IsSound s → used_room s rank + need_of End (is_pending s rank thread End) false ≤ s.limits.events
room-end s rank thread sound = go (slice_get s.posts rank) refl
  where
    go : (p : Option Posts) → slice_get s.posts rank ≡ p → used_room s rank + need_of End (is_pending s rank thread End) false ≤ s.limits.events
    go None hp = rw hp (omega arith)
    go (Some posts) hp = rw hp (let room = (sound.posts rank posts hp).room in omega arith)

ending-running : Laws → (w : ShapeValue) (scripts : List Script) (t : ScheduleState) (place : ℕ) (x : ActiveCaller) (outcome : RunOutcome) → IsGood w t → IsRunning w scripts t
    → slice_get t.active place ≡ Some x → x.cursor ≡ RunEnded outcome → IsRunning w scripts (end_iteration t place x outcome)
ending-running laws w scripts t place x outcome good running at over =
    let within : x.caller.rank < t.state.limits.ranks = subst (λ (l : Rattle.gaspi_types.specs.declared.shapes.Limits.Limits). x.caller.rank < l.ranks) (sym good.limits) (good.ranked place x at) in
    let active = running.active place x at in
    let answers = end-answer t.state x.caller.rank x.caller.thread good.sound within active in
    let ok = ok-state (step t.state (Called x.caller End replies.Done)) (laws.calls t.state x.caller.rank x.caller.thread End (ready.Reply replies.Done) good.sound active (room-end t.state x.caller.rank x.caller.thread good.sound) answers refl) in
    let made = ending-step laws.active laws.ends laws.stops w scripts t place x outcome ok.0 good.sound running at over ok.1 in
    rw ok.1 made

caller-running : Laws → (limit : ℕ) (w : ShapeValue) (scripts : List Script) (t : ScheduleState) (place : ℕ) (x : ActiveCaller) → ArePlain scripts → IsGood w t → IsRunning w scripts t → slice_get t.active place ≡ Some x
    → IsRunning w scripts (caller_iteration limit t place x)
caller-running laws limit w scripts t place x plain good running at = go x.cursor refl
  where
    go : (p : RunPosition) → x.cursor ≡ p → IsRunning w scripts (caller_iteration limit t place x)
    go (AtLine line tried lines) is =
        subst (λ (u : ScheduleState). IsRunning w scripts u) (sym (ap (λ (p : RunPosition). run_iteration limit t place x p) is)) (going-running laws limit w scripts t place x line tried lines plain good running at is)
    go (RunEnded outcome) is =
        subst (λ (u : ScheduleState). IsRunning w scripts u) (sym (ap (λ (p : RunPosition). run_iteration limit t place x p) is)) (ending-running laws w scripts t place x outcome good running at is)

-- a transfer is no caller's event
transfer-running : Laws → (w : ShapeValue) (scripts : List Script) (t : ScheduleState) (transfer : Transfer) → IsSound t.state → IsRunning w scripts t → IsRunning w scripts (made t (transfer_event t.state transfer))
transfer-running laws w scripts t transfer sound running = go (step t.state (transfer_event t.state transfer)) refl
  where
    foreign : (b : Bool) (put take : Event) → ((rank thread : ℕ) → own_events rank thread (put ∷ []) ≡ []) → ((rank thread : ℕ) → own_events rank thread (take ∷ []) ≡ []) → (rank thread : ℕ) → own_events rank thread ((if b then put else take) ∷ []) ≡ []
    foreign true put take p q rank thread = p rank thread
    foreign false put take p q rank thread = q rank thread

    ends : (b : Bool) (put take : Event) → ((rank thread : ℕ) → ends_caller rank thread put ≡ false) → ((rank thread : ℕ) → ends_caller rank thread take ≡ false) → (rank thread : ℕ) → ends_caller rank thread (if b then put else take) ≡ false
    ends true put take p q rank thread = p rank thread
    ends false put take p q rank thread = q rank thread

    go : (r : Result State Why) → step t.state (transfer_event t.state transfer) ≡ r → IsRunning w scripts (made t (transfer_event t.state transfer))
    go (Err why) is = rw is running
    go (Ok s) is = rw is (foreign-step laws.active w scripts t (transfer_event t.state transfer) s sound running is
        (foreign transfer.put _ _ (λ rank thread. refl) (λ rank thread. refl)) (ends transfer.put _ _ (λ rank thread. refl) (λ rank thread. refl)))

candidate-running : Laws → (limit : ℕ) (w : ShapeValue) (scripts : List Script) (t : ScheduleState) (candidate : ℕ) → ArePlain scripts → IsGood w t → IsRunning w scripts t → IsRunning w scripts (candidate_iteration limit t candidate)
candidate-running laws limit w scripts t candidate plain good running = of-caller (slice_get t.active candidate) refl
  where
    of-transfer : (o : Option Transfer) → slice_get t.active candidate ≡ None → slice_get (transfers t.state.limits t.state.posts) (candidate - length t.active) ≡ o → IsRunning w scripts (candidate_iteration limit t candidate)
    of-transfer None past none = rw (past, none) running
    of-transfer (Some transfer) past at = rw (past, at) (transfer-running laws w scripts t transfer good.sound running)

    of-caller : (o : Option ActiveCaller) → slice_get t.active candidate ≡ o → IsRunning w scripts (candidate_iteration limit t candidate)
    of-caller (Some x) at = rw at (caller-running laws limit w scripts t candidate x plain good running at)
    of-caller None past = of-transfer (slice_get (transfers t.state.limits t.state.posts) (candidate - length t.active)) past refl

pub running-iteration : Laws → (limit : ℕ) (w : ShapeValue) (scripts : List Script) (t : ScheduleState) → ArePlain scripts → IsGood w t → IsRunning w scripts t → IsRunning w scripts (iterate limit t)
running-iteration laws limit w scripts t plain good running = go (candidates t == 0) refl
  where
    good-draw : IsGood w (with_draw t)
    good-draw = record { legal = good.legal; sound = good.sound; limits = good.limits; ranked = good.ranked; own = good.own }

    draw : IsRunning w scripts (with_draw t)
    draw = record { active = running.active; goes = running.goes; joined = running.joined; ended = running.ended; counted = running.counted; once = running.once }

    go : (b : Bool) → (candidates t == 0) ≡ b → IsRunning w scripts (iterate limit t)
    go true over = rw over running
    go false some = rw some (candidate-running laws limit w scripts (with_draw t) (picked (drawn t.x) (candidates t)) plain good-draw draw)

pub running-iterations : Laws → (limit n : ℕ) (w : ShapeValue) (scripts : List Script) (t : ScheduleState) → ArePlain scripts → IsGood w t → IsRunning w scripts t → IsRunning w scripts (iterations limit n t)
running-iterations laws limit zero w scripts t plain good running = running
running-iterations laws limit (suc n) w scripts t plain good running =
    running-iterations laws limit n w scripts (iterate limit t) plain (good-iteration laws.steps laws.stay limit w t good) (running-iteration laws limit w scripts t plain good running)
