-- The work that is left falls with each iteration.
use Rattle.std.proofs.Common.{◌≡◌, ℕ, zero, suc, ◌+◌, ◌-◌, ◌*◌, ◌<◌, ◌≤◌, Bool, true, false, ◌&&◌, if◌then◌else◌, List, [], ◌∷◌, ◌++◌, length, Option, None, Some, Result, Ok, Err, refl, sym, ap, subst, arith, nat_lt, nat_le, ◌==◌, remove, IsOk}
use Rattle.std.specs.List.{slice_get, slice_set, sum_by}
use Rattle.std.proofs.lemmas.Bool.{leb-false, ltb-true, ltb-false, ne_eqb}
use Rattle.std.proofs.lemmas.List.Sums.{sum_by-cons, sum_by-set, sum_by-remove}
use Rattle.std.proofs.lemmas.Option.{slice_get_within, get_or_from_slice_get}
use Rattle.gaspi_types.specs.declared.shapes.CallerId.{CallerId}
use Rattle.gaspi_types.specs.declared.calls.Call.{Call}
use Rattle.gaspi_types.specs.declared.calls.Call.TheVariants.{End}
use Rattle.gaspi_types.specs.declared.replies.Reply.{Reply}
use Rattle.gaspi_types.specs.declared.replies.Reply.TheVariants as replies
use Rattle.gaspi_types.specs.declared.replies.Ready.{Ready}
use Rattle.gaspi_types.specs.declared.replies.Ready.TheVariants as ready
use Rattle.gaspi_types.specs.declared.events.Event.{Event}
use Rattle.gaspi_types.specs.declared.events.Event.TheVariants.{Called}
use Rattle.gaspi_types.specs.declared.events.Transfer.{Transfer}
use Rattle.gaspi_types.specs.declared.groups.Args.{Args}
use Rattle.gaspi_model.specs.Sound.{IsSound, events_left}
use Rattle.gaspi_model.specs.Step.{step, transfer_event, answer_in, used_room, is_active}
use Rattle.gaspi_model.specs.Transfers.{transfers}
use Rattle.gaspi_model.specs.declared.states.State.{State}
use Rattle.gaspi_model.specs.declared.states.Posts.{Posts}
use Rattle.gaspi_model.specs.declared.states.Why.{Why}
use Rattle.gaspi_model.specs.CollectiveCalls.{join_event}
use Rattle.rank_script.specs.Runs.{RunPosition, AtLine, RunEnded, at_first_line, advanced, stopped, is_timeout, is_stuck, is_retried, is_failed}
use Rattle.rank_script.specs.declared.scripts.RunStop.TheVariants as halts
use Rattle.rank_script.specs.declared.scripts.ScriptLine.{ScriptLine}
use Rattle.rank_script.specs.declared.scripts.RunOutcome.{RunOutcome}
use Rattle.rank_script.specs.declared.scripts.RunOutcome.TheVariants as outcomes
use Rattle.rank_script.specs.Generator.{drawn}
use Rattle.plain_schedule.specs.Generator.{picked}
use Rattle.plain_schedule.specs.Endings.{present_need}
use Rattle.plain_schedule.specs.Schedule.{made, looks_of, with_active, recorded, looked, joined, joined_answered, joined_iteration, answered, active_iteration, end_iteration, run_iteration, caller_iteration, candidate_iteration, candidates, with_draw, iterate, AreActive}
use Rattle.plain_schedule.specs.declared.schedule_states.ActiveCaller.{ActiveCaller}
use Rattle.plain_schedule.specs.declared.schedule_states.ScheduleState.{ScheduleState}
use Rattle.plain_schedule.proofs.Good.{Steps, made-waiting}

-- what a caller may still do: for each call of a line its looks and one more, as much for the line, and one for its end
abbrev pub line_work : ℕ → ScriptLine → ℕ
line_work limit line = 1 + looks_of limit line.timeout + line.tries * (1 + looks_of limit line.timeout)

abbrev pub run_work : ℕ → RunPosition → ℕ → ℕ
run_work limit (RunEnded outcome) looks = 1
run_work limit (AtLine line tried lines) looks =
    3 + (line.tries - tried) * (1 + looks_of limit line.timeout) + (looks_of limit line.timeout - looks) + sum_by (line_work limit) lines

abbrev pub waiting_work : ℕ → ActiveCaller → ℕ
waiting_work limit w = run_work limit w.cursor w.looks

-- what the schedule may still do: the work of its callers, and the events that are left
abbrev pub work : ℕ → ScheduleState → ℕ
work limit t = sum_by (waiting_work limit) t.active + events_left t.state

and-right : (a b : Bool) → (a && b) ≡ true → b ≡ true
and-right true b h = h
and-right false b h = cc h

-- a run that goes on with lines has less work than a line more
going-less : (limit : ℕ) (lines : List ScriptLine) → run_work limit (at_first_line lines) 0 < 3 + sum_by (line_work limit) lines
going-less limit [] = omega arith
going-less limit (line ∷ lines) =
    let sum = sum_by-cons (line_work limit) line lines in
    let all : line.tries - 0 ≡ line.tries = omega arith in
    let product : (line.tries - 0) * (1 + looks_of limit line.timeout) ≡ line.tries * (1 + looks_of limit line.timeout) = ap (λ (n : ℕ). n * (1 + looks_of limit line.timeout)) all in
    omega arith

-- one try less
fewer-tries : (tries tried each : ℕ) → tried + 1 < tries → (tries - (tried + 1)) * each + each ≤ (tries - tried) * each
fewer-tries tries tried each h =
    let more : tries - tried ≡ suc (tries - (tried + 1)) = omega arith in
    subst (λ (n : ℕ). (tries - (tried + 1)) * each + each ≤ n * each) (sym more) (omega arith)

advanced-less : (limit : ℕ) (line : ScriptLine) (tried : ℕ) (lines : List ScriptLine) (reply : Reply) (looks : ℕ)
    → run_work limit (advanced (AtLine line tried lines) reply) 0 < run_work limit (AtLine line tried lines) looks
advanced-less limit line tried lines reply looks = stuck-or (is_stuck line reply)
  where
    failed-or : (b : Bool) → run_work limit (if b then RunEnded (outcomes.Failed line.number) else at_first_line lines) 0 < run_work limit (AtLine line tried lines) looks
    failed-or true = omega arith
    failed-or false = let less = going-less limit lines in omega arith

    repeated-or : (b : Bool) → is_retried line tried reply ≡ b
        → run_work limit (if b then AtLine line (tried + 1) lines else (if is_failed line reply then RunEnded (outcomes.Failed line.number) else at_first_line lines)) 0 < run_work limit (AtLine line tried lines) looks
    repeated-or true again =
        let left = ltb-true (tried + 1) line.tries (and-right (is_timeout reply) (nat_lt (tried + 1) line.tries) again) in
        let fewer = fewer-tries line.tries tried (1 + looks_of limit line.timeout) left in
        omega arith
    repeated-or false again = failed-or (is_failed line reply)

    stuck-or : (b : Bool) → run_work limit (if b then RunEnded (outcomes.Stuck line.number) else (if is_retried line tried reply then AtLine line (tried + 1) lines
        else (if is_failed line reply then RunEnded (outcomes.Failed line.number) else at_first_line lines))) 0 < run_work limit (AtLine line tried lines) looks
    stuck-or true = omega arith
    stuck-or false = repeated-or (is_retried line tried reply) refl

-- what follows from the facts about a sound step: a step takes an event
abbrev pub Counts : Type 0
Counts = (s t : State) (e : Event) → IsSound s → step s e ≡ Ok t → events_left t + 1 ≡ events_left s

-- an event that was tried leaves no more work, and less where it was made
made-work : Counts → (limit : ℕ) (t : ScheduleState) (e : Event) → IsSound t.state → work limit (made t e) ≤ work limit t
made-work counts limit t e sound = go (step t.state e) refl
  where
    go : (r : Result State Why) → step t.state e ≡ r → work limit (made t e) ≤ work limit t
    go (Ok s) is = rw is (let one = counts t.state s e sound is in omega arith)
    go (Err why) is = rw is (omega arith)

made-less : Counts → (limit : ℕ) (t : ScheduleState) (e : Event) → IsSound t.state → IsOk (step t.state e) → work limit (made t e) < work limit t
made-less counts limit t e sound ok = go (step t.state e) refl
  where
    go : (r : Result State Why) → step t.state e ≡ r → work limit (made t e) < work limit t
    go (Ok s) is = rw is (let one = counts t.state s e sound is in omega arith)
    go (Err why) is = absurd (let no = rw is at ok in let none : ⊥ = cc in none)

-- a caller that is changed to one with less work
waiting-less : (limit : ℕ) (t : ScheduleState) (place : ℕ) (w w' : ActiveCaller) → slice_get t.active place ≡ Some w → waiting_work limit w' < waiting_work limit w
    → work limit (with_active t place w') < work limit t
waiting-less limit t place w w' at less =
    let within = slice_get_within t.active place w at in
    let there = get_or_from_slice_get t.active place w w at in
    let sum = subst (λ (x : ActiveCaller). sum_by (waiting_work limit) (slice_set t.active place w') + waiting_work limit x ≡ sum_by (waiting_work limit) t.active + waiting_work limit w') there (sum_by-set (waiting_work limit) t.active place w' w within) in
    omega arith

past-none : {A : Type 0} (xs : List A) (i : ℕ) → i < length xs → slice_get xs i ≡ None → ⊥
past-none [] i less at = omega arith
past-none (x ∷ xs) zero less at = cc
past-none (x ∷ xs) (suc i) less at = past-none xs i (omega arith) at

none-past : {A : Type 0} (xs : List A) (i : ℕ) → slice_get xs i ≡ None → length xs ≤ i
none-past [] i at = omega arith
none-past (x ∷ xs) zero at = absurd (let no : ⊥ = cc in no)
none-past (x ∷ xs) (suc i) at = let rest = none-past xs i at in omega arith

recorded-less : Counts → (limit : ℕ) (t : ScheduleState) (place : ℕ) (w : ActiveCaller) (line : ScriptLine) (tried : ℕ) (lines : List ScriptLine) (call : Call) (reply : Reply) → IsSound t.state
    → slice_get t.active place ≡ Some w → w.cursor ≡ AtLine line tried lines → work limit (recorded t place w call reply) < work limit t
recorded-less counts limit t place w line tried lines call reply sound at going =
    let w' : ActiveCaller = record { caller = w.caller; cursor = advanced w.cursor reply; looks = 0 } in
    let event = made-work counts limit (with_active t place w') (Called w.caller call reply) sound in
    let less = waiting-less limit t place w w' at (rw going (advanced-less limit line tried lines reply w.looks)) in
    omega arith

looked-less : Counts → (limit : ℕ) (t : ScheduleState) (place : ℕ) (w : ActiveCaller) (line : ScriptLine) (tried : ℕ) (lines : List ScriptLine) → IsSound t.state
    → slice_get t.active place ≡ Some w → w.cursor ≡ AtLine line tried lines → work limit (looked limit t place w line) < work limit t
looked-less counts limit t place w line tried lines sound at going = go (nat_le (looks_of limit line.timeout) (w.looks + 1)) refl
  where
    go : (b : Bool) → nat_le (looks_of limit line.timeout) (w.looks + 1) ≡ b → work limit (looked limit t place w line) < work limit t
    go true last = rw last (recorded-less counts limit t place w line tried lines line.call replies.Timeout sound at going)
    go false more =
        let w' : ActiveCaller = record { caller = w.caller; cursor = w.cursor; looks = w.looks + 1 } in
        let looks = leb-false (looks_of limit line.timeout) (w.looks + 1) more in
        rw more (waiting-less limit t place w w' at (rw going (omega arith)))

-- each transfer that is listed is a step
abbrev pub TransfersAreSteps : Type 0
TransfersAreSteps = (s : State) (t : Transfer) (k : ℕ) → IsSound s → slice_get (transfers s.limits s.posts) k ≡ Some t → IsOk (step s (transfer_event s t))

-- a join of the present call of an active caller is a step where there is room
abbrev pub JoinsAreSteps : Type 0
JoinsAreSteps = (s : State) (c : CallerId) (line : ScriptLine) (args : Args) → IsSound s → is_active s c.rank c.thread ≡ true → used_room s c.rank + present_need s c line ≤ s.limits.events
    → answer_in s c.rank c.thread line.call ≡ Some (ready.Join args) → IsOk (step s (join_event c line.call args))

-- what the work rests on
pub record WorkLaws : Type 0 where
  pub counts : Counts
  pub transfers : TransfersAreSteps
  pub joins : JoinsAreSteps
  pub steps : Steps

made-sound : Steps → (t : ScheduleState) (e : Event) → IsSound t.state → IsSound (made t e).state
made-sound steps t e sound = go (step t.state e) refl
  where
    go : (r : Result State Why) → step t.state e ≡ r → IsSound (made t e).state
    go (Err why) is = rw is sound
    go (Ok s) is = rw is (steps t.state s e sound is)

joined-answered-less : Counts → (limit : ℕ) (t : ScheduleState) (place : ℕ) (w : ActiveCaller) (line : ScriptLine) (tried : ℕ) (lines : List ScriptLine) (found : Option Ready) → IsSound t.state
    → slice_get t.active place ≡ Some w → w.cursor ≡ AtLine line tried lines → work limit (joined_answered limit t place w line found) ≤ work limit t
joined-answered-less counts limit t place w line tried lines None sound at going = omega arith
joined-answered-less counts limit t place w line tried lines (Some (ready.Reply reply)) sound at going = let less = recorded-less counts limit t place w line tried lines line.call reply sound at going in omega arith
joined-answered-less counts limit t place w line tried lines (Some (ready.Join args)) sound at going = omega arith
joined-answered-less counts limit t place w line tried lines (Some ready.NotReady) sound at going = let less = looked-less counts limit t place w line tried lines sound at going in omega arith

joined-less : WorkLaws → (limit : ℕ) (t : ScheduleState) (place : ℕ) (w : ActiveCaller) (line : ScriptLine) (tried : ℕ) (lines : List ScriptLine) (args : Args) → IsSound t.state
    → slice_get t.active place ≡ Some w → w.cursor ≡ AtLine line tried lines → IsOk (step t.state (join_event w.caller line.call args)) → work limit (joined_iteration limit (joined t w line args) place w line) < work limit t
joined-less laws limit t place w line tried lines args sound at going ok =
    let e = join_event w.caller line.call args in
    let t' = made t e in
    let there = subst (λ (ws : List ActiveCaller). slice_get ws place ≡ Some w) (sym (made-waiting t e)) at in
    let first = made-less laws.counts limit t e sound ok in
    let rest = joined-answered-less laws.counts limit t' place w line tried lines (answer_in t'.state w.caller.rank w.caller.thread line.call) (made-sound laws.steps t e sound) there going in
    omega arith

answered-less : WorkLaws → (limit : ℕ) (t : ScheduleState) (place : ℕ) (w : ActiveCaller) (line : ScriptLine) (tried : ℕ) (lines : List ScriptLine) (found : Option Ready) → IsSound t.state
    → slice_get t.active place ≡ Some w → w.cursor ≡ AtLine line tried lines → is_active t.state w.caller.rank w.caller.thread ≡ true
    → used_room t.state w.caller.rank + present_need t.state w.caller line ≤ t.state.limits.events → answer_in t.state w.caller.rank w.caller.thread line.call ≡ found → (found ≡ None → ⊥)
    → work limit (answered limit t place w line found) < work limit t
answered-less laws limit t place w line tried lines None sound at going active room answers some = absurd (some refl)
answered-less laws limit t place w line tried lines (Some (ready.Reply reply)) sound at going active room answers some = recorded-less laws.counts limit t place w line tried lines line.call reply sound at going
answered-less laws limit t place w line tried lines (Some (ready.Join args)) sound at going active room answers some =
    joined-less laws limit t place w line tried lines args sound at going (laws.joins t.state w.caller line args sound active room answers)
answered-less laws limit t place w line tried lines (Some ready.NotReady) sound at going active room answers some = looked-less laws.counts limit t place w line tried lines sound at going

-- a look at a call finds something where the caller's rank is there
pub answer-some : (s : State) (rank thread : ℕ) (call : Call) → IsSound s → rank < s.limits.ranks → answer_in s rank thread call ≡ None → ⊥
answer-some s rank thread call sound within none = go (slice_get s.posts rank) refl
  where
    go : (p : Option Posts) → slice_get s.posts rank ≡ p → ⊥
    go None hp = past-none s.posts rank (let same = sound.ranks in omega arith) hp
    go (Some posts) hp = let no = rw hp at none in cc

going-less-iteration : WorkLaws → (limit : ℕ) (t : ScheduleState) (place : ℕ) (w : ActiveCaller) (line : ScriptLine) (tried : ℕ) (lines : List ScriptLine) → IsSound t.state → w.caller.rank < t.state.limits.ranks
    → is_active t.state w.caller.rank w.caller.thread ≡ true → slice_get t.active place ≡ Some w → w.cursor ≡ AtLine line tried lines → work limit (active_iteration limit t place w line) < work limit t
going-less-iteration laws limit t place w line tried lines sound within active at going = go (nat_lt t.state.limits.events (used_room t.state w.caller.rank + present_need t.state w.caller line)) refl
  where
    go : (b : Bool) → nat_lt t.state.limits.events (used_room t.state w.caller.rank + present_need t.state w.caller line) ≡ b → work limit (active_iteration limit t place w line) < work limit t
    go true full =
        let w' : ActiveCaller = record { caller = w.caller; cursor = stopped w.cursor halts.Limit; looks = 0 } in
        rw full (waiting-less limit t place w w' at (rw going (omega arith)))
    go false room =
        let fits = ltb-false t.state.limits.events (used_room t.state w.caller.rank + present_need t.state w.caller line) room in
        rw room (answered-less laws limit t place w line tried lines (answer_in t.state w.caller.rank w.caller.thread line.call) sound at going active fits refl
        (answer-some t.state w.caller.rank w.caller.thread line.call sound within))

ending-less : Counts → (limit : ℕ) (t : ScheduleState) (place : ℕ) (w : ActiveCaller) (outcome : RunOutcome) → IsSound t.state
    → slice_get t.active place ≡ Some w → w.cursor ≡ RunEnded outcome → work limit (end_iteration t place w outcome) < work limit t
ending-less counts limit t place w outcome sound at over =
    let t' : ScheduleState = record t { active = remove t.active place; ended = t.ended ++ record { caller = w.caller; outcome = outcome } ∷ [] } in
    let event = made-work counts limit t' (Called w.caller End replies.Done) sound in
    let one : waiting_work limit w ≡ 1 = rw over refl in
    let there = get_or_from_slice_get t.active place w w at in
    let sum = subst (λ (x : ActiveCaller). sum_by (waiting_work limit) (remove t.active place) + waiting_work limit x ≡ sum_by (waiting_work limit) t.active) there
    (sum_by-remove (waiting_work limit) t.active place w (slice_get_within t.active place w at)) in
    omega arith

caller-less : WorkLaws → (limit : ℕ) (t : ScheduleState) (place : ℕ) (w : ActiveCaller) → IsSound t.state → w.caller.rank < t.state.limits.ranks
    → is_active t.state w.caller.rank w.caller.thread ≡ true → slice_get t.active place ≡ Some w → work limit (caller_iteration limit t place w) < work limit t
caller-less laws limit t place w sound within active at = go w.cursor refl
  where
    go : (p : RunPosition) → w.cursor ≡ p → work limit (caller_iteration limit t place w) < work limit t
    go (AtLine line tried lines) is =
        subst (λ (x : ScheduleState). work limit x < work limit t) (sym (ap (λ (p : RunPosition). run_iteration limit t place w p) is)) (going-less-iteration laws limit t place w line tried lines sound within active at is)
    go (RunEnded outcome) is =
        subst (λ (x : ScheduleState). work limit x < work limit t) (sym (ap (λ (p : RunPosition). run_iteration limit t place w p) is)) (ending-less laws.counts limit t place w outcome sound at is)

-- the callers that wait are of ranks that are there
abbrev pub AreRanked : ScheduleState → Type 0
AreRanked t = (place : ℕ) (w : ActiveCaller) → slice_get t.active place ≡ Some w → w.caller.rank < t.state.limits.ranks

candidate-less : WorkLaws → (limit : ℕ) (t : ScheduleState) (candidate : ℕ) → IsSound t.state → AreRanked t → AreActive t → candidate < candidates t
    → work limit (candidate_iteration limit t candidate) < work limit t
candidate-less laws limit t candidate sound ranked active less = of-caller (slice_get t.active candidate) refl
  where
    of-transfer : (o : Option Transfer) → slice_get t.active candidate ≡ None → slice_get (transfers t.state.limits t.state.posts) (candidate - length t.active) ≡ o
        → work limit (candidate_iteration limit t candidate) < work limit t
    of-transfer None past none =
        let over = none-past t.active candidate past in
        absurd (past-none (transfers t.state.limits t.state.posts) (candidate - length t.active) (omega arith) none)
    of-transfer (Some transfer) past at = rw (past, at) (made-less laws.counts limit t (transfer_event t.state transfer) sound (laws.transfers t.state transfer (candidate - length t.active) sound at))

    of-caller : (o : Option ActiveCaller) → slice_get t.active candidate ≡ o → work limit (candidate_iteration limit t candidate) < work limit t
    of-caller (Some w) at = rw at (caller-less laws limit t candidate w sound (ranked candidate w at) (active candidate w at) at)
    of-caller None past = of-transfer (slice_get (transfers t.state.limits t.state.posts) (candidate - length t.active)) past refl

-- each iteration with a candidate leaves less work
pub iteration-less : WorkLaws → (limit : ℕ) (t : ScheduleState) → IsSound t.state → AreRanked t → AreActive t → 0 < candidates t → work limit (iterate limit t) < work limit t
iteration-less laws limit t sound ranked active some =
    let apart : (candidates t == 0) ≡ false = ne_eqb (candidates t) 0 (omega arith) in
    rw apart (candidate-less laws limit (with_draw t) (picked (drawn t.x) (candidates t)) sound ranked active (omega arith))
