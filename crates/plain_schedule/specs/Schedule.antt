-- The schedule on one thread: iterations of callers and of transfers, picked by the generator. (own choice)
use Rattle.std.specs.Prelude.{◌≡◌, Bool, ℕ, zero, suc, ◌+◌, ◌-◌, true, ◌==◌, nat_lt, nat_le, List, [], ◌∷◌, ◌++◌, length, remove, Option, None, Some, Result, Ok, Err, IsOk, false, if◌then◌else◌, slice_get, slice_set, find}
use Rattle.std.specs.List.{flat_map, range_with_len}
use Rattle.gaspi_types.specs.World.{ShapeValue}
use Rattle.gaspi_types.specs.declared.shapes.CallerId.{CallerId}
use Rattle.gaspi_types.specs.declared.calls.Call.{Call}
use Rattle.gaspi_types.specs.declared.calls.Call.TheVariants.{End}
use Rattle.gaspi_types.specs.declared.calls.Timeout.{Timeout}
use Rattle.gaspi_types.specs.declared.calls.Timeout.TheVariants.{Looks, Block}
use Rattle.gaspi_types.specs.declared.replies.Reply.{Reply}
use Rattle.gaspi_types.specs.declared.replies.Reply.TheVariants as replies
use Rattle.gaspi_types.specs.declared.replies.Ready.{Ready}
use Rattle.gaspi_types.specs.declared.replies.Ready.TheVariants as ready
use Rattle.gaspi_types.specs.declared.events.Transfer.{Transfer}
use Rattle.gaspi_types.specs.declared.events.Event.{Event}
use Rattle.gaspi_types.specs.declared.events.Event.TheVariants.{Called}
use Rattle.gaspi_types.specs.declared.groups.Args.{Args}
use Rattle.gaspi_model.specs.State.{opening}
use Rattle.gaspi_model.specs.Step.{step, answer_in, used_room, transfer_event, is_active}
use Rattle.gaspi_model.specs.Transfers.{transfers}
use Rattle.gaspi_model.specs.declared.states.State.{State}
use Rattle.gaspi_model.specs.declared.states.Why.{Why}
use Rattle.gaspi_model.specs.CollectiveCalls.{join_event, is_joining}
use Rattle.gaspi_model.specs.Calls.{recorded_reply}
use Rattle.rank_script.specs.Runs.{RunPosition, AtLine, RunEnded, at_first_line, advanced, stopped}
use Rattle.rank_script.specs.WorldText.{is_script_of}
use Rattle.rank_script.specs.declared.scripts.RunStop.TheVariants as halts
use Rattle.rank_script.specs.declared.scripts.Script.{Script}
use Rattle.rank_script.specs.declared.scripts.ScriptLine.{ScriptLine}
use Rattle.rank_script.specs.declared.scripts.RunOutcome.{RunOutcome}
use Rattle.plain_schedule.specs.Endings.{present_need}
use Rattle.rank_script.specs.Generator.{drawn}
use Rattle.plain_schedule.specs.Generator.{picked}
use Rattle.plain_schedule.specs.declared.schedule_states.ActiveCaller.{ActiveCaller}
use Rattle.plain_schedule.specs.declared.schedule_states.ScheduleState.{ScheduleState}
use Rattle.plain_schedule.specs.declared.schedule_states.EndedCaller.{EndedCaller}

-- the caller of a script, at its start
abbrev pub starting : Option Script → List ActiveCaller
starting None = []
starting (Some script) = record { caller = script.caller; cursor = at_first_line script.lines; looks = 0 } ∷ []

-- the caller of a rank and thread at its start, where it has a script
abbrev pub thread_starts : List Script → ℕ → ℕ → List ActiveCaller
thread_starts scripts rank thread = starting (find (is_script_of (record { rank = rank; thread = thread })) scripts)

-- the callers of a rank at their start, by thread
abbrev pub rank_starts : List Script → ℕ → List ActiveCaller
rank_starts scripts rank = flat_map (thread_starts scripts rank) (range_with_len 0 4)

-- all callers at their start, by rank and thread
abbrev pub starts : ShapeValue → List Script → List ActiveCaller
starts w scripts = flat_map (rank_starts scripts) (range_with_len 0 w.limits.ranks)

-- what a schedule has before its first iteration
abbrev pub started : ShapeValue → List Script → ℕ → ScheduleState
started w scripts seed =
    record { x = seed; state = opening w; active = starts w scripts; ended = []; journal = [] }

-- an event made; one that is no step is not made
abbrev pub made : ScheduleState → Event → ScheduleState
made t e = after (step t.state e)
  where
    after : Result State Why → ScheduleState
    after (Err why) = t
    after (Ok state) = record t { state = state; journal = t.journal ++ e ∷ [] }

-- how many looks a call may have
abbrev pub looks_of : ℕ → Timeout → ℕ
looks_of limit (Looks n) = n
looks_of limit Block = limit

-- the active caller with this index, changed
abbrev pub with_active : ScheduleState → ℕ → ActiveCaller → ScheduleState
with_active t place w = record t { active = slice_set t.active place w }

-- a call recorded with its reply, after which its script goes on
abbrev pub recorded : ScheduleState → ℕ → ActiveCaller → Call → Reply → ScheduleState
recorded t place w call reply =
    made (with_active t place (record { caller = w.caller; cursor = advanced w.cursor reply; looks = 0 }))
    (Called w.caller call reply)

-- a look at a call that is not ready: at the last one a timeout is recorded, at another nothing is
abbrev pub looked : ℕ → ScheduleState → ℕ → ActiveCaller → ScriptLine → ScheduleState
looked limit t place w line =
    if nat_le (looks_of limit line.timeout) (w.looks + 1)
    then recorded t place w line.call replies.Timeout
    else with_active t place (record { caller = w.caller; cursor = w.cursor; looks = w.looks + 1 })

-- the arguments with which a look found that a call may join
abbrev pub join_args : Ready → Option Args
join_args (ready.Reply reply) = None
join_args (ready.Join args) = Some args
join_args ready.NotReady = None

-- the join of the present call to its group
abbrev pub joined : ScheduleState → ActiveCaller → ScriptLine → Args → ScheduleState
joined t w line args = made t (join_event w.caller line.call args)

-- what a look finds where the present call has joined: it joins once
abbrev pub joined_answered : ℕ → ScheduleState → ℕ → ActiveCaller → ScriptLine → Option Ready → ScheduleState
joined_answered limit t place w line None = t
joined_answered limit t place w line (Some (ready.Reply reply)) = recorded t place w line.call reply
joined_answered limit t place w line (Some (ready.Join args)) = t
joined_answered limit t place w line (Some ready.NotReady) = looked limit t place w line

-- the look goes on where the present call has joined
abbrev pub joined_iteration : ℕ → ScheduleState → ℕ → ActiveCaller → ScriptLine → ScheduleState
joined_iteration limit t place w line = joined_answered limit t place w line (answer_in t.state w.caller.rank w.caller.thread line.call)

-- what a look finds: a call that may join its group joins, and is then looked at in the same iteration
abbrev pub answered : ℕ → ScheduleState → ℕ → ActiveCaller → ScriptLine → Option Ready → ScheduleState
answered limit t place w line None = t
answered limit t place w line (Some (ready.Reply reply)) = recorded t place w line.call reply
answered limit t place w line (Some (ready.Join args)) = joined_iteration limit (joined t w line args) place w line
answered limit t place w line (Some ready.NotReady) = looked limit t place w line

-- whether its rank has no room for that
abbrev pub lacks_room : State → CallerId → ScriptLine → Bool
lacks_room s c line = nat_lt s.limits.events (used_room s c.rank + present_need s c line)

-- the iteration of a caller whose script goes on: where its rank has no room for what the call needs, its run ends
abbrev pub active_iteration : ℕ → ScheduleState → ℕ → ActiveCaller → ScriptLine → ScheduleState
active_iteration limit t place w line =
    if lacks_room t.state w.caller line
    then with_active t place (record { caller = w.caller; cursor = stopped w.cursor halts.Limit; looks = 0 })
    else answered limit t place w line (answer_in t.state w.caller.rank w.caller.thread line.call)

-- the iteration of a caller whose run is over: it makes its end
abbrev pub end_iteration : ScheduleState → ℕ → ActiveCaller → RunOutcome → ScheduleState
end_iteration t place w outcome =
    made (record t { active = remove t.active place; ended = t.ended ++ record { caller = w.caller; outcome = outcome } ∷ [] })
    (Called w.caller End replies.Done)

-- the iteration of an active caller, by how far its run has come
abbrev pub run_iteration : ℕ → ScheduleState → ℕ → ActiveCaller → RunPosition → ScheduleState
run_iteration limit t place w (AtLine line made lines) = active_iteration limit t place w line
run_iteration limit t place w (RunEnded outcome) = end_iteration t place w outcome

-- the iteration of an active caller
abbrev pub caller_iteration : ℕ → ScheduleState → ℕ → ActiveCaller → ScheduleState
caller_iteration limit t place w = run_iteration limit t place w w.cursor

-- the iteration of a candidate: the active callers come first, then the transfers that may come next
abbrev pub candidate_iteration : ℕ → ScheduleState → ℕ → ScheduleState
candidate_iteration limit t candidate = of_caller (slice_get t.active candidate)
  where
    of_transfer : Option Transfer → ScheduleState
    of_transfer None = t
    of_transfer (Some transfer) = made t (transfer_event t.state transfer)

    of_caller : Option ActiveCaller → ScheduleState
    of_caller (Some w) = caller_iteration limit t candidate w
    of_caller None = of_transfer (slice_get (transfers t.state.limits t.state.posts) (candidate - length t.active))

-- how many candidates there are
abbrev pub candidates : ScheduleState → ℕ
candidates t = length t.active + length (transfers t.state.limits t.state.posts)

-- one more number was drawn
abbrev pub with_draw : ScheduleState → ScheduleState
with_draw t = record t { x = drawn t.x }

-- one iteration: a draw picks the candidate; where there is none, nothing happens
abbrev pub iterate : ℕ → ScheduleState → ScheduleState
iterate limit t =
    if candidates t == 0 then t else candidate_iteration limit (with_draw t) (picked (drawn t.x) (candidates t))

-- that many iterations
abbrev pub iterations : ℕ → ℕ → ScheduleState → ScheduleState
iterations limit zero t = t
iterations limit (suc n) t = iterations limit n (iterate limit t)

-- The scheduled history and outcomes: those that some number of iterations leads to, after which there is no candidate.
-- No further iteration changes them, so they are the only ones.
pub record IsScheduled (w : ShapeValue) (scripts : List Script) (seed limit : ℕ) (journal : List Event) (finished : List EndedCaller) : Type 0 where
  pub count : ℕ
  pub over : candidates (iterations limit count (started w scripts seed)) ≡ 0
  pub journal_is : journal ≡ (iterations limit count (started w scripts seed)).journal
  pub finished_is : finished ≡ (iterations limit count (started w scripts seed)).ended

-- the active callers have sections and have not ended
abbrev pub AreActive : ScheduleState → Type 0
AreActive t = (place : ℕ) (x : ActiveCaller) → slice_get t.active place ≡ Some x → is_active t.state x.caller.rank x.caller.thread ≡ true

-- the active caller with this index
abbrev pub IsCallerAt : ScheduleState → ℕ → CallerId → Type 0
IsCallerAt t place c = (w : ActiveCaller) → slice_get t.active place ≡ Some w → w.caller ≡ c

-- what a look at a call of a caller finds is no join, and the call with it is a step
abbrev pub MayBeRecorded : State → CallerId → Call → Type 0
MayBeRecorded s c call = (found : Ready) → answer_in s c.rank c.thread call ≡ Some found → (is_joining found ≡ false) × IsOk (step s (Called c call (recorded_reply found)))
