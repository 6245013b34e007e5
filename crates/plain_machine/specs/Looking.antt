-- The evaluation of a call in the whole state. `c` is the caller, and `look` the evaluation.
use Rattle.std.specs.Prelude.{◌≡◌, ℕ, ◌+◌, ◌≤◌, List, true, false, Option, Some, slice_get, None, IsOk, if◌then◌else◌}
use Rattle.gaspi_types.specs.CallRows.{row_of}
use Rattle.gaspi_types.specs.declared.calls.Call.{Call}
use Rattle.gaspi_types.specs.declared.events.Event.TheVariants.{Called}
use Rattle.gaspi_types.specs.declared.groups.Args.{Args}
use Rattle.gaspi_types.specs.declared.replies.Ready.{Ready}
use Rattle.gaspi_types.specs.declared.replies.Ready.TheVariants.{Join}
use Rattle.gaspi_types.specs.declared.shapes.CallerId.{CallerId}
use Rattle.gaspi_types.specs.declared.shapes.Limits.{Limits}
use Rattle.gaspi_types.specs.Replies.{is_idle}
use Rattle.gaspi_model.specs.Calls.{charge, recorded_reply}
use Rattle.gaspi_model.specs.CollectiveCalls.{collective_answer, is_join_of, is_joining, join_event, joining_call}
use Rattle.gaspi_model.specs.State.{owed, thread_at}
use Rattle.gaspi_model.specs.Step.{answer_in, call_memory, call_message, group_in, is_declared, is_there, step}
use Rattle.gaspi_model.specs.declared.states.Posts.{Posts}
use Rattle.gaspi_model.specs.declared.states.Memory.{Memory}
use Rattle.gaspi_model.specs.declared.states.State.{State}
use Rattle.plain_calls.specs.Looks.{HasMessage, IsEvaluation}
use Rattle.plain_calls.specs.NumberBounds.{purged_queue}
use Rattle.plain_calls.specs.declared.looks.Evaluation.{Evaluation}
use Rattle.plain_machine.specs.NonemptyLanes.{call_lane}
use Rattle.plain_machine.specs.declared.nonempty_lanes.LaneId.{LaneId}

-- This is the evaluation of this call of this caller in this state: of a collective on its group, of any other call on the memory that it
-- works on.
pub record IsEvaluationIn (look : Evaluation) (s : State) (c : CallerId) (call : Call) : Type 0 where
  pub finds : (posts : Posts) → slice_get s.posts c.rank ≡ Some posts → (row_of call).group ≡ None → IsEvaluation look s.limits c.rank posts (call_memory s c.rank posts call) c.thread call
  pub meets : (posts : Posts) (id : ℕ) → slice_get s.posts c.rank ≡ Some posts → (row_of call).group ≡ Some id → look.ready ≡ collective_answer posts (group_in s id) c.rank c.thread id call
  pub message : HasMessage look (call_message s c.rank call)

-- the same on the posts of the caller's rank and the memory that the call works on; and the caller has a section
pub record IsEvaluationOn (look : Evaluation) (limits : Limits) (posts : Posts) (memory : Memory) (c : CallerId) (call : Call) : Type 0 where
  pub there : is_there (thread_at posts c.thread) ≡ true
  pub finds : IsEvaluation look limits c.rank posts memory c.thread call

-- the lane to which a call posts; none where it is recorded with a refusal or a timeout
abbrev pub look_lane : ℕ → Call → Evaluation → Option LaneId
look_lane rank call look = if is_idle (recorded_reply look.ready) then None else call_lane rank call

-- the queue that a call purges; none where it is recorded with a refusal or a timeout
abbrev pub look_purge : Call → Evaluation → Option ℕ
look_purge call look = if is_idle (recorded_reply look.ready) then None else purged_queue call

-- a collective of a caller may join a group with these arguments in this state
abbrev pub MayJoin : State → CallerId → ℕ → Args → Type 0
MayJoin s c id args =
    (posts : Posts) → slice_get s.posts c.rank ≡ Some posts → is_join_of (collective_answer posts (group_in s id) c.rank c.thread id (joining_call id args)) args ≡ true

-- `amount` is the charge of the event of a call with this answer
abbrev pub IsCharge : ℕ → List Posts → CallerId → Call → Ready → Type 0
IsCharge amount all c call ready = (posts : Posts) → slice_get all c.rank ≡ Some posts → amount ≡ charge (thread_at posts c.thread) call (recorded_reply ready)

-- the rank of a caller has room for the event of a call with this answer
abbrev pub HasEventRoom : Limits → List Posts → CallerId → Call → Ready → Type 0
HasEventRoom limits all c call ready =
    (posts : Posts) → slice_get all c.rank ≡ Some posts → posts.events + owed posts + charge (thread_at posts c.thread) call (recorded_reply ready) ≤ limits.events

-- a rank has room for the event of a join
abbrev pub HasJoinRoom : Limits → List Posts → ℕ → Type 0
HasJoinRoom limits all rank = (posts : Posts) → slice_get all rank ≡ Some posts → posts.events + owed posts + 1 ≤ limits.events

-- This is the evaluation of this call of this caller in this state, the caller has a section, and the rank has room for the event, whose
-- charge is `amount`.
pub record IsEvaluationWithRoom (look : Evaluation) (s : State) (c : CallerId) (call : Call) (amount : ℕ) : Type 0 where
  pub declared : is_declared s c.rank c.thread ≡ true
  pub finds : IsEvaluationIn look s c call
  pub charge : IsCharge amount s.posts c call look.ready
  pub room : HasEventRoom s.limits s.posts c call look.ready

-- An evaluation may be recorded: it is that of this call of this caller in this state, it is no join, and the event is a step.
pub record MayRecord (look : Evaluation) (s : State) (c : CallerId) (call : Call) : Type 0 where
  pub declared : is_declared s c.rank c.thread ≡ true
  pub finds : IsEvaluationIn look s c call
  pub unjoined : is_joining look.ready ≡ false
  pub steps : IsOk (step s (Called c call (recorded_reply look.ready)))

-- A collective of a caller may join with these arguments: that is its answer in this state, and the join is a step.
pub record MayJoinWith (args : Args) (s : State) (c : CallerId) (call : Call) : Type 0 where
  pub declared : is_declared s c.rank c.thread ≡ true
  pub joins : answer_in s c.rank c.thread call ≡ Some (Join args)
  pub steps : IsOk (step s (join_event c call args))
