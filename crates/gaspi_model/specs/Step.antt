-- The step of the machine, and its legal histories.
use Rattle.std.specs.Prelude.{◌&&◌, ◌≡◌, ◌==◌, ℕ, ◌+◌, Bool, true, false, not, nat_le, nat_lt, List, [], ◌∷◌, Option, None, Some, Result, Ok, Err, if◌then◌else◌, slice_get, is_ok}
use Rattle.gaspi_types.specs.Checks.{◌>>=◌, check}
use Rattle.gaspi_types.specs.CallRows.{row_of, is_end, need_of}
use Rattle.gaspi_types.specs.Replies.{is_idle, same_reply}
use Rattle.gaspi_types.specs.Footprints.{footprint_of, take_footprint, put_footprint}
use Rattle.std.specs.Option.{option_map}
use Rattle.gaspi_types.specs.World.{ShapeValue, is_caller}
use Rattle.gaspi_types.specs.declared.entries.Kind.{Kind}
use Rattle.gaspi_types.specs.declared.entries.Entry.{Entry}
use Rattle.gaspi_types.specs.declared.footprints.DeclaredFootprint.{DeclaredFootprint}
use Rattle.gaspi_types.specs.declared.footprints.DeclaredFootprint.TheVariants as touches
use Rattle.gaspi_types.specs.declared.footprints.Footprint.{Footprint}
use Rattle.gaspi_types.specs.declared.shapes.CallerId.{CallerId}
use Rattle.gaspi_types.specs.declared.shapes.Limits.{Limits}
use Rattle.gaspi_types.specs.declared.calls.Call.{Call}
use Rattle.gaspi_types.specs.declared.replies.Reply.{Reply}
use Rattle.gaspi_types.specs.declared.replies.Ready.{Ready}
use Rattle.gaspi_types.specs.declared.events.Outcome.{Outcome}
use Rattle.gaspi_types.specs.declared.events.Outcome.TheVariants.{Failed}
use Rattle.gaspi_types.specs.declared.events.Transfer.{Transfer}
use Rattle.gaspi_types.specs.declared.events.Event.{Event}
use Rattle.gaspi_types.specs.declared.events.Event.TheVariants.{Called, Joined, Take, Put}
use Rattle.gaspi_model.specs.State.{opening, owed, thread_at, is_running}
use Rattle.gaspi_model.specs.Calls.{answer, recorded_reply, charge, posts_after, memory_after, peer_after}
use Rattle.gaspi_model.specs.PassiveCalls.{sent_message}
use Rattle.gaspi_model.specs.CollectiveCalls.{collective_answer, is_reply_of, is_join_of, joining_call, joined_posts, made_memory, contribution_of, completed_posts}
use Rattle.gaspi_model.specs.Posting.{counted}
use Rattle.gaspi_types.specs.Collectives.{with_joined, with_completed}
use Rattle.gaspi_types.specs.Tables.{item_at}
use Rattle.gaspi_types.specs.declared.collectives.Coll.{Coll}
use Rattle.gaspi_types.specs.declared.collectives.Coll.TheVariants.{Barrier, Allreduce, Create, Commit}
use Rattle.gaspi_types.specs.declared.groups.Args.{Args}
use Rattle.gaspi_types.specs.declared.groups.Group.{Group}
use Rattle.gaspi_types.specs.declared.groups.PendingCollective.{PendingCollective}
use Rattle.gaspi_types.specs.declared.inboxes.Message.{Message}
use Rattle.gaspi_model.specs.Parts.{Parts, part_numbers, parts_of, part_at, lifted, memory_or_none, group_or_none, accessed_memory, with_accessed_memory}
use Rattle.gaspi_model.specs.Transfers.{take, put, PostsAndMemory, EntryPosition, find_entry, entry_in, take_outcome, put_outcome}
use Rattle.gaspi_model.specs.declared.states.ThreadState.{ThreadState}
use Rattle.gaspi_model.specs.declared.states.ThreadState.TheVariants.{Absent, Running, Ended}
use Rattle.gaspi_model.specs.declared.states.Posts.{Posts}
use Rattle.gaspi_model.specs.declared.states.Memory.{Memory}
use Rattle.gaspi_model.specs.declared.states.State.{State}
use Rattle.gaspi_model.specs.declared.states.Why.{Why}
use Rattle.gaspi_model.specs.declared.states.Why.TheVariants as whys
use Rattle.gaspi_model.specs.declared.states.StepFault.{StepFault}
use Rattle.gaspi_model.specs.declared.states.StepFault.TheVariants as faults

-- whether a thread is a declared caller
abbrev pub is_there : ThreadState → Bool
is_there Absent = false
is_there Running = true
is_there Ended = true

-- A call with its reply, on its caller's posts and the memory of its footprint, with the message of a send: the caller is
-- declared, the reply is the one that may be recorded, and the rank has room.
abbrev pub called : Limits → ℕ → Posts → Option Message → Memory → ℕ → Call → Reply → Result PostsAndMemory Why
called limits me posts brought memory thread call reply = do
  there ← check (is_there (thread_at posts thread)) whys.Caller
  answered ← check (same_reply reply (recorded_reply (answer limits me posts memory thread call))) whys.Reply
  room ← check (nat_le (posts.events + owed posts + charge (thread_at posts thread) call reply) limits.events) whys.Limit
  Ok (record { posts = posts_after limits me posts thread call reply; memory = memory_after limits posts brought memory call reply })

-- its caller's posts and its group after a collective
pub record PostsAndGroup : Type 0 where
  pub posts : Posts
  pub group : Group

-- A collective with its reply: its caller is declared, the reply is the one that may be recorded, and the rank has room. A
-- refusal or a timeout changes nothing but the count of events. (collectives)
abbrev pub completed : Limits → ℕ → Posts → Group → ℕ → ℕ → Call → Reply → Result PostsAndGroup Why
completed limits me posts group thread id call reply = do
  there ← check (is_there (thread_at posts thread)) whys.Caller
  answered ← check (is_reply_of (collective_answer posts group me thread id call) reply) whys.Reply
  room ← check (nat_le (posts.events + owed posts + 1) limits.events) whys.Limit
  Ok (record {
    posts = counted (if is_idle reply then posts else completed_posts posts group me id call);
    group = if is_idle reply then group else with_completed group me;
  })

-- A join: its caller is declared, its collective may join with these arguments, and the rank has room. It is pending then for
-- its caller, and the rank has contributed to its round.
abbrev pub joined : Limits → ℕ → Posts → Group → ℕ → ℕ → Args → Result PostsAndGroup Why
joined limits me posts group thread id args = do
  there ← check (is_there (thread_at posts thread)) whys.Caller
  joins ← check (is_join_of (collective_answer posts group me thread id (joining_call id args)) args) whys.Join
  room ← check (nat_le (posts.events + owed posts + 1) limits.events) whys.Limit
  Ok (record { posts = counted (joined_posts posts thread id args); group = with_joined group me (contribution_of posts args) })

-- the owner of an event, which records it: its caller's rank, or its origin
abbrev pub owner_of : Event → ℕ
owner_of (Called c call reply) = c.rank
owner_of (Joined c id args) = c.rank
owner_of (Take origin queue target number outcome) = origin
owner_of (Put origin queue target number outcome) = origin

-- The footprint of an event as it is declared: of a call by its row; of a join its group and, where it makes a segment, the own
-- memory; of a transfer by its entry's kind.
abbrev pub join_footprint : ℕ → Coll → DeclaredFootprint
join_footprint id Barrier = touches.GroupOf id
join_footprint id (Allreduce op num_type count) = touches.GroupOf id
join_footprint id (Create seg size) = touches.GroupAndMemory id
join_footprint id (Commit mask) = touches.GroupOf id

-- the declared footprint of a transfer, by its entry
abbrev pub declared_entry_footprint : (Kind → DeclaredFootprint) → Option Entry → DeclaredFootprint
declared_entry_footprint declaration None = touches.Nothing
declared_entry_footprint declaration (Some e) = declaration e.kind

-- the declared footprint of an event
abbrev pub declared_footprint : Posts → Event → DeclaredFootprint
declared_footprint posts (Called c call reply) = (row_of call).footprint
declared_footprint posts (Joined c id args) = join_footprint id args.coll
declared_footprint posts (Take origin queue target number outcome) = declared_entry_footprint (take_footprint target) (entry_in posts queue target number)
declared_footprint posts (Put origin queue target number outcome) = declared_entry_footprint (put_footprint target) (entry_in posts queue target number)

-- the footprint of an event in a world
abbrev pub event_footprint : Limits → Posts → Event → Footprint
event_footprint limits posts e = footprint_of limits.ranks (owner_of e) (declared_footprint posts e)

-- the cause of an event whose owner is no rank
abbrev pub cause_without_owner : Event → Why
cause_without_owner (Called c call reply) = whys.Caller
cause_without_owner (Joined c id args) = whys.Caller
cause_without_owner (Take origin queue target number outcome) = whys.Take
cause_without_owner (Put origin queue target number outcome) = whys.Put

-- The local step: an event with its footprint, on its parts alone.

-- a call that is no collective
abbrev pub called_on : Limits → Footprint → CallerId → Call → Reply → Parts → Result Parts Why
called_on limits footprint c call reply parts = do
  after ← called limits c.rank parts.posts (sent_message c.rank (memory_or_none parts.memory) call) (accessed_memory footprint parts) c.thread call reply
  Ok (record (with_accessed_memory footprint parts after.memory) {
    posts = after.posts;
    peer_posts = option_map (peer_after c.rank parts.posts call reply) parts.peer_posts;
  })

-- a collective on a group
abbrev pub completed_on : Limits → CallerId → ℕ → Call → Reply → Parts → Result Parts Why
completed_on limits c id call reply parts = do
  after ← completed limits c.rank parts.posts (group_or_none parts.group) c.thread id call reply
  Ok (record parts { posts = after.posts; group = Some after.group })

-- a call with its reply, collective or not
abbrev pub answered_on : Limits → Footprint → CallerId → Call → Reply → Parts → Option ℕ → Result Parts Why
answered_on limits footprint c call reply parts None = called_on limits footprint c call reply parts
answered_on limits footprint c call reply parts (Some id) = completed_on limits c id call reply parts

-- an event with its footprint on its parts
abbrev pub on_parts : Limits → Footprint → Event → Parts → Result Parts Why
on_parts limits footprint (Called c call reply) parts = answered_on limits footprint c call reply parts (row_of call).group
on_parts limits footprint (Joined c id args) parts = do
  after ← joined limits c.rank parts.posts (group_or_none parts.group) c.thread id args
  Ok (record (with_accessed_memory footprint parts (made_memory limits parts.posts (accessed_memory footprint parts) args.coll)) {
    posts = after.posts;
    group = Some after.group;
  })
on_parts limits footprint (Take origin queue target number outcome) parts = do
  after ← take limits parts.posts (accessed_memory footprint parts) queue target number outcome
  Ok (record parts { posts = after })
on_parts limits footprint (Put origin queue target number outcome) parts = do
  after ← put parts.posts (accessed_memory footprint parts) queue target number outcome
  Ok (record (with_accessed_memory footprint parts after.memory) { posts = after.posts })

-- the step on its parts
abbrev pub local_step : Limits → Event → Parts → Result Parts Why
local_step limits e parts = on_parts limits (event_footprint limits parts.posts e) e parts

-- The step: the state after the event, or the cause why there is none.
abbrev pub step : State → Event → Result State Why
step s e = lifted s (owner_of e) (cause_without_owner e) (λ posts. part_numbers (owner_of e) (event_footprint s.limits posts e)) (local_step s.limits e)

-- the state after events, one after another
abbrev pub after : State → List Event → Result State Why
after s [] = Ok s
after s (e ∷ events) = do
  next ← step s e
  after next events

-- a history is legal where its events, one after another, are steps from the opening state
abbrev pub reached : ShapeValue → List Event → Result State Why
reached w history = after (opening w) history

-- whether a history is legal
abbrev pub is_legal : ShapeValue → List Event → Bool
is_legal w history = is_ok (reached w history)

-- the calls of a caller in a history, with their replies, in order
abbrev pub recorded_calls : ℕ → ℕ → List Event → List (Call × Reply)
recorded_calls rank thread [] = []
recorded_calls rank thread (Called c call reply ∷ events) =
    if is_caller rank thread c then (call, reply) ∷ recorded_calls rank thread events else recorded_calls rank thread events
recorded_calls rank thread (transfer ∷ events) = recorded_calls rank thread events

-- What a function that makes a step has done: at Ok the state is that of the step; an illegal event has that cause, and nothing
-- has changed; after no memory nothing has changed.
abbrev pub Steps : {S : Type 0} → Result (Unit {0}) StepFault → S → S → Result S Why → Type 0
Steps (Ok done) old new outcome = outcome ≡ Ok new
Steps (Err (faults.Illegal why)) old new outcome = (outcome ≡ Err why) × (new ≡ old)
Steps (Err faults.NoMemory) old new outcome = new ≡ old

-- the memory that a call of a rank changes or reads in a state
abbrev pub call_memory : State → ℕ → Posts → Call → Memory
call_memory s rank posts call = memory_at (footprint_of s.limits.ranks rank (row_of call).footprint)
  where
    memory_at : Footprint → Memory
    memory_at footprint = accessed_memory footprint (parts_of s posts (part_numbers rank footprint))

-- the message of a call of a rank in a state: a send takes it from the own memory
abbrev pub call_message : State → ℕ → Call → Option Message
call_message s rank call = sent_message rank (memory_or_none (part_at s.memories (part_numbers rank (footprint_of s.limits.ranks rank (row_of call).footprint)).memory)) call

-- the group with a number in a state; where there is none, one without members
abbrev pub group_in : State → ℕ → Group
group_in s id = group_or_none (if nat_lt id 8 then slice_get s.groups id else None)

-- what a look at a call of a caller answers in a state; of a rank that is not there, nothing
abbrev pub answer_for : State → ℕ → ℕ → Call → Posts → Option ℕ → Ready
answer_for s rank thread call posts None = answer s.limits rank posts (call_memory s rank posts call) thread call
answer_for s rank thread call posts (Some id) = collective_answer posts (group_in s id) rank thread id call

-- the answer of a look at a call of a caller in a state; none for a rank that is not there
abbrev pub answer_in : State → ℕ → ℕ → Call → Option Ready
answer_in s rank thread call = answer_with (slice_get s.posts rank)
  where
    answer_with : Option Posts → Option Ready
    answer_with None = None
    answer_with (Some posts) = Some (answer_for s rank thread call posts (row_of call).group)

-- whether a collective is pending for a caller on the group that a call names
abbrev pub is_pending_of : ℕ → Option PendingCollective → Bool
is_pending_of thread None = false
is_pending_of thread (Some p) = p.thread == thread

-- whether a collective of a thread is pending on the group of a row
abbrev pub is_pending_on : ℕ → Posts → Option ℕ → Bool
is_pending_on thread posts None = false
is_pending_on thread posts (Some id) = is_pending_of thread (item_at posts.pending id)

-- whether a collective is pending for a caller on the group that a call names
abbrev pub is_pending : State → ℕ → ℕ → Call → Bool
is_pending s rank thread call = in_posts (slice_get s.posts rank)
  where
    in_posts : Option Posts → Bool
    in_posts None = false
    in_posts (Some posts) = is_pending_on thread posts (row_of call).group

-- whether a thread of a rank is a declared caller
abbrev pub is_declared : State → ℕ → ℕ → Bool
is_declared s rank thread = in_posts (slice_get s.posts rank)
  where
    in_posts : Option Posts → Bool
    in_posts None = false
    in_posts (Some posts) = is_there (thread_at posts thread)

-- whether a thread of a rank is an active caller
abbrev pub is_active : State → ℕ → ℕ → Bool
is_active s rank thread = in_posts (slice_get s.posts rank)
  where
    in_posts : Option Posts → Bool
    in_posts None = false
    in_posts (Some posts) = is_running (thread_at posts thread)

-- own choice: the used room of a rank, recorded and owed events together, which is never over EVENTS
abbrev pub used_room : State → ℕ → ℕ
used_room s rank = in_posts (slice_get s.posts rank)
  where
    in_posts : Option Posts → ℕ
    in_posts None = 0
    in_posts (Some posts) = posts.events + owed posts

-- own choice: whether the rank of a caller has less room than its call needs
abbrev pub lacks_room_in : State → CallerId → Call → Bool
lacks_room_in s c call = nat_lt s.limits.events (used_room s c.rank + need_of call (is_pending s c.rank c.thread call) (not (is_active s c.rank c.thread)))

-- the outcome of a transfer that may come next, by the memory of its target; where the target is no rank, by one with no
-- segment
abbrev pub transfer_outcome : State → Transfer → (Memory → Kind → Outcome) → Outcome
transfer_outcome s t outcome = in_state (slice_get s.posts t.origin) (slice_get s.memories t.target)
  where
    of_entry : Result EntryPosition Why → Memory → Outcome
    of_entry (Err why) memory = Failed
    of_entry (Ok at) memory = outcome memory at.entry.kind

    in_state : Option Posts → Option Memory → Outcome
    in_state None memory = Failed
    in_state (Some posts) memory = of_entry (find_entry posts t.queue t.target t.number whys.Put) (memory_or_none memory)

-- the event of a transfer that may come next
abbrev pub transfer_event : State → Transfer → Event
transfer_event s t =
    if t.put
    then Put t.origin t.queue t.target t.number (transfer_outcome s t put_outcome)
    else Take t.origin t.queue t.target t.number (transfer_outcome s t take_outcome)

-- the end of a caller
abbrev pub ends_caller : ℕ → ℕ → Event → Bool
ends_caller rank thread (Called c call reply) = is_caller rank thread c && is_end call
ends_caller rank thread transfer = false
