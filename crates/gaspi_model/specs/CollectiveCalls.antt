-- The collective calls: the answer of each, and what a join and a completion change. A call of a rank `me` on a group with the
-- number `id` reads that rank's posts and that group. (GASPI: collectives, groups, segments, timeouts)
use Rattle.std.specs.Prelude.{ℕ, ◌&&◌, Bool, true, false, not, nat_lt, List, [], ◌∷◌, length, Option, None, Some, Result, Ok, Err, if◌then◌else◌, slice_set}
use Rattle.std.specs.Option.{unwrap_or}
use Rattle.gaspi_types.specs.CallRows.{row_of}
use Rattle.gaspi_types.specs.Checks.{◌>>=◌, check, ok_or}
use Rattle.gaspi_types.specs.Collectives.{no_values, count_checks, type_checks, same_args, resume, is_round_full, round_checks, round_reduction, round_segments}
use Rattle.gaspi_types.specs.Groups.{is_building, handle_at, building_at, with_committed, fix_checks}
use Rattle.gaspi_types.specs.Masks.{is_member}
use Rattle.gaspi_types.specs.Replies.{same_reply}
use Rattle.gaspi_types.specs.SegmentTables.{alloc_checks, next_generation}
use Rattle.gaspi_types.specs.Tables.{item_at}
use Rattle.gaspi_types.specs.declared.calls.Call.{Call}
use Rattle.gaspi_types.specs.declared.calls.Call.TheVariants as calls
use Rattle.gaspi_types.specs.declared.collectives.Coll.{Coll}
use Rattle.gaspi_types.specs.declared.collectives.Coll.TheVariants.{Barrier, Allreduce, Create, Commit}
use Rattle.gaspi_types.specs.declared.groups.Args.{Args}
use Rattle.gaspi_types.specs.declared.groups.Contribution.{Contribution}
use Rattle.gaspi_types.specs.declared.groups.Group.{Group}
use Rattle.gaspi_types.specs.declared.groups.Handle.{Handle}
use Rattle.gaspi_types.specs.declared.groups.Handles.{Handles}
use Rattle.gaspi_types.specs.declared.groups.MemberSegment.{MemberSegment}
use Rattle.gaspi_types.specs.declared.groups.PendingCollective.{PendingCollective}
use Rattle.gaspi_types.specs.declared.groups.Resume.{Resume}
use Rattle.gaspi_types.specs.declared.groups.Resume.TheVariants.{Fresh, Same}
use Rattle.gaspi_types.specs.declared.events.Event.{Event}
use Rattle.gaspi_types.specs.declared.events.Event.TheVariants.{Joined}
use Rattle.gaspi_types.specs.declared.shapes.CallerId.{CallerId}
use Rattle.gaspi_types.specs.declared.shapes.Limits.{Limits}
use Rattle.gaspi_types.specs.declared.replies.Refusal.{Refusal}
use Rattle.gaspi_types.specs.declared.replies.Refusal.TheVariants.{BadSize, NoGroup, GroupStage, NotMember, CallerEnded}
use Rattle.gaspi_types.specs.declared.replies.Reply.{Reply}
use Rattle.gaspi_types.specs.declared.replies.Reply.TheVariants as replies
use Rattle.gaspi_types.specs.declared.replies.Ready.{Ready}
use Rattle.gaspi_types.specs.declared.replies.Ready.TheVariants as ready
use Rattle.gaspi_model.specs.SegmentCalls.{with_own, alloc_effect, with_known}
use Rattle.gaspi_model.specs.State.{thread_at, is_running}
use Rattle.gaspi_model.specs.declared.states.Posts.{Posts}
use Rattle.gaspi_model.specs.declared.states.Memory.{Memory}

-- What a collective finds.

-- an allreduce is refused for the count of its elements, and then for their type, whatever its group (allreduce)
abbrev pub element_checks : Call → Result (Unit {0}) Refusal
element_checks (calls.Allreduce call) = do
  counted ← count_checks (length call.values.items)
  type_checks call.values.num_type
element_checks call = Ok tt

-- the handle of a group whose stage is committed, or else the refusal
abbrev pub committed_at : Handles → ℕ → Result Handle Refusal
committed_at groups id = do
  handle ← ok_or (handle_at groups id) NoGroup
  committed ← check (not (is_building handle.stage)) (GroupStage handle.stage)
  Ok handle

-- the handle of a group whose stage is building and that has the rank, or else the refusal
abbrev pub building_with : Handles → ℕ → ℕ → Result Handle Refusal
building_with groups me id = do
  handle ← building_at groups id
  mine ← check (is_member handle.members me) NotMember
  Ok handle

-- the handle of a group in the stage that a collective needs: building for a group commit, committed for any other
abbrev pub staged_at : Handles → ℕ → ℕ → Call → Result Handle Refusal
staged_at groups me id (calls.Commit call) = building_with groups me id
staged_at groups me id call = committed_at groups id

-- the arguments of a collective without values
abbrev pub plain_args : Coll → Args
plain_args coll = record { coll = coll; values = no_values }

-- The arguments of a collective, where its group has those members. Own choice: a segment_create whose id or size has over 32
-- bits has none, so it cannot be pending.
abbrev pub args_of : ℕ → Call → Option Args
args_of members (calls.Commit call) = Some (plain_args (Commit members))
args_of members (calls.Barrier call) = Some (plain_args Barrier)
args_of members (calls.Allreduce call) = Some (record { coll = Allreduce call.op call.values.num_type (length call.values.items); values = call.values })
args_of members (calls.Create call) =
    if nat_lt call.seg 4294967296 && nat_lt call.size 4294967296 then Some (plain_args (Create call.seg call.size)) else None
args_of members call = None

-- what a segment_create is refused for that is not pending (segment_create)
abbrev pub segment_checks : Posts → Call → Result (Unit {0}) Refusal
segment_checks posts (calls.Create call) = alloc_checks posts.segments.own call.seg call.size
segment_checks posts call = Ok tt

-- what a collective is refused for by the contributions of other ranks: a group commit by the member list, any other by the
-- round
abbrev pub agreement_checks : Group → ℕ → Coll → Result (Unit {0}) Refusal
agreement_checks group me (Commit mask) = fix_checks group.members mask
agreement_checks group me coll = round_checks group me coll

-- the result of a collective that is not pending: it may join, or is refused
abbrev pub fresh_result : Posts → Group → ℕ → ℕ → Call → Result Ready Refusal
fresh_result posts group me members call = do
  free ← segment_checks posts call
  args ← ok_or (args_of members call) BadSize
  meets ← agreement_checks group me args.coll
  Ok (ready.Join args)

-- the reply of a collective whose round is full (allreduce: the reduction of the values of all members)
abbrev pub full_reply : Group → ℕ → Call → Reply
full_reply group me (calls.Allreduce call) = replies.List (round_reduction group me call.op call.values.num_type)
full_reply group me call = replies.Done

-- the answer of a collective that is pending for its caller: it is ready where its round is full
abbrev pub resumed_answer : Group → ℕ → Call → Ready
resumed_answer group me call = if is_round_full group me then ready.Reply (full_reply group me call) else ready.NotReady

-- the result of a collective, by what is pending
abbrev pub resume_result : Resume → Posts → Group → ℕ → ℕ → Call → Result Ready Refusal
resume_result Fresh posts group me members call = fresh_result posts group me members call
resume_result Same posts group me members call = Ok (resumed_answer group me call)

-- the result of a collective: it may join, is not ready, or has its reply; or its first refusal
abbrev pub collective_result : Posts → Group → ℕ → ℕ → ℕ → Call → Result Ready Refusal
collective_result posts group me thread id call = do
  elements ← element_checks call
  handle ← staged_at posts.groups me id call
  resumed ← resume (item_at posts.pending id) thread (args_of handle.members call)
  resume_result resumed posts group me handle.members call

-- the result as an answer
abbrev pub collective_ready : Result Ready Refusal → Ready
collective_ready (Ok found) = found
collective_ready (Err refusal) = ready.Reply (replies.Refused refusal)

-- what a look at a collective answers: that the caller has ended comes before everything else
abbrev pub collective_answer : Posts → Group → ℕ → ℕ → ℕ → Call → Ready
collective_answer posts group me thread id call =
    if is_running (thread_at posts thread)
    then collective_ready (collective_result posts group me thread id call)
    else ready.Reply (replies.Refused CallerEnded)

-- whether a collective with that answer may be recorded with that reply: one that may join has none
abbrev pub is_reply_of : Ready → Reply → Bool
is_reply_of (ready.Reply answer) reply = same_reply reply answer
is_reply_of (ready.Join args) reply = false
is_reply_of ready.NotReady reply = same_reply reply replies.Timeout

-- whether a collective may join
abbrev pub is_joining : Ready → Bool
is_joining (ready.Reply answer) = false
is_joining (ready.Join may) = true
is_joining ready.NotReady = false

-- whether it may join with those arguments
abbrev pub is_join_of : Ready → Args → Bool
is_join_of (ready.Reply answer) args = false
is_join_of (ready.Join may) args = same_args may args
is_join_of ready.NotReady args = false

-- the collective that joins with those arguments
abbrev pub joining_call : ℕ → Args → Call
joining_call id args = of_coll args.coll
  where
    of_coll : Coll → Call
    of_coll Barrier = calls.Barrier (record { group = id })
    of_coll (Allreduce op num_type count) = calls.Allreduce (record { group = id; op = op; values = args.values })
    of_coll (Create seg size) = calls.Create (record { seg = seg; size = size; group = id })
    of_coll (Commit mask) = calls.Commit (record { group = id })

-- What a join changes.

-- the generation of the segment that a collective makes as it joins (own choice)
abbrev pub made_generation : Posts → Coll → ℕ
made_generation posts (Create seg size) = next_generation posts.segments.next_generations seg
made_generation posts coll = 0

-- what a join contributes
abbrev pub contribution_of : Posts → Args → Contribution
contribution_of posts args = record { args = args; generation = made_generation posts args.coll }

-- the posts after a segment_create has made its segment (segment_create)
abbrev pub made_posts : Posts → Coll → Posts
made_posts posts (Create seg size) = with_own posts seg size
made_posts posts coll = posts

-- the memory after a segment_create has made its segment
abbrev pub made_memory : Limits → Posts → Memory → Coll → Memory
made_memory limits posts memory (Create seg size) = alloc_effect limits posts memory (record { seg = seg; size = size })
made_memory limits posts memory coll = memory

-- the posts with another pending collective on a group, or none
abbrev pub with_pending : ℕ → Option PendingCollective → Posts → Posts
with_pending id pending posts = record posts { pending = slice_set posts.pending id pending }

-- the posts after a join
abbrev pub joined_posts : Posts → ℕ → ℕ → Args → Posts
joined_posts posts thread id args = with_pending id (Some (record { thread = thread; args = args })) (made_posts posts args.coll)

-- What a completion changes.

-- the posts that know the segments of members, in the generations in which these made them (segment_create)
abbrev pub with_made_known : ℕ → ℕ → List MemberSegment → Posts → Posts
with_made_known seg size [] posts = posts
with_made_known seg size (m ∷ made) posts =
    with_made_known seg size made (with_known m.rank seg (Some (record { generation = m.generation; size = size })) posts)

-- a group commit marks the group committed, and a segment_create makes the segments of all members known
abbrev pub posts_at_completion : Group → ℕ → ℕ → Call → Posts → Posts
posts_at_completion group me id (calls.Commit call) posts = record posts { groups = with_committed posts.groups id }
posts_at_completion group me id (calls.Create call) posts = with_made_known call.seg call.size (round_segments group me) posts
posts_at_completion group me id call posts = posts

-- and no collective is pending on the group
abbrev pub completed_posts : Posts → Group → ℕ → ℕ → Call → Posts
completed_posts posts group me id call = with_pending id None (posts_at_completion group me id call posts)

-- the group of a collective
abbrev pub group_of : Call → ℕ
group_of call = unwrap_or (row_of call).group 0

-- the join of a call with its arguments
abbrev pub join_event : CallerId → Call → Args → Event
join_event c call args = Joined c (group_of call) args
