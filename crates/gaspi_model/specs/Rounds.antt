-- Joins and completions of a rank on a group in a history, and what a collective finds of its round. (GASPI: collectives)
use Rattle.std.specs.Prelude.{◌≡◌, ℕ, ◌+◌, ◌<◌, ◌==◌, ◌&&◌, Bool, false, not, List, count_by, Option, None, Some, slice_get, slice_set, length, replicate}
use Rattle.std.specs.Option.{option_and_then}
use Rattle.gaspi_types.specs.CallRows.{row_of}
use Rattle.gaspi_types.specs.Collectives.{contribution_in, round_of, round_reduction, with_joined, with_completed}
use Rattle.gaspi_types.specs.Groups.{handle_at}
use Rattle.gaspi_types.specs.NumberTypes.{TypedNumbers}
use Rattle.gaspi_types.specs.Replies.{is_idle}
use Rattle.gaspi_types.specs.SegmentTables.{extent_in}
use Rattle.gaspi_types.specs.Tables.{item_at}
use Rattle.gaspi_types.specs.declared.calls.Call.{Call}
use Rattle.gaspi_types.specs.declared.calls.Call.TheVariants as calls
use Rattle.gaspi_types.specs.declared.calls.collectives.Allreduce as allreduce
use Rattle.gaspi_types.specs.declared.collectives.Coll.{Coll}
use Rattle.gaspi_types.specs.declared.collectives.Coll.TheVariants as colls
use Rattle.gaspi_types.specs.declared.collectives.Stage.TheVariants.{Building, Committed}
use Rattle.gaspi_types.specs.declared.events.Event.{Event}
use Rattle.gaspi_types.specs.declared.events.Event.TheVariants.{Called, Joined}
use Rattle.gaspi_types.specs.declared.groups.Args.{Args}
use Rattle.gaspi_types.specs.declared.groups.Contribution.{Contribution}
use Rattle.gaspi_types.specs.declared.groups.Group.{Group}
use Rattle.gaspi_types.specs.declared.groups.Handle.{Handle}
use Rattle.gaspi_types.specs.declared.groups.PendingCollective.{PendingCollective}
use Rattle.gaspi_types.specs.declared.replies.Reply.{Reply}
use Rattle.gaspi_types.specs.declared.replies.Reply.TheVariants as replies
use Rattle.gaspi_types.specs.declared.segments.Extent.{Extent}
use Rattle.gaspi_types.specs.declared.shapes.CallerId.{CallerId}
use Rattle.gaspi_model.specs.CollectiveCalls.{joining_call, with_pending}
use Rattle.gaspi_model.specs.Contributions.{IsOneOf}
use Rattle.gaspi_model.specs.State.{segment_at}
use Rattle.gaspi_model.specs.Posting.{counted}
use Rattle.gaspi_model.specs.declared.states.Posts.{Posts}
use Rattle.gaspi_model.specs.declared.states.Memory.{Memory}
use Rattle.gaspi_model.specs.declared.states.State.{State}
use Rattle.gaspi_model.specs.declared.states.ThreadState.TheVariants.{Running}

-- a join of a rank on a group
abbrev pub is_join_on : ℕ → ℕ → Event → Bool
is_join_on rank id (Joined c k args) = (c.rank == rank) && (k == id)
is_join_on rank id event = false

-- whether a collective is of that group
abbrev pub is_on : Option ℕ → ℕ → Bool
is_on None id = false
is_on (Some k) id = k == id

-- a collective of a rank on a group that is answered neither with a refusal nor with a timeout
abbrev pub is_completion_on : ℕ → ℕ → Event → Bool
is_completion_on rank id (Called c call reply) = (c.rank == rank) && is_on (row_of call).group id && not (is_idle reply)
is_completion_on rank id event = false

-- how often a rank has joined a group in a history
abbrev pub joins_on : ℕ → ℕ → List Event → ℕ
joins_on rank id history = count_by (is_join_on rank id) history

-- how many collectives of a group a rank has completed in a history
abbrev pub completions_on : ℕ → ℕ → List Event → ℕ
completions_on rank id history = count_by (is_completion_on rank id) history

-- Contributions to a group stay: its rounds only grow, and its members stay.
pub record Grows (g g' : Group) : Type 0 where
  pub given : (round rank : ℕ) (c : Contribution) → contribution_in g round rank ≡ Some c → contribution_in g' round rank ≡ Some c
  pub members : (mask : ℕ) → g.members ≡ Some mask → g'.members ≡ Some mask

-- Every member has contributed to the round of a rank.
abbrev pub HaveAllContributed : ℕ → Group → ℕ → Type 0
HaveAllContributed ranks group me = (rank : ℕ) → rank < ranks → IsOneOf group.members rank → (given : Contribution) × (contribution_in group (round_of group me) rank ≡ Some given)

-- A collective is pending for its caller, with its very arguments.
pub record IsPendingAs (s : State) (c : CallerId) (id : ℕ) (call : Call) : Type 0 where
  pub posts : Posts
  pub group : Group
  pub pending : PendingCollective
  pub posts_there : slice_get s.posts c.rank ≡ Some posts
  pub group_there : slice_get s.groups id ≡ Some group
  pub pending_there : item_at posts.pending id ≡ Some pending
  pub mine : pending.thread ≡ c.thread
  pub same : joining_call id pending.args ≡ call

-- It is not ready: its caller has not ended, and a member has not contributed to its rank's round.
pub record IsPendingUnready (s : State) (c : CallerId) (id : ℕ) (call : Call) : Type 0 where
  pub pends : IsPendingAs s c id call
  pub running : slice_get pends.posts.threads c.thread ≡ Some Running
  pub late : ℕ
  pub ranked : late < s.limits.ranks
  pub member : IsOneOf pends.group.members late
  pub missing : contribution_in pends.group (round_of pends.group c.rank) late ≡ None

-- A caller's rank has committed a group, none of its collectives is pending there, and the contributions to its round are of
-- that collective, values aside.
pub record MayJoinRound (s : State) (c : CallerId) (id : ℕ) (coll : Coll) : Type 0 where
  pub posts : Posts
  pub group : Group
  pub handle : Handle
  pub posts_there : slice_get s.posts c.rank ≡ Some posts
  pub group_there : slice_get s.groups id ≡ Some group
  pub handle_there : handle_at posts.groups id ≡ Some handle
  pub committed : handle.stage ≡ Committed
  pub none : item_at posts.pending id ≡ None
  pub alike : (rank : ℕ) (given : Contribution) → contribution_in group (round_of group c.rank) rank ≡ Some given → given.args.coll ≡ coll

-- what a rank contributes to its round is there afterwards
abbrev pub Contributes : State → ℕ → Group → ℕ → Contribution → Type 0
Contributes t id group me c = (new : Group) × (slice_get t.groups id ≡ Some new) × (contribution_in new (round_of group me) me ≡ Some c)

-- A join of any collective but a segment_create: its caller has not ended, and none of its rank was pending on the group. It
-- contributes to its rank's round and is pending for its caller; and nothing else has changed but the count of events.
pub record IsJoinDone (s t : State) (c : CallerId) (id : ℕ) (args : Args) : Type 0 where
  pub posts : Posts
  pub group : Group
  pub posts_there : slice_get s.posts c.rank ≡ Some posts
  pub group_there : slice_get s.groups id ≡ Some group
  pub running : slice_get posts.threads c.thread ≡ Some Running
  pub none : item_at posts.pending id ≡ None
  pub gives : Contributes t id group c.rank (record { args = args; generation = 0 })
  pub after : t ≡ record s {
    posts = slice_set s.posts c.rank (record (counted posts) { pending = slice_set posts.pending id (Some (record { thread = c.thread; args = args })) });
    groups = slice_set s.groups id (with_joined group c.rank (record { args = args; generation = 0 }));
  }

-- A join of a segment_create: besides, its segment, which was not there, is made, all zero, in the next generation of its id;
-- and that is the generation that it contributes. (segment_create)
pub record IsCreateJoined (s t : State) (c : CallerId) (id : ℕ) (args : Args) (segment size : ℕ) : Type 0 where
  pub posts : Posts
  pub memory : Memory
  pub group : Group
  pub generation : ℕ
  pub posts_there : slice_get s.posts c.rank ≡ Some posts
  pub memory_there : slice_get s.memories c.rank ≡ Some memory
  pub group_there : slice_get s.groups id ≡ Some group
  pub running : slice_get posts.threads c.thread ≡ Some Running
  pub none : item_at posts.pending id ≡ None
  pub gives : Contributes t id group c.rank (record { args = args; generation = generation })
  pub next : slice_get posts.segments.next_generations segment ≡ Some generation
  pub free : segment_at memory segment ≡ None
  pub after : t ≡ record s {
    posts = slice_set s.posts c.rank (record (counted posts) {
      segments = record posts.segments {
        own = slice_set posts.segments.own segment (Some (record { generation = generation; size = size }));
        next_generations = slice_set posts.segments.next_generations segment (generation + 1);
      };
      pending = slice_set posts.pending id (Some (record { thread = c.thread; args = args }));
    });
    memories = slice_set s.memories c.rank (record memory {
      segments = slice_set memory.segments segment (Some (record { generation = generation; bytes = replicate size 0 }));
      slots = slice_set memory.slots segment (Some (replicate s.limits.notes 0));
    });
    groups = slice_set s.groups id (with_joined group c.rank (record { args = args; generation = generation }));
  }

-- A collective that is done: it was pending for its caller, which has not ended, with its arguments, and every member has
-- contributed to its round. None is pending then, its rank has completed its round, the posts of its rank are changed so, and
-- nothing else has changed but the count of events.
pub record IsCompletionDone (s t : State) (c : CallerId) (id : ℕ) (call : Call) (change : Group → Posts → Posts) : Type 0 where
  pub pends : IsPendingAs s c id call
  pub running : slice_get pends.posts.threads c.thread ≡ Some Running
  pub full : HaveAllContributed s.limits.ranks pends.group c.rank
  pub after : t ≡ record s {
    posts = slice_set s.posts c.rank (counted (with_pending id None (change pends.group pends.posts)));
    groups = slice_set s.groups id (with_completed pends.group c.rank);
  }

-- A commit that is done: the group's stage was building, with just the ranks of the member list, and is committed. (groups)
pub record IsCommitDone (s t : State) (c : CallerId) (id : ℕ) : Type 0 where
  pub old : Handle
  pub done : IsCompletionDone s t c id (calls.Commit (record { group = id }))
      (λ g posts. record posts { groups = record posts.groups { table = slice_set posts.groups.table id (Some (record old { stage = Committed })) } })
  pub old_there : handle_at done.pends.posts.groups id ≡ Some old
  pub building : old.stage ≡ Building
  pub fixed : done.pends.group.members ≡ Some old.members

-- the replies of collectives that are done: of an allreduce numbers, and of each other that it is done
abbrev pub IsReplyFor : Call → Reply → Type 0
IsReplyFor (calls.Allreduce call) reply = (numbers : TypedNumbers) × (reply ≡ replies.List numbers)
IsReplyFor call reply = reply ≡ replies.Done

-- what a rank knows of a segment of a rank
abbrev pub known_of : Posts → ℕ → ℕ → Option Extent
known_of posts rank segment = option_and_then (λ table. extent_in table segment) (slice_get posts.segments.known rank)

-- The segments of all members are known after a segment_create that is done, in the generations that they have contributed and
-- in its size; and what else is known has not changed. (segment_create)
pub record AreMadeKnown (s t : State) (c : CallerId) (id segment size : ℕ) : Type 0 where
  pub posts : Posts
  pub new : Posts
  pub group : Group
  pub posts_there : slice_get s.posts c.rank ≡ Some posts
  pub new_there : slice_get t.posts c.rank ≡ Some new
  pub group_there : slice_get s.groups id ≡ Some group
  pub members : (rank : ℕ) → rank < s.limits.ranks → IsOneOf group.members rank → (given : Contribution) × (contribution_in group (round_of group c.rank) rank ≡ Some given)
      × (known_of new rank segment ≡ Some (record { generation = given.generation; size = size }))
  pub others : (rank : ℕ) → (IsOneOf group.members rank → ⊥) → (other : ℕ) → known_of new rank other ≡ known_of posts rank other
  pub segments : (rank other : ℕ) → (other ≡ segment → ⊥) → known_of new rank other ≡ known_of posts rank other
  pub kept : new ≡ record (counted (with_pending id None posts)) { segments = record posts.segments { known = new.segments.known } }

-- An allreduce that is done answers the reduction of what exactly the members have contributed to its round, its caller's own
-- values among them.
pub record IsReduction (s : State) (c : CallerId) (call : allreduce.Allreduce) (answer : TypedNumbers) : Type 0 where
  pub group : Group
  pub own : Contribution
  pub group_there : slice_get s.groups call.group ≡ Some group
  pub answers : answer ≡ round_reduction group c.rank call.op call.values.num_type
  pub given : contribution_in group (round_of group c.rank) c.rank ≡ Some own
  pub values : own.args ≡ record { coll = colls.Allreduce call.op call.values.num_type (length call.values.items); values = call.values }
