-- The posts of a rank and the node of a group at a collective. (GASPI: collectives)
use Rattle.std.specs.Prelude.{◌≡◌, ℕ, ◌<◌, Bool, true, false, List, [], ◌∷◌, length, Option, None, Some, Ok, IsOk, if◌then◌else◌}
use Rattle.gaspi_types.specs.Collectives.{contributions_of, contribution_in, round_of, round_checks, with_joined, is_round_full}
use Rattle.gaspi_types.specs.Groups.{handle_at, building_at}
use Rattle.gaspi_types.specs.Masks.{is_member}
use Rattle.gaspi_types.specs.Replies.{is_idle}
use Rattle.gaspi_types.specs.SegmentTables as tables
use Rattle.gaspi_types.specs.Tables.{item_at}
use Rattle.gaspi_types.specs.declared.calls.Call.{Call}
use Rattle.gaspi_types.specs.declared.calls.Call.TheVariants as calls
use Rattle.gaspi_types.specs.declared.collectives.Coll.{Coll}
use Rattle.gaspi_types.specs.declared.collectives.Coll.TheVariants.{Barrier, Allreduce, Create, Commit}
use Rattle.gaspi_types.specs.declared.collectives.Stage.TheVariants.{Committed}
use Rattle.gaspi_types.specs.declared.groups.Args.{Args}
use Rattle.gaspi_types.specs.declared.groups.Contribution.{Contribution}
use Rattle.gaspi_types.specs.declared.groups.Group.{Group}
use Rattle.gaspi_types.specs.declared.groups.Handle.{Handle}
use Rattle.gaspi_types.specs.declared.groups.Handles.{Handles}
use Rattle.gaspi_types.specs.declared.groups.MemberSegment.{MemberSegment}
use Rattle.gaspi_types.specs.declared.groups.PendingCollective.{PendingCollective}
use Rattle.gaspi_types.specs.declared.replies.Reply.{Reply}
use Rattle.gaspi_types.specs.declared.segments.SegmentTable.{SegmentTable}
use Rattle.gaspi_model.specs.RoundRules.{coll_in}
use Rattle.collective_engine.specs.KeptContributions.{elements_of, TakesFold, HasItsValues}
use Rattle.collective_engine.specs.RoundBuffers.{RoundBuffers, own_contribution, is_in, may_join}
use Rattle.gaspi_model.specs.CollectiveCalls.{joining_call, agreement_checks, completed_posts}
use Rattle.gaspi_model.specs.Contributions.{IsSoundGroup, AreSoundContributions, HasBegun, IsResumable}
use Rattle.gaspi_model.specs.State.{thread_at, is_running}
use Rattle.gaspi_model.specs.declared.states.Posts.{Posts}
use Rattle.plain_calls.specs.NumberBounds.{JoinIsBounded, CompletionIsBounded}
use Rattle.timeout_state.specs.Pendings.{IsOfThread}
use Rattle.rank_node.specs.Lending.{IsGroupNode}
use Rattle.rank_node.specs.Making.{made_segment}
use Rattle.rank_node.specs.Values.{PostsValue}
use Rattle.rank_node.specs.declared.making.MadeSegment.{MadeSegment}
use Rattle.rank_node.specs.declared.nodes.GroupNode.{GroupNode}

-- What a sound state has of the posts of rank `me` and of group `id`.
pub record AreSoundTogether (posts : Posts) (me id : ℕ) (g : Group) : Type 0 where
  pub few : posts.events < 4294967295
  pub ranked : me < length g.contributions
  pub part : AreSoundContributions posts.events (item_at posts.pending id) (contributions_of g me)
  pub group : IsSoundGroup (length g.contributions) g
  pub committed : (h : Handle) → handle_at posts.groups id ≡ Some h → h.stage ≡ Committed → (g.members ≡ Some h.members) × (is_member h.members me ≡ true)
  pub begun : HasBegun posts id (contributions_of g me).completed
  pub first : (rank : ℕ) (c : Contribution) → (id ≡ 0 → ⊥) → contribution_in g 0 rank ≡ Some c → (mask : ℕ) × (c.args.coll ≡ Commit mask)
  pub all : (h : Handle) → handle_at posts.groups 0 ≡ Some h → h.stage ≡ Committed
  pub resumable : (p : PendingCollective) → item_at posts.pending id ≡ Some p → IsResumable posts.groups me id p.args

-- a rank's posts and a group's node agree: they are of one sound state
pub record AgreeOnGroup (own : PostsValue) (id : ℕ) (n : GroupNode) : Type 0 where
  pub group : Group
  pub sound : AreSoundTogether own.posts own.me id group
  pub is : IsGroupNode group n

-- a collective is a `commit`
abbrev pub is_commit : Coll → Bool
is_commit Barrier = false
is_commit (Allreduce op t n) = false
is_commit (Create seg size) = false
is_commit (Commit mask) = true

-- Looks.

-- the contribution of a rank to its round is this call, where that is an allreduce
abbrev pub GivesOwn : Group → ℕ → Call → Type 0
GivesOwn g me (calls.Allreduce call) = coll_in (contribution_in g (round_of g me) me) ≡ Some (Allreduce call.op call.values.num_type (length call.values.items))
GivesOwn g me call = Unit {0}

-- the member list of a group is fixed, the rank is in it, and it has joined its round with this call
pub record IsMine (g : Group) (n : GroupNode) (me : ℕ) (call : Call) : Type 0 where
  pub is : IsGroupNode g n
  pub mask : ℕ
  pub fixed : g.members ≡ Some mask
  pub member : is_member mask me ≡ true
  pub own : GivesOwn g me call

-- a list of `places` numbers is long enough for the reduction of the round, where the call is an allreduce
abbrev pub TakesOwn : Call → RoundBuffers → ℕ → ℕ → Type 0
TakesOwn (calls.Allreduce call) t me places = TakesFold (elements_of (coll_in (own_contribution t me))) places
TakesOwn call t me places = Unit {0}

-- this call is a collective that is pending on group `id` for an active thread
pub record IsPendingFor (own : PostsValue) (thread id : ℕ) (call : Call) : Type 0 where
  pub pending : PendingCollective
  pub running : is_running (thread_at own.posts thread) ≡ true
  pub there : item_at own.posts.pending id ≡ Some pending
  pub mine : pending.thread ≡ thread
  pub same : joining_call id pending.args ≡ call

-- Joins.

-- the made segment of a create, as its join needs it; any for another collective (segment_create)
abbrev pub IsMadeFor : PostsValue → Coll → Option MadeSegment → Type 0
IsMadeFor own (Create seg size) made = made ≡ Some (made_segment own.limits own.posts seg size)
IsMadeFor own coll made = Unit {0}

-- a collective may join: none of the rank is pending on the group, and the numbers, the round and the values fit
pub record MayJoinHere (own : PostsValue) (n : GroupNode) (id : ℕ) (args : Args) : Type 0 where
  pub none : item_at own.posts.pending id ≡ None
  pub bounded : JoinIsBounded own.posts args.coll
  pub may : may_join n.rounds own.me args.coll ≡ true
  pub values : HasItsValues args

-- a group's node before and after a join: after it is the node of the group with one contribution more
abbrev pub AddsContribution : GroupNode → GroupNode → ℕ → Contribution → Type 0
AddsContribution old new me c =
    (g : Group) → IsGroupNode g old → me < length g.contributions → agreement_checks g me c.args.coll ≡ Ok tt → round_checks g me c.args.coll ≡ Ok tt → IsGroupNode (with_joined g me c) new

-- Completions.

-- a rank may complete its round: it is a member, and the round is full
pub record MayLeave (g : Group) (n : GroupNode) (me : ℕ) : Type 0 where
  pub is : IsGroupNode g n
  pub member : is_in g.members me ≡ true
  pub full : is_round_full g me ≡ true

-- where the call is a `commit`, the stage of its group is building
abbrev pub IsBuiltYet : Handles → ℕ → Call → Type 0
IsBuiltYet groups id (calls.Commit call) = IsOk (building_at groups id)
IsBuiltYet groups id call = Unit {0}

-- a collective of a thread may be completed
pub record MayComplete (own : PostsValue) (n : GroupNode) (thread id : ℕ) (call : Call) : Type 0 where
  pub built : IsBuiltYet own.posts.groups id call
  pub bounded : CompletionIsBounded call
  pub pending : IsOfThread (item_at own.posts.pending id) thread
  pub group : Group
  pub leaves : MayLeave group n own.me

-- the table with a segment of each member known, in the generation in which the member made it (segment_create)
abbrev pub with_all_known : ℕ → ℕ → List MemberSegment → SegmentTable → SegmentTable
with_all_known seg size [] table = table
with_all_known seg size (m ∷ made) table =
    with_all_known seg size made (tables.with_known m.rank seg (Some (record { generation = m.generation; size = size })) table)

-- the posts after a collective with this reply, its event not counted
abbrev pub completion_effect : Posts → Group → ℕ → ℕ → Call → Reply → Posts
completion_effect posts g me id call reply = if is_idle reply then posts else completed_posts posts g me id call
