-- What ranks have contributed to groups, and what is pending, in the states of legal histories. (GASPI: collectives, groups,
-- segments)
use Rattle.std.specs.Prelude.{◌≡◌, ℕ, ◌+◌, ◌<◌, ◌≤◌, true, length, slice_get, Option, None, Some, Ok}
use Rattle.gaspi_types.specs.Collectives.{HaveOwnValues, contributions_of, contribution_in}
use Rattle.gaspi_types.specs.Groups.{handle_at}
use Rattle.gaspi_types.specs.Masks.{is_member}
use Rattle.gaspi_types.specs.SegmentTables.{extent_in}
use Rattle.gaspi_types.specs.Tables.{item_at}
use Rattle.gaspi_types.specs.declared.collectives.Coll.TheVariants.{Create, Commit}
use Rattle.gaspi_types.specs.declared.collectives.Stage.TheVariants.{Building, Committed}
use Rattle.gaspi_types.specs.declared.groups.Args.{Args}
use Rattle.gaspi_types.specs.declared.groups.Contribution.{Contribution}
use Rattle.gaspi_types.specs.declared.groups.Group.{Group}
use Rattle.gaspi_types.specs.declared.groups.Handle.{Handle}
use Rattle.gaspi_types.specs.declared.groups.Handles.{Handles}
use Rattle.gaspi_types.specs.declared.groups.RankContributions.{RankContributions}
use Rattle.gaspi_types.specs.declared.groups.PendingCollective.{PendingCollective}
use Rattle.gaspi_types.specs.declared.segments.Extent.{Extent}
use Rattle.gaspi_model.specs.Coherence.{Tables, WasMade, tables_of}
use Rattle.gaspi_model.specs.CollectiveCalls.{element_checks, staged_at, args_of, joining_call}
use Rattle.gaspi_model.specs.declared.states.Posts.{Posts}
use Rattle.gaspi_model.specs.declared.states.State.{State}

-- how many collectives of a rank are pending on a group
abbrev pub pending_count : Option PendingCollective → ℕ
pending_count None = 0
pending_count (Some p) = 1

-- a rank is in a member list that is fixed
pub record IsOneOf (members : Option ℕ) (rank : ℕ) : Type 0 where
  pub mask : ℕ
  pub fixed : members ≡ Some mask
  pub member : is_member mask rank ≡ true

-- A rank has contributed to one round more than it has completed where a collective of it is pending on the group, which is its
-- last contribution, and else to as many; and it has completed no more rounds than it has recorded events.
pub record AreSoundContributions (events : ℕ) (pending : Option PendingCollective) (part : RankContributions) : Type 0 where
  pub count : length part.contributions ≡ part.completed + pending_count pending
  pub last : (p : PendingCollective) → pending ≡ Some p → (c : Contribution) × (slice_get part.contributions part.completed ≡ Some c) × (c.args ≡ p.args)
  pub few : part.completed ≤ events

-- How many rounds of a group a rank may have completed, by the stage of the group: none before it has committed the group, and
-- at least its group commit after that; group 0 is committed from the start.
pub record HasBegun (posts : Posts) (id completed : ℕ) : Type 0 where
  pub unmade : posts.groups.last_id < id → completed ≡ 0
  pub building : (h : Handle) → handle_at posts.groups id ≡ Some h → h.stage ≡ Building → completed ≡ 0
  pub committed : (h : Handle) → handle_at posts.groups id ≡ Some h → h.stage ≡ Committed → (id ≡ 0 → ⊥) → 1 ≤ completed

-- What is pending of a rank on a group may be looked at again: the rank has the group, in the stage that the collective needs,
-- and with the members that a group commit has; and an allreduce has elements that may be reduced.
pub record IsResumable (groups : Handles) (me id : ℕ) (args : Args) : Type 0 where
  pub handle : Handle
  pub there : handle_at groups id ≡ Some handle
  pub made : id ≤ groups.last_id
  pub elements : element_checks (joining_call id args) ≡ Ok tt
  pub staged : staged_at groups me id (joining_call id args) ≡ Ok handle
  pub own : args_of handle.members (joining_call id args) ≡ Some args

-- The contributions to one round agree in all but values and generation, and are of members; and a group commit has the member
-- list that is fixed.
pub record IsSoundGroup (ranks : ℕ) (g : Group) : Type 0 where
  pub parts : length g.contributions ≡ ranks
  pub agree : (round rank other : ℕ) (c d : Contribution) → contribution_in g round rank ≡ Some c → contribution_in g round other ≡ Some d → c.args.coll ≡ d.args.coll
  pub whole : (round rank : ℕ) (c : Contribution) → contribution_in g round rank ≡ Some c → HaveOwnValues c.args
  pub members : (round rank : ℕ) (c : Contribution) → contribution_in g round rank ≡ Some c → IsOneOf g.members rank
  pub commits : (round rank : ℕ) (c : Contribution) (mask : ℕ) → contribution_in g round rank ≡ Some c → c.args.coll ≡ Commit mask → g.members ≡ Some mask

-- a segment of that number and generation was made, and has that size where it is there
abbrev pub WasMadeSo : Tables → ℕ → ℕ → ℕ → Type 0
WasMadeSo tables segment generation size =
    WasMade tables segment generation × ((x : Extent) → extent_in tables.own segment ≡ Some x → x.generation ≡ generation → x.size ≡ size)

-- There are eight groups. What is pending may be looked at again. The first round of each group but group 0 is its group commit. A
-- group that a rank has committed has the member list of its id, and that rank is in it. And each segment that a rank has
-- contributed to a round was made.
pub record AreSoundCollectives (s : State) : Type 0 where
  pub eight : length s.groups ≡ 8
  pub groups : (id : ℕ) (g : Group) → slice_get s.groups id ≡ Some g → IsSoundGroup s.limits.ranks g
  pub parts : (id : ℕ) (g : Group) (rank : ℕ) (posts : Posts) → slice_get s.groups id ≡ Some g → slice_get s.posts rank ≡ Some posts
      → AreSoundContributions posts.events (item_at posts.pending id) (contributions_of g rank)
  pub begun : (id : ℕ) (g : Group) (rank : ℕ) (posts : Posts) → slice_get s.groups id ≡ Some g → slice_get s.posts rank ≡ Some posts
      → HasBegun posts id (contributions_of g rank).completed
  pub resumable : (id rank : ℕ) (posts : Posts) (p : PendingCollective) → slice_get s.posts rank ≡ Some posts → item_at posts.pending id ≡ Some p
      → IsResumable posts.groups rank id p.args
  pub first : (id : ℕ) (g : Group) (rank : ℕ) (c : Contribution) → slice_get s.groups id ≡ Some g → (id ≡ 0 → ⊥) → contribution_in g 0 rank ≡ Some c
      → (mask : ℕ) × (c.args.coll ≡ Commit mask)
  pub committed : (id : ℕ) (g : Group) (rank : ℕ) (posts : Posts) (h : Handle) → slice_get s.groups id ≡ Some g → slice_get s.posts rank ≡ Some posts
      → handle_at posts.groups id ≡ Some h → h.stage ≡ Committed → (g.members ≡ Some h.members) × (is_member h.members rank ≡ true)
  pub made : (id : ℕ) (g : Group) (rank : ℕ) (posts : Posts) → slice_get s.groups id ≡ Some g → slice_get s.posts rank ≡ Some posts
      → (round : ℕ) (c : Contribution) (seg size : ℕ) → contribution_in g round rank ≡ Some c → c.args.coll ≡ Create seg size → WasMadeSo (tables_of posts) seg c.generation size
