-- The shards of an event: the parts of the state that it reads and changes. A shard is the posts of a rank, the memory of a
-- rank, or a group. (own choice)
use Rattle.std.specs.Prelude.{◌≡◌, ℕ, Bool, true, false, ◌==◌, nat_eq, nat_lt, List, [], ◌∷◌, map, Option, None, Some, Result, Ok, Err, if◌then◌else◌, slice_get}
use Rattle.std.specs.List.{list_any}
use Rattle.gaspi_types.specs.declared.entries.Entry.{Entry}
use Rattle.gaspi_types.specs.declared.calls.Call.{Call}
use Rattle.gaspi_types.specs.declared.calls.Call.TheVariants.{PassiveSend, GroupCreate, GroupAdd, GroupDelete}
use Rattle.gaspi_types.specs.declared.events.Event.{Event}
use Rattle.gaspi_types.specs.declared.calls.Call.TheVariants as calls
use Rattle.gaspi_types.specs.declared.collectives.Coll.{Coll}
use Rattle.gaspi_types.specs.declared.collectives.Coll.TheVariants as colls
use Rattle.gaspi_types.specs.declared.events.Event.TheVariants.{Called, Joined}
use Rattle.gaspi_types.specs.declared.footprints.Footprint.{Footprint}
use Rattle.gaspi_types.specs.declared.footprints.Footprint.TheVariants.{Alone, OwnMemory, PeerMemory, BothMemories, PeerPosts, Group, GroupAndMemory}
use Rattle.gaspi_model.specs.Transfers.{entry_in}
use Rattle.gaspi_model.specs.Step.{owner_of, event_footprint}
use Rattle.gaspi_model.specs.declared.states.Posts.{Posts}
use Rattle.gaspi_model.specs.declared.states.State.{State}
use Rattle.gaspi_model.specs.declared.states.Shard.{Shard}
use Rattle.gaspi_model.specs.declared.states.Shard.TheVariants as shards
use Rattle.gaspi_model.specs.declared.states.Why.{Why}

-- the entry with a number in a lane of a rank
abbrev pub entry_after : State → ℕ → ℕ → ℕ → ℕ → Option Entry
entry_after s origin queue target number = in_posts (slice_get s.posts origin)
  where
    in_posts : Option Posts → Option Entry
    in_posts None = None
    in_posts (Some posts) = entry_in posts queue target number

-- the shards of an event of a rank, by what it reaches: its owner's posts come first
abbrev pub footprint_shards : ℕ → Footprint → List Shard
footprint_shards me Alone = shards.Posts me ∷ []
footprint_shards me OwnMemory = shards.Posts me ∷ shards.Memory me ∷ []
footprint_shards me (PeerMemory rank) = shards.Posts me ∷ shards.Memory rank ∷ []
footprint_shards me (BothMemories rank) = shards.Posts me ∷ shards.Memory me ∷ shards.Memory rank ∷ []
footprint_shards me (PeerPosts rank) = shards.Posts me ∷ shards.Posts rank ∷ []
footprint_shards me (Group id) = shards.Posts me ∷ shards.Group id ∷ []
footprint_shards me (GroupAndMemory id) = shards.Posts me ∷ shards.Memory me ∷ shards.Group id ∷ []

-- The shards of an event: its owner's posts, and what is in its footprint. Its owner's posts and the event without its reply
-- say which these are.
abbrev pub event_shards : State → Event → List Shard
event_shards s e = by_posts (slice_get s.posts (owner_of e))
  where
    by_posts : Option Posts → List Shard
    by_posts None = shards.Posts (owner_of e) ∷ []
    by_posts (Some posts) = footprint_shards (owner_of e) (event_footprint s.limits posts e)

-- whether a collective is a segment_create
abbrev pub is_create : Coll → Bool
is_create (colls.Create seg size) = true
is_create coll = false

-- whether an event has two shards beside its owner's posts: a send has the memory of its own rank and that of the rank that it
-- names, and a segment_create and its join have the memory of their rank and their group; every other event has at most one
abbrev pub is_wide : Event → Bool
is_wide (Called c (PassiveSend call) reply) = true
is_wide (Called c (calls.Create call) reply) = true
is_wide (Joined c id args) = is_create args.coll
is_wide e = false

-- the group of a collective, where there is a group of that number
abbrev pub group_shards : ℕ → List Shard
group_shards id = if nat_lt id 8 then shards.Group id ∷ [] else []

-- the memory and the group of a segment_create
abbrev pub create_shards : ℕ → ℕ → List Shard
create_shards me id = if nat_lt id 8 then shards.Memory me ∷ shards.Group id ∷ [] else []

-- the memories of a send
abbrev pub send_shards : ℕ → ℕ → ℕ → List Shard
send_shards ranks me rank =
    if rank == me then shards.Memory me ∷ [] else (if nat_lt rank ranks then shards.Memory me ∷ shards.Memory rank ∷ [] else [])

-- the calls on the groups of a rank
abbrev pub is_group_call : Call → Bool
is_group_call GroupCreate = true
is_group_call (GroupAdd call) = true
is_group_call (GroupDelete call) = true
is_group_call call = false

-- whether two shards are the same
abbrev pub same_shard : Shard → Shard → Bool
same_shard (shards.Posts a) (shards.Posts b) = a == b
same_shard (shards.Memory a) (shards.Memory b) = a == b
same_shard (shards.Group a) (shards.Group b) = a == b
same_shard _ _ = false

-- whether a shard is in a list
abbrev pub is_shard : List Shard → Shard → Bool
is_shard list shard = list_any (λ x. same_shard x shard) list

-- a shard is the same in two states
abbrev pub AgreeOnShard : State → State → Shard → Type 0
AgreeOnShard s s' (shards.Posts rank) = slice_get s.posts rank ≡ slice_get s'.posts rank
AgreeOnShard s s' (shards.Memory rank) = slice_get s.memories rank ≡ slice_get s'.memories rank
AgreeOnShard s s' (shards.Group group) = slice_get s.groups group ≡ slice_get s'.groups group

-- the limits, and those shards for which a test holds, are the same in two states
pub record AgreeOn (is_in : Shard → Bool) (s s' : State) : Type 0 where
  pub limits : s.limits ≡ s'.limits
  pub parts : (shard : Shard) → is_in shard ≡ true → AgreeOnShard s s' shard

-- Steps from two states come to the same: to the same cause, or to states that agree on each shard on which the two agreed.
abbrev pub HaveSameResult : State → State → Result State Why → Result State Why → Type 0
HaveSameResult s s' (Ok t) (Ok t') = (t.limits ≡ t'.limits) × ((shard : Shard) → AgreeOnShard s s' shard → AgreeOnShard t t' shard)
HaveSameResult s s' (Err why) (Err why') = why ≡ why'
HaveSameResult s s' (Ok t) (Err why) = ⊥
HaveSameResult s s' (Err why) (Ok t) = ⊥

-- the numbers, each once: without those that come again
abbrev pub without_repeats : List ℕ → List ℕ
without_repeats [] = []
without_repeats (n ∷ list) = if list_any (nat_eq n) list then without_repeats list else n ∷ without_repeats list

-- Coarser shards: each shard has a number, and those of one number are one. So a rank's posts and memory can be one shard,
-- or the whole state. The numbers of an event's shards, each once.
abbrev pub numbers_of : (Shard → ℕ) → State → Event → List ℕ
numbers_of number s e = without_repeats (map number (event_shards s e))
