-- What the value of a shard stands for: the node of a rank for its posts, with its rank journal, and for its memory; that of a group
-- for the group.
use Rattle.std.specs.Prelude.{◌≡◌, ℕ, ◌+◌, ◌<◌, List, []}
use Rattle.gaspi_types.specs.World.{ShapeValue}
use Rattle.gaspi_types.specs.declared.events.PlacedEvent.{PlacedEvent}
use Rattle.gaspi_types.specs.declared.groups.Group as groups
use Rattle.gaspi_model.specs.State.{opening_posts, opening_memory, opening_group}
use Rattle.gaspi_model.specs.declared.states.Memory.{Memory}
use Rattle.gaspi_model.specs.declared.states.Posts.{Posts}
use Rattle.rank_node.specs.Lending.{IsGroupNode}
use Rattle.gaspi_world.specs.ShardMachine.{Meaning}
use Rattle.gaspi_world.specs.declared.shards.WorldShard.{WorldShard}
use Rattle.gaspi_world.specs.declared.shards.WorldShard.TheVariants.{Rank, Group}

-- a shard value is the node of this rank, with these posts and this rank journal
abbrev pub IsRankPosts : ShapeValue → WorldShard → ℕ → Posts → List PlacedEvent → Type 0
IsRankPosts w (Rank node) rank posts journal = node.value.posts ≡ record { limits = w.limits; me = rank; posts = posts; journal = journal }
IsRankPosts w (Group node) rank posts journal = ⊥

-- a shard value is a rank node with this memory
abbrev pub IsRankMemory : ShapeValue → WorldShard → ℕ → Memory → Type 0
IsRankMemory w (Rank node) rank memory = node.value.memory ≡ record { capacity = w.limits.inbox; memory = memory }
IsRankMemory w (Group node) rank memory = ⊥

-- a shard value is the node of this group
abbrev pub IsGroupShard : WorldShard → ℕ → groups.Group → Type 0
IsGroupShard (Rank node) id group = ⊥
IsGroupShard (Group node) id group = IsGroupNode group node.value

-- what the nodes of a world of this shape stand for
abbrev pub node_meaning : ShapeValue → Meaning WorldShard
node_meaning w = record { IsPosts = IsRankPosts w; IsMemory = IsRankMemory w; IsGroup = IsGroupShard }

-- a value is the node of a rank
abbrev pub IsRankShard : WorldShard → Type 0
IsRankShard (Rank node) = Unit {0}
IsRankShard (Group node) = ⊥

-- a shard value is that of a shard in the opening state
pub record IsOpeningShard (w : ShapeValue) (i : ℕ) (x : WorldShard) : Type 0 where
  pub rank : i < w.limits.ranks → IsRankPosts w x i (opening_posts w i) [] × IsRankMemory w x i (opening_memory w i)
  pub group : (id : ℕ) → i ≡ w.limits.ranks + id → IsGroupShard x id (opening_group w.limits.ranks id)
