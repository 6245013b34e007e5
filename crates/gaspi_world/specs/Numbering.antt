-- How the parts of the state lie in shards.
use Rattle.std.specs.Prelude.{ℕ, ◌+◌}
use Rattle.gaspi_types.specs.World.{ShapeValue}
use Rattle.gaspi_model.specs.declared.states.Shard.{Shard}
use Rattle.gaspi_model.specs.declared.states.Shard.TheVariants as parts

-- how many shards there are, and the number of the shard in which a part of the state lies
pub record Numbering : Type 0 where
  pub shards : ℕ
  pub number : Shard → ℕ

-- a shard for each rank, with its posts and its memory, and then one for each group
abbrev pub rank_number : ℕ → Shard → ℕ
rank_number ranks (parts.Posts rank) = rank
rank_number ranks (parts.Memory rank) = rank
rank_number ranks (parts.Group id) = ranks + id

-- the numbering by ranks, of a world of this shape
abbrev pub by_ranks : ShapeValue → Numbering
by_ranks w = record { shards = w.limits.ranks + 8; number = rank_number w.limits.ranks }
