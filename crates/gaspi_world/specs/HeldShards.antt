-- The nodes that a pass holds, as values of shards.
use Rattle.std.specs.Prelude.{◌≡◌, ℕ, ◌+◌, ◌<◌, List, [], ◌∷◌, Option, None, Some}
use Rattle.gaspi_types.specs.World.{ShapeValue}
use Rattle.gaspi_types.specs.declared.events.Event.{Event}
use Rattle.gaspi_model.specs.Parties.{party_of}
use Rattle.commit_table.specs.Views.{after_give_back}
use Rattle.commit_table.specs.declared.views.PassView.{PassView}
use Rattle.rank_node.specs.declared.held_nodes.OtherNode.{OtherNode}
use Rattle.rank_node.specs.declared.held_nodes.OtherNode.TheVariants.{Nothing, Rank, Group}
use Rattle.gaspi_world.specs.ShardProjections as held
use Rattle.gaspi_world.specs.Numbering.{by_ranks}
use Rattle.gaspi_world.specs.ShardMachine.{AgreeAt}
use Rattle.gaspi_world.specs.Shards.{node_meaning}
use Rattle.gaspi_world.specs.declared.holding.HeldShards.{HeldShards}
use Rattle.gaspi_world.specs.declared.shards.WorldShard.{WorldShard}
use Rattle.gaspi_world.specs.declared.shards.WorldShard.TheVariants as shards

-- the value of the other shard, where there is one
abbrev pub other_value : Option ℕ → OtherNode → List (ℕ × WorldShard)
other_value None other = []
other_value (Some i) Nothing = []
other_value (Some i) (Rank node) = (i, shards.Rank node) ∷ []
other_value (Some i) (Group node) = (i, shards.Group node) ∷ []

-- the numbers and values of the held shards, the own one first
abbrev pub values_of : HeldShards → List (ℕ × WorldShard)
values_of h = (h.own, shards.Rank h.nodes.own) ∷ other_value h.other h.nodes.other

-- another node is held exactly where there is another shard
abbrev pub IsOther : Option ℕ → OtherNode → Type 0
IsOther None Nothing = Unit {0}
IsOther None (Rank node) = ⊥
IsOther None (Group node) = ⊥
IsOther (Some i) Nothing = ⊥
IsOther (Some i) (Rank node) = Unit {0}
IsOther (Some i) (Group node) = Unit {0}

-- the other shard is there, and is not the own one
abbrev pub IsOtherShard : ShapeValue → ℕ → Option ℕ → Type 0
IsOtherShard w own None = Unit {0}
IsOtherShard w own (Some other) = (other < w.limits.ranks + 8) × (other ≡ own → ⊥)

-- what a pass knows after it gave back the own shard, and the other where there is one
abbrev pub left_by : {S : Type 0} → ℕ → Option ℕ → PassView S Event → PassView S Event
left_by own None v = after_give_back v own
left_by own (Some other) v = after_give_back (after_give_back v other) own

module _ {S : Type 0} (w : ShapeValue) where
  -- the pass holds the shards of these nodes and no other, and what lies there stands for all that it has seen
  pub record Holds (h : HeldShards) (v : PassView S Event) : Type 0 where
    pub shards : held.Holds (by_ranks w) w (node_meaning w) (party_of w) (values_of h) v
    pub fits : IsOther h.other h.nodes.other
    pub own : h.own < w.limits.ranks
    pub apart : IsOtherShard w h.own h.other

  -- an event was committed after what had been seen; other passes may have committed between, on other shards
  abbrev pub IsCommitted : PassView S Event → Event → PassView S Event → Type 0
  IsCommitted v e n = held.IsCommitted (by_ranks w) w (party_of w) v e n

  -- a history agrees with what was seen on the shards that are held
  abbrev pub AgreesOn : HeldShards → PassView S Event → List Event → Type 0
  AgreesOn h v k = (i : ℕ) (x : WorldShard) → held.value_at (values_of h) i ≡ Some x → AgreeAt (by_ranks w) w i v.seen k
