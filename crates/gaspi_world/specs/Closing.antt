-- What is known of a world that was closed.
use Rattle.std.specs.Prelude.{◌≡◌, ℕ, List, [], ◌∷◌, Some, slice_get}
use Rattle.std.specs.List.{flat_map}
use mathlib.Core.List.{IsPrefix}
use Rattle.gaspi_types.specs.World.{ShapeValue}
use Rattle.gaspi_types.specs.declared.events.Event.{Event}
use Rattle.gaspi_types.specs.declared.events.PlacedEvent.{PlacedEvent}
use Rattle.gaspi_types.specs.declared.shapes.CallerId.{CallerId}
use Rattle.commit_table.specs.Calls.{PassValue}
use Rattle.gaspi_model.specs.CallerEvents.{events_of}
use Rattle.gaspi_world.specs.Callers.{IsPassOf}
use Rattle.gaspi_world.specs.declared.shards.WorldShard.{WorldShard}
use Rattle.gaspi_world.specs.declared.shards.WorldShard.TheVariants as shards

-- the rank journal in the shard of a rank, and none in that of a group
abbrev pub journals_of : WorldShard → List (List PlacedEvent)
journals_of (shards.Rank node) = node.value.posts.journal ∷ []
journals_of (shards.Group node) = []

-- the rank journals in these shards, in order
abbrev pub rank_journals : List WorldShard → List (List PlacedEvent)
rank_journals values = flat_map journals_of values

module _ {S : Type 0} where
  -- each pass saw a prefix of the journal
  abbrev pub HaveSeen : List Event → List (PassValue S Event) → Type 0
  HaveSeen journal passes = (k : ℕ) (p : PassValue S Event) → slice_get passes k ≡ Some p → IsPrefix p.known.seen journal

  -- what the pass of a caller did are the calls and joins of the caller in the journal, in order
  abbrev pub HaveDone : ShapeValue → List Event → List (PassValue S Event) → Type 0
  HaveDone w journal passes = (c : CallerId) (k : ℕ) (p : PassValue S Event) → slice_get passes k ≡ Some p → IsPassOf w c p.known → events_of c journal ≡ p.known.mine
