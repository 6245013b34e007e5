-- What contracts see of `NodePosts` and of `NodeMemory`.
use Rattle.std.specs.Prelude.{ℕ, List}
use Rattle.gaspi_types.specs.declared.shapes.Limits.{Limits}
use Rattle.gaspi_model.specs.declared.states.Posts.{Posts}
use Rattle.gaspi_model.specs.declared.states.Memory.{Memory}
use Rattle.gaspi_types.specs.declared.events.PlacedEvent.{PlacedEvent}

-- The limits of its world, the rank, its posts in the words of the machine, and its rank journal: the events that it owns, each
-- with its place.
pub record PostsValue : Type 0 where
  pub limits : Limits
  pub me : ℕ
  pub posts : Posts
  pub journal : List PlacedEvent

-- The most messages that its inbox may have, and its memory in the words of the machine.
pub record MemoryValue : Type 0 where
  pub capacity : ℕ
  pub memory : Memory
