-- The node of a rank in the opening state.
use Rattle.std.specs.Prelude.{◌≡◌, ℕ, []}
use Rattle.gaspi_types.specs.World.{ShapeValue}
use Rattle.gaspi_model.specs.State.{opening, opening_posts, opening_memory}
use Rattle.rank_node.specs.Lending.{IsNodeOf}
use Rattle.rank_node.specs.Values.{PostsValue, MemoryValue}
use Rattle.rank_node.specs.declared.nodes.Node.{Node}

-- the posts of a rank, with nothing in its rank journal, and its memory
abbrev pub posts_at_start : ShapeValue → ℕ → PostsValue
posts_at_start w rank = record { limits = w.limits; me = rank; posts = opening_posts w rank; journal = [] }

-- its memory
abbrev pub memory_at_start : ShapeValue → ℕ → MemoryValue
memory_at_start w rank = record { capacity = w.limits.inbox; memory = opening_memory w rank }

-- the node is that of the opening state, and its rank journal is empty
pub record IsOpeningNode (w : ShapeValue) (rank : ℕ) (n : Node) : Type 0 where
  pub node : IsNodeOf (opening w) rank n
  pub journal : n.posts.journal ≡ []
