-- The node of a rank at the start is that of the opening state.
use Rattle.std.proofs.Common.{◌≡◌, ℕ, ◌<◌, ap}
use Rattle.gaspi_types.specs.World.{ShapeValue}
use Rattle.rank_node.specs.Openings.{posts_at_start, memory_at_start, IsOpeningNode}
use Rattle.rank_node.specs.Values.{PostsValue, MemoryValue}
use Rattle.rank_node.specs.declared.nodes.Node.{Node}
use Rattle.rank_node.proofs.OpeningGroups.{opening-posts-of, opening-memory-of}

pub opening-node : (w : ShapeValue) (rank : ℕ) (n : Node) → rank < w.limits.ranks → n.posts ≡ posts_at_start w rank → n.memory ≡ memory_at_start w rank → IsOpeningNode w rank n
opening-node w rank n below posts memory = record {
  node = record {
    posts = opening-posts-of w rank n.posts below (ap (λ (p : PostsValue). p.limits) posts) (ap (λ (p : PostsValue). p.me) posts) (ap (λ (p : PostsValue). p.posts) posts);
    memory = opening-memory-of w rank n.memory below (ap (λ (m : MemoryValue). m.capacity) memory) (ap (λ (m : MemoryValue). m.memory) memory);
  };
  journal = ap (λ (p : PostsValue). p.journal) posts;
}
