-- What lies in the shards of a world at the start: ranks' nodes, and then groups' nodes.
use Rattle.std.proofs.Common.{◌≡◌, ℕ, ◌+◌, ◌<◌, List, [], map, length, Some, refl, ap, ◌∙◌, arith}
use Rattle.std.specs.List.{slice_get, range_with_len}
use Rattle.std.specs.Option.{option_map}
use Rattle.std.proofs.lemmas.Option.{slice_get-map}
use Rattle.gaspi_types.specs.World.{ShapeValue}
use Rattle.gaspi_model.specs.Parties.{party_of}
use Rattle.gaspi_model.specs.State.{opening, opening_posts, opening_memory}
use Rattle.gaspi_model.proofs.Sound.Rounds.{in-range}
use Rattle.commit_table.specs.Calls.{AreShards}
use Rattle.rank_node.specs.Openings.{posts_at_start, memory_at_start, IsOpeningNode}
use Rattle.rank_node.specs.declared.nodes.Node.{Node}
use Rattle.gaspi_world.specs.Openings.{all-open}
use Rattle.gaspi_world.specs.Shards.{node_meaning, IsOpeningShard}
use Rattle.gaspi_world.specs.WorldMachine.{world_machine}
use Rattle.gaspi_world.specs.declared.shards.WorldShard.{WorldShard}

-- what stands at a place of a list made from numbers
numbered : {A : Type 0} (f : ℕ → A) (count k : ℕ) → k < count → slice_get (map f (range_with_len 0 count)) k ≡ Some (f k)
numbered f count k less = let zero : 0 + k ≡ k = omega arith in slice_get-map f (range_with_len 0 count) k ∙ ap (option_map f) (in-range 0 count k less) ∙ ap (λ (n : ℕ). Some (f n)) zero

-- the node of a rank at the start
pub opens-posts : (w : ShapeValue) (rank : ℕ) (n : Node) → rank < w.limits.ranks → IsOpeningNode w rank n → n.posts ≡ posts_at_start w rank
opens-posts w rank n lt is =
    let there : slice_get (opening w).posts rank ≡ Some (opening_posts w rank) = numbered (opening_posts w) w.limits.ranks rank lt in
    let here = is.node.posts.posts in
    let same : n.posts.posts ≡ opening_posts w rank = cc in
    let limits = is.node.posts.limits in
    let me = is.node.posts.me in
    let journal = is.journal in
    rw (limits, me, journal, same) refl

pub opens-memory : (w : ShapeValue) (rank : ℕ) (n : Node) → rank < w.limits.ranks → IsOpeningNode w rank n → n.memory ≡ memory_at_start w rank
opens-memory w rank n lt is =
    let there : slice_get (opening w).memories rank ≡ Some (opening_memory w rank) = numbered (opening_memory w) w.limits.ranks rank lt in
    let here = is.node.memory.memory in
    let same : n.memory.memory ≡ opening_memory w rank = cc in
    let capacity = is.node.memory.capacity in
    rw (capacity, same) refl

-- So values of which each is that of its place are the shards of a new table.
module _ (w : ShapeValue) (values : List WorldShard) (count : length values ≡ w.limits.ranks + 8) (each : (i : ℕ) (x : WorldShard) → slice_get values i ≡ Some x → IsOpeningShard w i x) where
  pub opening-shards : AreShards (world_machine w) values []
  opening-shards = all-open (node_meaning w) w (party_of w) values count
      (λ rank x lt at. (each rank x at).rank lt)
      (λ id x at. (each (w.limits.ranks + id) x at).group id refl)
