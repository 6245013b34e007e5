use Rattle.std.proofs.Common.{◌≡◌, drop}
use Rattle.gaspi_types.specs.Checks.{check_each}
use Rattle.gaspi_types.specs.Posts.{has_size}
use Rattle.segment_store.proofs.list_posts.check_sizes.Given as goal

abbrev pub invariant-loop-item : goal.invariant-loop-item
invariant-loop-item l = check_each has_size l.items ≡ check_each has_size (drop l.item-index l.items)
