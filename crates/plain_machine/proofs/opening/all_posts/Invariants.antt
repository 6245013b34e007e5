use Rattle.std.proofs.Common.{◌≡◌, map}
use Rattle.std.specs.List.{range_with_len}
use Rattle.gaspi_model.specs.State.{opening_posts}
use Rattle.plain_machine.proofs.opening.all_posts.Given as goal

abbrev pub invariant-loop-rank : goal.invariant-loop-rank
invariant-loop-rank l = l.posts ≡ map (opening_posts l.shape) (range_with_len 0 l.rank)
