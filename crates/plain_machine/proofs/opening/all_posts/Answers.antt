use Rattle.std.proofs.Common.{ap, ◌∙◌, ◌++◌, ◌∷◌, []}
use Rattle.gaspi_model.specs.State.{opening_posts}
use Rattle.gaspi_model.specs.declared.states.Posts.{Posts}
use Rattle.gaspi_model.proofs.Ranges.{map_range_more}
use Rattle.plain_machine.proofs.opening.all_posts.Goals as goal

pub loop-rank-preserved : goal.loop-rank-preserved
loop-rank-preserved c =
    rw (map_range_more (opening_posts c.args.shape.now) c.loop-rank.rank)
    rw (← c.loop-rank.invariant)
    (c.in_ok-push.ensures.ok ∙ ap (λ (p : Posts). c.loop-rank.posts ++ p ∷ []) c.in_ok-opening_posts.ensures)
