use Rattle.std.proofs.Common.{◌∙◌}
use Rattle.rank_node.specs.Views.{posts_of}
use Rattle.rank_node.proofs.CompletionSteps.{create-effect}
use Rattle.rank_node.proofs.collective_completions.apply_effect.Goals as goal

pub returns-in-Create : goal.returns-in-Create
returns-in-Create c = λ g is.
    rw (← c.own.view_is)
    (create-effect (posts_of c.own.inside) c.make_known.new.table c.as_slice.result.now g c.args.me c.args.id c.args.call.now c.in-Create.call c.in-Create.is
    (c.as_slice.ensures ∙ c.generations-made.ensures g is.rounds) c.make_known.ensures)
