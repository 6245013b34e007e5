use Rattle.std.proofs.Common.{sym, ◌∙◌}
use Rattle.rank_script.proofs.InputLines.{world-until, world-faulty}
use Rattle.rank_script.proofs.world_texts.read_world.Goals as goal

pub returns-in_err-shape-clause-exact : goal.returns-in_err-shape-clause-exact
returns-in_err-shape-clause-exact c =
    world-faulty c.from_residual.result _ c.args.text.now _ c.from_residual.ensures.0 c.from_residual.ensures.1 c.in_err-shape.ensures.exact

pub returns-clause-exact : goal.returns-clause-exact
returns-clause-exact c = sym (world-until c.args.text.now) ∙ c.in_ok-shape.ensures.exact.0
