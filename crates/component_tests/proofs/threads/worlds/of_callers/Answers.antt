use Rattle.component_tests.proofs.Made.{made-callers}
use Rattle.component_tests.proofs.threads.worlds.of_callers.Goals as goal

pub returns : goal.returns
returns c = made-callers c.in_ok-started.started.world _ _ c.in_ok-started.started.passes.items c.in_ok-started.ensures.start c.in_ok-started.ensures.count c.in_ok-started.ensures.passes c.in_ok-started.ensures.callers
