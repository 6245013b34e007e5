use Rattle.component_tests.proofs.Made.{made-alone}
use Rattle.component_tests.proofs.threads.worlds.with_worker.Goals as goal

pub returns : goal.returns
returns c = made-alone c.in_ok-started.started.world _ c.in_ok-started.started.passes.items c.in_ok-started.ensures.count c.in_ok-started.ensures.passes
