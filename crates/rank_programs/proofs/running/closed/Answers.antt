use Rattle.rank_programs.proofs.BodyRuns.{run-drained}
use Rattle.rank_programs.proofs.running.closed.Goals as goal

pub returns-in-Ok-clause-drained : goal.returns-in-Ok-clause-drained
returns-in-Ok-clause-drained c = run-drained c.settling.ensures.stays c.args.world c.args.passes.items _ c.requires c.in-Ok.ensures.legal c.in-Ok.ensures.seen
