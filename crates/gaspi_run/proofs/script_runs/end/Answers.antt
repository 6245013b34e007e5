use Rattle.std.proofs.Common.{refl, subst}
use Rattle.gaspi_types.specs.World.{IsShape}
use Rattle.gaspi_types.specs.declared.calls.Timeout.TheVariants.{Looks}
use Rattle.gaspi_run.proofs.Ending.{ends-done}
use Rattle.gaspi_run.proofs.script_runs.end.Goals as goal

pub returns-clause-ends : goal.returns-clause-ends
returns-clause-ends g c = λ caller is active.
    ends-done c.args.world.now.start.shape caller c.args.pass.now.known c.make.new.pass.known (subst IsShape c.shape.ensures c.limits.ensures.world) is.0 active
    c.replies.ensures.recorded (Looks 1) c.make.result (c.make.ensures.ample refl) (c.make.ensures.calls.2 caller is)
