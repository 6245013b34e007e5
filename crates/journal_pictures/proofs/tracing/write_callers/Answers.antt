use Rattle.std.proofs.Common.{arith}
use Rattle.journal_pictures.specs.Trace.{caller_name}
use Rattle.journal_pictures.proofs.Lines.{lines-step}
use Rattle.journal_pictures.proofs.tracing.write_callers.Goals as goal

pub loop-caller-preserved : goal.loop-caller-preserved
loop-caller-preserved c =
    lines-step caller_name c.args.callers.now c.loop-caller.caller-index c.caller-item.result c.loop-caller.text _ _ (omega arith) c.caller-item.is c.in_ok-write_caller.ensures c.loop-caller.invariant
