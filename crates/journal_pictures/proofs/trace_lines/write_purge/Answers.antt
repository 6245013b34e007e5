use Rattle.std.proofs.Common.{arith}
use Rattle.journal_pictures.specs.Trace.{purge_end}
use Rattle.journal_pictures.proofs.Lines.{lines-step}
use Rattle.journal_pictures.proofs.trace_lines.write_purge.Goals as goal

pub loop-entry-preserved : goal.loop-entry-preserved
loop-entry-preserved c =
    lines-step (purge_end c.args.place c.args.origin) c.args.entries.now c.loop-entry.entry-index c.entry-item.result c.loop-entry.text _ _ (omega arith) c.entry-item.is c.in_ok-write_end.ensures c.loop-entry.invariant
