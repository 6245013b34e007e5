use Rattle.journal_pictures.specs.Trace.{put_step, span_end}
use Rattle.journal_pictures.proofs.TraceTexts.{one-line}
use Rattle.journal_pictures.proofs.trace_lines.write_put.Goals as goal

pub returns-in-None : goal.returns-in-None
returns-in-None c =
    rw c.in-None.is (one-line c.args.text.now c.write_end.new.text (span_end (put_step c.args.outcome) c.args.place c.args.origin c.args.queue c.args.number)
    (rw (c.put_step.ensures.word, c.from.ensures) at c.in_ok-write_end.ensures))
