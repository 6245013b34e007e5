use Rattle.std.proofs.Common.{sym}
use Rattle.gaspi_texts.proofs.WrittenLines.{kept-through, line-added, all-added}
use Rattle.gaspi_texts.proofs.journal_writing.append_journal.Goals as goal

pub loop-place-preserved : goal.loop-place-preserved
loop-place-preserved c =
    line-added c.args.text.now c.loop-place.text c.write_event_line.new.text c.args.journal.now c.loop-place.place c.event-item.result
    (rw (sym c.as_slice-event-items.ensures) c.loop-place-test.true) (rw (sym c.as_slice-event-items.ensures) c.event-item.is) c.loop-place.invariant c.in_ok-write_event_line.ensures.ok

pub returns-clause-ok : goal.returns-clause-ok
returns-clause-ok c =
    all-added c.write_end_line.result c.args.text.now c.loop-place.text c.write_end_line.new.text c.args.journal.now c.loop-place.place
    (rw (sym c.as_slice-event-items.ensures) c.loop-place-test.false) c.loop-place.invariant (rw (sym c.len.ensures) c.write_end_line.ensures.ok)

pub returns-clause-kept : goal.returns-clause-kept
returns-clause-kept c = kept-through c.args.text.now c.loop-place.text c.write_end_line.new.text _ c.loop-place.invariant c.write_end_line.ensures.kept
