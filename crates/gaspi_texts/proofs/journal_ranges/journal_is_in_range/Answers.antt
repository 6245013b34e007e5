use Rattle.std.proofs.Common.{sym, arith}
use Rattle.gaspi_texts.specs.EventText.{HasOwnValues, IsInEventRange}
use Rattle.gaspi_texts.proofs.RangesSoFar.{one-more, one-there}
use Rattle.gaspi_texts.proofs.journal_ranges.journal_is_in_range.Goals as goal

pub loop-event-init : goal.loop-event-init
loop-event-init c = λ k d less. absurd (omega arith)

-- the event at a place has its own values, as all have
pub event_is_in_range-requires : goal.event_is_in_range-requires
event_is_in_range-requires c =
    one-there HasOwnValues c.args.journal.now c.loop-event.event-index c.event-item.result (rw (sym c.as_slice-event-items.ensures) c.loop-event-test.true) (rw (sym c.as_slice-event-items.ensures) c.event-item.is) c.requires

pub loop-event-preserved : goal.loop-event-preserved
loop-event-preserved c =
    one-more IsInEventRange c.args.journal.now c.loop-event.event-index c.event-item.result (rw (sym c.as_slice-event-items.ensures) c.loop-event-test.true) (rw (sym c.as_slice-event-items.ensures) c.event-item.is)
    c.event_is_in_range.ensures c.loop-event.invariant

pub returns-clause-ranges : goal.returns-clause-ranges
returns-clause-ranges c =
    let past = rw c.as_slice-event-items.ensures at c.loop-event-test.false in
    λ k d less. c.loop-event.invariant k d (omega (arith, past))
