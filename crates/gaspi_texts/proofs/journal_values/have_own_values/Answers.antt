use Rattle.std.proofs.Common.{refl, sym, arith}
use Rattle.gaspi_texts.specs.EventText.{HasOwnValues}
use Rattle.gaspi_texts.proofs.RangesSoFar.{one-more}
use Rattle.gaspi_texts.proofs.journal_values.have_own_values.Goals as goal

pub loop-event-init : goal.loop-event-init
loop-event-init c = λ k d less. absurd (omega arith)

pub loop-event-preserved : goal.loop-event-preserved
loop-event-preserved c =
    one-more HasOwnValues c.args.journal.now c.loop-event.event-index c.event-item.result (rw (sym c.as_slice-event-items.ensures) c.loop-event-test.true) (rw (sym c.as_slice-event-items.ensures) c.event-item.is)
    (c.has_own_values.ensures.0 c.if-not-has_own_values.false) c.loop-event.invariant

pub returns : goal.returns
returns c =
    let past = rw c.as_slice-event-items.ensures at c.loop-event-test.false in
    (λ yes. λ k d less. c.loop-event.invariant k d (omega (arith, past)), λ all. refl)
