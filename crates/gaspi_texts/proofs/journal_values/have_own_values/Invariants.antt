use Rattle.gaspi_texts.specs.EventText.{HasOwnValues}
use Rattle.gaspi_texts.proofs.RangesSoFar.{HoldsBefore}
use Rattle.gaspi_texts.proofs.journal_values.have_own_values.Given as goal

-- the events so far have their own values
abbrev pub invariant-loop-event : goal.invariant-loop-event
invariant-loop-event l = HoldsBefore HasOwnValues l.journal l.event-index
