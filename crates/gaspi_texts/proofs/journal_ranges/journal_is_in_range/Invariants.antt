use Rattle.gaspi_texts.specs.EventText.{IsInEventRange}
use Rattle.gaspi_texts.proofs.RangesSoFar.{HoldsBefore}
use Rattle.gaspi_texts.proofs.journal_ranges.journal_is_in_range.Given as goal

abbrev pub invariant-loop-event : goal.invariant-loop-event
invariant-loop-event l = HoldsBefore IsInEventRange l.journal l.event-index
