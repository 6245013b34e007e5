use Rattle.gaspi_texts.proofs.InRange.{event_in_range}
use Rattle.gaspi_texts.proofs.text_laws.read_events_are_in_range.Goals as goal

pub returns : goal.returns
returns c = event_in_range c.call_laws.ensures
