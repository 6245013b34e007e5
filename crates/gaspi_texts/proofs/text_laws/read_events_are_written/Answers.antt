use Rattle.gaspi_texts.proofs.WrittenEvents.{text-written}
use Rattle.gaspi_texts.proofs.text_laws.read_events_are_written.Goals as goal

pub returns : goal.returns
returns c = text-written c.call_laws.ensures
