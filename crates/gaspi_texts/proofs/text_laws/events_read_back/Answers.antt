use Rattle.gaspi_texts.proofs.EventTexts.{event_of-event_text}
use Rattle.gaspi_texts.proofs.text_laws.events_read_back.Goals as goal

pub returns : goal.returns
returns c = event_of-event_text c.call_laws.ensures
