use Rattle.gaspi_texts.proofs.EventTexts.{same_event}
use Rattle.gaspi_texts.proofs.text_laws.events_differ_in_text.Goals as goal

pub returns : goal.returns
returns c = same_event c.events_read_back.ensures
