use Rattle.gaspi_texts.proofs.EventTexts.{event_text-no_line_feed}
use Rattle.gaspi_texts.proofs.text_laws.events_have_no_line_feed.Goals as goal

pub returns : goal.returns
returns c = event_text-no_line_feed c.call_laws.ensures
