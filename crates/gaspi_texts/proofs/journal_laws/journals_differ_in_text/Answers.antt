use Rattle.gaspi_texts.proofs.JournalLines.{same-journals}
use Rattle.gaspi_texts.proofs.journal_laws.journals_differ_in_text.Goals as goal

pub returns : goal.returns
returns c = same-journals c.events_have_no_line_feed.ensures c.events_differ_in_text.ensures
