use Rattle.gaspi_texts.proofs.InRange.{reply_in_range}
use Rattle.gaspi_texts.proofs.text_laws.read_replies_are_in_range.Goals as goal

pub returns : goal.returns
returns c = reply_in_range c.call_laws.ensures
