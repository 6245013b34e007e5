use Rattle.gaspi_texts.proofs.ReplyTexts.{reply_of-reply_text}
use Rattle.gaspi_texts.proofs.text_laws.replies_read_back.Goals as goal

pub returns : goal.returns
returns c = reply_of-reply_text c.call_laws.ensures
