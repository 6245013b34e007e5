use Rattle.gaspi_texts.proofs.ReplyTexts.{same_reply}
use Rattle.gaspi_texts.proofs.text_laws.replies_differ_in_text.Goals as goal

pub returns : goal.returns
returns c = same_reply c.replies_read_back.ensures
