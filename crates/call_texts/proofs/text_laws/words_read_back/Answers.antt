use Rattle.call_texts.proofs.WordTexts.{words_of-join}
use Rattle.call_texts.proofs.text_laws.words_read_back.Goals as goal

pub returns : goal.returns
returns c = words_of-join
