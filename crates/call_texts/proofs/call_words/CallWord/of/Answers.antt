use Rattle.call_texts.proofs.WordLengths.{call_word_of-length}
use Rattle.call_texts.proofs.call_words.CallWord.of.Goals as goal

pub returns : goal.returns
returns c = rw (call_word_of-length c.args.word.now, ← c.of_length.ensures) c.first_spelled.ensures
