use Rattle.command_line.proofs.FirstWords.{other_first_word}
use Rattle.command_line.proofs.laws.other_first_words_are_refused.Goals as goal

pub returns : goal.returns
returns c = other_first_word
