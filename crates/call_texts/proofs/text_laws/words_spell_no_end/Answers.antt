use Rattle.call_texts.proofs.CallTexts.{call_by-no_end, call_of-no_end}
use Rattle.call_texts.proofs.text_laws.words_spell_no_end.Goals as goal

pub returns-clause-arguments : goal.returns-clause-arguments
returns-clause-arguments c = call_by-no_end

pub returns-clause-words : goal.returns-clause-words
returns-clause-words c = call_of-no_end
