use Rattle.call_texts.proofs.NumberWords.{number_of-decimal, value_of-decimal}
use Rattle.call_texts.proofs.text_laws.numbers_read_back.Goals as goal

pub returns-clause-number : goal.returns-clause-number
returns-clause-number c = number_of-decimal

pub returns-clause-value : goal.returns-clause-value
returns-clause-value c = value_of-decimal
