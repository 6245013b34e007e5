use Rattle.call_texts.proofs.WrittenWords.{decimal-leads, number-written, value-written, call-written}
use Rattle.call_texts.proofs.text_laws.read_words_are_written.Goals as goal

pub returns-clause-leads : goal.returns-clause-leads
returns-clause-leads c = decimal-leads

pub returns-clause-number : goal.returns-clause-number
returns-clause-number c = number-written

pub returns-clause-value : goal.returns-clause-value
returns-clause-value c = value-written

pub returns-clause-call : goal.returns-clause-call
returns-clause-call c = call-written
