use Rattle.call_texts.proofs.CallTexts.{words_of_call-plain}
use Rattle.call_texts.proofs.ElementWords.{elements_plain}
use Rattle.call_texts.proofs.PlainWords.{decimal-numeral, hex_word}
use Rattle.call_texts.proofs.text_laws.written_words_are_plain.Goals as goal

pub returns-clause-number : goal.returns-clause-number
returns-clause-number c = decimal-numeral

pub returns-clause-bytes : goal.returns-clause-bytes
returns-clause-bytes c = hex_word

pub returns-clause-elements : goal.returns-clause-elements
returns-clause-elements c = elements_plain

pub returns-clause-call : goal.returns-clause-call
returns-clause-call c = words_of_call-plain
