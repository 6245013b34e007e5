use Rattle.call_texts.proofs.CallTexts.{recorded_call_of-range}
use Rattle.call_texts.proofs.ElementWords.{elements_of-range}
use Rattle.call_texts.proofs.WordRanges.{number_of-range, value_of-range, bytes_of-range}
use Rattle.call_texts.proofs.text_laws.read_words_are_in_range.Goals as goal

pub returns-clause-number : goal.returns-clause-number
returns-clause-number c = number_of-range

pub returns-clause-value : goal.returns-clause-value
returns-clause-value c = value_of-range

pub returns-clause-bytes : goal.returns-clause-bytes
returns-clause-bytes c = bytes_of-range

pub returns-clause-elements : goal.returns-clause-elements
returns-clause-elements c = elements_of-range

pub returns-clause-call : goal.returns-clause-call
returns-clause-call c = recorded_call_of-range
