use Rattle.call_texts.proofs.CountedWords.{call_by-counted}
use Rattle.call_texts.proofs.ElementWords.{elements_of-length}
use Rattle.call_texts.proofs.text_laws.read_words_are_counted.Goals as goal

pub returns-clause-elements : goal.returns-clause-elements
returns-clause-elements c = elements_of-length

pub returns-clause-call : goal.returns-clause-call
returns-clause-call c = call_by-counted
