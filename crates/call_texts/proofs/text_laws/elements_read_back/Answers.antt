use Rattle.call_texts.proofs.ElementWords.{type_of-word, op_of-word, elements_of-decimals}
use Rattle.call_texts.proofs.text_laws.elements_read_back.Goals as goal

pub returns-clause-num_type : goal.returns-clause-num_type
returns-clause-num_type c = type_of-word

pub returns-clause-op : goal.returns-clause-op
returns-clause-op c = op_of-word

pub returns-clause-elements : goal.returns-clause-elements
returns-clause-elements c = elements_of-decimals
