use Rattle.call_texts.proofs.CallTexts.{call_of-words, call_of_text-call_text}
use Rattle.call_texts.proofs.text_laws.calls_read_back.Goals as goal

pub returns-clause-text : goal.returns-clause-text
returns-clause-text c = call_of_text-call_text

pub returns-clause-words : goal.returns-clause-words
returns-clause-words c = call_of-words
