use Rattle.std.proofs.lemmas.List.Splits.{join_with_byte-slice_split}
use Rattle.call_texts.proofs.WordTexts.{pieces_of-join}
use Rattle.call_texts.proofs.text_laws.pieces_are_the_text.Goals as goal

pub returns-clause-joined : goal.returns-clause-joined
returns-clause-joined c = λ text. join_with_byte-slice_split 32 text

pub returns-clause-words : goal.returns-clause-words
returns-clause-words c = pieces_of-join
