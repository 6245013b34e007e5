use Rattle.call_texts.proofs.CallTexts.{timeout-row}
use Rattle.call_texts.proofs.text_laws.timeouts_are_those_of_rows.Goals as goal

pub returns : goal.returns
returns c = timeout-row
