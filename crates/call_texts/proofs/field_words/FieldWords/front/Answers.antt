use Rattle.std.proofs.Common.{arith}
use Rattle.call_texts.proofs.FrontWords.{prefix_cut}
use Rattle.call_texts.proofs.field_words.FieldWords.front.Goals as goal

pub returns : goal.returns
returns c = prefix_cut c.args.self.now.words.now c.args.count (omega arith)
