use Rattle.std.proofs.Common.{arith}
use Rattle.std.proofs.lemmas.Grind.{common_steps}
use Rattle.call_texts.proofs.JoinedWords.{join_numbers}
use Rattle.call_texts.proofs.words_written.append_line.Goals as goal

pub returns-clause-ok : goal.returns-clause-ok
returns-clause-ok c = rw (join_numbers c.args.word.now c.args.numbers.now) (grind (arith, common_steps))
