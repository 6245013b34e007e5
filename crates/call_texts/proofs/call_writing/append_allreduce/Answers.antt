use Rattle.std.proofs.Common.{arith}
use Rattle.std.proofs.lemmas.Grind.{common_steps}
use Rattle.call_texts.proofs.JoinedWords.{allreduce-text}
use Rattle.call_texts.proofs.call_writing.append_allreduce.Goals as goal

pub returns-clause-ok : goal.returns-clause-ok
returns-clause-ok c = rw (allreduce-text c.args.call.now) (grind (arith, common_steps))
