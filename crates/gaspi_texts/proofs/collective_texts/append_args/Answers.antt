use Rattle.std.proofs.Common.{arith}
use Rattle.std.proofs.lemmas.Grind.{common_steps}
use Rattle.gaspi_texts.proofs.JoinedWords.{spaced_args}
use Rattle.gaspi_texts.proofs.collective_texts.append_args.Goals as goal

pub returns-clause-ok : goal.returns-clause-ok
returns-clause-ok c = rw (spaced_args c.args.args.now) (grind (arith, common_steps))
