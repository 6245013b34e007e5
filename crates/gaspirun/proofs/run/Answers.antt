use Rattle.std.proofs.Common.{refl}
use Rattle.gaspirun.proofs.Starved.{starved, starved-refuses, starved-answers}
use Rattle.gaspirun.proofs.run.Goals as goal

pub returns-in_default-clause-refused : goal.returns-in_default-clause-refused
returns-in_default-clause-refused g c = λ none. (starved, c.exit_code.ensures, starved-refuses _ _, refl)

pub returns-in_default-clause-answers : goal.returns-in_default-clause-answers
returns-in_default-clause-answers g c = λ command is. (starved, c.exit_code.ensures, starved-answers command _ _ _ _)

pub returns-clause-answers : goal.returns-clause-answers
returns-clause-answers g c = λ command is. (c.gaspirun-answer.result, c.exit_code-2.ensures, c.gaspirun-answer.ensures.answers command (rw (c.as_slice.ensures.value, c.in-Ok.ensures) is))
