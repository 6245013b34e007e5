use Rattle.std.proofs.Common.{refl, inr}
use Rattle.journal_view.proofs.InputAnswers.{starved-answers}
use Rattle.journal_view.proofs.run.Goals as goal

pub returns-in_default-clause-refused : goal.returns-in_default-clause-refused
returns-in_default-clause-refused g c = λ none. (inr (c.exit_code.ensures, refl, refl), refl)

pub returns-in_default-clause-answers : goal.returns-in_default-clause-answers
returns-in_default-clause-answers g c = λ picture is. starved-answers _ _ _ _ _ _ c.exit_code.ensures
