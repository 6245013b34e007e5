use Rattle.gaspi_model.proofs.Ended.Ends.{active-history}
use Rattle.gaspi_model.proofs.laws.endings.Goals as goal

pub returns : goal.returns
returns c = active-history
