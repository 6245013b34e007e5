use Rattle.gaspi_model.proofs.Histories.{prefix}
use Rattle.gaspi_model.proofs.laws.prefixes.Goals as goal

pub returns : goal.returns
returns c = prefix
