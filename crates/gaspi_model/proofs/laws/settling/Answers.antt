use Rattle.gaspi_model.proofs.Settled.EmptyLanes.{lanes-empty}
use Rattle.gaspi_model.proofs.Settled.Stays.{stays-settled}
use Rattle.gaspi_model.proofs.laws.settling.Goals as goal

pub returns-clause-empties : goal.returns-clause-empties
returns-clause-empties c = lanes-empty

pub returns-clause-stays : goal.returns-clause-stays
returns-clause-stays c = stays-settled
