use Rattle.transfer_worker.proofs.StillRanks.{stays-stopped, all-stopped}
use Rattle.transfer_worker.proofs.laws.still_ranks.Goals as goal

pub returns-clause-stays : goal.returns-clause-stays
returns-clause-stays c = stays-stopped

pub returns-clause-settled : goal.returns-clause-settled
returns-clause-settled c = all-stopped
