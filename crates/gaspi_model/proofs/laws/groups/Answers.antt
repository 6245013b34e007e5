use Rattle.gaspi_model.proofs.Ordered.Groups.{numbers-rise, committed-kept, all-ranks}
use Rattle.gaspi_model.proofs.laws.groups.Goals as goal

pub returns-clause-rising : goal.returns-clause-rising
returns-clause-rising c = numbers-rise

pub returns-clause-kept : goal.returns-clause-kept
returns-clause-kept c = committed-kept

pub returns-clause-all : goal.returns-clause-all
returns-clause-all c = all-ranks
