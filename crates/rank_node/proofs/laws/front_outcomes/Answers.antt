use Rattle.rank_node.proofs.FrontSteps.{front-outcome, front-ends}
use Rattle.rank_node.proofs.laws.front_outcomes.Goals as goal

pub returns-clause-machine : goal.returns-clause-machine
returns-clause-machine c = λ s own peer group t outcome sound lends front told. front-outcome s own peer group t outcome front told sound lends

pub returns-clause-alone : goal.returns-clause-alone
returns-clause-alone c = front-ends
