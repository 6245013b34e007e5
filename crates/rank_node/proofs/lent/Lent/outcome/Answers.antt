use Rattle.rank_node.proofs.FrontSteps.{front-outcome}
use Rattle.rank_node.proofs.lent.Lent.outcome.Goals as goal

pub returns-in-Some-clause-machine : goal.returns-in-Some-clause-machine
returns-in-Some-clause-machine c = λ s sound lends. front-outcome s _ _ _ c.args.t.now _ c.requires (rw c.in-Some.is c.front_outcome.ensures) sound lends

pub returns-in-None-clause-machine : goal.returns-in-None-clause-machine
returns-in-None-clause-machine c = λ s sound lends. front-outcome s _ _ _ c.args.t.now _ c.requires (rw c.in-None.is c.front_outcome-in-None.ensures) sound lends
