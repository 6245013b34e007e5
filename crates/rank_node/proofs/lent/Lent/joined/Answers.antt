use Rattle.gaspi_types.specs.declared.events.Event.TheVariants.{Joined}
use Rattle.rank_node.specs.Lending.{behind}
use Rattle.rank_node.proofs.LentSteps.{on-there, step-there, step-missing, join-there}
use Rattle.rank_node.proofs.lent.Lent.joined.Goals as goal

pub join-requires-clause-step : goal.join-requires-clause-step
join-requires-clause-step c =
    step-there (Joined c.args.caller c.args.group c.args.args) c.args.self.now.own.now (behind c.args.self.now.peer) c.args.self.now.group _ c.in-Some.is c.requires.step

pub unreachable-requires : goal.unreachable-requires
unreachable-requires c =
    join-there c.args.caller c.args.group c.args.args c.args.self.now.own.now
    (step-missing (Joined c.args.caller c.args.group c.args.args) c.args.self.now.own.now (behind c.args.self.now.peer) c.args.self.now.group c.in-None.is c.requires.step)

pub returns-clause-left : goal.returns-clause-left
returns-clause-left c = λ s t on.
    c.join.ensures.left s t (behind c.args.self.now.peer) (on-there s t (Joined c.args.caller c.args.group c.args.args) c.args.self.now.own.now (behind c.args.self.now.peer) c.args.self.now.group _ c.in-Some.is on)
