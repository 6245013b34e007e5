use Rattle.std.proofs.Common.{sym, subst}
use Rattle.std.specs.Borrow.{MutBor}
use Rattle.std.specs.Prelude.{Option}
use Rattle.gaspi_types.specs.declared.events.Event.TheVariants.{Called}
use Rattle.rank_node.specs.Lending.{IsLeft, behind}
use Rattle.rank_node.specs.declared.nodes.GroupNode.{GroupNode}
use Rattle.rank_node.proofs.LentSteps.{on-there, on-missing, step-missing}
use Rattle.rank_node.proofs.lent.Lent.complete.Goals as goal

pub refuse-requires-clause-step : goal.refuse-requires-clause-step
refuse-requires-clause-step c =
    step-missing (Called c.args.caller c.args.call c.args.reply) c.args.self.now.own.now (behind c.args.self.now.peer) c.args.self.now.group c.in-None.is c.requires.step

pub returns-in-Some-clause-left : goal.returns-in-Some-clause-left
returns-in-Some-clause-left c = λ s t on.
    let e = Called c.args.caller c.args.call c.args.reply in
    let own = c.args.self.now.own.now in
    let peer = behind c.args.self.now.peer in
    c.complete.ensures s t peer (on-there s t e own peer c.args.self.now.group _ c.in-Some.is on)

pub returns-in-None-clause-left : goal.returns-in-None-clause-left
returns-in-None-clause-left c = λ s t on.
    let e = Called c.args.caller c.args.call c.args.reply in
    let own = c.args.self.now.own.now in
    let peer = behind c.args.self.now.peer in
    subst (λ (o : Option (MutBor GroupNode)). IsLeft s t e c.args.place own c.refuse.new.own peer peer (behind o)) (sym c.in-None.is)
    (c.refuse.ensures s t peer (on-missing s t e own peer c.args.self.now.group c.in-None.is on))
