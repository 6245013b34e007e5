use Rattle.std.proofs.Common.{◌≡◌, sym, subst}
use Rattle.gaspi_types.specs.declared.calls.Call.{Call}
use Rattle.gaspi_types.specs.declared.events.Event.TheVariants.{Called}
use Rattle.rank_node.specs.Lending.{IsStepOn, IsLeft, behind}
use Rattle.two_nodes.proofs.looks.settle.Goals as goal

pub returns-clause-left : goal.returns-clause-left
returns-clause-left c = λ s t on.
    let same : c.in_ok-call.call ≡ c.args.invocation.now.call.now = c.in_ok-call.ensures.ok in
    let lent = c.args.lent.now in
    let left = c.called.new.self in
    subst (λ (x : Call). IsLeft s t (Called c.args.invocation.now.caller x c.args.reply) c.args.places.now lent.own.now left.own.now (behind lent.peer) (behind left.peer) (behind left.group)) same
    (c.called.ensures.left s t (subst (λ (x : Call). IsStepOn s t (Called c.args.invocation.now.caller x c.args.reply) lent.own.now (behind lent.peer) (behind lent.group)) (sym same) on))
