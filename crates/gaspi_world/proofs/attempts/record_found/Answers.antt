use Rattle.std.proofs.Common.{subst}
use Rattle.gaspi_types.specs.declared.calls.Call.{Call}
use Rattle.gaspi_types.specs.declared.events.Event.TheVariants.{Called}
use Rattle.gaspi_world.specs.HeldShards.{IsCommitted}
use Rattle.gaspi_world.proofs.AttemptedCalls.{lent-call}
use Rattle.gaspi_world.proofs.attempts.record_found.Goals as goal

pub reserve-requires-clause-lent : goal.reserve-requires-clause-lent
reserve-requires-clause-lent c =
    let on = c.requires.holder in
    lent-call c.args.table.now.start.shape c.requires.world c.args.invocation.now.caller c.args.invocation.now.call.now c.args.held.now c.args.pass.now.known on.held on.own on.other

pub returns-clause-recorded : goal.returns-clause-recorded
returns-clause-recorded c = λ look late. (
  c.record_with.ensures.reply,
  late,
  subst (λ (x : Call). IsCommitted c.args.table.now.start.shape c.args.pass.now.known (Called c.args.invocation.now.caller x c.record_with.result) c.record_with.new.pass.known) c.in-Ok.ensures.ok c.record_with.ensures.added,
)
