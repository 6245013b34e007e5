use Rattle.std.proofs.Common.{◌≡◌, ap, ◌∙◌}
use Rattle.gaspi_model.specs.Step.{is_pending}
use Rattle.gaspi_model.specs.declared.states.State.{State}
use Rattle.plain_machine.proofs.machine.Machine.needed.Goals as goal

pub returns : goal.returns
returns c =
    let pending : c.is_pending_in-pending.result ≡ is_pending c.args.self.now c.args.invocation.now.caller.rank c.args.invocation.now.caller.thread c.args.invocation.now.call.now =
    c.is_pending_in-pending.ensures c.self.inside.memories ∙ ap (λ (s : State). is_pending s c.args.invocation.now.caller.rank c.args.invocation.now.caller.thread c.args.invocation.now.call.now) c.self.view_is in
    rw (← pending, ← c.is_active.ensures) (rw c.args.invocation.now.rowed at c.need.ensures)
