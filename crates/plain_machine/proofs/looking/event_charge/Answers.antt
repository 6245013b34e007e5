use Rattle.std.proofs.Common.{◌≡◌, Option, Some, sym, ap, subst, ◌∙◌}
use Rattle.gaspi_model.specs.Calls.{charge, recorded_reply}
use Rattle.gaspi_model.specs.State.{thread_at}
use Rattle.gaspi_model.specs.declared.states.Posts.{Posts}
use Rattle.gaspi_model.specs.declared.states.ThreadState.{ThreadState}
use Rattle.plain_machine.proofs.looking.event_charge.Goals as goal

pub returns-clause-charge : goal.returns-clause-charge
returns-clause-charge c = λ posts at.
    let there = rw c.index.ensures.value at c.at-posts.ensures in
    let same : c.at-posts.result.now ≡ posts = (let both : ◌≡◌ {A = Option Posts} (Some c.at-posts.result.now) (Some posts) = sym there ∙ at in cc) in
    subst (λ (p : Posts). c.charge.result ≡ charge (thread_at p c.args.invocation.now.caller.thread) c.args.invocation.now.call.now (recorded_reply c.args.ready.now)) same
    (c.charge.ensures.value ∙ ap (λ (t : ThreadState). charge t c.args.invocation.now.call.now (recorded_reply c.args.ready.now)) c.thread_at-state.ensures)
