use Rattle.std.proofs.Common.{◌≡◌, ◌+◌, true, nat_le, OnOk, sym, ap, subst, ◌∙◌, arith}
use Rattle.std.proofs.lemmas.Bool.Decides.{nat_tests}
use Rattle.gaspi_types.specs.declared.calls.Call.{Call}
use Rattle.gaspi_types.specs.declared.replies.Ready.{Ready}
use Rattle.gaspi_types.specs.declared.replies.Reply.TheVariants as replies
use Rattle.gaspi_model.specs.Calls.{recorded_reply}
use Rattle.plain_schedule.specs.Schedule.{looks_of, recorded}
use Rattle.plain_schedule.specs.declared.schedule_states.ActiveCaller.{ActiveCaller}
use Rattle.plain_schedule.proofs.moves.look_again.Goals as goal

pub returns-then-from : goal.returns-then-from
returns-then-from c = λ w line there call timeout.
    let same : c.at.result.now ≡ w = cc in
    let looks : c.at.result.now.looks ≡ w.looks = ap (λ (x : ActiveCaller). x.looks) same in
    let most : c.looks_of-most.result ≡ looks_of c.args.limit line.timeout = c.looks_of-most.ensures ∙ ap (looks_of c.args.limit) (sym timeout) in
    let last : nat_le (looks_of c.args.limit line.timeout) (w.looks + 1) ≡ true = grind (arith, nat_tests) in
    rw last
    (subst (λ (x : Call). OnOk c.record_call.result (c.record_call.new.schedule ≡ recorded c.args.schedule.now c.args.index w x replies.Timeout)) (sym call)
    (subst (λ (x : Ready). OnOk c.record_call.result (c.record_call.new.schedule ≡ recorded c.args.schedule.now c.args.index w c.args.invocation.now.call.now (recorded_reply x))) c.requires.not_ready
    (c.record_call.ensures w there)))
