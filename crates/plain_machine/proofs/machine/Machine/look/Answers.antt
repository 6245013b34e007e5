use Rattle.std.proofs.lemmas.Result.{on_ok_weaker}
use Rattle.plain_machine.specs.Machine.{state_in}
use Rattle.plain_machine.proofs.Recorded.{finding_answers}
use Rattle.plain_machine.proofs.machine.Machine.look.Goals as goal

pub returns-clause-answer : goal.returns-clause-answer
returns-clause-answer c =
    let s = state_in c.self.inside.ranks c.self.inside.memories in
    rw (← c.self.view_is)
    (on_ok_weaker c.look_in.result (λ found. finding_answers s c.args.invocation.now.caller c.args.invocation.now.call.now c.look_in.new.look (rw (← c.self.view_is) at c.requires) found) c.look_in.ensures.look)
