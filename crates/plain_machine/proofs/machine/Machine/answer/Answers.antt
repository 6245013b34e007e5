use Rattle.plain_machine.proofs.machine.Machine.answer.Goals as goal

pub look-requires : goal.look-requires
look-requires c = rw c.new-invocation.ensures.caller c.requires

pub returns-clause-answer : goal.returns-clause-answer
returns-clause-answer c = rw c.replace.ensures.value (rw (c.new-invocation.ensures.caller, c.new-invocation.ensures.call) at c.in_ok-look.ensures.answer)
