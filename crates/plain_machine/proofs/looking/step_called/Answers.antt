use Rattle.std.proofs.Common.{refl, sym, ◌∙◌}
use Rattle.plain_machine.specs.Machine.{state_in}
use Rattle.plain_machine.proofs.Recorded.{declared_there, undeclared}
use Rattle.plain_machine.proofs.looking.step_called.Goals as goal

pub returns-then-not-has_section-clause-step : goal.returns-then-not-has_section-clause-step
returns-then-not-has_section-clause-step c =
    (undeclared (state_in c.args.ranks.now c.args.memories.now) c.args.invocation.now.caller c.args.invocation.now.call.now c.args.reply.now (sym (c.has_section.ensures c.args.memories.now) ∙ c.if-not-has_section.true), refl)

pub look_in-requires-clause-there : goal.look_in-requires-clause-there
look_in-requires-clause-there c =
    (declared_there (state_in c.args.ranks.now c.args.memories.now) c.args.invocation.now.caller.rank c.args.invocation.now.caller.thread (sym (c.has_section.ensures c.args.memories.now) ∙ c.if-not-has_section.false)).within

pub step_looked-requires-clause-declared : goal.step_looked-requires-clause-declared
step_looked-requires-clause-declared c = sym (c.has_section.ensures c.args.memories.now) ∙ c.if-not-has_section.false
