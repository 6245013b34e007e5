use Rattle.std.proofs.Common.{◌∙◌, sym, refl}
use Rattle.gaspi_types.specs.declared.events.Event.TheVariants.{Joined, Take}
use Rattle.plain_calls.specs.Looks.{made_of}
use Rattle.plain_machine.specs.Machine.{state_in}
use Rattle.plain_machine.proofs.Renamed.{quiet_steps}
use Rattle.plain_machine.proofs.steps.step.Goals as goal

pub returns-in_ok-step_take-in-Take-clause-named : goal.returns-in_ok-step_take-in-Take-clause-named
returns-in_ok-step_take-in-Take-clause-named c =
    c.requires.named
    ∙ sym (quiet_steps (state_in c.args.ranks.now c.args.memories.now) (state_in c.step_take.new.ranks c.args.memories.now) (Take c.in-Take.origin c.in-Take.queue c.in-Take.target c.in-Take.number c.in-Take.outcome)
    (made_of c.step_take.result) c.requires.sound c.requires.fitting refl refl c.step_take.ensures.step)

pub returns-in-Joined-clause-named : goal.returns-in-Joined-clause-named
returns-in-Joined-clause-named c =
    c.requires.named
    ∙ sym (quiet_steps (state_in c.args.ranks.now c.args.memories.now) (state_in c.step_joined.new.ranks c.step_joined.new.memories) (Joined c.in-Joined.caller c.in-Joined.id c.in-Joined.args) c.step_joined.result
    c.requires.sound c.requires.fitting refl refl c.step_joined.ensures.step)
