use Rattle.plain_machine.proofs.Counted.{counts_left}
use Rattle.plain_machine.proofs.Running.{stepped}
use Rattle.plain_machine.specs.Machine.{state_in}
use Rattle.plain_machine.proofs.machine.Machine.step.Goals as goal

pub invariant_of-self : goal.invariant_of-self
invariant_of-self c = (
  stepped (state_in c.self.inside.ranks c.self.inside.memories) _ c.args.event.now _ _ _ _ c.step.result c.soundness.ensures.steps c.self.invariant.0 c.step.ensures.step c.step.ensures.used c.step.ensures.named,
  rw c.forget_owner.ensures
      (counts_left c.self.inside.counts (state_in c.self.inside.ranks c.self.inside.memories) (state_in c.step.new.ranks c.step.new.memories) c.args.event.now c.step.result
      c.soundness.ensures.limits c.self.invariant.1 c.step.ensures.step),
)
