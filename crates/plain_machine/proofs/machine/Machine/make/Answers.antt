use Rattle.std.proofs.Common.{ℕ, subst}
use Rattle.gaspi_model.specs.Step.{transfer_event}
use Rattle.plain_calls.specs.Looks.{made_of}
use Rattle.plain_machine.proofs.Counted.{counts_left, made_by}
use Rattle.plain_machine.proofs.Running.{stepped}
use Rattle.plain_machine.specs.Machine.{state_in}
use Rattle.plain_machine.specs.RankCounts.{AreCounts, without_count}
use Rattle.plain_machine.proofs.machine.Machine.make.Goals as goal

pub invariant_of-self : goal.invariant_of-self
invariant_of-self c = (
  stepped (state_in c.self.inside.ranks c.self.inside.memories) _ (transfer_event (state_in c.self.inside.ranks c.self.inside.memories) c.args.transfer.now) _ _ _ _ (made_of c.make.result)
      c.soundness.ensures.steps c.self.invariant.0 c.make.ensures.step c.make.ensures.used c.make.ensures.named,
  rw c.forget_count.ensures
      (subst (λ (owner : ℕ). AreCounts c.make.new.ranks.limits c.make.new.ranks.posts (without_count c.self.inside.counts owner)) (made_by (state_in c.self.inside.ranks c.self.inside.memories) c.args.transfer.now)
      (counts_left c.self.inside.counts (state_in c.self.inside.ranks c.self.inside.memories) (state_in c.make.new.ranks c.make.new.memories)
      (transfer_event (state_in c.self.inside.ranks c.self.inside.memories) c.args.transfer.now) (made_of c.make.result) c.soundness.ensures.limits c.self.invariant.1 c.make.ensures.step)),
)
