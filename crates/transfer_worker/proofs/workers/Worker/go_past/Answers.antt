use Rattle.std.proofs.Common.{ℕ, subst}
use Rattle.transfer_worker.specs.Order.{TriesOthers}
use Rattle.transfer_worker.specs.QuietRanks.{TellsStill}
use Rattle.transfer_worker.proofs.workers.Worker.go_past.Goals as goal

pub returns-clause-past : goal.returns-clause-past
returns-clause-past c =
    let w = c.args.self.now.world.now.start.shape in (
      subst
          (λ (first : ℕ). TellsStill w (λ begun. TriesOthers w begun first c.args.self.now.pass.now.known c.try_others-others.result c.try_others-others.new.pass.known) c.args.quiet.now.counts c.args.self.now.pass.now.known c.try_others-others.new.quiet.counts c.try_others-others.new.pass.known)
          c.first-first.ensures.first c.try_others-others.ensures.order,
      c.next_turn-self.ensures,
    )
