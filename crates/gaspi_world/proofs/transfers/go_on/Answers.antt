use Rattle.std.proofs.Common.{ℕ, ◌∙◌, refl, subst}
use Rattle.gaspi_world.specs.Transfers.{HasMoved}
use Rattle.gaspi_world.proofs.Movings.{moved-same, moved-then}
use Rattle.gaspi_world.proofs.transfers.go_on.Goals as goal

pub loop-init : goal.loop-init
loop-init c = (refl, c.requires.held, refl, c.requires.alone, moved-same c.args.table.now.start.shape c.args.held.now.own c.args.pass.now.known)

pub returns-then-not-follow-clause-moved : goal.returns-then-not-follow-clause-moved
returns-then-not-follow-clause-moved c =
    let w = c.args.table.now.start.shape in
    let own = c.args.held.now.own in
    let u = c.loop.pass.known in
    let n = c.follow.new.pass.known in
    moved-then w own c.args.pass.now.known u n c.loop.invariant.4 (subst (λ (k : ℕ). HasMoved w k u n) c.loop.invariant.2 c.follow.ensures.moved)

pub loop-preserved : goal.loop-preserved
loop-preserved c =
    let w = c.args.table.now.start.shape in
    let own = c.args.held.now.own in
    let u = c.loop.pass.known in
    let n = c.follow.new.pass.known in (
      c.follow.ensures.table ∙ c.loop.invariant.0,
      c.follow.ensures.held,
      c.follow.ensures.own ∙ c.loop.invariant.2,
      c.follow.ensures.alone,
      moved-then w own c.args.pass.now.known u n c.loop.invariant.4 (subst (λ (k : ℕ). HasMoved w k u n) c.loop.invariant.2 c.follow.ensures.moved),
    )
