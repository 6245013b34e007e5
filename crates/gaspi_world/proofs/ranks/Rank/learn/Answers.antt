use Rattle.std.proofs.Common.{ap, subst}
use Rattle.commit_table.specs.Attempts.{IsLookedOnly}
use Rattle.commit_table.specs.Calls.{TableValue}
use Rattle.gaspi_world.specs.WorldMachine.{world_machine}
use Rattle.gaspi_world.specs.declared.starts.Start.{Start}
use Rattle.gaspi_types.specs.World.{IsShape}
use Rattle.gaspi_world.proofs.Looks.{looked-only, looked-goes-on}
use Rattle.gaspi_world.proofs.ranks.Rank.learn.Goals as goal

pub returns-clause-looked : goal.returns-clause-looked
returns-clause-looked c =
    let told = c.learn.ensures.seen in
    subst (λ (t : TableValue Start). IsLookedOnly (world_machine t.start.shape) c.args.self.now.pass.now.known c.learn.new.pass.known) c.table.ensures
    (looked-only (world_machine c.table.result.now.start.shape) c.args.self.now.pass.now.known _ told.0 c.learn.new.pass.known told.1)

pub returns-clause-held : goal.returns-clause-held
returns-clause-held c = (let told = c.learn.ensures.seen in ap (λ known. known.held) told.1.is)

pub returns-clause-goes_on : goal.returns-clause-goes_on
returns-clause-goes_on c = λ d pass.
    let told = c.learn.ensures.seen in
    let look : IsLookedOnly (world_machine c.args.self.now.world.now.start.shape) c.args.self.now.pass.now.known c.learn.new.pass.known =
    subst (λ (t : TableValue Start). IsLookedOnly (world_machine t.start.shape) c.args.self.now.pass.now.known c.learn.new.pass.known) c.table.ensures
    (looked-only (world_machine c.table.result.now.start.shape) c.args.self.now.pass.now.known _ told.0 c.learn.new.pass.known told.1) in
    (looked-goes-on c.args.self.now.world.now.start.shape d c.args.self.now.pass.now.known c.learn.new.pass.known (subst IsShape c.shape.ensures c.limits.ensures.world) pass look, look.mine)
