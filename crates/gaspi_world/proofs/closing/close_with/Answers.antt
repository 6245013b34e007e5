use Rattle.std.proofs.Common.{◌≡◌, true, List, Some, sym, ap, ◌∙◌, subst}
use Rattle.gaspi_types.specs.declared.events.Event.{Event}
use Rattle.gaspi_types.specs.World.{IsShape}
use Rattle.gaspi_model.specs.Step.{is_legal}
use Rattle.commit_table.specs.Calls.{TableValue, AreWhole, AreShards, Closed}
use Rattle.gaspi_model.specs.ContributionCounts.{ContributesOnce}
use Rattle.gaspi_model.specs.Notifications.{HandsOutOnce}
use Rattle.gaspi_world.specs.Closing.{HaveSeen, HaveDone}
use Rattle.gaspi_world.specs.WorldMachine.{world_machine}
use Rattle.gaspi_world.specs.declared.starts.Start.{Start}
use Rattle.gaspi_world.proofs.Endings.{seen-all, done-all}
use Rattle.gaspi_world.proofs.closing.close_with.Goals as goal

pub close-shards-requires : goal.close-shards-requires
close-shards-requires c = subst (λ (t : TableValue Start). AreWhole t c.args.passes.items) (sym c.into_table.ensures) c.requires.whole

pub merged-requires : goal.merged-requires
merged-requires c =
    let shape = c.args.world.start.shape in
    let journal = c.close-shards.result.tally.journal in
    let closed = subst (λ (t : TableValue Start). Closed (world_machine t.start.shape) journal c.close-shards.result.tally.passes) c.into_table.ensures c.close-shards.ensures.journal in
    let are = subst (λ (t : TableValue Start). AreShards (world_machine t.start.shape) c.close-shards.result.shards.items journal) c.into_table.ensures c.close-shards.ensures.shards in
    let world = subst IsShape c.shape.ensures c.limits.ensures.world in
    record { room = (shape, journal, world, are, closed.legal, c.requires.room) }

pub returns-clause-tally : goal.returns-clause-tally
returns-clause-tally c =
    let shape = c.args.world.start.shape in
    let journal = c.close-shards.result.tally.journal in
    let closed = subst (λ (t : TableValue Start). Closed (world_machine t.start.shape) journal c.close-shards.result.tally.passes) c.into_table.ensures c.close-shards.ensures.journal in
    let are = subst (λ (t : TableValue Start). AreShards (world_machine t.start.shape) c.close-shards.result.shards.items journal) c.into_table.ensures c.close-shards.ensures.shards in
    let world = subst IsShape c.shape.ensures c.limits.ensures.world in
    (c.close-shards.ensures.start ∙ ap (λ (t : TableValue Start). Some t.start) c.into_table.ensures, sym (c.merged.ensures shape journal world are closed.legal))

pub returns-clause-legal : goal.returns-clause-legal
returns-clause-legal c =
    let shape = c.args.world.start.shape in
    let journal = c.close-shards.result.tally.journal in
    let closed = subst (λ (t : TableValue Start). Closed (world_machine t.start.shape) journal c.close-shards.result.tally.passes) c.into_table.ensures c.close-shards.ensures.journal in
    let are = subst (λ (t : TableValue Start). AreShards (world_machine t.start.shape) c.close-shards.result.shards.items journal) c.into_table.ensures c.close-shards.ensures.shards in
    let world = subst IsShape c.shape.ensures c.limits.ensures.world in
    subst (λ (h : List Event). is_legal shape h ≡ true) (sym (c.merged.ensures shape journal world are closed.legal)) closed.legal

pub returns-clause-seen : goal.returns-clause-seen
returns-clause-seen c =
    let shape = c.args.world.start.shape in
    let journal = c.close-shards.result.tally.journal in
    let closed = subst (λ (t : TableValue Start). Closed (world_machine t.start.shape) journal c.close-shards.result.tally.passes) c.into_table.ensures c.close-shards.ensures.journal in
    let are = subst (λ (t : TableValue Start). AreShards (world_machine t.start.shape) c.close-shards.result.shards.items journal) c.into_table.ensures c.close-shards.ensures.shards in
    let world = subst IsShape c.shape.ensures c.limits.ensures.world in
    let passes = c.args.passes.items in
    subst (λ (h : List Event). HaveSeen h passes) (sym (c.merged.ensures shape journal world are closed.legal)) (seen-all shape journal passes c.close-shards.result.tally.passes closed c.close-shards.ensures.passes)

pub returns-clause-done : goal.returns-clause-done
returns-clause-done c =
    let shape = c.args.world.start.shape in
    let journal = c.close-shards.result.tally.journal in
    let closed = subst (λ (t : TableValue Start). Closed (world_machine t.start.shape) journal c.close-shards.result.tally.passes) c.into_table.ensures c.close-shards.ensures.journal in
    let are = subst (λ (t : TableValue Start). AreShards (world_machine t.start.shape) c.close-shards.result.shards.items journal) c.into_table.ensures c.close-shards.ensures.shards in
    let world = subst IsShape c.shape.ensures c.limits.ensures.world in
    let passes = c.args.passes.items in
    subst (λ (h : List Event). HaveDone shape h passes) (sym (c.merged.ensures shape journal world are closed.legal)) (done-all shape journal passes c.close-shards.result.tally.passes closed c.close-shards.ensures.passes world)

pub returns-clause-handed : goal.returns-clause-handed
returns-clause-handed c =
    let shape = c.args.world.start.shape in
    let journal = c.close-shards.result.tally.journal in
    let closed = subst (λ (t : TableValue Start). Closed (world_machine t.start.shape) journal c.close-shards.result.tally.passes) c.into_table.ensures c.close-shards.ensures.journal in
    let are = subst (λ (t : TableValue Start). AreShards (world_machine t.start.shape) c.close-shards.result.shards.items journal) c.into_table.ensures c.close-shards.ensures.shards in
    let world = subst IsShape c.shape.ensures c.limits.ensures.world in
    subst (λ (h : List Event). HandsOutOnce shape h) (sym (c.merged.ensures shape journal world are closed.legal)) (c.notification_values.ensures shape journal world closed.legal)

pub returns-clause-contributed : goal.returns-clause-contributed
returns-clause-contributed c =
    let shape = c.args.world.start.shape in
    let journal = c.close-shards.result.tally.journal in
    let closed = subst (λ (t : TableValue Start). Closed (world_machine t.start.shape) journal c.close-shards.result.tally.passes) c.into_table.ensures c.close-shards.ensures.journal in
    let are = subst (λ (t : TableValue Start). AreShards (world_machine t.start.shape) c.close-shards.result.shards.items journal) c.into_table.ensures c.close-shards.ensures.shards in
    let world = subst IsShape c.shape.ensures c.limits.ensures.world in
    subst (λ (h : List Event). ContributesOnce shape h) (sym (c.merged.ensures shape journal world are closed.legal)) (c.contribution_counts.ensures shape journal world closed.legal)
