use Rattle.std.proofs.Common.{sym, subst}
use Rattle.gaspi_types.specs.declared.events.Event.{Event}
use Rattle.commit_table.specs.Calls.{MayCommit}
use Rattle.rank_node.specs.Transfers.{put_of, take_of}
use Rattle.gaspi_world.specs.ShardMachine.{state_after}
use Rattle.gaspi_world.specs.WorldMachine.{world_machine}
use Rattle.gaspi_world.proofs.TransferCommits.{sound-seen, lends-front, may-commit-front, may-put, may-take, committed-front, moved-behind}
use Rattle.gaspi_world.proofs.Transferring.{FrontLaws, event-put, event-take}
use Rattle.gaspi_world.proofs.transfers.commit_front.Goals as goal

pub commit-place-requires-clause-may : goal.commit-place-requires-clause-may
commit-place-requires-clause-may c =
    let w = c.args.table.now.start.shape in
    let h = c.args.held.now in
    let v = c.args.pass.now.known in
    let t = c.args.t in
    let outcome = c.outcome-outcome.result in
    let laws : FrontLaws = record { steps = c.fronts_are_steps.ensures.steps; footprint = c.front_footprints.ensures } in
    let ends = c.outcome-outcome.ensures.machine (state_after w v.seen) (sound-seen w c.requires.world laws h v c.requires.held t c.requires.front) (lends-front w c.requires.world laws h v c.requires.held t c.requires.front) in
    subst (λ (e : Event). MayCommit (world_machine w) v e) (sym c.event_of.ensures) (may-commit-front w c.requires.world laws h v c.requires.held t c.requires.front outcome ends.1)

pub put-requires : goal.put-requires
put-requires c =
    let w = c.args.table.now.start.shape in
    let h = c.args.held.now in
    let v = c.args.pass.now.known in
    let t = c.args.t in
    let outcome = c.outcome-outcome.result in
    let laws : FrontLaws = record { steps = c.fronts_are_steps.ensures.steps; footprint = c.front_footprints.ensures } in
    let ends = c.outcome-outcome.ensures.machine (state_after w v.seen) (sound-seen w c.requires.world laws h v c.requires.held t c.requires.front) (lends-front w c.requires.world laws h v c.requires.held t c.requires.front) in
    may-put w c.requires.world laws h v c.requires.held t c.requires.front outcome ends.1 c.if-t.true (c.fronts_are_steps.ensures.put h.nodes.own.value.posts t c.requires.front.front c.if-t.true)

pub take-requires : goal.take-requires
take-requires c =
    let w = c.args.table.now.start.shape in
    let h = c.args.held.now in
    let v = c.args.pass.now.known in
    let t = c.args.t in
    let outcome = c.outcome-outcome.result in
    let laws : FrontLaws = record { steps = c.fronts_are_steps.ensures.steps; footprint = c.front_footprints.ensures } in
    let ends = c.outcome-outcome.ensures.machine (state_after w v.seen) (sound-seen w c.requires.world laws h v c.requires.held t c.requires.front) (lends-front w c.requires.world laws h v c.requires.held t c.requires.front) in
    may-take w c.requires.world laws h v c.requires.held t c.requires.front outcome ends.1 c.if-t.false (c.fronts_are_steps.ensures.take h.nodes.own.value.posts t c.requires.front.front c.if-t.false)

pub returns-then-t-clause-held : goal.returns-then-t-clause-held
returns-then-t-clause-held c =
    let w = c.args.table.now.start.shape in
    let h = c.args.held.now in
    let v = c.args.pass.now.known in
    let t = c.args.t in
    let outcome = c.outcome-outcome.result in
    let laws : FrontLaws = record { steps = c.fronts_are_steps.ensures.steps; footprint = c.front_footprints.ensures } in
    let ends = c.outcome-outcome.ensures.machine (state_after w v.seen) (sound-seen w c.requires.world laws h v c.requires.held t c.requires.front) (lends-front w c.requires.world laws h v c.requires.held t c.requires.front) in
    let first = c.fronts_are_steps.ensures.put h.nodes.own.value.posts t c.requires.front.front c.if-t.true in
    let told = c.commit-place.ensures.seen in
    committed-front w c.requires.world laws h v c.requires.held t c.requires.front outcome ends.1 c.event_of.result (put_of t outcome) c.commit-place.result told.0 c.commit-place.new.pass.known c.put.new.self c.event_of.ensures (event-put t outcome c.if-t.true) c.put.ensures.kind told.1
    (λ s after on. c.put.ensures.left s after outcome on first)

pub returns-else-t-clause-held : goal.returns-else-t-clause-held
returns-else-t-clause-held c =
    let w = c.args.table.now.start.shape in
    let h = c.args.held.now in
    let v = c.args.pass.now.known in
    let t = c.args.t in
    let outcome = c.outcome-outcome.result in
    let laws : FrontLaws = record { steps = c.fronts_are_steps.ensures.steps; footprint = c.front_footprints.ensures } in
    let ends = c.outcome-outcome.ensures.machine (state_after w v.seen) (sound-seen w c.requires.world laws h v c.requires.held t c.requires.front) (lends-front w c.requires.world laws h v c.requires.held t c.requires.front) in
    let first = c.fronts_are_steps.ensures.take h.nodes.own.value.posts t c.requires.front.front c.if-t.false in
    let told = c.commit-place.ensures.seen in
    committed-front w c.requires.world laws h v c.requires.held t c.requires.front outcome ends.1 c.event_of.result (take_of t outcome) c.commit-place.result told.0 c.commit-place.new.pass.known c.take.new.self c.event_of.ensures (event-take t outcome c.if-t.false) c.take.ensures.kind told.1
    (λ s after on. c.take.ensures.left s after outcome on first)

pub returns-then-t-clause-moved : goal.returns-then-t-clause-moved
returns-then-t-clause-moved c =
    let w = c.args.table.now.start.shape in
    let h = c.args.held.now in
    let v = c.args.pass.now.known in
    let t = c.args.t in
    let outcome = c.outcome-outcome.result in
    let laws : FrontLaws = record { steps = c.fronts_are_steps.ensures.steps; footprint = c.front_footprints.ensures } in
    let ends = c.outcome-outcome.ensures.machine (state_after w v.seen) (sound-seen w c.requires.world laws h v c.requires.held t c.requires.front) (lends-front w c.requires.world laws h v c.requires.held t c.requires.front) in
    let told = c.commit-place.ensures.seen in
    moved-behind w c.requires.world laws h v c.requires.held t c.requires.front outcome ends.1 c.event_of.result c.commit-place.result told.0 c.commit-place.new.pass.known c.event_of.ensures told.1

pub returns-else-t-clause-moved : goal.returns-else-t-clause-moved
returns-else-t-clause-moved c =
    let w = c.args.table.now.start.shape in
    let h = c.args.held.now in
    let v = c.args.pass.now.known in
    let t = c.args.t in
    let outcome = c.outcome-outcome.result in
    let laws : FrontLaws = record { steps = c.fronts_are_steps.ensures.steps; footprint = c.front_footprints.ensures } in
    let ends = c.outcome-outcome.ensures.machine (state_after w v.seen) (sound-seen w c.requires.world laws h v c.requires.held t c.requires.front) (lends-front w c.requires.world laws h v c.requires.held t c.requires.front) in
    let told = c.commit-place.ensures.seen in
    moved-behind w c.requires.world laws h v c.requires.held t c.requires.front outcome ends.1 c.event_of.result c.commit-place.result told.0 c.commit-place.new.pass.known c.event_of.ensures told.1
