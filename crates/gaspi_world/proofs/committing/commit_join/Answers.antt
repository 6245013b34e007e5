use Rattle.gaspi_types.specs.declared.events.Event.TheVariants.{Joined}
use Rattle.gaspi_model.specs.Parties.{party_of}
use Rattle.gaspi_world.specs.Numbering.{by_ranks}
use Rattle.gaspi_world.specs.ShardMachine.{state_after}
use Rattle.gaspi_world.proofs.HeldShards.{may-commit, added}
use Rattle.std.proofs.Common.{◌++◌, ◌∷◌, [], refl, sym, ◌∙◌}
use Rattle.gaspi_world.specs.HeldShards.{values_of}
use Rattle.gaspi_world.specs.Shards.{node_meaning}
use Rattle.gaspi_world.proofs.CommittedNodes.{shards-of, step-on, committed-holds, own-party, join-footprint, join-touches-own, own-at, agrees-self}
use Rattle.gaspi_world.proofs.committing.commit_join.Goals as goal

pub commit-place-requires-clause-may : goal.commit-place-requires-clause-may
commit-place-requires-clause-may c =
    let w = c.args.table.now.start.shape in
    let e = Joined c.args.caller c.args.group c.args.args in
    may-commit (by_ranks w) w (node_meaning w) (party_of w) (values_of c.args.held.now) c.args.pass.now.known e c.requires.held.shards
    (shards-of w c.requires.world c.args.held.now c.args.pass.now.known c.requires.held e c.requires.shards.0 (join-touches-own w c.args.caller c.args.group c.args.args c.args.held.now.nodes.own.value.posts.posts c.args.held.now.other c.requires.shards.1)) c.requires.step (own-party w c.args.caller c.args.pass.now.known c.requires.caller)

pub record_join-requires-clause-step : goal.record_join-requires-clause-step
record_join-requires-clause-step c =
    let w = c.args.table.now.start.shape in
    let e = Joined c.args.caller c.args.group c.args.args in (
      state_after w c.args.pass.now.known.seen,
      state_after w (c.args.pass.now.known.seen ++ e ∷ []),
      step-on w c.requires.world c.args.held.now c.args.pass.now.known c.requires.held e c.requires.shards.0
          (join-footprint w c.args.held.now.own c.args.caller c.args.group c.args.args c.args.held.now.nodes.own.value.posts.posts c.requires.shards.0) (join-touches-own w c.args.caller c.args.group c.args.args c.args.held.now.nodes.own.value.posts.posts c.args.held.now.other c.requires.shards.1) c.requires.step,
    )

pub returns-clause-held : goal.returns-clause-held
returns-clause-held c =
    let w = c.args.table.now.start.shape in
    let e = Joined c.args.caller c.args.group c.args.args in
    let told = c.commit-place.ensures.seen in
    committed-holds w c.requires.world c.args.held.now c.args.pass.now.known c.requires.held e c.commit-place.result told.0 c.commit-place.new.pass.known c.record_join.new.nodes c.requires.shards.0
    (join-footprint w c.args.held.now.own c.args.caller c.args.group c.args.args c.args.held.now.nodes.own.value.posts.posts c.requires.shards.0) (join-touches-own w c.args.caller c.args.group c.args.args c.args.held.now.nodes.own.value.posts.posts c.args.held.now.other c.requires.shards.1) c.record_join.ensures.kind c.record_join.ensures.left told.1

pub returns-clause-added : goal.returns-clause-added
returns-clause-added c =
    let w = c.args.table.now.start.shape in
    let told = c.commit-place.ensures.seen in
    added (by_ranks w) w (node_meaning w) (party_of w) c.args.pass.now.known c.commit-place.new.pass.known (Joined c.args.caller c.args.group c.args.args) c.commit-place.result told.0 told.1

pub record_join-requires-clause-joined : goal.record_join-requires-clause-joined
record_join-requires-clause-joined c =
    let w = c.args.table.now.start.shape in
    let own = own-at w c.requires.world c.args.held.now c.args.pass.now.known c.requires.held c.args.pass.now.known.seen c.requires.held.shards.legal (agrees-self w c.requires.world c.args.held.now c.args.pass.now.known c.requires.held) in
    (c.args.caller, c.args.group, c.args.args, refl, sym c.requires.shards.0 ∙ sym own.posts.me, c.requires.capacity, c.requires.made)
