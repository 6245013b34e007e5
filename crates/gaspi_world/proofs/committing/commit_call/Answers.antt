use Rattle.gaspi_types.specs.declared.events.Event.TheVariants.{Called}
use Rattle.gaspi_model.specs.Parties.{party_of}
use Rattle.gaspi_world.specs.Numbering.{by_ranks}
use Rattle.gaspi_world.specs.ShardMachine.{state_after}
use Rattle.gaspi_world.proofs.HeldShards.{may-commit, added}
use Rattle.std.proofs.Common.{◌++◌, ◌∷◌, []}
use Rattle.gaspi_world.specs.HeldShards.{values_of}
use Rattle.gaspi_world.specs.Shards.{node_meaning}
use Rattle.gaspi_world.proofs.CommittedNodes.{shards-of, step-on, committed-holds, own-party, call-footprint}
use Rattle.gaspi_world.proofs.committing.commit_call.Goals as goal

pub commit-place-requires-clause-may : goal.commit-place-requires-clause-may
commit-place-requires-clause-may c =
    let w = c.args.table.now.start.shape in
    let e = Called c.args.caller c.args.call c.args.reply in
    may-commit (by_ranks w) w (node_meaning w) (party_of w) (values_of c.args.held.now) c.args.pass.now.known e c.requires.held.shards
    (shards-of w c.requires.world c.args.held.now c.args.pass.now.known c.requires.held e c.requires.shards.0 c.requires.shards.1) c.requires.step (own-party w c.args.caller c.args.pass.now.known c.requires.caller)

pub record_call-requires-clause-step : goal.record_call-requires-clause-step
record_call-requires-clause-step c =
    let w = c.args.table.now.start.shape in
    let e = Called c.args.caller c.args.call c.args.reply in (
      state_after w c.args.pass.now.known.seen,
      state_after w (c.args.pass.now.known.seen ++ e ∷ []),
      step-on w c.requires.world c.args.held.now c.args.pass.now.known c.requires.held e c.requires.shards.0
          (call-footprint w c.args.held.now.own c.args.caller c.args.call c.args.reply c.args.held.now.nodes.own.value.posts.posts c.requires.shards.0) c.requires.shards.1 c.requires.step,
    )

pub returns-clause-held : goal.returns-clause-held
returns-clause-held c =
    let w = c.args.table.now.start.shape in
    let e = Called c.args.caller c.args.call c.args.reply in
    let told = c.commit-place.ensures.seen in
    committed-holds w c.requires.world c.args.held.now c.args.pass.now.known c.requires.held e c.commit-place.result told.0 c.commit-place.new.pass.known c.record_call.new.nodes c.requires.shards.0
    (call-footprint w c.args.held.now.own c.args.caller c.args.call c.args.reply c.args.held.now.nodes.own.value.posts.posts c.requires.shards.0) c.requires.shards.1 c.record_call.ensures.kind c.record_call.ensures.left told.1

pub returns-clause-added : goal.returns-clause-added
returns-clause-added c =
    let w = c.args.table.now.start.shape in
    let told = c.commit-place.ensures.seen in
    added (by_ranks w) w (node_meaning w) (party_of w) c.args.pass.now.known c.commit-place.new.pass.known (Called c.args.caller c.args.call c.args.reply) c.commit-place.result told.0 told.1
