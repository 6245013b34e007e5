use Rattle.std.proofs.Common.{[], ◌∷◌, refl, ap}
use Rattle.gaspi_model.specs.Parties.{party_of}
use Rattle.gaspi_world.specs.Numbering.{by_ranks}
use Rattle.gaspi_world.proofs.HeldPairs.{here, first-given}
use Rattle.gaspi_world.proofs.HeldShards.{may-give}
use Rattle.gaspi_world.specs.Shards.{node_meaning}
use Rattle.gaspi_world.specs.declared.shards.WorldShard.TheVariants as shards
use Rattle.gaspi_world.proofs.holding.leave_own.Goals as goal

pub give_back-requires-clause-value : goal.give_back-requires-clause-value
give_back-requires-clause-value c =
    let w = c.args.table.now.start.shape in
    may-give (by_ranks w) w (node_meaning w) (party_of w) ((c.args.own, shards.Rank c.args.nodes.own) ∷ []) c.args.pass.now.known c.args.own (shards.Rank c.args.nodes.own) c.requires.held.shards
    (here [] c.args.own c.args.own (shards.Rank c.args.nodes.own) refl)

pub returns-clause-free : goal.returns-clause-free
returns-clause-free c =
    let w = c.args.table.now.start.shape in
    first-given (by_ranks w) w (node_meaning w) (party_of w) c.args.pass.now.known c.give_back.new.pass.known c.args.own (shards.Rank c.args.nodes.own) c.requires.held.shards (ap (λ p. p.known) c.give_back.ensures)
