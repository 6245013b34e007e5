use Rattle.std.proofs.Common.{ℕ, List, [], ◌∷◌, ◌∙◌, refl, ap, subst}
use Rattle.gaspi_model.specs.Parties.{party_of}
use Rattle.gaspi_world.specs.ShardProjections as held
use Rattle.gaspi_world.specs.Numbering.{by_ranks}
use Rattle.gaspi_world.proofs.HeldPairs.{here, elsewhere, first-given, second-given}
use Rattle.gaspi_world.proofs.HeldShards.{may-give}
use Rattle.gaspi_world.specs.Shards.{node_meaning}
use Rattle.gaspi_world.specs.declared.shards.WorldShard.{WorldShard}
use Rattle.gaspi_world.specs.declared.shards.WorldShard.TheVariants as shards
use Rattle.gaspi_world.proofs.holding.leave_both.Goals as goal

pub unreachable-requires : goal.unreachable-requires
unreachable-requires c = (let some = c.from_other.ensures c.args.other c.requires.held.fits in rw c.in_default.is at some)

pub give_back-requires-clause-value : goal.give_back-requires-clause-value
give_back-requires-clause-value c =
    let w = c.args.table.now.start.shape in
    let mine = shards.Rank c.args.nodes.own in
    let value = c.in-Some.value in
    let is = rw c.in-Some.is at (c.from_other.ensures c.args.other c.requires.held.fits) in
    let holds = subst (λ (l : List (ℕ × WorldShard)). held.Holds (by_ranks w) w (node_meaning w) (party_of w) ((c.args.own, mine) ∷ l) c.args.pass.now.known) is c.requires.held.shards in
    may-give (by_ranks w) w (node_meaning w) (party_of w) ((c.args.own, mine) ∷ (c.args.other, value) ∷ []) c.args.pass.now.known c.args.other value holds
    (elsewhere ((c.args.other, value) ∷ []) c.args.own c.args.other mine c.requires.held.apart.1 ∙ here [] c.args.other c.args.other value refl)

pub give_back-requires-2-clause-value : goal.give_back-requires-2-clause-value
give_back-requires-2-clause-value c =
    let w = c.args.table.now.start.shape in
    let mine = shards.Rank c.args.nodes.own in
    let value = c.in-Some.value in
    let is = rw c.in-Some.is at (c.from_other.ensures c.args.other c.requires.held.fits) in
    let holds = subst (λ (l : List (ℕ × WorldShard)). held.Holds (by_ranks w) w (node_meaning w) (party_of w) ((c.args.own, mine) ∷ l) c.args.pass.now.known) is c.requires.held.shards in
    let left = second-given (by_ranks w) w (node_meaning w) (party_of w) c.args.pass.now.known c.give_back.new.pass.known c.args.own c.args.other mine value c.requires.held.apart.1 holds (ap (λ p. p.known) c.give_back.ensures) in
    may-give (by_ranks w) w (node_meaning w) (party_of w) ((c.args.own, mine) ∷ []) c.give_back.new.pass.known c.args.own mine left (here [] c.args.own c.args.own mine refl)

pub returns-clause-free : goal.returns-clause-free
returns-clause-free c =
    let w = c.args.table.now.start.shape in
    let mine = shards.Rank c.args.nodes.own in
    let value = c.in-Some.value in
    let is = rw c.in-Some.is at (c.from_other.ensures c.args.other c.requires.held.fits) in
    let holds = subst (λ (l : List (ℕ × WorldShard)). held.Holds (by_ranks w) w (node_meaning w) (party_of w) ((c.args.own, mine) ∷ l) c.args.pass.now.known) is c.requires.held.shards in
    let left = second-given (by_ranks w) w (node_meaning w) (party_of w) c.args.pass.now.known c.give_back.new.pass.known c.args.own c.args.other mine value c.requires.held.apart.1 holds (ap (λ p. p.known) c.give_back.ensures) in
    first-given (by_ranks w) w (node_meaning w) (party_of w) c.give_back.new.pass.known c.give_back-2.new.pass.known c.args.own mine left (ap (λ p. p.known) c.give_back-2.ensures)
