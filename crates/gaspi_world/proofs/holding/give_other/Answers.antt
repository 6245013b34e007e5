use Rattle.std.proofs.Common.{ap}
use Rattle.gaspi_world.proofs.Movings.{moved-gave}
use Rattle.gaspi_world.proofs.OtherShards.{fits-other, may-leave, left-alone}
use Rattle.gaspi_world.proofs.holding.give_other.Goals as goal

pub unreachable-requires : goal.unreachable-requires
unreachable-requires c =
    c.in_default.ensures c.args.other (fits-other c.args.table.now.start.shape c.args.held.now c.args.pass.now.known c.requires.held c.args.other c.requires.other c.replace-node.result c.replace-node.ensures.value)

pub give_back-requires-clause-value : goal.give_back-requires-clause-value
give_back-requires-clause-value c =
    let w = c.args.table.now.start.shape in
    let fits = fits-other w c.args.held.now c.args.pass.now.known c.requires.held c.args.other c.requires.other c.replace-node.result c.replace-node.ensures.value in
    may-leave w c.args.held.now c.args.pass.now.known c.requires.held c.args.other c.requires.other c.replace-node.result c.replace-node.ensures.value c.in-Some.value (c.in-Some.ensures c.args.other fits)

pub returns-clause-held : goal.returns-clause-held
returns-clause-held c =
    let w = c.args.table.now.start.shape in
    let fits = fits-other w c.args.held.now c.args.pass.now.known c.requires.held c.args.other c.requires.other c.replace-node.result c.replace-node.ensures.value in
    left-alone w c.args.held.now c.args.pass.now.known c.requires.held c.args.other c.requires.other c.replace-node.result c.replace-node.ensures.value c.in-Some.value c.give_back.new.pass.known c.replace-node.new.dest (c.in-Some.ensures c.args.other fits)
    (ap (λ p. p.known) c.give_back.ensures) c.replace-node.ensures.after

pub returns-clause-moved : goal.returns-clause-moved
returns-clause-moved c = moved-gave c.args.table.now.start.shape c.args.held.now.own c.args.pass.now.known c.give_back.new.pass.known c.args.other (ap (λ p. p.known) c.give_back.ensures)
