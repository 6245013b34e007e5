use Rattle.std.proofs.Common.{Some, sym}
use Rattle.gaspi_model.specs.Parties.{party_of}
use Rattle.gaspi_world.specs.Numbering.{by_ranks}
use Rattle.gaspi_world.proofs.HeldPairs.{low-first, high-first, both-looked}
use Rattle.gaspi_world.specs.Shards.{node_meaning}
use Rattle.gaspi_world.proofs.TakenShards.{rank-stands, holds-are, within-all}
use Rattle.gaspi_world.proofs.holding.open_both.Goals as goal

pub both_held-requires : goal.both_held-requires
both_held-requires c =
    let both = c.in-Some.ensures.both in
    rank-stands c.args.table.now.start.shape c.requires.world c.in-Some.mine both.first c.args.own both.low_legal c.requires.own both.low_stands

pub both_held-requires-2 : goal.both_held-requires-2
both_held-requires-2 c =
    let both = c.in-Some-take_both.ensures.both in
    rank-stands c.args.table.now.start.shape c.requires.world c.in-Some-take_both.mine both.second c.args.own both.high_legal c.requires.own both.high_stands

pub returns-then-own-other-clause-held : goal.returns-then-own-other-clause-held
returns-then-own-other-clause-held c =
    let w = c.args.table.now.start.shape in
    let look = c.look.ensures.seen in
    holds-are w c.both_held.result c.look.new.pass.known c.args.own (Some c.args.other) _ c.both_held.ensures.values c.both_held.ensures.fits c.both_held.ensures.own c.both_held.ensures.other c.requires.own (c.requires.there, c.requires.apart)
    (low-first (by_ranks w) w (node_meaning w) (party_of w) c.args.pass.now.known c.take_both.new.pass.known c.look.new.pass.known c.args.own c.args.other c.look.result look.0 c.in-Some.mine c.in-Some.value
    c.requires.free (λ e. c.requires.apart (sym e)) (within-all w c.args.own c.requires.own) c.requires.there c.in-Some.ensures.both look.1)

pub returns-then-own-other-clause-looked : goal.returns-then-own-other-clause-looked
returns-then-own-other-clause-looked c =
    let w = c.args.table.now.start.shape in
    let look = c.look.ensures.seen in
    both-looked (by_ranks w) w (node_meaning w) (party_of w) c.args.pass.now.known c.take_both.new.pass.known c.look.new.pass.known c.args.own c.args.other c.look.result look.0 c.in-Some.mine c.in-Some.value c.in-Some.ensures.both look.1

pub returns-clause-held : goal.returns-clause-held
returns-clause-held c =
    let w = c.args.table.now.start.shape in
    let look = c.look-2.ensures.seen in
    holds-are w c.both_held-2.result c.look-2.new.pass.known c.args.own (Some c.args.other) _ c.both_held-2.ensures.values c.both_held-2.ensures.fits c.both_held-2.ensures.own c.both_held-2.ensures.other c.requires.own (c.requires.there, c.requires.apart)
    (high-first (by_ranks w) w (node_meaning w) (party_of w) c.args.pass.now.known c.take_both-2.new.pass.known c.look-2.new.pass.known c.args.other c.args.own c.look-2.result look.0 c.in-Some-take_both.value c.in-Some-take_both.mine
    c.requires.free c.requires.apart c.requires.there (within-all w c.args.own c.requires.own) c.in-Some-take_both.ensures.both look.1)

pub returns-clause-looked : goal.returns-clause-looked
returns-clause-looked c =
    let w = c.args.table.now.start.shape in
    let look = c.look-2.ensures.seen in
    both-looked (by_ranks w) w (node_meaning w) (party_of w) c.args.pass.now.known c.take_both-2.new.pass.known c.look-2.new.pass.known c.args.other c.args.own c.look-2.result look.0 c.in-Some-take_both.value c.in-Some-take_both.mine c.in-Some-take_both.ensures.both look.1
