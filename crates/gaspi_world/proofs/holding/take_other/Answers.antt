use Rattle.std.proofs.Common.{ap}
use Rattle.gaspi_world.proofs.Movings.{moved-missed, moved-looked}
use Rattle.gaspi_world.proofs.OtherShards.{still-held, opened}
use Rattle.gaspi_world.proofs.holding.take_other.Goals as goal

pub returns-in_default-clause-held : goal.returns-in_default-clause-held
returns-in_default-clause-held c =
    let missed = c.in_default.ensures.missed in
    still-held c.args.table.now.start.shape c.args.held.now c.args.pass.now.known c.requires.held c.requires.alone c.try_take.new.pass.known c.args.other missed.0 (ap (λ p. p.known) missed.1)

pub returns-in_default-clause-moved : goal.returns-in_default-clause-moved
returns-in_default-clause-moved c =
    let missed = c.in_default.ensures.missed in
    moved-missed c.args.table.now.start.shape c.args.held.now.own c.args.pass.now.known c.try_take.new.pass.known c.args.other missed.0 (ap (λ p. p.known) missed.1)

pub returns-clause-held : goal.returns-clause-held
returns-clause-held c =
    let taken = c.in-Some.ensures.shard_taken in
    let look = c.look.ensures.seen in
    opened c.args.table.now.start.shape c.args.held.now c.args.pass.now.known c.requires.held c.requires.alone c.try_take.new.pass.known c.look.new.pass.known c.args.other c.look.result taken.0 look.0 c.in-Some.theirs c.into_other.result
    c.requires.other (ap (λ p. p.known) taken.1) taken.2 look.1 (c.into_other.ensures.value c.args.other) (c.into_other.ensures.fits c.args.other)

pub returns-clause-moved : goal.returns-clause-moved
returns-clause-moved c =
    let taken = c.in-Some.ensures.shard_taken in
    let look = c.look.ensures.seen in
    moved-looked c.args.table.now.start.shape c.args.held.now.own c.args.pass.now.known c.try_take.new.pass.known c.look.new.pass.known c.args.other c.look.result taken.0 look.0 (ap (λ p. p.known) taken.1) look.1
