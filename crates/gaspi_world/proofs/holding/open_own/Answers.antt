use Rattle.std.proofs.Common.{◌≡◌, None, ap, refl, arith}
use Rattle.commit_table.proofs.Missing.{first_missed}
use Rattle.gaspi_world.specs.WorldMachine.{world_machine}
use Rattle.gaspi_world.proofs.TakenShards.{rank-stands, one-holds, one-looked, holds-are}
use Rattle.gaspi_world.proofs.holding.open_own.Goals as goal

pub returns-in_default-clause-missed : goal.returns-in_default-clause-missed
returns-in_default-clause-missed c =
    let missed = c.in_default.ensures.missed in
    first_missed (world_machine c.args.table.now.start.shape) (λ i. i ≡ c.args.own) c.args.pass.now.known c.try_take.new.pass.known c.args.own missed.0 refl c.try_take.ensures.sound
    (ap (λ p. p.known) missed.1) missed.2

pub try_take-requires-clause-shard : goal.try_take-requires-clause-shard
try_take-requires-clause-shard c = (let lt = c.requires.own in omega arith)

pub one_held-requires : goal.one_held-requires
one_held-requires c =
    let taken = c.in-Some.ensures.shard_taken in
    rank-stands c.args.table.now.start.shape c.requires.world c.in-Some.mine taken.0 c.args.own taken.2.legal c.requires.own taken.2.stands

pub returns-clause-held : goal.returns-clause-held
returns-clause-held c =
    let w = c.args.table.now.start.shape in
    let taken = c.in-Some.ensures.shard_taken in
    let look = c.look.ensures.seen in
    holds-are w c.one_held.result c.look.new.pass.known c.args.own None _ c.one_held.ensures.values c.one_held.ensures.fits c.one_held.ensures.own c.one_held.ensures.other c.requires.own tt
    (one-holds w c.args.pass.now.known c.try_take.new.pass.known c.look.new.pass.known c.args.own c.look.result taken.0 look.0 c.in-Some.mine c.requires.free (ap (λ p. p.known) taken.1) taken.2 c.requires.own look.1)

pub returns-clause-looked : goal.returns-clause-looked
returns-clause-looked c =
    let taken = c.in-Some.ensures.shard_taken in
    let look = c.look.ensures.seen in
    one-looked c.args.table.now.start.shape c.args.pass.now.known c.try_take.new.pass.known c.look.new.pass.known c.args.own c.look.result taken.0 look.0 (ap (λ p. p.known) taken.1) look.1
