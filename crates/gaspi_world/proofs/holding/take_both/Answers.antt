use Rattle.std.proofs.Common.{◌≡◌, ◌⊎◌, inl, inr, refl, ap}
use Rattle.commit_table.proofs.Missing.{first_missed, second_missed}
use Rattle.gaspi_world.specs.WorldMachine.{world_machine}
use Rattle.gaspi_world.proofs.holding.take_both.Goals as goal

pub returns-in_default-clause-missed : goal.returns-in_default-clause-missed
returns-in_default-clause-missed c =
    let missed = c.in_default.ensures.missed in
    first_missed (world_machine c.args.table.now.start.shape) (λ i. (i ≡ c.args.low) ⊎ (i ≡ c.args.high)) c.args.pass.now.known c.try_take.new.pass.known c.args.low missed.0 (inl refl) c.try_take.ensures.sound
    (ap (λ p. p.known) missed.1) missed.2

pub returns-in_default-try_take-clause-missed : goal.returns-in_default-try_take-clause-missed
returns-in_default-try_take-clause-missed c =
    let first = c.in-Some.ensures.shard_taken in
    let missed = c.in_default-try_take.ensures.missed in
    second_missed (world_machine c.args.table.now.start.shape) (λ i. (i ≡ c.args.low) ⊎ (i ≡ c.args.high)) c.args.pass.now.known c.try_take.new.pass.known c.try_take-2.new.pass.known c.give_back.new.pass.known
    c.args.high c.args.low first.0 missed.0 (inr refl) c.try_take.ensures.sound (ap (λ p. p.known) first.1) (ap (λ p. p.known) missed.1) missed.2 (ap (λ p. p.known) c.give_back.ensures)
