use Rattle.std.proofs.Common.{◌≡◌, ap, arith, refl}
use Rattle.commit_table.proofs.Missing.{first_missed}
use Rattle.commit_table.specs.Counters.{counters}
use Rattle.commit_table.proofs.Raising.{stuck_raise}
use Rattle.commit_table.proofs.counters.raise.Goals as goal

pub returns-clause-told : goal.returns-clause-told
returns-clause-told c =
    let taken = c.in-Some.ensures.shard_taken in
    let l = c.look.ensures.seen in
    stuck_raise c.args.pass.now.known c.try_take.new.pass.known c.look.new.pass.known c.give_back.new.pass.known c.look.result c.args.counter c.in-Some.value l.0 taken.0
    (ap (λ p. p.known) taken.1) taken.2.stands l.1 (ap (λ p. p.known) c.give_back.ensures) (λ lt. absurd (let over = c.if-value-lt-MOST.false in omega arith))

pub returns-in_default-clause-told : goal.returns-in_default-clause-told
returns-in_default-clause-told c =
    let missed = c.in_default.ensures.missed in
    first_missed counters (λ i. i ≡ c.args.counter) c.args.pass.now.known c.try_take.new.pass.known c.args.counter missed.0 refl c.try_take.ensures.sound (ap (λ p. p.known) missed.1) missed.2
