use Rattle.std.proofs.Common.{◌<◌, ap, arith}
use Rattle.commit_table.specs.Counters.{counters}
use Rattle.commit_table.proofs.Missing.{first_missed, second_missed}
use Rattle.commit_table.proofs.Raising.{stuck_carry}
use Rattle.commit_table.proofs.counters.carry.Goals.{else-first-gt0-via-then-first-gt0+else-second-lt-MOST, else-first-gt0-via-else-first-gt0}
use Rattle.commit_table.proofs.counters.carry.Goals as goal

pub returns-clause-told : goal.returns-clause-told
returns-clause-told c =
    let first = c.in-Some.ensures.shard_taken in
    let second = c.in-Some-try_take.ensures.shard_taken in
    let l = c.look.ensures.seen in
    stuck_carry c.args.pass.now.known c.try_take.new.pass.known c.try_take-2.new.pass.known c.look.new.pass.known c.give_back-2.new.pass.known c.give_back-3.new.pass.known c.look.result c.in-Some.first c.in-Some-try_take.second l.0 first.0 second.0
    (ap (λ p. p.known) first.1) first.2.stands (ap (λ p. p.known) second.1) second.2.stands l.1 (ap (λ p. p.known) c.give_back-2.ensures) (ap (λ p. p.known) c.give_back-3.ensures)
    (λ room. elim c.else-first-gt0.branch [
      | else-first-gt0-via-then-first-gt0+else-second-lt-MOST w ↦ absurd (let over = w.if-second-lt-MOST in let lt = room.1 in omega arith)
      | else-first-gt0-via-else-first-gt0 w ↦ absurd (let zero = w.if-first-gt0 in let lt = room.0 in omega arith)
    ])

pub returns-in_default-clause-told : goal.returns-in_default-clause-told
returns-in_default-clause-told c =
    let missed = c.in_default.ensures.missed in
    first_missed counters (λ i. i < 2) c.args.pass.now.known c.try_take.new.pass.known 0 missed.0 (omega arith) c.try_take.ensures.sound (ap (λ p. p.known) missed.1) missed.2

pub returns-in_default-try_take-clause-told : goal.returns-in_default-try_take-clause-told
returns-in_default-try_take-clause-told c =
    let first = c.in-Some.ensures.shard_taken in
    let missed = c.in_default-try_take.ensures.missed in
    second_missed counters (λ i. i < 2) c.args.pass.now.known c.try_take.new.pass.known c.try_take-2.new.pass.known c.give_back.new.pass.known 1 0 first.0 missed.0 (omega arith) c.try_take.ensures.sound
    (ap (λ p. p.known) first.1) (ap (λ p. p.known) missed.1) missed.2 (ap (λ p. p.known) c.give_back.ensures)
