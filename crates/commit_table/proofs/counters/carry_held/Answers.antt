use Rattle.std.proofs.Common.{ap}
use Rattle.commit_table.proofs.Raising.{Both, may_carry, first_later, carried_second}
use Rattle.commit_table.proofs.counters.carry_held.Goals as goal

pub commit-place-requires-clause-may : goal.commit-place-requires-clause-may
commit-place-requires-clause-may c =
    let l = c.look.ensures.seen in
    let a = c.requires.first in
    let b = c.requires.second in
    let both : Both c.args.pass.now.known c.args.first c.args.second = record { first = a.0; first_held = a.1; first_stands = a.2; second = b.0; second_held = b.1; second_stands = b.2; room = c.requires.room } in
    may_carry c.args.pass.now.known c.look.new.pass.known c.look.result c.args.first c.args.second l.0 l.1 both

pub give_back-requires-clause-value : goal.give_back-requires-clause-value
give_back-requires-clause-value c =
    let l = c.look.ensures.seen in
    let a = c.requires.first in
    let b = c.requires.second in
    let both : Both c.args.pass.now.known c.args.first c.args.second = record { first = a.0; first_held = a.1; first_stands = a.2; second = b.0; second_held = b.1; second_stands = b.2; room = c.requires.room } in
    let t = c.commit-place.ensures.seen in
    carried_second c.args.pass.now.known c.look.new.pass.known c.commit-place.new.pass.known c.look.result c.commit-place.result c.args.first c.args.second l.0 t.0 l.1 both t.1

pub give_back-requires-2-clause-value : goal.give_back-requires-2-clause-value
give_back-requires-2-clause-value c =
    let l = c.look.ensures.seen in
    let a = c.requires.first in
    let b = c.requires.second in
    let both : Both c.args.pass.now.known c.args.first c.args.second = record { first = a.0; first_held = a.1; first_stands = a.2; second = b.0; second_held = b.1; second_stands = b.2; room = c.requires.room } in
    let t = c.commit-place.ensures.seen in
    first_later c.args.pass.now.known c.look.new.pass.known c.commit-place.new.pass.known c.give_back.new.pass.known c.look.result c.commit-place.result c.args.first c.args.second l.0 t.0 l.1 both t.1 (ap (λ p. p.known) c.give_back.ensures)
