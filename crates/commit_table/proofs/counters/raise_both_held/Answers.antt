use Rattle.std.proofs.Common.{◌∙◌, ap, sym}
use Rattle.commit_table.proofs.Raising.{may_after, seen_value, raised_stands, next_there, may_next, next_stands, raised_both, both_given, projection_value}
use Rattle.commit_table.proofs.counters.raise_both_held.Goals as goal

pub commit-requires-clause-may : goal.commit-requires-clause-may
commit-requires-clause-may c =
    let l = c.look.ensures.seen in
    let held = c.requires.first in
    may_after c.args.pass.now.known c.look.new.pass.known c.look.result 0 c.args.first c.number-party.result l.0 held.0 l.1 c.number-party.ensures held.1 held.2 c.requires.room.0

pub give_back-requires-clause-value : goal.give_back-requires-clause-value
give_back-requires-clause-value c =
    let l = c.look.ensures.seen in
    let held = c.requires.first in
    let t = c.commit.ensures.seen in
    let here = seen_value c.args.pass.now.known c.look.new.pass.known c.look.result 0 c.args.first l.0 held.0 l.1 held.1 held.2 in
    raised_stands c.look.new.pass.known c.commit.new.pass.known 0 c.args.first c.number-party.result c.commit.result t.0 here c.requires.room.0 t.1

pub commit-place-requires-clause-may : goal.commit-place-requires-clause-may
commit-place-requires-clause-may c =
    let l = c.look.ensures.seen in
    let held = c.requires.first in
    let other = c.requires.second in
    let t = c.commit.ensures.seen in
    let here = seen_value c.args.pass.now.known c.look.new.pass.known c.look.result 0 c.args.first l.0 held.0 l.1 held.1 held.2 in
    let party = sym (ap (λ y. y.party) l.1.is) ∙ c.number-party.ensures in
    let next = next_there c.args.pass.now.known c.look.new.pass.known c.commit.new.pass.known c.give_back.new.pass.known c.look.result c.commit.result c.number-party.result c.args.first l.0 t.0 other.0 l.1 here t.1 (ap (λ p. p.known) c.give_back.ensures) other.1 in
    may_next c.args.pass.now.known c.give_back.new.pass.known c.number-party.result c.args.second other.0 next party other.2 c.requires.room.1

pub give_back-requires-2-clause-value : goal.give_back-requires-2-clause-value
give_back-requires-2-clause-value c =
    let l = c.look.ensures.seen in
    let held = c.requires.first in
    let other = c.requires.second in
    let t = c.commit.ensures.seen in
    let s = c.commit-place.ensures.seen in
    let here = seen_value c.args.pass.now.known c.look.new.pass.known c.look.result 0 c.args.first l.0 held.0 l.1 held.1 held.2 in
    let next = next_there c.args.pass.now.known c.look.new.pass.known c.commit.new.pass.known c.give_back.new.pass.known c.look.result c.commit.result c.number-party.result c.args.first l.0 t.0 other.0 l.1 here t.1 (ap (λ p. p.known) c.give_back.ensures) other.1 in
    next_stands c.args.pass.now.known c.give_back.new.pass.known c.commit-place.new.pass.known c.number-party.result c.args.second c.commit-place.result other.0 s.0 next other.2 c.requires.room.1 s.1

pub returns : goal.returns
returns c =
    let l = c.look.ensures.seen in
    let held = c.requires.first in
    let other = c.requires.second in
    let t = c.commit.ensures.seen in
    let s = c.commit-place.ensures.seen in
    let back = ap (λ p. p.known) c.give_back.ensures in
    let last = ap (λ p. p.known) c.give_back-2.ensures in
    let here = seen_value c.args.pass.now.known c.look.new.pass.known c.look.result 0 c.args.first l.0 held.0 l.1 held.1 held.2 in
    let next = next_there c.args.pass.now.known c.look.new.pass.known c.commit.new.pass.known c.give_back.new.pass.known c.look.result c.commit.result c.number-party.result c.args.first l.0 t.0 other.0 l.1 here t.1 back other.1 in
    let there = sym next.agrees ∙ projection_value 1 c.args.second other.0 other.2 in
    record {
      table = ap (λ p. p.table) c.give_back-2.ensures ∙ (c.commit-place.ensures.table ∙ (ap (λ p. p.table) c.give_back.ensures ∙ (c.commit.ensures.table ∙ c.look.ensures.table)));
      told = (
        c.number-party.result,
        sym (ap (λ y. y.party) l.1.is) ∙ c.number-party.ensures,
        raised_both c.args.pass.now.known c.look.new.pass.known c.commit.new.pass.known c.give_back.new.pass.known c.commit-place.new.pass.known c.give_back-2.new.pass.known c.look.result c.commit.result c.commit-place.result c.number-party.result l.0 t.0 s.0 l.1 t.1 back s.1 last,
      );
      free = both_given c.args.pass.now.known c.look.new.pass.known c.commit.new.pass.known c.give_back.new.pass.known c.commit-place.new.pass.known c.give_back-2.new.pass.known c.look.result c.commit.result c.commit-place.result c.number-party.result c.args.first c.args.second l.0 t.0 s.0 l.1 here t.1 back there s.1 last c.requires.others;
    }
