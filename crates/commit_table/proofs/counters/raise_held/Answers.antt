use Rattle.std.proofs.Common.{◌∙◌, ap, sym}
use Rattle.commit_table.proofs.Raising.{may_after, seen_value, raised_stands, recorded, other_held, given}
use Rattle.commit_table.proofs.counters.raise_held.Goals as goal

pub commit-place-requires-clause-may : goal.commit-place-requires-clause-may
commit-place-requires-clause-may c =
    let l = c.look.ensures.seen in
    let held = c.requires.held in
    may_after c.args.pass.now.known c.look.new.pass.known c.look.result c.args.counter c.args.value c.number.result l.0 held.0 l.1 c.number.ensures held.1 held.2 c.requires.room

pub give_back-requires-clause-value : goal.give_back-requires-clause-value
give_back-requires-clause-value c =
    let l = c.look.ensures.seen in
    let held = c.requires.held in
    let t = c.commit-place.ensures.seen in
    raised_stands c.look.new.pass.known c.commit-place.new.pass.known c.args.counter c.args.value c.number.result c.commit-place.result t.0 (seen_value c.args.pass.now.known c.look.new.pass.known c.look.result c.args.counter c.args.value l.0 held.0 l.1 held.1 held.2) c.requires.room t.1

pub returns : goal.returns
returns c =
    let l = c.look.ensures.seen in
    let held = c.requires.held in
    let t = c.commit-place.ensures.seen in
    let back = ap (λ p. p.known) c.give_back.ensures in
    let here = seen_value c.args.pass.now.known c.look.new.pass.known c.look.result c.args.counter c.args.value l.0 held.0 l.1 held.1 held.2 in
    record {
      table = ap (λ p. p.table) c.give_back.ensures ∙ (c.commit-place.ensures.table ∙ c.look.ensures.table);
      told = (c.number.result, sym (ap (λ y. y.party) l.1.is) ∙ c.number.ensures, recorded c.args.pass.now.known c.look.new.pass.known c.commit-place.new.pass.known c.give_back.new.pass.known _ c.look.result c.commit-place.result c.args.counter l.0 t.0 l.1 t.1 back);
      given = given c.commit-place.new.pass.known c.give_back.new.pass.known c.args.counter back;
      others = λ i ne. other_held c.args.pass.now.known c.look.new.pass.known c.commit-place.new.pass.known c.give_back.new.pass.known c.look.result c.commit-place.result c.args.counter c.number.result i l.0 t.0 c.args.value l.1 here t.1 back ne;
    }
