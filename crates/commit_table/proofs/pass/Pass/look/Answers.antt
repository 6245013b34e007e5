use Rattle.std.proofs.Common.{ap, refl, sym, ◌∙◌}
use Rattle.commit_table.proofs.Looking.{seen_of}
use Rattle.commit_table.proofs.pass.Pass.look.Goals as goal

pub returns-clause-told : goal.returns-clause-told
returns-clause-told g c =
    let t = seen_of g.M.Sharded.machine c.args.board.now.key.start c.args.board.now.key.passes c.self.inside.seat.me.0.known c.args.self.now.known _ _ c.look_word.result c.look_word.new.seat.me (ap (λ p. p.known) c.self.view_is) refl c.requires.table.1 c.look_word.ensures.told in
    (t.0, t.1)

pub returns-clause-party : goal.returns-clause-party
returns-clause-party g c =
    let t = seen_of g.M.Sharded.machine c.args.board.now.key.start c.args.board.now.key.passes c.self.inside.seat.me.0.known c.args.self.now.known _ _ c.look_word.result c.look_word.new.seat.me (ap (λ p. p.known) c.self.view_is) refl c.requires.table.1 c.look_word.ensures.told in
    let own = ap (λ p. p.known.party) (sym c.self.view_is) ∙ c.self.invariant.1 in
    (c.self.inside.party, own, t.4 c.self.inside.party own)
