use Rattle.std.proofs.Common.{ap, subst, ◌∙◌}
use Rattle.commit_table.specs.Views.{shorter, also_seen}
use Rattle.commit_table.specs.Calls.{Looked}
use Rattle.commit_table.proofs.Looking.{seen_of, seen_both}
use Rattle.commit_table.proofs.pass.Pass.learn.Goals as goal

pub returns-clause-told : goal.returns-clause-told
returns-clause-told g c =
    let heard = c.join_note.ensures.told in
    let old = ap (λ p. p.known) c.self.view_is in
    let other = ap (λ p. p.known.seen) c.note.view_is in
    let s = c.args.note.known.seen in
    let v = c.args.self.now.known in
    let known = ap (λ z. z.0.known) heard ∙ (ap (λ z. also_seen z c.note.inside.seat.me.0.known.seen) old ∙ ap (λ z. also_seen v z) other) in
    let kept = ap (λ z. z.0.note_history) heard ∙ (ap (λ z. shorter z.seen c.note.inside.seat.me.0.known.seen) old ∙ ap (λ z. shorter v.seen z) other) in
    let start = c.args.board.now.key.start in
    let n = c.args.board.now.key.passes in
    let joined = seen_of g.M.Sharded.machine start n c.join_note.new.seat.me.0.known (also_seen v s) _ (shorter v.seen s) c.look_word.result c.look_word.new.seat.me known kept c.requires.table.1 c.look_word.ensures.told in
    let t = seen_both g.M.Sharded.machine start n v s c.look_word.result c.look_word.new.seat.me.0.known joined in
    (t.0, subst (λ k. Looked (g.M.Sharded.machine start) v k t.0 c.look_word.new.seat.me.0.known) t.3 t.1, t.2)
