use Rattle.std.proofs.Common.{◌∙◌, suc, ap}
use Rattle.commit_table.proofs.Lists.{left_first, left_later}
use Rattle.commit_table.proofs.Joining.{joined_pass_more}
use Rattle.commit_table.proofs.close.join_all.Goals as goal

pub join_pass-requires-clause-table : goal.join_pass-requires-clause-table
join_pass-requires-clause-table g c = let first = c.loop-pass.invariant.left 0 c.in-Some.pass (left_first _ _ c.in-Some.pass c.in-Some.ensures.steps.0) in (c.loop-pass.invariant.table, c.into_seat.ensures.seat.0 ∙ first.0.0)

pub join_pass-requires-clause-free : goal.join_pass-requires-clause-free
join_pass-requires-clause-free g c i =
    let first = c.loop-pass.invariant.left 0 c.in-Some.pass (left_first _ _ c.in-Some.pass c.in-Some.ensures.steps.0) in
    ap (λ z. Rattle.commit_table.specs.Views.held_at z.0.known.held i) c.into_seat.ensures.seat.1 ∙ first.1 i

pub loop-pass-preserved : goal.loop-pass-preserved
loop-pass-preserved g c =
    let start = c.args.board.now.key.start in
    let known = ap (λ z. z.0.known) c.into_seat.ensures.seat.1 in
    record {
      table = c.join_pass.ensures.seat ∙ c.loop-pass.invariant.table;
      told = joined_pass_more g.M.Sharded.machine g.M.Sharded.lawful start c.args.board.now.key.passes c.loop-pass.seat.me c.join_pass.new.seat.me c.loop-pass.yielded c.in-Some.pass _ c.loop-pass.invariant.told known c.join_pass.ensures.told;
      left = λ k p e. c.loop-pass.invariant.left (suc k) p (left_later _ _ c.in-Some.pass p k c.in-Some.ensures.steps.0 e);
    }
