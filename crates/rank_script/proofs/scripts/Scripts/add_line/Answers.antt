use Rattle.std.proofs.Common.{◌≡◌, ◌+◌, ◌-◌, ◌∷◌, ◌++◌, [], length, Some, ap, arith}
use Rattle.std.specs.List.{slice_get}
use Rattle.std.proofs.lemmas.Result.{on_ok_weaker, on_err_weaker}
use Rattle.rank_script.proofs.AddedLines.{slice_set-with_line, slice_set-same}
use Rattle.rank_script.proofs.scripts.Scripts.add_line.Goals as goal

pub returns-clause-ok : goal.returns-clause-ok
returns-clause-ok c = on_ok_weaker c.push.result (λ (is : c.push.new.self ≡ c.at_mut-script.result.now.lines ++ c.args.line ∷ []).
    let last : c.len-last.result - 1 + 1 ≡ length c.args.self.now = omega (arith, ap length c.self.view_is) in
    let there : slice_get c.args.self.now (c.len-last.result - 1) ≡ Some c.at_mut-script.result.now = rw c.self.view_is at c.at_mut-script.ensures.value in
    rw (c.self.view_is, is) (slice_set-with_line c.args.self.now (c.len-last.result - 1) c.at_mut-script.result.now c.args.line last there)) c.push.ensures.ok

pub returns-clause-err : goal.returns-clause-err
returns-clause-err c = on_err_weaker c.push.result (λ (is : c.push.new.self ≡ c.at_mut-script.result.now.lines).
    let there : slice_get c.args.self.now (c.len-last.result - 1) ≡ Some c.at_mut-script.result.now = rw c.self.view_is at c.at_mut-script.ensures.value in
    rw (c.self.view_is, is) (slice_set-same c.args.self.now (c.len-last.result - 1) c.at_mut-script.result.now there)) c.push.ensures.err
