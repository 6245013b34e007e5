use Rattle.std.proofs.Common.{◌≡◌, ℕ, ◌+◌, ◌-◌, List, ◌∷◌, [], ◌++◌, length, ap, arith, ◌∙◌}
use Rattle.call_journal.proofs.CalledLines.{last-grown}
use Rattle.call_journal.proofs.called_lines.CalledLines.extend_last.Goals as goal

pub returns : goal.returns
returns c =
    let count : length c.self.inside.ranges ≡ c.len-count.result - 1 + 1 = omega (arith, c.len-count.ensures, c.if-count-eq0.false) in
    let line : c.args.line ≡ c.at.result.now.first + c.at.result.now.more + 1 = omega (arith, c.from.ensures, c.from-else-more.ensures, c.if-from-line.false) in
    rw c.set.ensures (last-grown c.self.inside.ranges (c.len-count.result - 1) c.at.result.now c.args.line c.at.ensures count line ∙ ap (λ (ns : List ℕ). ns ++ c.args.line ∷ []) c.self.view_is)
