use Rattle.std.proofs.Common.{◌≡◌, ◌++◌, ◌∷◌, [], ℕ, ap, ◌∙◌}
use Rattle.call_texts.proofs.PlainLines.{plain-fed, plain-kept}
use Rattle.call_texts.proofs.lines.plain_line.Goals as goal

pub returns-then-last-eq10 : goal.returns-then-last-eq10
returns-then-last-eq10 c =
    let cut : c.args.line.now ≡ c.in-Some.front.now ++ c.in-Some.last.now ∷ [] = cc c.in-Some.ensures.cases.0 in
    c.without_return.ensures ∙ plain-fed c.args.line.now c.in-Some.front.now (cut ∙ ap (λ (byte : ℕ). c.in-Some.front.now ++ byte ∷ []) c.if-last-eq10.true)

pub returns-else-last-eq10 : goal.returns-else-last-eq10
returns-else-last-eq10 c =
    plain-kept c.args.line.now c.in-Some.front.now c.in-Some.last.now (cc c.in-Some.ensures.cases.0) c.if-last-eq10.false
