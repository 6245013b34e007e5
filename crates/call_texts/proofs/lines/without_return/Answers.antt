use Rattle.std.proofs.Common.{◌≡◌, ◌++◌, ◌∷◌, [], ℕ, ap, ◌∙◌}
use Rattle.call_texts.proofs.PlainLines.{without-dropped, without-kept}
use Rattle.call_texts.proofs.lines.without_return.Goals as goal

pub returns-then-last-eq13 : goal.returns-then-last-eq13
returns-then-last-eq13 c =
    let cut : c.args.line.now ≡ c.in-Some.front.now ++ c.in-Some.last.now ∷ [] = cc c.in-Some.ensures.cases.0 in
    without-dropped 13 c.args.line.now c.in-Some.front.now (cut ∙ ap (λ (byte : ℕ). c.in-Some.front.now ++ byte ∷ []) c.if-last-eq13.true)

pub returns-else-last-eq13 : goal.returns-else-last-eq13
returns-else-last-eq13 c =
    without-kept 13 c.args.line.now c.in-Some.front.now c.in-Some.last.now (cc c.in-Some.ensures.cases.0) c.if-last-eq13.false
