use Rattle.std.proofs.Common.{subst}
use Rattle.std.proofs.lemmas.Result.{IfOk-weaker}
use Rattle.call_journal.specs.Verdicts.{IsVerdict}
use Rattle.call_journal.specs.declared.verdicts.Verdict.{Verdict}
use Rattle.call_journal.proofs.explanations.why.Goals as goal

pub explained-requires : goal.explained-requires
explained-requires c =
    let legal = subst (λ (verdict : Verdict). IsVerdict c.args.shape.now c.args.journal.now verdict) c.in-Legal.is c.in_ok-check.ensures.verdict in
    c.history_lengths.ensures.most c.args.shape.now c.args.journal.now c.limits.ensures.world legal

pub returns-in-Legal : goal.returns-in-Legal
returns-in-Legal c =
    let legal = subst (λ (verdict : Verdict). IsVerdict c.args.shape.now c.args.journal.now verdict) c.in-Legal.is c.in_ok-check.ensures.verdict in
    IfOk-weaker c.explained.result _ _ (λ answer h. h c.args.shape.now c.limits.ensures.world legal) c.explained.ensures
