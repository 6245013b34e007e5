use Rattle.std.proofs.Common.{subst}
use Rattle.std.proofs.lemmas.Result.{IfOk-weaker}
use Rattle.call_journal.specs.Verdicts.{IsVerdict}
use Rattle.call_journal.proofs.verdicts.check.Goals as goal

pub returns-clause-handed : goal.returns-clause-handed
returns-clause-handed c =
    let w = c.args.shape.now in
    let journal = c.args.journal.now in
    IfOk-weaker c.replay.result _ _ (λ verdict judged same. c.notification_values.ensures w journal c.limits.ensures.world (subst (IsVerdict w journal) same judged)) c.replay.ensures

pub returns-clause-contributed : goal.returns-clause-contributed
returns-clause-contributed c =
    let w = c.args.shape.now in
    let journal = c.args.journal.now in
    IfOk-weaker c.replay.result _ _ (λ verdict judged same. c.contribution_counts.ensures w journal c.limits.ensures.world (subst (IsVerdict w journal) same judged)) c.replay.ensures
