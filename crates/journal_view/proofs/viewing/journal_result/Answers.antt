use Rattle.std.proofs.Common.{Err, ap, inl, inr}
use Rattle.std.proofs.lemmas.Result.{IfOk-weaker}
use Rattle.journal_view.proofs.Telling.{tells-weaker}
use Rattle.journal_view.proofs.viewing.journal_result.Goals as goal

pub fault_result-requires-clause-faulty : goal.fault_result-requires-clause-faulty
fault_result-requires-clause-faulty c line is = c.in-Err.ensures.fault line (ap Err is)

pub returns-in-Ok : goal.returns-in-Ok
returns-in-Ok c =
    IfOk-weaker c.picture_result.result _ _
    (λ told tells. tells-weaker _ _ _ told (λ status text picture. inr (record { journal = c.in-Ok.journal; journal_is = c.in-Ok.ensures.text; ranges = c.in-Ok.ensures.ranges; picture = picture })) tells)
    c.picture_result.ensures

pub returns-in_ok-told-in-Err : goal.returns-in_ok-told-in-Err
returns-in_ok-told-in-Err c = inl c.in_ok-told-in-Err.ensures
