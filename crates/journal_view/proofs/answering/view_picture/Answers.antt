use Rattle.std.proofs.Common.{Err, sym, ap, ◌∙◌}
use Rattle.rank_script.specs.WorldText.{checked_world}
use Rattle.journal_view.proofs.InputAnswers.{answered-told, answered-stop}
use Rattle.journal_view.proofs.answering.view_picture.Goals as goal

pub returns-in-Ok : goal.returns-in-Ok
returns-in-Ok g c =
    answered-told _ _ _ _ _ _ _ _ _ c.answer_result.result c.read_all.ensures.taken c.in-Ok.input c.view_result.result c.in-Ok.ensures.all c.in-Ok.ensures.end c.in-Ok.ensures.within c.in-Ok.ensures.still
    (rw (sym c.as_slice.ensures) c.view_result.ensures.told) (λ number line is. ap checked_world (sym c.as_slice.ensures) ∙ c.view_result.ensures.fault number line is) c.answer_result.ensures

pub returns-in-Err : goal.returns-in-Err
returns-in-Err g c =
    answered-stop _ _ _ _ _ _ _ _ _ c.answer_stop.result c.read_all.ensures.taken c.in-Err.stop (λ is. c.in-Err.ensures.long (ap Err is)) (λ is. c.in-Err.ensures.past (ap Err is))
    (λ is. c.in-Err.ensures.cause (ap Err is)) (λ is. c.in-Err.ensures.still_long (ap Err is)) (λ is. c.in-Err.ensures.still_memory (ap Err is)) c.answer_stop.ensures
