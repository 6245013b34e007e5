use Rattle.std.proofs.Common.{Err, ap, inl, inr, refl}
use Rattle.journal_pictures.specs.Trace.{trace_text}
use Rattle.journal_view.proofs.answering.answer_trace.Goals as goal

pub returns-in-Err-Fault : goal.returns-in-Err-Fault
returns-in-Err-Fault g c =
    let cut = c.in-Err-Fault.ensures.cut (ap Err c.in-Err-Fault.field-0-is) in
    inl (record {
      meant = 0;
      text = trace_text c.args.shape.now c.args.journal.now;
      is = inl (record { legal = cut.legal; status_is = refl; text_is = refl });
      written = inr (refl, cut.front, c.in-Err-Fault.ensures.cause (ap Err c.in-Err-Fault.field-0-is));
    })
