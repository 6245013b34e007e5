use Rattle.std.proofs.Common.{◌++◌, ◌∷◌, Option, sym, ap, ◌∙◌}
use Rattle.std.proofs.lemmas.Result.{on_ok_weaker}
use Rattle.gaspi_types.specs.declared.events.Event.{Event}
use Rattle.journal_pictures.specs.JsonLines.{lines}
use Rattle.journal_pictures.specs.OpenEntries.{put_entry}
use Rattle.journal_pictures.specs.Trace.{event_objects, put_marks, put_step, span_end}
use Rattle.journal_pictures.specs.declared.open_entries.OpenEntry.{OpenEntry}
use Rattle.journal_pictures.proofs.trace_lines.write_objects.Goals as goal

pub returns-in-Put : goal.returns-in-Put
returns-in-Put c =
    let put = c.in-Put in
    on_ok_weaker c.write_put.result
    (λ added. added
    ∙ ap (λ (x : Option OpenEntry). c.args.text.now ++ lines (span_end (put_step put.outcome) c.args.place put.origin put.queue put.number ∷ put_marks c.args.place put.origin put.queue x))
    (c.requires.entry ∙ ap (put_entry c.args.ranks.now) put.is)
    ∙ ap (λ (e : Event). c.args.text.now ++ lines (event_objects c.args.ranks.now c.args.slots.now c.args.place e)) (sym put.is))
    c.write_put.ensures
