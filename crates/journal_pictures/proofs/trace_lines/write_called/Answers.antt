use Rattle.std.proofs.Common.{◌++◌, Option, Some, ap, ◌∙◌}
use Rattle.std.proofs.lemmas.Result.{on_ok_weaker}
use Rattle.journal_pictures.specs.JsonLines.{lines}
use Rattle.journal_pictures.specs.Trace.{arrow_to, call_slice, done_marks, got_slot}
use Rattle.journal_pictures.specs.declared.set_slots.SetSlot.{SetSlot}
use Rattle.journal_pictures.proofs.TraceTexts.{line-and-lists}
use Rattle.journal_pictures.proofs.trace_lines.write_called.Goals as goal

pub returns : goal.returns
returns c =
    let place = c.args.place in
    let caller = c.args.caller.now in
    let call = c.args.call.now in
    let reply = c.args.reply.now in
    on_ok_weaker c.write_arrow_to.result
    (λ added. line-and-lists c.args.text.now c.write_call_slice.new.text c.write_done.new.text c.write_arrow_to.new.text
    (call_slice place caller call reply) (done_marks place caller.rank (Some c.args.own.now) call reply) (arrow_to place caller (got_slot c.args.slots.now caller call reply))
    c.in_ok-write_call_slice.ensures c.in_ok-write_done.ensures
    (added ∙ ap (λ (s : Option SetSlot). c.write_done.new.text ++ lines (arrow_to place caller s)) c.got_slot.ensures))
    c.write_arrow_to.ensures
