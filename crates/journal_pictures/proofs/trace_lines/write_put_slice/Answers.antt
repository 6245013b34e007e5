use Rattle.std.proofs.Common.{codes}
use Rattle.std.proofs.lemmas.Result.{on_ok_weaker}
use Rattle.json.specs.Print.{escape_byte}
use Rattle.journal_pictures.specs.Trace.{note_members, queue_track, slice}
use Rattle.journal_pictures.proofs.TraceTexts.{one-line}
use Rattle.journal_pictures.proofs.trace_lines.write_put_slice.Goals as goal

pub returns-in_ok-append_pieces-in-Notification : goal.returns-in_ok-append_pieces-in-Notification
unfolding escape_byte
returns-in_ok-append_pieces-in-Notification c =
    let n = c.in-Notification in
    let arguments = note_members n.segment n.note n.value in
    rw n.is (on_ok_weaker c.end_slice.result (λ added. one-line c.args.text.now c.end_slice.new.text (slice c.args.place c.args.origin (queue_track c.args.queue) (codes "put") arguments) added)
    (rw c.queue_track.ensures at (c.end_slice.ensures c.args.text.now arguments (rw c.from.ensures at c.in_ok-append_pieces-in-Notification.ensures))))
