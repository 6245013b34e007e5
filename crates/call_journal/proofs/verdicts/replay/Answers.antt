use Rattle.std.proofs.Common.{sym}
use Rattle.call_journal.proofs.Replays.{reached-more}
use Rattle.call_journal.proofs.verdicts.replay.Goals as goal

pub loop-place-preserved : goal.loop-place-preserved
loop-place-preserved c =
    let is = c.event-item.is in
    let stepped = c.in-Ok.ensures.step in
    let less = c.loop-place-test.true in
    reached-more c.args.shape.now c.args.journal.now c.loop-place.place c.event-item.result c.loop-place.machine c.step.new.self (rw (sym c.as_slice-event-items.ensures) less) (rw (sym c.as_slice-event-items.ensures) is) c.loop-place.invariant stepped
