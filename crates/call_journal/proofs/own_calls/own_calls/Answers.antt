use Rattle.std.proofs.Common.{List, take}
use Rattle.gaspi_types.specs.declared.events.Event.{Event}
use Rattle.call_journal.specs.OwnCalls.{IsCallTable}
use Rattle.call_journal.proofs.Calling.{called-table, uncalled-table}
use Rattle.call_journal.proofs.OwnCalls.{front-more}
use Rattle.call_journal.proofs.own_calls.own_calls.Goals.{in-Called+in_ok-add_call, in_default}
use Rattle.call_journal.proofs.own_calls.own_calls.Goals as goal

pub loop-event-preserved : goal.loop-event-preserved
loop-event-preserved c =
    front-more (λ (events : List Event). IsCallTable c.match-event.table events) c.args.history.now c.loop-event.event-index c.event-item.result c.loop-event-test.true c.event-item.is
    (elim c.match-event.branch [
      | in-Called+in_ok-add_call w ↦
          rw (w.table-is, w.in_ok-add_call.ensures, w.in-Called.is)
          (called-table c.loop-event.table (take c.loop-event.event-index c.args.history.now) w.in-Called.caller _ c.loop-event.invariant)
      | in_default w ↦
          rw w.table-is (uncalled-table c.loop-event.table (take c.loop-event.event-index c.args.history.now) c.event-item.result w.in_default.not-Called c.loop-event.invariant)
    ])
