use Rattle.std.proofs.Common.{List, take}
use Rattle.gaspi_types.specs.declared.events.Event.{Event}
use Rattle.call_journal.specs.ScriptRuns.{IsRunTable}
use Rattle.call_journal.proofs.Following.{followed-table, unfollowed-table}
use Rattle.call_journal.proofs.OwnCalls.{front-more}
use Rattle.call_journal.proofs.script_runs.followed_runs.Goals.{in-Called+in_ok-follow_call, in_default}
use Rattle.call_journal.proofs.script_runs.followed_runs.Goals as goal

pub loop-event-preserved : goal.loop-event-preserved
loop-event-preserved c =
    front-more (λ (events : List Event). IsRunTable c.match-event.runs c.args.scripts.now events) c.args.history.now c.loop-event.event-index c.event-item.result c.loop-event-test.true c.event-item.is
    (elim c.match-event.branch [
      | in-Called+in_ok-follow_call w ↦
          rw (w.runs-is, w.in_ok-follow_call.ensures, w.in-Called.is)
          (followed-table c.loop-event.runs c.args.scripts.now (take c.loop-event.event-index c.args.history.now) w.in-Called.caller _ _ c.loop-event.invariant)
      | in_default w ↦
          rw w.runs-is (unfollowed-table c.loop-event.runs c.args.scripts.now (take c.loop-event.event-index c.args.history.now) c.event-item.result w.in_default.not-Called c.loop-event.invariant)
    ])
