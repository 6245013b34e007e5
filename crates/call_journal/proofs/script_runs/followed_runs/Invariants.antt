use Rattle.std.proofs.Common.{take}
use Rattle.call_journal.specs.ScriptRuns.{IsRunTable}
use Rattle.call_journal.proofs.script_runs.followed_runs.Given as goal

abbrev pub invariant-loop-event : goal.invariant-loop-event
invariant-loop-event l = IsRunTable l.runs l.scripts (take l.event-index l.history)
