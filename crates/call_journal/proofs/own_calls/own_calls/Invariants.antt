use Rattle.std.proofs.Common.{take}
use Rattle.call_journal.specs.OwnCalls.{IsCallTable}
use Rattle.call_journal.proofs.own_calls.own_calls.Given as goal

abbrev pub invariant-loop-event : goal.invariant-loop-event
invariant-loop-event l = IsCallTable l.table (take l.event-index l.history)
