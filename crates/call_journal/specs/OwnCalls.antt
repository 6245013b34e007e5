-- The calls of each caller in a history, found once for all callers.
use Rattle.std.specs.Prelude.{◌≡◌, ℕ, List, map}
use Rattle.gaspi_types.specs.declared.calls.Call.{Call}
use Rattle.gaspi_types.specs.declared.replies.Reply.{Reply}
use Rattle.gaspi_types.specs.declared.events.Event.{Event}
use Rattle.gaspi_model.specs.Step.{recorded_calls}
use Rattle.call_journal.specs.CallerTables.{IsCallerTable}
use Rattle.call_journal.specs.declared.own_calls.RecordedCall.{RecordedCall}

-- the calls and their replies
abbrev pub pairs_of : List RecordedCall → List (Call × Reply)
pairs_of calls = map (λ (own : RecordedCall). (own.call.now, own.reply.now)) calls

-- these are the calls that a caller makes in a history
abbrev pub AreCallsOf : List Event → ℕ → ℕ → List RecordedCall → Type 0
AreCallsOf history rank thread calls = pairs_of calls ≡ recorded_calls rank thread history

-- a table of the calls that each caller makes in a history
abbrev pub IsCallTable : List (List (List RecordedCall)) → List Event → Type 0
IsCallTable table history = IsCallerTable (AreCallsOf history) table
