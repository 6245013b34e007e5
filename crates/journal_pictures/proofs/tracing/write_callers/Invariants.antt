use Rattle.std.proofs.Common.{◌≡◌, ◌++◌, drop, map}
use Rattle.journal_pictures.specs.JsonLines.{lines}
use Rattle.journal_pictures.specs.Trace.{caller_name}
use Rattle.journal_pictures.proofs.tracing.write_callers.Given as goal

-- the lines so far, and those that are left
abbrev pub invariant-loop-caller : goal.invariant-loop-caller
invariant-loop-caller l = l.text ++ lines (map caller_name (drop l.caller-index l.callers)) ≡ l.fn.text ++ lines (map caller_name l.callers)
