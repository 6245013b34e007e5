use Rattle.std.proofs.Common.{◌≡◌, map}
use Rattle.call_journal.specs.ScriptRuns.{told_item}
use Rattle.call_journal.proofs.script_runs.told_row.Given as goal

abbrev pub invariant-loop-run : goal.invariant-loop-run
invariant-loop-run l = l.told ≡ map told_item l.yielded
