use Rattle.std.proofs.Common.{◌≡◌, map}
use Rattle.call_journal.specs.ScriptRuns.{told_item}
use Rattle.call_journal.proofs.script_runs.told_runs.Given as goal

abbrev pub invariant-loop-row : goal.invariant-loop-row
invariant-loop-row l = l.told ≡ map (map told_item) l.yielded
