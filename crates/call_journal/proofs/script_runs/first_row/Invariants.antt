use Rattle.std.proofs.Common.{◌≡◌, [], map}
use Rattle.std.specs.List.{range_with_len}
use Rattle.call_journal.specs.ScriptRuns.{run_of}
use Rattle.call_journal.proofs.script_runs.first_row.Given as goal

abbrev pub invariant-loop-thread : goal.invariant-loop-thread
invariant-loop-thread l = l.row ≡ map (run_of l.scripts [] l.rank) (range_with_len 0 l.thread)
