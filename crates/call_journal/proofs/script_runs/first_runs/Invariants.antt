use Rattle.std.proofs.Common.{◌≡◌, ℕ, [], map}
use Rattle.std.specs.List.{range_with_len}
use Rattle.call_journal.specs.ScriptRuns.{run_of}
use Rattle.call_journal.proofs.script_runs.first_runs.Given as goal

abbrev pub invariant-loop-rank : goal.invariant-loop-rank
invariant-loop-rank l = l.runs ≡ map (λ (rank : ℕ). map (run_of l.scripts [] rank) (range_with_len 0 4)) (range_with_len 0 l.rank)
