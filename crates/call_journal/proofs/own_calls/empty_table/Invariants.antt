use Rattle.std.proofs.Common.{◌≡◌, [], replicate}
use Rattle.call_journal.proofs.own_calls.empty_table.Given as goal

abbrev pub invariant-loop-rank : goal.invariant-loop-rank
invariant-loop-rank l = l.table ≡ replicate l.rank (replicate 4 [])
