use Rattle.std.proofs.Common.{◌≡◌, [], replicate}
use Rattle.call_journal.proofs.own_calls.empty_row.Given as goal

abbrev pub invariant-loop-thread : goal.invariant-loop-thread
invariant-loop-thread l = l.row ≡ replicate l.thread []
