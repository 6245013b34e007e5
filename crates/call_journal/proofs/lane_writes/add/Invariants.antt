use Rattle.std.proofs.Common.{◌≡◌, ◌-◌, ◌++◌}
use Rattle.call_journal.specs.LaneWrites.{new_writes}
use Rattle.call_journal.proofs.lane_writes.add.Given as goal

-- the writes so far and those to come are all
abbrev pub invariant-loop-number : goal.invariant-loop-number
invariant-loop-number l = l.writes.items ++ new_writes l.place l.number (l.number-end - l.number) ≡ l.fn.writes.items ++ new_writes l.place l.fn.first l.fn.count
