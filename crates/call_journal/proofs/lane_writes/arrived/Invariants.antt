use Rattle.std.proofs.Common.{◌≡◌, ◌++◌, drop}
use Rattle.call_journal.specs.LaneWrites.{arrived}
use Rattle.call_journal.proofs.lane_writes.arrived.Given as goal

-- those so far and those of the writes to come are all
abbrev pub invariant-loop-write : goal.invariant-loop-write
invariant-loop-write l = l.list ++ arrived l.number (drop l.write-index l.writes) ≡ arrived l.number l.fn.writes
