use Rattle.std.proofs.Common.{◌≡◌, [], replicate}
use Rattle.plain_machine.proofs.opening.opening_lanes.Given as goal

abbrev pub invariant-loop-rank : goal.invariant-loop-rank
invariant-loop-rank l = l.lanes ≡ replicate l._rank []
