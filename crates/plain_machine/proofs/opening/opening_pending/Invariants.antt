use Rattle.std.proofs.Common.{◌≡◌, None, replicate}
use Rattle.plain_machine.proofs.opening.opening_pending.Given as goal

abbrev pub invariant-loop-group : goal.invariant-loop-group
invariant-loop-group l = l.pending ≡ replicate l._group None
