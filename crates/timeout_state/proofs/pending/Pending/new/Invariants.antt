use Rattle.std.proofs.Common.{◌≡◌, None, replicate}
use Rattle.timeout_state.proofs.pending.Pending.new.Given as goal

abbrev pub invariant-loop-group : goal.invariant-loop-group
invariant-loop-group l = l.table ≡ replicate l._group None
