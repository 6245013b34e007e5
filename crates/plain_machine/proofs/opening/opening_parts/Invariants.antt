use Rattle.std.proofs.Common.{◌≡◌, replicate}
use Rattle.gaspi_model.specs.State.{opening_part}
use Rattle.plain_machine.proofs.opening.opening_parts.Given as goal

abbrev pub invariant-loop-rank : goal.invariant-loop-rank
invariant-loop-rank l = l.parts ≡ replicate l._rank opening_part
