use Rattle.std.proofs.Common.{length, ◌-◌}
use Rattle.gaspi_io.proofs.GivenBytes.{Read}
use Rattle.gaspi_io.proofs.read.read_all.Given as goal

abbrev pub invariant-loop-bytes : goal.invariant-loop-bytes
invariant-loop-bytes g l = Read (g.S.Source.left l.initial.source) (g.S.Source.faults l.initial.source) l.most l.bytes (g.S.Source.left l.source) (g.S.Source.faults l.source)

abbrev pub decreases-loop-bytes : goal.decreases-loop-bytes
decreases-loop-bytes g l = l.most - length l.bytes
