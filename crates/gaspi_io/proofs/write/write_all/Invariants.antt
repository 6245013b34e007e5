use Rattle.std.proofs.Common.{length, ◌-◌}
use Rattle.gaspi_io.proofs.Written.{Wrote}
use Rattle.gaspi_io.proofs.write.write_all.Given as goal

abbrev pub invariant-loop-done : goal.invariant-loop-done
invariant-loop-done g l = Wrote (g.K.Sink.held l.initial.sink) (g.K.Sink.faults l.initial.sink) l.piece l.done (g.K.Sink.held l.sink) (g.K.Sink.faults l.sink)

abbrev pub decreases-loop-done : goal.decreases-loop-done
decreases-loop-done g l = length l.piece - l.done
