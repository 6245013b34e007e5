use Rattle.rank_programs.specs.Callers.{StaysCaller}
use Rattle.jacobi.proofs.solve.Given as goal

abbrev pub invariant-loop-iterations : goal.invariant-loop-iterations
invariant-loop-iterations g l = StaysCaller l.fn.caller l.caller
