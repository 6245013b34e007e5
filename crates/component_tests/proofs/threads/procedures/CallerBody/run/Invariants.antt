use Rattle.gaspi_world.specs.Calling.{MayCall}
use Rattle.component_tests.proofs.threads.procedures.CallerBody.run.Given as goal

abbrev pub invariant-loop-line : goal.invariant-loop-line
invariant-loop-line g l =
    (goal.iterator-loop-line g).can_next l.line-iterator
    × (goal.iterator-loop-line g).is_finite l.line-iterator
    × MayCall l.fn.world l.pass
