use Rattle.std.proofs.Common.{◌≡◌, ◌++◌, length}
use Rattle.gaspi_run.specs.ThreadBodies.{EachAt, IsReady}
use Rattle.gaspi_run.proofs.tasks.tasks_of.Given as goal

abbrev pub invariant-loop-pass : goal.invariant-loop-pass
invariant-loop-pass l =
    (length l.tasks.items ≡ length l.yielded) × EachAt (IsReady l.world l.scripts l.limit) l.tasks.items × (l.yielded ++ l.pass-iterator.rest.items ≡ l.fn.passes.items)
