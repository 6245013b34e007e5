use Rattle.std.proofs.Common.{◌≡◌, ◌++◌, length}
use Rattle.rank_programs.specs.ThreadBodies.{EachAt, IsReady}
use Rattle.rank_programs.proofs.running.tasks_of.Given as goal

abbrev pub invariant-loop-pass : goal.invariant-loop-pass
invariant-loop-pass g l = (length l.tasks.items ≡ length l.yielded) × EachAt (IsReady l.world) l.tasks.items × (l.yielded ++ l.pass-iterator.rest.items ≡ l.fn.passes.items)
