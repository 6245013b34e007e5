use Rattle.std.proofs.Common.{◌≡◌, ◌++◌, map}
use Rattle.rank_programs.specs.ThreadBodies.{outcomes_in}
use Rattle.rank_programs.proofs.running.split.Given as goal

abbrev pub invariant-loop-task : goal.invariant-loop-task
invariant-loop-task g l = (l.passes.items ≡ map (λ t. t.pass) l.yielded) × (l.outcomes.items ≡ outcomes_in l.yielded) × (l.yielded ++ l.task-iterator.rest.items ≡ l.fn.tasks.items)
