use Rattle.std.proofs.Common.{◌≡◌, ◌++◌, map}
use Rattle.component_tests.proofs.threads.launches.passes_of.Given as goal

abbrev pub invariant-loop-task : goal.invariant-loop-task
invariant-loop-task l = (l.passes.items ≡ map (λ t. t.pass) l.yielded) × (l.yielded ++ l.task-iterator.rest.items ≡ l.fn.tasks.items)
