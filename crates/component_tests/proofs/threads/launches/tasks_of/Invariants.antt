use Rattle.std.proofs.Common.{◌≡◌, ◌++◌, map}
use Rattle.component_tests.proofs.threads.launches.tasks_of.Given as goal

abbrev pub invariant-loop-pass : goal.invariant-loop-pass
invariant-loop-pass l = (map (λ t. t.pass) l.tasks.items ≡ l.yielded) × (l.yielded ++ l.pass-iterator.rest.items ≡ l.fn.passes.items)
