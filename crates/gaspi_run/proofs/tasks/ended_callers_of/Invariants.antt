use Rattle.std.proofs.Common.{◌≡◌, take}
use Rattle.std.specs.List.{All}
use Rattle.gaspi_run.specs.ThreadBodies.{IsDone, ended_callers}
use Rattle.gaspi_run.proofs.tasks.ended_callers_of.Given as goal

abbrev pub invariant-loop-task : goal.invariant-loop-task
invariant-loop-task l = (l.outcomes ≡ ended_callers (take l.task-index l.tasks)) × All (λ t. IsDone t.body) (take l.task-index l.tasks)
