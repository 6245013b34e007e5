use Rattle.std.proofs.Common.{List, ap, ◌∙◌, subst}
use Rattle.std.specs.List.{All}
use Rattle.gaspi_world.specs.declared.launching.Task.{Task}
use Rattle.gaspi_run.specs.ThreadBodies.{IsDone, ended_callers}
use Rattle.gaspi_run.specs.declared.thread_bodies.ThreadBody.{ThreadBody}
use Rattle.gaspi_run.proofs.BodyRuns.{all-need, all-ran}
use Rattle.gaspi_run.proofs.tasks.run_bodies.Goals as goal

pub run_tasks-requires-after_bounds : goal.run_tasks-requires-after_bounds
run_tasks-requires-after_bounds g c κs within =
    all-need c.args.world.now c.args.scripts.now c.args.limit c.in_ok-tasks.tasks.items c.in_ok-tasks.ensures.ready c.requires.limit c.len-callers.ensures.plain c.len-callers.ensures.looks

pub returns-clause-ran : goal.returns-clause-ran
returns-clause-ran g c = record {
  tasks = c.run_tasks.new.tasks.items;
  ran = all-ran c.args.world.now c.args.scripts.now c.args.limit c.in_ok-tasks.tasks.items c.run_tasks.new.tasks.items c.in_ok-tasks.ensures.ready c.run_tasks.ensures.ran;
  told = subst (All (λ (t : Task ThreadBody). IsDone t.body)) c.as_slice.ensures.value c.in_ok-outcomes.ensures.told;
  count = c.run_tasks.ensures.count ∙ (c.in_ok-tasks.ensures.count ∙ c.requires.count);
  passes_are = c.in_ok-passes.ensures;
  finished_are = c.in_ok-outcomes.ensures.finished ∙ ap (λ (ts : List (Task ThreadBody)). ended_callers ts) c.as_slice.ensures.value;
}
