use Rattle.std.proofs.Common.{◌≡◌, ◌<◌, ◌++◌, List, length, sym, ap, ◌∙◌, append-nil, arith, option_to_list}
use Rattle.gaspi_run.specs.ThreadBodies.{ended_caller}
use Rattle.plain_schedule.specs.declared.schedule_states.EndedCaller.{EndedCaller}
use Rattle.gaspi_run.proofs.BodyRuns.{finished-more, told-more}
use Rattle.gaspi_run.proofs.tasks.ended_callers_of.Goals as goal
use Rattle.gaspi_run.proofs.tasks.ended_callers_of.Goals.{in-Some+in_ok-push, in_default}

pub loop-task-preserved : goal.loop-task-preserved
loop-task-preserved c =
    let tasks = c.args.tasks.now in
    let i = c.loop-task.task-index in
    let task = c.task-item.result in
    let had : List EndedCaller = c.loop-task.outcomes in
    let less : i < length tasks = omega arith in
    let found = c.in_ok-finished.ensures in
    let more : c.match-branch-3.outcomes ≡ had ++ ended_caller task.body =
    elim c.match-branch-3.branch [
      | in-Some+in_ok-push w ↦ w.outcomes-is ∙ (w.in_ok-push.ensures.ok ∙ ap (λ (fs : List EndedCaller). had ++ fs) (sym (ap (option_to_list {X = EndedCaller}) w.in-Some.is) ∙ found.finished))
      | in_default w ↦ w.outcomes-is ∙ (sym (append-nil had) ∙ ap (λ (fs : List EndedCaller). had ++ fs) (sym (ap (option_to_list {X = EndedCaller}) w.in_default.is) ∙ found.finished))
    ] in
    (finished-more tasks i task had c.match-branch-3.outcomes less c.task-item.is c.loop-task.invariant.0 more, told-more tasks i task less c.task-item.is c.loop-task.invariant.1 found.told)
