use Rattle.std.proofs.Common.{◌≡◌, ℕ, ◌∷◌, ◌++◌, [], List, length, length-append, sym, ap, subst, arith}
use Rattle.std.proofs.lemmas.Grind.{common_steps}
use Rattle.gaspi_world.specs.declared.launching.Task.{Task}
use Rattle.rank_programs.specs.ThreadBodies.{EachAt, IsReady}
use Rattle.rank_programs.specs.declared.thread_bodies.ThreadBody.{ThreadBody}
use Rattle.rank_programs.proofs.BodyRuns.{each-more, made-next}
use Rattle.rank_programs.proofs.running.tasks_of.Goals as goal

pub loop-pass-preserved : goal.loop-pass-preserved
loop-pass-preserved g c =
    let tasks = c.loop-pass.tasks.items in
    let task = c.task_of-task.result in
    let more : c.push.new.self.items ≡ tasks ++ task ∷ [] = c.in_ok-push.ensures.items in
    let place : c.len-in-loop-pass.result ≡ length tasks = omega (arith, c.len-in-loop-pass.ensures, c.loop-pass.tasks.ok.0) in
    let ready = subst (λ (n : ℕ). IsReady c.args.world.now n task) place c.task_of-task.ensures in
    let all = each-more (IsReady c.args.world.now) tasks task c.loop-pass.invariant.1 ready in (
      omega (arith, ap length more, length-append tasks (task ∷ []), length-append c.loop-pass.yielded (c.in-Some.pass ∷ []), c.loop-pass.invariant.0),
      subst (λ (ts : List (Task (ThreadBody _ _))). EachAt (IsReady c.args.world.now) ts) (sym more) all,
      grind (arith, common_steps),
    )

pub task_of-task-requires : goal.task_of-task-requires
task_of-task-requires g c =
    let all = c.loop-pass.invariant.2 in
    let rest = c.in-Some.ensures.steps in
    made-next c.args.world.now c.loop-pass.yielded c.in-Some.pass c.next.new.self.rest.items c.args.passes.items c.len-in-loop-pass.result c.requires (grind (arith, common_steps)) (omega (arith, c.len-in-loop-pass.ensures, c.loop-pass.tasks.ok.0, c.loop-pass.invariant.0))
