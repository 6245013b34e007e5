use Rattle.std.proofs.Common.{◌≡◌, ℕ, ◌∷◌, ◌++◌, [], List, length, length-append, sym, ap, subst, arith}
use Rattle.std.proofs.lemmas.Grind.{common_steps}
use Rattle.gaspi_world.specs.declared.launching.Task.{Task}
use Rattle.gaspi_run.specs.ThreadBodies.{EachAt, IsReady}
use Rattle.gaspi_run.specs.declared.thread_bodies.ThreadBody.{ThreadBody}
use Rattle.gaspi_run.proofs.BodyRuns.{each-more}
use Rattle.gaspi_run.proofs.tasks.tasks_of.Goals as goal

pub loop-pass-preserved : goal.loop-pass-preserved
loop-pass-preserved c =
    let tasks = c.loop-pass.tasks.items in
    let task = c.in_ok-task.task in
    let more : c.push.new.self.items ≡ tasks ++ task ∷ [] = c.in_ok-push.ensures.items in
    let place : c.len-in-loop-pass.result ≡ length tasks = omega (arith, c.len-in-loop-pass.ensures, c.loop-pass.tasks.ok.0) in
    let ready = subst (λ (n : ℕ). IsReady c.args.world.now c.args.scripts.now c.args.limit n task) place c.in_ok-task.ensures in
    let all = each-more (IsReady c.args.world.now c.args.scripts.now c.args.limit) tasks task c.loop-pass.invariant.1 ready in (
      omega (arith, ap length more, length-append tasks (task ∷ []), length-append c.loop-pass.yielded (c.in-Some.pass ∷ []), c.loop-pass.invariant.0),
      subst (λ (ts : List (Task ThreadBody)). EachAt (IsReady c.args.world.now c.args.scripts.now c.args.limit) ts) (sym more) all,
      grind (arith, common_steps),
    )
