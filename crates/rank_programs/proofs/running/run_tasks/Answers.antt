use Rattle.std.proofs.Common.{◌≡◌, List, length, drop, sym, ap, ◌∙◌, arith}
use Rattle.std.specs.List.{slice_get}
use Rattle.gaspi_world.specs.declared.launching.Task.{Task}
use Rattle.rank_programs.specs.declared.thread_bodies.ThreadBody.{ThreadBody}
use Rattle.rank_programs.proofs.BodyRuns.{front-at}
use Rattle.rank_programs.proofs.running.run_tasks.Goals as goal

pub returns-clause-ran : goal.returns-clause-ran
returns-clause-ran g c = λ place task at.
    let new = c.run_slice.new.tasks in
    let count : c.args.tasks.now.len ≡ length new = omega (arith, c.args.tasks.now.ok.0, ap length c.as_mut_slice.ensures.value, c.run_slice.ensures.count) in
    let did = c.run_slice.ensures.ran place task (front-at c.args.tasks.now.len new (drop (length new) c.args.tasks.now.items) place task count at) in
    (did.0, sym (ap (λ (ts : List (Task (ThreadBody _ _))). slice_get ts place) c.as_mut_slice.ensures.value) ∙ did.1, did.2)
