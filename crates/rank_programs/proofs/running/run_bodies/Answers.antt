use Rattle.std.proofs.Common.{◌≡◌, length, map, ap, ◌∙◌, arith}
use Rattle.rank_programs.specs.ThreadBodies.{HaveRun, outcomes_in}
use Rattle.rank_programs.proofs.BodyRuns.{all-need, have-run, outcomes-all, if_ok-more}
use Rattle.rank_programs.proofs.running.run_bodies.Goals as goal

pub run_tasks-requires-after_bounds : goal.run_tasks-requires-after_bounds
run_tasks-requires-after_bounds g c κs within = all-need c.args.world.now c.requires.callers c.in_ok-tasks.tasks.items c.in_ok-tasks.ensures.ready

pub returns-clause-ran : goal.returns-clause-ran
returns-clause-ran g c =
    let old = c.in_ok-tasks.tasks.items in
    let new = c.run_tasks.new.tasks.items in
    if_ok-more (λ split. split.0.items ≡ map (λ t. t.pass) new) (λ split. HaveRun c.args.world.now split.0.items) c.split.result
    (λ split are. have-run c.args.world.now c.requires.callers old new split.0.items c.in_ok-tasks.ensures.ready c.run_tasks.ensures.ran are c.run_tasks.ensures.count (omega (arith, c.in_ok-tasks.ensures.count, c.requires.worker)))
    c.split.ensures.passes

pub returns-clause-outcomes : goal.returns-clause-outcomes
returns-clause-outcomes g c =
    let old = c.in_ok-tasks.tasks.items in
    let new = c.run_tasks.new.tasks.items in
    if_ok-more (λ split. split.1.items ≡ outcomes_in new) (λ split. length split.1.items ≡ length c.args.world.now.start.shape.callers) c.split.result
    (λ split are. ap length are ∙ outcomes-all c.args.world.now c.requires.callers old new c.in_ok-tasks.ensures.ready c.run_tasks.ensures.ran c.run_tasks.ensures.count (omega (arith, c.in_ok-tasks.ensures.count, c.requires.worker)))
    c.split.ensures.outcomes
