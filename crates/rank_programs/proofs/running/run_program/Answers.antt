use Rattle.std.proofs.Common.{◌<◌, Some, [], length, sym, ap, subst, arith}
use Rattle.gaspi_types.specs.World.{ShapeValue}
use Rattle.gaspi_types.specs.declared.events.Event.{Event}
use Rattle.commit_table.specs.Views.{new_pass}
use Rattle.gaspi_world.specs.Callers.{IsPassOf}
use Rattle.rank_programs.proofs.BodyRuns.{made-each}
use Rattle.rank_programs.proofs.running.run_program.Goals as goal

pub run_bodies-requires-clause-passes : goal.run_bodies-requires-clause-passes
run_bodies-requires-clause-passes g c κs within = made-each c.in_ok-world.field-0.world _ c.in_ok-world.field-0.passes.items c.in_ok-world.ensures.count c.in_ok-world.ensures.passes

pub run_bodies-requires-clause-callers : goal.run_bodies-requires-clause-callers
run_bodies-requires-clause-callers g c κs within = λ place less.
    let world = c.in_ok-world.field-0.world in
    let start = c.in_ok-world.ensures.start in
    let same = ap (λ (w : ShapeValue). length w.callers) start in
    let below : place < length c.args.shape.now.callers = omega arith in
    let there = c.in_ok-world.ensures.callers place below in
    (there.0, subst (λ (w : ShapeValue). IsPassOf w there.0 (new_pass {E = Event} world.start (Some place) [])) (sym start) there.1)
