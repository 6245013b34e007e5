use Rattle.std.proofs.Common.{◌≡◌, ◌<◌, length, sym, ap, ◌∙◌, subst, arith}
use Rattle.gaspi_types.specs.World.{ShapeValue}
use Rattle.gaspi_types.specs.declared.events.Event.{Event}
use Rattle.commit_table.specs.Calls.{PassValue}
use Rattle.gaspi_world.specs.Callers.{IsPassOf}
use Rattle.gaspi_world.specs.declared.starts.Start.{Start}
use Rattle.gaspi_run.proofs.tasks.thread_body.Goals as goal

pub caller_body-requires-clause-caller : goal.caller_body-requires-clause-caller
caller_body-requires-clause-caller c =
    let many : length c.callers-callers.result.now ≡ length c.args.world.now.start.shape.callers = ap length (c.callers-callers.ensures ∙ ap (λ (w : ShapeValue). w.callers) c.shape.ensures) in
    let less : c.args.place < length c.args.world.now.start.shape.callers = omega arith in
    let there = c.requires.callers c.args.place less in
    (there.0, subst (λ (p : PassValue Start Event). IsPassOf c.args.world.now.start.shape there.0 p.known) (sym c.requires.pass) there.1)
