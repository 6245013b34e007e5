use Rattle.std.proofs.Common.{◌≡◌, Option, Some, refl, sym, ◌∙◌, subst}
use Rattle.gaspi_world.specs.declared.starts.Start.{Start}
use Rattle.gaspi_run.specs.Runs.{HasRun}
use Rattle.gaspi_run.proofs.GoingOn.{has-run}
use Rattle.gaspi_run.proofs.bodies.ScriptBodyBody.run.Goals as goal

pub returns : goal.returns
returns g c = (
  c.run_lines-outcome.ensures.script,
  c.run_lines-outcome.ensures.limit,
  record {
    table = c.end.ensures.table ∙ c.run_lines-outcome.ensures.table;
    free = c.end.ensures.free;
    run = λ start is. (
      c.run_lines-outcome.result,
      refl,
      let both : ◌≡◌ {A = Option Start} (Some c.args.world.now.start) (Some start) = sym c.requires.1.table.1 ∙ is in
          let same : c.args.world.now.start ≡ start = cc in
          let so_far = c.run_lines-outcome.ensures.run in
          let caller = c.requires.1.caller in
          subst (λ (s : Start). HasRun s.shape c.args.self.now.script.now.caller c.args.self.now.script.now.lines c.args.self.now.limit c.run_lines-outcome.result c.args.pass.now.known c.end.new.pass.known) same
          (has-run c.args.world.now.start.shape c.args.self.now.script.now.caller c.args.self.now.script.now.lines c.args.self.now.limit c.runs.ensures.ended c.runs.ensures.stopped c.waits_on.ensures.called c.args.pass.now.known c.run_lines-outcome.new.pass.known c.end.new.pass.known
          c.run_lines-outcome.result so_far (c.end.ensures.ends c.args.self.now.script.now.caller (caller.0, so_far.party ∙ caller.1) so_far.active)),
    );
  },
)
