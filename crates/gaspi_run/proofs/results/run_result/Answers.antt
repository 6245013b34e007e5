-- What a run on threads tells.
use Rattle.std.proofs.Common.{refl, ap, ◌∙◌}
use Rattle.gaspi_run.specs.Command.{run_status}
use Rattle.gaspi_run.proofs.results.run_result.Goals as goal

pub returns-clause-told : goal.returns-clause-told
returns-clause-told g c = rw c.in_ok-told.ensures (record {
  world = c.in_ok-shape.shape;
  scripts = c.in_ok-shape.scripts;
  finished = c.in_ok-journal.field-0.outcomes;
  read = rw c.as_slice.ensures at c.in_ok-shape.ensures.exact;
  ran = c.in_ok-journal.ensures.ran;
  text_is = refl;
  status_is = c.run_status-status.ensures ∙ ap run_status c.as_slice-2.ensures;
})
