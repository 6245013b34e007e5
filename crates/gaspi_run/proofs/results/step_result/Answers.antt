-- What `step` tells.
use Rattle.std.proofs.Common.{refl, ap, ◌∙◌}
use Rattle.gaspi_run.specs.Command.{run_status}
use Rattle.gaspi_run.proofs.results.step_result.Goals as goal

pub returns-clause-told : goal.returns-clause-told
returns-clause-told c = rw c.in_ok-told.ensures (record {
  world = c.in_ok-shape.shape;
  scripts = c.in_ok-shape.scripts;
  finished = c.in_ok-ran.ran.outcomes;
  read = rw c.as_slice.ensures at c.in_ok-shape.ensures.exact;
  scheduled = c.in_ok-ran.ensures.scheduled;
  legal = c.in_ok-ran.ensures.legal;
  settled = c.in_ok-ran.ensures.settled;
  ended = c.in_ok-ran.ensures.runs;
  ranges = c.in_ok-ran.ensures.ranges;
  status_is = c.run_status-status.ensures ∙ ap run_status c.as_slice-2.ensures;
  text_is = refl;
})
