use Rattle.std.proofs.Common.{◌∙◌, List, ap, length}
use Rattle.std.specs.List.{slice_get}
use Rattle.gaspi_types.specs.declared.events.Event.{Event}
use Rattle.commit_table.specs.Calls.{PassValue}
use Rattle.gaspi_world.specs.declared.starts.Start.{Start}
use Rattle.component_tests.proofs.Made.{at-end}
use Rattle.component_tests.proofs.threads.procedures.answered.Goals as goal

pub run_one-requires-after_bounds : goal.run_one-requires-after_bounds
run_one-requires-after_bounds g c κs within =
    let rest = c.pop.new.self.items in
    c.requires (length rest) c.in-Some.pass (ap (λ (ps : List (PassValue Start Event)). slice_get ps (length rest)) c.in-Some.ensures.items ∙ at-end rest c.in-Some.pass)
