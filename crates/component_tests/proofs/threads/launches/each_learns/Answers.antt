use Rattle.std.proofs.Common.{List, sym, ap, ◌∙◌}
use Rattle.std.specs.List.{slice_get}
use Rattle.gaspi_types.specs.declared.events.Event.{Event}
use Rattle.commit_table.specs.Calls.{PassValue, IsOf, HoldsNone}
use Rattle.gaspi_world.specs.declared.launching.Task.{Task}
use Rattle.gaspi_world.specs.declared.starts.Start.{Start}
use Rattle.component_tests.specs.declared.threads.launches.OwnNote.{OwnNote}
use Rattle.component_tests.proofs.Mapped.{index-there, each-mapped}
use Rattle.component_tests.proofs.threads.launches.each_learns.Goals as goal

pub run_all-requires-after_bounds : goal.run_all-requires-after_bounds
run_all-requires-after_bounds g c κs = λ lives k d less.
    c.requires k _ (ap (λ (ps : List (PassValue Start Event)). slice_get ps k) (sym c.in_ok-tasks.ensures) ∙ index-there (λ (t : Task OwnNote). t.pass) c.in_ok-tasks.tasks.items k d less)

pub returns : goal.returns
returns g c = λ k p at.
    each-mapped (λ (t : Task OwnNote). t.pass) (λ (q : PassValue Start Event). IsOf c.args.world.now q × HoldsNone q.known) _ c.run_all.ensures.passes k p
    (ap (λ (ps : List (PassValue Start Event)). slice_get ps k) (sym c.in_ok-passes.ensures) ∙ at)
