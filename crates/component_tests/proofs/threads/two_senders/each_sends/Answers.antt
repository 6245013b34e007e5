use Rattle.std.proofs.Common.{List, sym, ap, ◌∙◌}
use Rattle.std.specs.List.{slice_get}
use Rattle.gaspi_types.specs.declared.events.Event.{Event}
use Rattle.commit_table.specs.Calls.{PassValue}
use Rattle.gaspi_world.specs.Calling.{MayCall}
use Rattle.gaspi_world.specs.declared.launching.Task.{Task}
use Rattle.gaspi_world.specs.declared.starts.Start.{Start}
use Rattle.component_tests.specs.declared.threads.two_senders.Sender.{Sender}
use Rattle.component_tests.proofs.Mapped.{index-there, each-mapped}
use Rattle.component_tests.proofs.threads.two_senders.each_sends.Goals as goal

pub run_all-requires-after_bounds : goal.run_all-requires-after_bounds
run_all-requires-after_bounds g c κs = λ lives k d less.
    c.requires k _ (ap (λ (ps : List (PassValue Start Event)). slice_get ps k) (sym c.in_ok-tasks.ensures) ∙ index-there (λ (t : Task Sender). t.pass) c.in_ok-tasks.tasks.items k d less)

pub returns : goal.returns
returns g c = λ k p at.
    let may = each-mapped (λ (t : Task Sender). t.pass) (MayCall c.args.world.now) _ c.run_all.ensures k p
    (ap (λ (ps : List (PassValue Start Event)). slice_get ps k) (sym c.in_ok-passes.ensures) ∙ at) in
    (may.0, may.1)
