-- What `bench` tells.
use Rattle.std.proofs.Common.{List, Some, sym, ap, ◌∙◌, subst}
use Rattle.gaspi_types.specs.World.{ShapeValue}
use Rattle.rank_script.specs.Bench.{bench_shape}
use Rattle.rank_script.specs.WorldText.{AreScriptsOf}
use Rattle.rank_script.specs.declared.scripts.Script.{Script}
use Rattle.gaspi_run.specs.Command.{run_status}
use Rattle.gaspi_run.proofs.Benched.{bench-scripts-of, has-benched}
use Rattle.gaspi_run.proofs.results.bench_result.Goals as goal

pub run_on_threads-requires-clause-scripts : goal.run_on_threads-requires-clause-scripts
run_on_threads-requires-clause-scripts g c κs within =
    subst (λ (w : ShapeValue). AreScriptsOf w c.in_ok-shape.scripts) (sym c.in_ok-shape.ensures.shape)
    (subst (λ (scripts : List Script). AreScriptsOf (bench_shape c.args.ranks c.args.rounds) scripts) (sym c.in_ok-shape.ensures.scripts) (bench-scripts-of c.args.seed c.args.ranks c.args.rounds))

pub returns-clause-told : goal.returns-clause-told
returns-clause-told g c =
    rw c.with_text.ensures (has-benched c.bench_calls.ensures c.bench_transfers.ensures c.bench_notifications.ensures c.bench_words.ensures.sum c.args.seed c.args.ranks c.args.rounds c.in_ok-shape.shape c.in_ok-shape.scripts
    c.in_ok-journal.field-0.journal (Some c.in_ok-journal.field-0.tally) c.in_ok-journal.field-0.outcomes _ _ _ c.requires.0 c.requires.1 c.in_ok-shape.ensures.shape c.in_ok-shape.ensures.scripts
    c.in_ok-journal.ensures.ran c.in_ok-numbers.ensures c.in_ok-text.ensures (c.run_status-status.ensures ∙ ap run_status c.as_slice.ensures))
