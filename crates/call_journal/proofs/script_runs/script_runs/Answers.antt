use Rattle.std.proofs.Common.{◌≡◌, List, Option, map, sym, subst}
use Rattle.std.proofs.lemmas.Result.{IfOk-weaker}
use Rattle.call_journal.specs.ScriptRuns.{told_item, IsToldTable}
use Rattle.call_journal.specs.declared.script_runs.ToldRun.{ToldRun}
use Rattle.call_journal.proofs.Following.{told-table}
use Rattle.call_journal.proofs.script_runs.script_runs.Goals as goal

pub returns : goal.returns
returns c =
    IfOk-weaker c.told_runs.result
    (λ (told : List (List (Option ToldRun))). told ≡ map (map told_item) c.in_ok-runs.runs)
    (λ (told : List (List (Option ToldRun))). IsToldTable told c.args.scripts.now c.args.history.now)
    (λ told is.
    subst (λ (runs : List (List (Option ToldRun))). IsToldTable runs c.args.scripts.now c.args.history.now) (sym is)
    (told-table c.in_ok-runs.runs c.args.scripts.now c.args.history.now c.in_ok-runs.ensures))
    c.told_runs.ensures
