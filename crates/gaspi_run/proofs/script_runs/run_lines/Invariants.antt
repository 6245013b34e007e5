use Rattle.std.proofs.Common.{◌≡◌}
use Rattle.commit_table.specs.Calls.{HoldsNone}
use Rattle.gaspi_run.specs.SoFar.{HasRunTo}
use Rattle.gaspi_run.proofs.GoingOn.{AllLeft, IsUsable, left}
use Rattle.gaspi_run.proofs.script_runs.run_lines.Given as goal

abbrev pub invariant-loop-call : goal.invariant-loop-call
invariant-loop-call g l =
    (l.pass.table ≡ l.fn.pass.table)
    × HoldsNone l.pass.known
    × AllLeft IsUsable l.body.cursor
    × HasRunTo l.fn.world.start.shape l.fn.body.script.now.caller l.fn.body.script.now.lines l.fn.body.limit l.body.cursor l.fn.pass.known l.pass.known
    × (l.body.script ≡ l.fn.body.script)
    × (l.body.limit ≡ l.fn.body.limit)

abbrev pub decreases-loop-call : goal.decreases-loop-call
decreases-loop-call g l = left l.body.cursor
