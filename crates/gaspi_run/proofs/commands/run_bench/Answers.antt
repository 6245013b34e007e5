use Rattle.std.proofs.Common.{inr, refl}
use Rattle.gaspi_run.proofs.Answering.{answered-bench}
use Rattle.gaspi_run.proofs.commands.run_bench.Goals as goal

pub returns-in-Ok : goal.returns-in-Ok
returns-in-Ok g c = answered-bench c.args.seed c.args.ranks c.args.rounds _ _ _ _ c.answer_result.result c.in-Ok.told c.in-Ok.ensures.told c.in-Ok.ensures.held c.answer_result.ensures

pub returns-in-Err : goal.returns-in-Err
returns-in-Err g c = inr (inr (record { kept = refl; still = refl; status = c.answer_without_journal.ensures.0; empty = c.answer_without_journal.ensures.1 }))
