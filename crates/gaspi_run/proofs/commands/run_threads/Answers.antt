use Rattle.std.proofs.Common.{Err, refl, ap}
use Rattle.command_line.specs.declared.words.Command.TheVariants as commands
use Rattle.gaspi_run.proofs.Answering.{answered-result, answered-stop}
use Rattle.gaspi_run.proofs.commands.run_threads.Goals as goal

pub returns-in-Ok : goal.returns-in-Ok
returns-in-Ok g c =
    answered-result (commands.Run c.args.workers c.args.limit c.args.brief) _ _ _ _ _ _ _ _ c.answer_result.result refl c.read_all.ensures.taken c.in-Ok.input c.run_result-told.result c.in-Ok.ensures.within c.in-Ok.ensures.all c.in-Ok.ensures.end c.in-Ok.ensures.still
    c.run_result-told.ensures.told c.run_result-told.ensures.held c.run_result-told.ensures.fault c.answer_result.ensures

pub returns-in-Err : goal.returns-in-Err
returns-in-Err g c =
    answered-stop (commands.Run c.args.workers c.args.limit c.args.brief) _ _ _ _ _ _ _ _ c.answer_stop.result refl c.read_all.ensures.taken c.in-Err.stop (λ is. c.in-Err.ensures.long (ap Err is)) (λ is. c.in-Err.ensures.past (ap Err is))
    (λ is. c.in-Err.ensures.cause (ap Err is)) (λ is. c.in-Err.ensures.still_long (ap Err is)) (λ is. c.in-Err.ensures.still_memory (ap Err is)) c.answer_stop.ensures
