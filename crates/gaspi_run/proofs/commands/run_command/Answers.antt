use Rattle.std.proofs.Common.{Err, ap}
use Rattle.gaspi_run.proofs.Answering.{plain-reads, answers-reading, answered-result, answered-stop}
use Rattle.gaspi_run.proofs.commands.run_command.Goals as goal

pub returns-in-Ok : goal.returns-in-Ok
returns-in-Ok g c =
    answers-reading c.args.command _ _ _ _ _ _ _ _ c.answer_result.result (plain-reads c.args.command c.requires.plain)
    (answered-result c.args.command _ _ _ _ _ _ _ _ c.answer_result.result (plain-reads c.args.command c.requires.plain) c.read_all.ensures.taken c.in-Ok.input c.command_result.result c.in-Ok.ensures.within c.in-Ok.ensures.all c.in-Ok.ensures.end c.in-Ok.ensures.still
    c.command_result.ensures.told c.command_result.ensures.held c.command_result.ensures.fault c.answer_result.ensures)

pub returns-in-Err : goal.returns-in-Err
returns-in-Err g c =
    answers-reading c.args.command _ _ _ _ _ _ _ _ c.answer_stop.result (plain-reads c.args.command c.requires.plain)
    (answered-stop c.args.command _ _ _ _ _ _ _ _ c.answer_stop.result (plain-reads c.args.command c.requires.plain) c.read_all.ensures.taken c.in-Err.stop (λ is. c.in-Err.ensures.long (ap Err is)) (λ is. c.in-Err.ensures.past (ap Err is))
    (λ is. c.in-Err.ensures.cause (ap Err is)) (λ is. c.in-Err.ensures.still_long (ap Err is)) (λ is. c.in-Err.ensures.still_memory (ap Err is)) c.answer_stop.ensures)
