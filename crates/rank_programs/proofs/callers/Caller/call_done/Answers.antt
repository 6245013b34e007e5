use Rattle.rank_programs.proofs.Answering.{answered-done}
use Rattle.rank_programs.proofs.callers.Caller.call_done.Goals as goal

pub returns-clause-answers : goal.returns-clause-answers
returns-clause-answers g c =
    answered-done c.args.call c.args.timeout c.args.self.now _ c.call-answer.result c.done.result (c.call-answer.ensures.calls, c.call-answer.ensures.ample) c.done.ensures.done c.done.ensures.other
