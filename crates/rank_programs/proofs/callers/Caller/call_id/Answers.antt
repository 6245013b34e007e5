use Rattle.gaspi_types.specs.declared.replies.Reply.TheVariants as replies
use Rattle.rank_programs.proofs.Answering.{answered}
use Rattle.rank_programs.proofs.callers.Caller.call_id.Goals as goal

pub returns-clause-answers : goal.returns-clause-answers
returns-clause-answers g c =
    answered c.args.call c.args.timeout c.args.self.now _ c.call-answer.result replies.Id c.id.result (c.call-answer.ensures.calls, c.call-answer.ensures.ample) c.id.ensures.id c.id.ensures.other
