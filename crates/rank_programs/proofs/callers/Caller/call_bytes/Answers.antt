use Rattle.gaspi_types.specs.declared.replies.Reply.TheVariants as replies
use Rattle.rank_programs.proofs.Answering.{answered}
use Rattle.rank_programs.proofs.callers.Caller.call_bytes.Goals as goal

pub returns-clause-answers : goal.returns-clause-answers
returns-clause-answers g c =
    answered c.args.call c.args.timeout c.args.self.now _ c.call-answer.result replies.Bytes c.bytes.result (c.call-answer.ensures.calls, c.call-answer.ensures.ample) c.bytes.ensures.bytes c.bytes.ensures.other
