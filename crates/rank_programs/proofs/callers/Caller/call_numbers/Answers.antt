use Rattle.gaspi_types.specs.declared.replies.Reply.TheVariants as replies
use Rattle.rank_programs.proofs.Answering.{answered}
use Rattle.rank_programs.proofs.callers.Caller.call_numbers.Goals as goal

pub returns-clause-answers : goal.returns-clause-answers
returns-clause-answers g c =
    answered c.args.call c.args.timeout c.args.self.now _ c.call-answer.result replies.List c.numbers.result (c.call-answer.ensures.calls, c.call-answer.ensures.ample) c.numbers.ensures.numbers c.numbers.ensures.other
