use Rattle.std.proofs.Common.{refl, sym, ap, ◌∙◌, Ok, Err, rules}
use Rattle.plain_calls.proofs.Looked.{plain_asks, posting_brings, plain_evaluation}
use Rattle.plain_calls.proofs.calls.look.Goals as goal

pub returns-in_ok-posting_result-in-Some-clause-message : goal.returns-in_ok-posting_result-in-Some-clause-message
returns-in_ok-posting_result-in-Some-clause-message c =
    λ busy. c.set_post.ensures.message ∙ sym (posting_brings c.args.invocation.now.caller.rank c.args.own.now c.args.invocation.now.call.now c.in-Some.to (rw c.args.invocation.now.rowed at c.in-Some.is))

pub returns-in_ok-finds-in-None-clause-look : goal.returns-in_ok-finds-in-None-clause-look
returns-in_ok-finds-in-None-clause-look c =
    let none = rw c.args.invocation.now.rowed at c.in-None.is in
    plain_evaluation c.set_message.result c.set_message.new.evaluation _ _ _ _ _ _ none (search rules) (search rules)
