use Rattle.std.proofs.Common.{arith}
use Rattle.std.proofs.lemmas.Grind.{common_steps}
use Rattle.std.proofs.lemmas.Result.{on_err_weaker}
use Rattle.gaspi_texts.proofs.JoinedWords.{called_text, joined_text, kept_prefix}
use Rattle.gaspi_texts.proofs.event_texts.append_event.Goals as goal

pub returns-in_ok-append-in-Called-2-clause-ok : goal.returns-in_ok-append-in-Called-2-clause-ok
returns-in_ok-append-in-Called-2-clause-ok c =
    rw (c.in-Called.is, called_text c.in-Called.caller c.in-Called.call c.in-Called.reply) (grind (arith, common_steps))

pub returns-in_ok-append_caller_and_group-in-Joined-clause-ok : goal.returns-in_ok-append_caller_and_group-in-Joined-clause-ok
returns-in_ok-append_caller_and_group-in-Joined-clause-ok c =
    rw (c.in-Joined.is, joined_text c.in-Joined.caller c.in-Joined.group c.in-Joined.args) (grind (arith, common_steps))

pub returns-in_ok-append_caller_and_group-in-Joined-clause-err : goal.returns-in_ok-append_caller_and_group-in-Joined-clause-err
returns-in_ok-append_caller_and_group-in-Joined-clause-err c =
    on_err_weaker c.append_args.result
    (λ kept. kept_prefix _ _ _ _ c.in_ok-append-in-Joined.ensures.ok (kept_prefix _ _ _ _ c.in_ok-append_caller_and_group-in-Joined.ensures.ok kept))
    c.append_args.ensures.err
