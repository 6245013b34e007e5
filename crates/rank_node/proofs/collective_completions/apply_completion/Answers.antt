use Rattle.std.proofs.Common.{◌≡◌, false, sym, ◌∙◌}
use Rattle.gaspi_types.specs.Replies.{is_idle}
use Rattle.rank_node.proofs.collective_completions.apply_completion.Goals as goal

pub returns-then-not-is_refused_or_timeout-clause-group : goal.returns-then-not-is_refused_or_timeout-clause-group
returns-then-not-is_refused_or_timeout-clause-group c = λ g is.
    let awake : is_idle c.args.reply.now ≡ false = sym c.is_refused_or_timeout.ensures ∙ c.if-not-is_refused_or_timeout.true in
    rw awake (c.complete_round.ensures.group g is)
