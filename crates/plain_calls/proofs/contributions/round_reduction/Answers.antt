use Rattle.plain_calls.proofs.contributions.round_reduction.Goals as goal

pub reduction_of-requires-clause-alike : goal.reduction_of-requires-clause-alike
reduction_of-requires-clause-alike c = rw c.round_of-round.ensures c.requires.alike
