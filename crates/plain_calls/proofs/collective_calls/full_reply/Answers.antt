use Rattle.plain_calls.proofs.collective_calls.full_reply.Goals as goal

pub round_reduction-requires-clause-alike : goal.round_reduction-requires-clause-alike
round_reduction-requires-clause-alike c = rw c.num_type.ensures (rw c.in-Allreduce.is at c.requires.reducible)
