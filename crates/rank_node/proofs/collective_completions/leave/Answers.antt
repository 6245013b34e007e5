use Rattle.rank_node.proofs.collective_completions.leave.Goals as goal

pub returns : goal.returns
returns c = λ g is. record { meeting = is.meeting; rounds = c.leave.ensures g is.rounds }
