use Rattle.gaspi_world.proofs.committing.record_join.Goals as goal

pub returns-clause-left : goal.returns-clause-left
returns-clause-left c = λ s t on. rw c.in-Joined.is (c.joined.ensures.left s t (rw c.in-Joined.is at on))
