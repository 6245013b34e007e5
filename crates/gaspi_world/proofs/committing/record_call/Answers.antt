use Rattle.gaspi_world.proofs.committing.record_call.Goals as goal

pub returns-clause-left : goal.returns-clause-left
returns-clause-left c = λ s t on. rw c.in-Called.is (c.called.ensures.left s t (rw c.in-Called.is at on))
