use Rattle.gaspi_model.proofs.Same.{same_reply-same}
use Rattle.gaspi_model.proofs.Listed.Enabled.{same_reply-refl}
use Rattle.gaspi_model.proofs.Listed.Recorded.{step-recorded, join-found_so}
use Rattle.gaspi_model.proofs.laws.replies.Goals as goal

pub returns-clause-same : goal.returns-clause-same
returns-clause-same c = same_reply-same

pub returns-clause-itself : goal.returns-clause-itself
returns-clause-itself c = same_reply-refl

pub returns-clause-recorded : goal.returns-clause-recorded
returns-clause-recorded c = step-recorded

pub returns-clause-joined : goal.returns-clause-joined
returns-clause-joined c = join-found_so
