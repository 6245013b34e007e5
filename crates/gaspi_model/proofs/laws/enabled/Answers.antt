use Rattle.gaspi_model.proofs.Listed.Enabled.{called-is_step, transfer-is_step, collective-needs}
use Rattle.gaspi_model.proofs.Listed.Joining.{join-is_step, joins-itself, joined-pends, pending-joins-not}
use Rattle.gaspi_model.proofs.laws.enabled.Goals as goal

pub returns-clause-transfer : goal.returns-clause-transfer
returns-clause-transfer c = transfer-is_step

pub returns-clause-call : goal.returns-clause-call
returns-clause-call c = called-is_step

pub returns-clause-join : goal.returns-clause-join
returns-clause-join c = join-is_step

pub returns-clause-itself : goal.returns-clause-itself
returns-clause-itself c = joins-itself

pub returns-clause-joined : goal.returns-clause-joined
returns-clause-joined c = joined-pends

pub returns-clause-pending : goal.returns-clause-pending
returns-clause-pending c = pending-joins-not

pub returns-clause-needs : goal.returns-clause-needs
returns-clause-needs c = collective-needs
