use Rattle.gaspi_model.proofs.Local.Steps.{coarse-frame, coarse-determined, coarse-owner, coarse-once}
use Rattle.gaspi_model.proofs.laws.coarser_locality.Goals as goal

pub returns-clause-frame : goal.returns-clause-frame
returns-clause-frame c = coarse-frame

pub returns-clause-determined : goal.returns-clause-determined
returns-clause-determined c = coarse-determined

pub returns-clause-owner : goal.returns-clause-owner
returns-clause-owner c = coarse-owner

pub returns-clause-once : goal.returns-clause-once
returns-clause-once c = coarse-once
