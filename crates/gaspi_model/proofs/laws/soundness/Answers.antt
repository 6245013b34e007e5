use Rattle.gaspi_model.proofs.Sound.Opening.{opens}
use Rattle.gaspi_model.proofs.Sound.Steps.{steps, counts, limits-stay}
use Rattle.gaspi_model.proofs.Ended.Activity.{active}
use Rattle.gaspi_model.proofs.Histories.{reached-sound}
use Rattle.gaspi_model.proofs.Sound.TableLengths.{segment-places, slot-places}
use Rattle.gaspi_model.proofs.laws.soundness.Goals as goal

pub returns-clause-opens : goal.returns-clause-opens
returns-clause-opens c = opens

pub returns-clause-steps : goal.returns-clause-steps
returns-clause-steps c = steps

pub returns-clause-counts : goal.returns-clause-counts
returns-clause-counts c = counts

pub returns-clause-active : goal.returns-clause-active
returns-clause-active c = active

pub returns-clause-limits : goal.returns-clause-limits
returns-clause-limits c = limits-stay

pub returns-clause-histories : goal.returns-clause-histories
returns-clause-histories c = reached-sound

pub returns-clause-segments : goal.returns-clause-segments
returns-clause-segments c = segment-places

pub returns-clause-slots : goal.returns-clause-slots
returns-clause-slots c = slot-places
