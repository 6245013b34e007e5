use Rattle.gaspi_model.proofs.CorruptMarks.{stays-corrupt}
use Rattle.gaspi_model.proofs.laws.corruption.Goals as goal

pub returns : goal.returns
returns c = stays-corrupt
