-- Timeouts keep their looks where a caller calls nothing more.
use Rattle.gaspi_world.proofs.SpentLooks.{waits-last}
use Rattle.gaspi_world.proofs.laws.waits_last.Goals as goal

pub returns : goal.returns
returns c = waits-last
