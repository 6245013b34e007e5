use Rattle.gaspi_world.proofs.JournalLengths.{journal-length}
use Rattle.gaspi_world.proofs.shard_laws.journal_lengths.Goals as goal

pub returns : goal.returns
returns c = journal-length
