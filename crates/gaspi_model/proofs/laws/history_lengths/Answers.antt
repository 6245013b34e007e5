use Rattle.gaspi_model.proofs.HistoryLengths.{within-limits, within-most}
use Rattle.gaspi_model.proofs.laws.history_lengths.Goals as goal

pub returns-clause-limits : goal.returns-clause-limits
returns-clause-limits c = within-limits

pub returns-clause-most : goal.returns-clause-most
returns-clause-most c = within-most
