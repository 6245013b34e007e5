use Rattle.gaspi_model.proofs.Counts.{contributes-once}
use Rattle.gaspi_model.proofs.notification_laws.contribution_counts.Goals as goal

pub returns : goal.returns
returns c = contributes-once
