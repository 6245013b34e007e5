use Rattle.gaspi_model.proofs.HandedOut.{hands-out-once}
use Rattle.gaspi_model.proofs.notification_laws.notification_values.Goals as goal

pub returns : goal.returns
returns c = hands-out-once
