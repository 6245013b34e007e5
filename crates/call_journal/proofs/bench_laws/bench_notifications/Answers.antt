use Rattle.call_journal.proofs.Totals.{notifications-counted}
use Rattle.call_journal.proofs.bench_laws.bench_notifications.Goals as goal

pub returns : goal.returns
returns c = notifications-counted
