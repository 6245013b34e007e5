use Rattle.call_journal.proofs.Transfers.{transfers-counted}
use Rattle.call_journal.proofs.bench_laws.bench_transfers.Goals as goal

pub returns : goal.returns
returns c = transfers-counted
