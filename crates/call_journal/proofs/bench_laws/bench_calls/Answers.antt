use Rattle.call_journal.proofs.Totals.{calls-counted}
use Rattle.call_journal.proofs.bench_laws.bench_calls.Goals as goal

pub returns : goal.returns
returns c = calls-counted
