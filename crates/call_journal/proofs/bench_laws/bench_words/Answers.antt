use Rattle.call_journal.proofs.LastWords.{word-is, words-are}
use Rattle.call_journal.proofs.bench_laws.bench_words.Goals as goal

pub returns-clause-each : goal.returns-clause-each
returns-clause-each c = word-is

pub returns-clause-sum : goal.returns-clause-sum
returns-clause-sum c = words-are
