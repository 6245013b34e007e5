use Rattle.command_line.proofs.GivenBench.{given_bench}
use Rattle.command_line.proofs.GivenNumbers.{given_numbers, given_workers}
use Rattle.command_line.proofs.GivenWhy.{given_why}
use Rattle.command_line.proofs.laws.numbers_are_read.Goals as goal

pub returns-clause-run : goal.returns-clause-run
returns-clause-run c workers limit workers_least workers_most limit_least limit_most =
    given_workers limit limit_least limit_most workers workers_least workers_most

pub returns-clause-step : goal.returns-clause-step
returns-clause-step c seed limit seed_most limit_least limit_most = given_numbers limit limit_least limit_most seed seed_most

pub returns-clause-why : goal.returns-clause-why
returns-clause-why c = given_why

pub returns-clause-bench : goal.returns-clause-bench
returns-clause-bench c = given_bench
