use Rattle.gaspi_model.proofs.Ordered.Collectives.{joins-counted, rounds-counted, done-answers, rounds-agree, group-grows, same-reduction, barrier-joined}
use Rattle.gaspi_model.proofs.Listed.Joinable.{barrier-joins, allreduce-joins}
use Rattle.gaspi_model.proofs.Listed.Readiness.{ready-where-full, waits-where-late, unready-waits, timeout-waits}
use Rattle.gaspi_model.proofs.laws.collectives.Goals as goal

pub returns-clause-counted : goal.returns-clause-counted
returns-clause-counted c = joins-counted

pub returns-clause-agree : goal.returns-clause-agree
returns-clause-agree c = rounds-agree

pub returns-clause-grows : goal.returns-clause-grows
returns-clause-grows c = group-grows

pub returns-clause-same : goal.returns-clause-same
returns-clause-same c = same-reduction

pub returns-clause-barrier : goal.returns-clause-barrier
returns-clause-barrier c = barrier-joined

pub returns-clause-ready : goal.returns-clause-ready
returns-clause-ready c = ready-where-full

pub returns-clause-waits : goal.returns-clause-waits
returns-clause-waits c = waits-where-late

pub returns-clause-not_ready : goal.returns-clause-not_ready
returns-clause-not_ready c = unready-waits

pub returns-clause-timed_out : goal.returns-clause-timed_out
returns-clause-timed_out c = timeout-waits

pub returns-clause-rounds : goal.returns-clause-rounds
returns-clause-rounds c = rounds-counted

pub returns-clause-answers : goal.returns-clause-answers
returns-clause-answers c = done-answers

pub returns-clause-barrier_joins : goal.returns-clause-barrier_joins
returns-clause-barrier_joins c = barrier-joins

pub returns-clause-allreduce_joins : goal.returns-clause-allreduce_joins
returns-clause-allreduce_joins c = allreduce-joins
