use Rattle.rank_script.proofs.Following.{onward, ended, stopped, bounded, met}
use Rattle.rank_script.proofs.run_laws.runs.Goals as goal

pub returns-clause-onward : goal.returns-clause-onward
returns-clause-onward c = onward

pub returns-clause-ended : goal.returns-clause-ended
returns-clause-ended c = ended

pub returns-clause-stopped : goal.returns-clause-stopped
returns-clause-stopped c = stopped

pub returns-clause-bounded : goal.returns-clause-bounded
returns-clause-bounded c = bounded

pub returns-clause-met : goal.returns-clause-met
returns-clause-met c = met
