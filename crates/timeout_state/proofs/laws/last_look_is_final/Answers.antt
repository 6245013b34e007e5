use Rattle.timeout_state.proofs.Looking.{last, earlier, block}
use Rattle.timeout_state.proofs.laws.last_look_is_final.Goals as goal

pub returns-clause-last : goal.returns-clause-last
returns-clause-last c = last

pub returns-clause-earlier : goal.returns-clause-earlier
returns-clause-earlier c = earlier

pub returns-clause-block : goal.returns-clause-block
returns-clause-block c = block
