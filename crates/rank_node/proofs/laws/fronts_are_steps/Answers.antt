use Rattle.rank_node.proofs.FrontSteps.{front-is_step, first-carried, first-posted, listed-front, mine-of}
use Rattle.rank_node.proofs.laws.fronts_are_steps.Goals as goal

pub returns-clause-steps : goal.returns-clause-steps
returns-clause-steps c = λ s p t sound is front. front-is_step s p t sound (mine-of s p t front.mine is) front

pub returns-clause-put : goal.returns-clause-put
returns-clause-put c = first-carried

pub returns-clause-take : goal.returns-clause-take
returns-clause-take c = first-posted

pub returns-clause-none : goal.returns-clause-none
returns-clause-none c = λ s p t k is at mine. listed-front s p t k (mine-of s p t mine is) at
