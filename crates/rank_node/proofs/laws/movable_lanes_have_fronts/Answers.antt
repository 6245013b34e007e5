use Rattle.rank_node.proofs.MovableFronts.{movable-front, unmovable-front, none-listed}
use Rattle.rank_node.proofs.laws.movable_lanes_have_fronts.Goals as goal

pub returns-clause-fronts : goal.returns-clause-fronts
returns-clause-fronts c = movable-front

pub returns-clause-others : goal.returns-clause-others
returns-clause-others c = unmovable-front

pub returns-clause-none : goal.returns-clause-none
returns-clause-none c = none-listed
