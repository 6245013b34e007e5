use Rattle.rank_node.proofs.FrontSteps.{front-footprint, mine-of}
use Rattle.rank_node.proofs.laws.front_footprints.Goals as goal

pub returns : goal.returns
returns c = λ s p t e outcome sound is front next. front-footprint s p t e outcome sound (mine-of s p t front.mine is) front next
