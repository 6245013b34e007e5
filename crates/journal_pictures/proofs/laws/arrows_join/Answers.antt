use Rattle.journal_pictures.proofs.ArrowEnds.{joins-arrows}
use Rattle.journal_pictures.proofs.laws.arrows_join.Goals as goal

pub returns : goal.returns
returns c = joins-arrows
