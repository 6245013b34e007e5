use Rattle.std.proofs.Common.{refl}
use Rattle.commit_table.specs.RankLaws.{rank_journals}
use Rattle.commit_table.proofs.ranks.parts_are_the_history.Goals as goal

pub returns-clause-parts : goal.returns-clause-parts
returns-clause-parts c = rank_journals

pub returns-clause-some : goal.returns-clause-some
returns-clause-some c = (_, refl)
