use Rattle.group_registry.proofs.Rising.{above, rising}
use Rattle.group_registry.proofs.laws.no_id_is_given_again.Goals as goal

pub returns-clause-above : goal.returns-clause-above
returns-clause-above c = above

pub returns-clause-rising : goal.returns-clause-rising
returns-clause-rising c = rising
