use Rattle.std.proofs.Common.{length}
use Rattle.rank_node.proofs.collective_completions.+make_known.Given as goal

abbrev pub decreases-make_known : goal.decreases-make_known
decreases-make_known l = length l.made.now
