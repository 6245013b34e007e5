use Rattle.std.proofs.Common.{length}
use Rattle.plain_calls.proofs.contributions.+make_known.Given as goal

abbrev pub decreases-make_known : goal.decreases-make_known
decreases-make_known l = length l.members.now
