use Rattle.std.proofs.Common.{length}
use Rattle.plain_calls.proofs.contributions.+reduce_onto.Given as goal

abbrev pub decreases-reduce_onto : goal.decreases-reduce_onto
decreases-reduce_onto l = length l.members.now
