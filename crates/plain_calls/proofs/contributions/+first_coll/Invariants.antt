use Rattle.std.proofs.Common.{length}
use Rattle.plain_calls.proofs.contributions.+first_coll.Given as goal

abbrev pub decreases-first_coll : goal.decreases-first_coll
decreases-first_coll l = length l.members.now
