use Rattle.std.proofs.Common.{length}
use Rattle.collective_engine.proofs.reductions.+reduce_onto.Given as goal

abbrev pub decreases-reduce_onto : goal.decreases-reduce_onto
decreases-reduce_onto l = length l.members.now
