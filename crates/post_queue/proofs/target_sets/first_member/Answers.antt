use Rattle.std.proofs.Common.{rules}
use Rattle.post_queue.proofs.TargetSets.{lowest-bit}
use Rattle.post_queue.proofs.target_sets.first_member.Goals as goal

pub of-requires : goal.of-requires
of-requires c = (lowest-bit c.args.mask (search rules) (search rules) c.requires).within

pub returns-clause-bound : goal.returns-clause-bound
returns-clause-bound c = rw c.of.ensures (lowest-bit c.args.mask (search rules) (search rules) c.requires).within

pub returns-clause-member : goal.returns-clause-member
returns-clause-member c = rw c.of.ensures (lowest-bit c.args.mask (search rules) (search rules) c.requires).member

pub returns-clause-least : goal.returns-clause-least
returns-clause-least c = rw c.of.ensures (lowest-bit c.args.mask (search rules) (search rules) c.requires).least
