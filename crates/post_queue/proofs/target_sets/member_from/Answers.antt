use Rattle.std.proofs.Common.{refl, rules}
use Rattle.post_queue.proofs.TargetSets.{no-member, first-member}
use Rattle.post_queue.proofs.target_sets.member_from.Goals as goal

pub returns-then-rest-eq0-clause-least : goal.returns-then-rest-eq0-clause-least
returns-then-rest-eq0-clause-least c = no-member c.args.mask c.args.from _ refl c.if-rest-eq0.true

pub returns-clause-least : goal.returns-clause-least
returns-clause-least c = (first-member c.args.mask c.args.from _ (search rules) refl (search rules)).0

pub returns-clause-bound : goal.returns-clause-bound
returns-clause-bound c = (first-member c.args.mask c.args.from _ (search rules) refl (search rules)).1
