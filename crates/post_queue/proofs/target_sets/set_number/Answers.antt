use Rattle.std.proofs.Common.{sym, ◌∙◌}
use Rattle.post_queue.proofs.TargetSets.{added-same, added-other, cleared-same, cleared-other}
use Rattle.post_queue.proofs.target_sets.set_number.Goals as goal

pub returns-then-member-clause-here : goal.returns-then-member-clause-here
returns-then-member-clause-here c = added-same c.args.mask c.args.number c.requires ∙ sym c.if-member.true

pub returns-then-member-clause-others : goal.returns-then-member-clause-others
returns-then-member-clause-others c = λ other within apart. added-other c.args.mask c.args.number other c.requires apart

pub returns-else-member-clause-here : goal.returns-else-member-clause-here
returns-else-member-clause-here c = cleared-same c.args.mask c.args.number c.requires ∙ sym c.if-member.false

pub returns-else-member-clause-others : goal.returns-else-member-clause-others
returns-else-member-clause-others c = λ other within apart. cleared-other c.args.mask c.args.number other c.requires within apart
