use Rattle.plain_calls.proofs.Answered.{making_room}
use Rattle.plain_calls.proofs.collective_steps.join.Goals as goal

pub apply_join-requires-clause-bounded : goal.apply_join-requires-clause-bounded
apply_join-requires-clause-bounded c =
    making_room c.args.limits.now c.args.posts.now c.args.group.now c.args.joining.now.caller.rank c.args.joining.now.caller.thread c.args.joining.now.group c.args.joining.now.args.now c.requires.limits c.requires.sound c.requires.joins
