use Rattle.std.proofs.Common.{sym, ap, subst}
use Rattle.rank_node.specs.Collectives.{MayLeave}
use Rattle.rank_node.specs.Values.{PostsValue}
use Rattle.rank_node.proofs.CompletionSteps.{member-here, pending-stays}
use Rattle.rank_node.proofs.collective_completions.complete_round.Goals as goal

pub apply_effect-requires-clause-member : goal.apply_effect-requires-clause-member
apply_effect-requires-clause-member c =
    member-here c.requires.done.group c.args.group.now c.args.me (subst (MayLeave c.requires.done.group c.args.group.now) (sym c.requires.own) c.requires.done.leaves)

pub take_out-requires : goal.take_out-requires
take_out-requires c =
    let done = c.requires.done in
    pending-stays c.args.own.now c.apply_effect.new.own c.own.inside.pending done.group c.args.me c.args.thread c.args.id c.args.call.now (c.apply_effect.ensures done.group done.leaves.is)
    (ap (λ (p : PostsValue). p.posts.pending) c.own.view_is) done.pending

pub leave-requires : goal.leave-requires
leave-requires c = (c.requires.done.group, subst (MayLeave c.requires.done.group c.args.group.now) (sym c.requires.own) c.requires.done.leaves)
