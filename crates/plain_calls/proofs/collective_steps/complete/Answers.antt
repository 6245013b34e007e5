use Rattle.std.proofs.Common.{ap, sym, ◌∙◌}
use Rattle.std.proofs.lemmas.Bool.{le-leb}
use Rattle.gaspi_types.specs.declared.replies.Reply.{Reply}
use Rattle.plain_calls.specs.Rounds.{posts_after_collective, group_after_collective}
use Rattle.plain_calls.proofs.Answered.{telling_room, on_group_steps}
use Rattle.plain_calls.proofs.Completed.{on_group-used}
use Rattle.plain_calls.proofs.collective_steps.complete.Goals as goal

pub apply_completion-requires-clause-bounded : goal.apply_completion-requires-clause-bounded
apply_completion-requires-clause-bounded c =
    λ busy. telling_room c.args.posts.now c.args.group.now c.args.invocation.now.caller.rank c.args.invocation.now.caller.thread c.args.id c.args.invocation.now.call.now c.args.ready c.requires.look c.requires.unjoined
    (rw c.recorded_reply-reply.ensures at busy)

pub returns-clause-step : goal.returns-clause-step
returns-clause-step c = λ limits room.
    let me = c.args.invocation.now.caller.rank in
    let call = c.args.invocation.now.call.now in
    let posts = c.apply_completion.ensures.posts ∙ ap (λ (r : Reply). posts_after_collective c.args.posts.now c.args.group.now me c.args.id call r) c.recorded_reply-reply.ensures in
    let group = c.apply_completion.ensures.group ∙ ap (λ (r : Reply). group_after_collective c.args.group.now me r) c.recorded_reply-reply.ensures in
    rw (posts, group)
    (on_group_steps limits me c.args.posts.now c.args.group.now c.args.invocation.now.caller.thread c.args.id call c.args.ready c.requires.there c.requires.look c.requires.unjoined (le-leb _ _ room))

pub returns-clause-used : goal.returns-clause-used
returns-clause-used c =
    let met = on_group-used c.args.posts.now c.args.group.now c.args.invocation.now.caller.rank c.args.id c.args.invocation.now.call.now c.recorded_reply-reply.result in
    rw (c.requires.used, c.apply_completion.ensures.posts) (sym met)
