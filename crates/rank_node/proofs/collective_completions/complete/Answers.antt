use Rattle.std.proofs.Common.{refl}
use Rattle.rank_node.proofs.CompletionSteps.{completes-here, completion-room, recorded-posts, recorded-left}
use Rattle.rank_node.proofs.collective_completions.complete.Goals as goal

pub apply_completion-requires-clause-done : goal.apply_completion-requires-clause-done
apply_completion-requires-clause-done c = λ awake.
    completes-here c.args.caller c.args.id c.args.call c.args.reply c.args.own.now c.args.group.now c.requires.own c.requires.named c.requires.step awake

pub add_event-requires : goal.add_event-requires
add_event-requires c =
    completion-room c.args.caller c.args.id c.args.call c.args.reply c.args.own.now c.args.group.now c.apply_completion.new.own c.requires.named c.requires.step c.apply_completion.ensures.posts

pub returns : goal.returns
returns c = λ s t peer on.
    recorded-left c.args.caller c.args.id c.args.call c.args.reply c.args.place c.args.own.now (record c.args.own.now { posts = c.add_event.new.self }) c.args.group.now c.apply_completion.new.group s t peer c.requires.named on
    (λ g is. recorded-posts c.args.own.now.posts c.apply_completion.new.own c.add_event.new.self _ c.args.place c.args.caller c.args.call c.args.reply (c.apply_completion.ensures.posts g is) c.add_event.ensures)
    refl c.apply_completion.ensures.group
