use Rattle.std.proofs.Common.{refl}
use Rattle.rank_node.proofs.CompletionSteps.{refusal-room, refused-left}
use Rattle.rank_node.proofs.collective_completions.refuse.Goals as goal

pub add_event-requires : goal.add_event-requires
add_event-requires c = refusal-room c.args.caller c.requires.named.0 c.args.call c.args.reply c.args.own.now c.requires.named.1 c.requires.step

pub returns : goal.returns
returns c = λ s t peer on.
    refused-left c.args.caller c.requires.named.0 c.args.call c.args.reply c.args.place c.args.own.now (record c.args.own.now { posts = c.add_event.new.self }) s t peer c.requires.named.1 on c.add_event.ensures refl
