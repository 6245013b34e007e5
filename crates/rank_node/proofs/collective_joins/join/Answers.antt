use Rattle.rank_node.proofs.JoinSteps.{joins-here, joined-room, joined-posts, joined-left, joined-waits}
use Rattle.rank_node.proofs.collective_joins.join.Goals as goal

pub apply_join-requires-clause-joins : goal.apply_join-requires-clause-joins
apply_join-requires-clause-joins c = joins-here c.args.found.caller c.args.found.group c.args.found.args c.args.own.now c.args.group.now c.requires.own c.requires.step

pub add_event-requires : goal.add_event-requires
add_event-requires c = joined-room c.args.found.caller c.args.found.group c.args.found.args c.args.own.now c.args.group.now c.apply_join.new.own.posts c.requires.step c.apply_join.ensures.posts

pub returns-clause-left : goal.returns-clause-left
returns-clause-left c = λ s t peer on.
    joined-left c.args.found.caller c.args.found.group c.args.found.args c.args.place c.args.own.now (record c.apply_join.new.own { posts = c.add_event.new.self }) c.args.group.now c.apply_join.new.group s t peer on
    (joined-posts c.args.own.now.posts c.apply_join.new.own.posts c.add_event.new.self c.args.place c.args.found.caller c.args.found.group c.args.found.args c.apply_join.ensures.posts c.add_event.ensures)
    c.apply_join.ensures.memory c.apply_join.ensures.group

pub returns-clause-pending : goal.returns-clause-pending
returns-clause-pending c =
    joined-waits c.args.found.caller c.args.found.group c.args.found.args c.args.place c.args.own.now c.args.group.now c.add_event.new.self c.requires.step
    (joined-posts c.args.own.now.posts c.apply_join.new.own.posts c.add_event.new.self c.args.place c.args.found.caller c.args.found.group c.args.found.args c.apply_join.ensures.posts c.add_event.ensures)
