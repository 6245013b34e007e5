use Rattle.std.proofs.Common.{None}
use Rattle.gaspi_types.specs.declared.events.Event.TheVariants.{Called}
use Rattle.rank_node.specs.HeldNodes.{group_of}
use Rattle.rank_node.proofs.HeldParts.{rank-left, no_rank-left, not-rank, same-kind}
use Rattle.rank_node.proofs.held_nodes.HeldNodes.called.Goals as goal

pub returns-in-Rank-clause-left : goal.returns-in-Rank-clause-left
returns-in-Rank-clause-left c = λ s t on.
    rank-left s t (Called c.args.caller c.args.call c.args.reply) c.args.place c.args.self.now.own.value c.deref_mut.result.now c.called_between.new.own c.args.self.now.other c.in-Rank.peer c.deref_mut-in-Rank.result.now c.called_between.new.peer c.deref_mut.ensures.value c.deref_mut-in-Rank.ensures.value c.in-Rank.is
    (λ here. c.called_between.ensures s t None here) on

pub returns-in_default : goal.returns-in_default
returns-in_default c = record {
  left = λ s t on.
      no_rank-left s t (Called c.args.caller c.args.call c.args.reply) c.args.place c.args.self.now.own.value c.deref_mut-in_default.result.now c.called_alone.new.own c.args.self.now.other c.deref_mut-in_default.ensures.value (not-rank c.args.self.now.other c.in_default.not-Rank)
      (λ here. c.called_alone.ensures s t (group_of c.args.self.now.other) here) on;
  kind = same-kind c.args.self.now.other;
}
