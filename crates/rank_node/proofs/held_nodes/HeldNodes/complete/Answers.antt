use Rattle.std.proofs.Common.{None}
use Rattle.gaspi_types.specs.declared.events.Event.TheVariants.{Called}
use Rattle.rank_node.specs.HeldNodes.{peer_of}
use Rattle.rank_node.proofs.HeldParts.{group-left, no_group-left, not-group, same-kind}
use Rattle.rank_node.proofs.held_nodes.HeldNodes.complete.Goals as goal

pub returns-in-Group-clause-left : goal.returns-in-Group-clause-left
returns-in-Group-clause-left c = λ s t on.
    group-left s t (Called c.args.caller c.args.call c.args.reply) c.args.place c.args.self.now.own.value c.deref_mut.result.now c.complete.new.own c.args.self.now.other c.in-Group.group c.deref_mut-in-Group.result.now c.complete.new.group c.deref_mut.ensures.value c.deref_mut-in-Group.ensures.value c.in-Group.is
    (λ here. c.complete.ensures s t None here) on

pub returns-in_default : goal.returns-in_default
returns-in_default c = record {
  left = λ s t on.
      no_group-left s t (Called c.args.caller c.args.call c.args.reply) c.args.place c.args.self.now.own.value c.deref_mut-in_default.result.now c.refuse.new.own c.args.self.now.other c.deref_mut-in_default.ensures.value (not-group c.args.self.now.other c.in_default.not-Group)
      (λ here. c.refuse.ensures s t (peer_of c.args.self.now.other) here) on;
  kind = same-kind c.args.self.now.other;
}
