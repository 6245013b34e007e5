use Rattle.std.proofs.Common.{None}
use Rattle.gaspi_types.specs.declared.events.Event.TheVariants.{Joined}
use Rattle.rank_node.proofs.HeldParts.{group-left}
use Rattle.rank_node.proofs.held_nodes.HeldNodes.joined.Goals as goal

pub returns-clause-left : goal.returns-clause-left
returns-clause-left c = λ s t on.
    group-left s t (Joined c.args.caller c.args.group c.args.args) c.args.place c.args.self.now.own.value c.deref_mut.result.now c.join.new.own c.args.self.now.other c.in-Group.node c.deref_mut-in-Group.result.now c.join.new.group c.deref_mut.ensures.value c.deref_mut-in-Group.ensures.value c.in-Group.is
    (λ here. c.join.ensures.left s t None here) on
