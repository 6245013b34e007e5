use Rattle.std.proofs.Common.{ap}
use Rattle.gaspi_types.specs.declared.shapes.Limits.{Limits}
use Rattle.two_nodes.proofs.Worlds.{at-start, callers-at-start}
use Rattle.two_nodes.proofs.two_nodes.TwoNodes.new.Goals as goal

pub returns-clause-start : goal.returns-clause-start
returns-clause-start c =
    at-start c.group_nodes_at_start.ensures c.args.shape.now c.in_ok-new.field-0 c.in_ok-new-2.field-0 c.in_ok-new-3.field-0 c.of.result c.of-2.result c.of-3.result c.limits-ranks.result.ranks c.limits-ranks.ensures.world c.requires
    c.of.ensures c.of-2.ensures c.of-3.ensures (ap (λ (l : Limits). l.ranks) c.limits-ranks.ensures.value) c.in_ok-new.ensures c.in_ok-new-2.ensures c.in_ok-new-3.ensures

pub returns-clause-callers : goal.returns-clause-callers
returns-clause-callers c = λ two.
    let start =
    at-start c.group_nodes_at_start.ensures c.args.shape.now c.in_ok-new.field-0 c.in_ok-new-2.field-0 c.in_ok-new-3.field-0 c.of.result c.of-2.result c.of-3.result c.limits-ranks.result.ranks c.limits-ranks.ensures.world
    c.requires c.of.ensures c.of-2.ensures c.of-3.ensures (ap (λ (l : Limits). l.ranks) c.limits-ranks.ensures.value) c.in_ok-new.ensures c.in_ok-new-2.ensures c.in_ok-new-3.ensures in
    callers-at-start c.args.shape.now _ start two
