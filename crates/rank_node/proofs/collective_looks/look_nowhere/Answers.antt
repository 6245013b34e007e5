use Rattle.std.proofs.Common.{◌∙◌, sym}
use Rattle.rank_node.proofs.Looking.{nowhere}
use Rattle.rank_node.proofs.collective_looks.look_nowhere.Goals as goal

pub unreachable-requires : goal.unreachable-requires
unreachable-requires c =
    let called = c.called_on.ensures.group in
    nowhere c.own.inside.groups.groups c.own.inside.me c.args.id c.args.call.now c.in-Ok.field-0 c.handles.ensures.registry.room c.requires (sym (rw c.handles.ensures.value at called) ∙ c.in-Ok.is)
