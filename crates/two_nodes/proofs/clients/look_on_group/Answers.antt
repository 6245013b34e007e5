use Rattle.std.proofs.Common.{◌≡◌, None, Some, ap, rules}
use Rattle.gaspi_model.specs.declared.states.State.{State}
use Rattle.rank_node.specs.Lending.{behind}
use Rattle.rank_node.specs.declared.nodes.GroupNode.{GroupNode}
use Rattle.rank_node.specs.declared.nodes.Node.{Node}
use Rattle.two_nodes.specs.LentLooks.{AreLentTo, HaveLooked}
use Rattle.two_nodes.proofs.Returned.{missing-behind, both-moved}
use Rattle.two_nodes.proofs.clients.look_on_group.Goals as goal

pub returns : goal.returns
returns c = both-moved (λ (n : Node) (g : GroupNode). (s : State) → AreLentTo s c.args.invocation.now.caller c.args.invocation.now.call.now c.args.own.now None (Some c.args.group.now)
    → HaveLooked s c.args.invocation.now.caller c.args.invocation.now.call.now c.look-told.result c.args.places.now c.look-told.new.places c.args.own.now n None None (Some g))
    c.give_back_group.new.own c.give_back_group.new.group (search rules) (search rules) (λ s is.
    let lent = c.look-told.new.lent in
    let no_peer : behind lent.peer ≡ None = missing-behind lent.peer c.look-told.ensures.peer in
    let one_group : behind lent.group ≡ Some c.in-Some.group.now = ap behind c.in-Some.is in
    let looked = rw (no_peer, one_group) at c.look-told.ensures.looked s is in
    rw (c.give_back_group.ensures.own, c.give_back_group.ensures.group) looked)
