use Rattle.std.proofs.Common.{◌≡◌, None, rules}
use Rattle.gaspi_model.specs.declared.states.State.{State}
use Rattle.rank_node.specs.Lending.{behind}
use Rattle.rank_node.specs.declared.nodes.Node.{Node}
use Rattle.two_nodes.specs.LentLooks.{AreLentTo, HaveLooked}
use Rattle.two_nodes.proofs.Returned.{missing-behind, moved}
use Rattle.two_nodes.proofs.clients.look_alone.Goals as goal

pub returns : goal.returns
returns c = moved (λ (n : Node). (s : State) → AreLentTo s c.args.invocation.now.caller c.args.invocation.now.call.now c.args.own.now None None → HaveLooked s c.args.invocation.now.caller c.args.invocation.now.call.now c.look-told.result c.args.places.now c.look-told.new.places c.args.own.now n None None None) c.give_back.new.own (search rules) (λ s is.
    let lent = c.look-told.new.lent in
    let no_peer : behind lent.peer ≡ None = missing-behind lent.peer c.look-told.ensures.peer in
    let no_group : behind lent.group ≡ None = missing-behind lent.group c.look-told.ensures.group in
    let looked = rw (no_peer, no_group) at c.look-told.ensures.looked s is in
    rw c.give_back.ensures looked)
