use Rattle.std.proofs.Common.{◌≡◌, None, Some, ap, rules}
use Rattle.gaspi_model.specs.declared.states.State.{State}
use Rattle.rank_node.specs.Lending.{behind}
use Rattle.rank_node.specs.declared.nodes.Node.{Node}
use Rattle.two_nodes.specs.LentLooks.{AreLentTo, HaveLooked}
use Rattle.two_nodes.proofs.Returned.{missing-behind, both-moved}
use Rattle.two_nodes.proofs.clients.look_between.Goals as goal

pub returns : goal.returns
returns c = both-moved (λ (n q : Node). (s : State) → AreLentTo s c.args.invocation.now.caller c.args.invocation.now.call.now c.args.own.now (Some c.args.peer.now) None
    → HaveLooked s c.args.invocation.now.caller c.args.invocation.now.call.now c.look-told.result c.args.places.now c.look-told.new.places c.args.own.now n (Some c.args.peer.now) (Some q) None)
    c.give_back_two.new.own c.give_back_two.new.peer (search rules) (search rules) (λ s is.
    let lent = c.look-told.new.lent in
    let one_peer : behind lent.peer ≡ Some c.in-Some.peer.now = ap behind c.in-Some.is in
    let no_group : behind lent.group ≡ None = missing-behind lent.group c.look-told.ensures.group in
    let looked = rw (one_peer, no_group) at c.look-told.ensures.looked s is in
    rw (c.give_back_two.ensures.own, c.give_back_two.ensures.peer) looked)
