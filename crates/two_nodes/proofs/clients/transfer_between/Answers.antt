use Rattle.std.proofs.Common.{◌≡◌, None, Some, ap, rules}
use Rattle.gaspi_model.specs.declared.states.State.{State}
use Rattle.rank_node.specs.Lending.{behind}
use Rattle.rank_node.specs.declared.nodes.Node.{Node}
use Rattle.two_nodes.specs.Transfers.{AreLentToMove, HaveMoved}
use Rattle.two_nodes.proofs.Returned.{missing-behind, both-moved}
use Rattle.two_nodes.proofs.clients.transfer_between.Goals as goal

pub returns : goal.returns
returns c = both-moved (λ (n q : Node). (s : State) → AreLentToMove s c.args.transfer c.args.own.now (Some c.args.peer.now) None
    → HaveMoved s c.args.transfer c.args.places.now c.move_front.new.places c.args.own.now n (Some c.args.peer.now) (Some q) None)
    c.give_back_two.new.own c.give_back_two.new.peer (search rules) (search rules) (λ s is.
    let lent = c.move_front.new.lent in
    let one_peer : behind lent.peer ≡ Some c.in-Some.peer.now = ap behind c.in-Some.is in
    let no_group : behind lent.group ≡ None = missing-behind lent.group c.move_front.ensures.group in
    let made = rw (one_peer, no_group) at c.move_front.ensures.moved s is in
    rw (c.give_back_two.ensures.own, c.give_back_two.ensures.peer) made)
