use Rattle.std.proofs.Common.{◌≡◌, None, rules}
use Rattle.gaspi_model.specs.declared.states.State.{State}
use Rattle.rank_node.specs.Lending.{behind}
use Rattle.rank_node.specs.declared.nodes.Node.{Node}
use Rattle.two_nodes.specs.Transfers.{AreLentToMove, HaveMoved}
use Rattle.two_nodes.proofs.Returned.{missing-behind, moved}
use Rattle.two_nodes.proofs.clients.transfer_alone.Goals as goal

pub returns : goal.returns
returns c = moved (λ (n : Node). (s : State) → AreLentToMove s c.args.transfer c.args.own.now None None
    → HaveMoved s c.args.transfer c.args.places.now c.move_front.new.places c.args.own.now n None None None) c.give_back.new.own (search rules) (λ s is.
    let lent = c.move_front.new.lent in
    let no_peer : behind lent.peer ≡ None = missing-behind lent.peer c.move_front.ensures.peer in
    let no_group : behind lent.group ≡ None = missing-behind lent.group c.move_front.ensures.group in
    let made = rw (no_peer, no_group) at c.move_front.ensures.moved s is in
    rw c.give_back.ensures made)
