use Rattle.std.proofs.Common.{refl}
use Rattle.rank_node.specs.Lending.{behind}
use Rattle.two_nodes.proofs.TransferSteps.{may-put, may-take, moved-put, moved-take}
use Rattle.two_nodes.proofs.moves.move_front.Goals as goal

pub put-requires : goal.put-requires
put-requires c =
    let lent = c.args.lent.now in
    let puts = c.if-transfer.true in
    may-put c.fronts_are_steps.ensures.steps c.args.transfer lent.own.now (behind lent.peer) (behind lent.group) c.requires.front puts (c.fronts_are_steps.ensures.put lent.own.now.posts c.args.transfer c.requires.front puts) c.requires.lent

pub take-requires : goal.take-requires
take-requires c =
    let lent = c.args.lent.now in
    let takes = c.if-transfer.false in
    may-take c.fronts_are_steps.ensures.steps c.args.transfer lent.own.now (behind lent.peer) (behind lent.group) c.requires.front takes (c.fronts_are_steps.ensures.take lent.own.now.posts c.args.transfer c.requires.front takes) c.requires.lent

pub returns-then-transfer-clause-moved : goal.returns-then-transfer-clause-moved
returns-then-transfer-clause-moved c = λ s is.
    let lent = c.args.lent.now in
    let new = c.put.new.self in
    let puts = c.if-transfer.true in
    let first = c.fronts_are_steps.ensures.put lent.own.now.posts c.args.transfer c.requires.front puts in
    moved-put c.fronts_are_steps.ensures.steps s c.args.transfer c.args.places.now _ lent.own.now new.own.now (behind lent.peer) (behind new.peer) (behind lent.group) (behind new.group) c.requires.front puts is refl
    (λ a o on. c.put.ensures.left s a o on first)

pub returns-else-transfer-clause-moved : goal.returns-else-transfer-clause-moved
returns-else-transfer-clause-moved c = λ s is.
    let lent = c.args.lent.now in
    let new = c.take.new.self in
    let takes = c.if-transfer.false in
    let first = c.fronts_are_steps.ensures.take lent.own.now.posts c.args.transfer c.requires.front takes in
    moved-take c.fronts_are_steps.ensures.steps s c.args.transfer c.args.places.now _ lent.own.now new.own.now (behind lent.peer) (behind new.peer) (behind lent.group) (behind new.group) c.requires.front takes is refl
    (λ a o on. c.take.ensures.left s a o on first)
