use Rattle.std.proofs.Common.{◌≡◌, None, Some, subst, sym}
use Rattle.std.specs.Prelude.{IfOk}
use Rattle.gaspi_types.specs.declared.replies.Ready.TheVariants.{NotReady}
use Rattle.gaspi_model.specs.Step.{answer_in}
use Rattle.rank_node.specs.declared.nodes.Node.{Node}
use Rattle.rank_node.proofs.HeldParts.{group-lent}
use Rattle.rank_node.proofs.LentLooks.{lent-stand, found-ok, found-unready}
use Rattle.rank_node.proofs.held_nodes.HeldNodes.answer_collective.Goals as goal

pub look-requires-clause-together : goal.look-requires-clause-together
look-requires-clause-together c =
    let lent = c.requires.lent in
    lent-stand lent.state c.args.id c.args.call.now c.deref.result.now None c.deref-in-Group.result.now lent.sound c.requires.named
    (group-lent lent.state c.args.call.now c.args.self.now.own.value c.deref.result.now c.args.self.now.other c.in-Group.group c.deref-in-Group.result.now c.deref.ensures c.deref-in-Group.ensures c.in-Group.is lent.lends)

pub returns-in-Group-clause-answer : goal.returns-in-Group-clause-answer
returns-in-Group-clause-answer c = λ s sound lends.
    let here = group-lent s c.args.call.now c.args.self.now.own.value c.deref.result.now c.args.self.now.other c.in-Group.group c.deref-in-Group.result.now c.deref.ensures c.deref-in-Group.ensures c.in-Group.is lends in
    subst (λ (n : Node). IfOk c.look.result (λ ready. answer_in s n.posts.me c.args.thread c.args.call.now ≡ Some ready)) c.deref.ensures
    (found-ok s c.args.id c.args.thread c.deref.result.now None c.deref-in-Group.result.now c.args.call.now c.look.result sound c.requires.named here c.look.ensures.look)

pub returns-in-Group-clause-unready : goal.returns-in-Group-clause-unready
returns-in-Group-clause-unready c = λ s sound lends waits.
    let here = group-lent s c.args.call.now c.args.self.now.own.value c.deref.result.now c.args.self.now.other c.in-Group.group c.deref-in-Group.result.now c.deref.ensures c.deref-in-Group.ensures c.in-Group.is lends in
    found-unready s c.args.id c.args.thread c.deref.result.now None c.deref-in-Group.result.now c.args.call.now sound c.requires.named here c.look.ensures.unready
    (subst (λ (n : Node). answer_in s n.posts.me c.args.thread c.args.call.now ≡ Some NotReady) (sym c.deref.ensures) waits)
