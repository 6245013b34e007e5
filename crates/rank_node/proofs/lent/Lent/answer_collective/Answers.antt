use Rattle.rank_node.specs.Lending.{behind}
use Rattle.rank_node.proofs.LentLooks.{lent-there, lent-missing, lent-within, lent-stand, lent-over, found-ok, found-nowhere, found-unready}
use Rattle.rank_node.proofs.lent.Lent.answer_collective.Goals as goal

pub look-requires-clause-there : goal.look-requires-clause-there
look-requires-clause-there c =
    let lent = c.requires.lent in
    lent-within lent.state c.args.id c.args.call.now c.args.self.now.own.now (behind c.args.self.now.peer) c.in-Some.group.now c.requires.named
    (lent-there lent.state c.args.call.now c.args.self.now.own.now (behind c.args.self.now.peer) c.args.self.now.group _ c.in-Some.is lent.lends)

pub look-requires-clause-together : goal.look-requires-clause-together
look-requires-clause-together c =
    let lent = c.requires.lent in
    lent-stand lent.state c.args.id c.args.call.now c.args.self.now.own.now (behind c.args.self.now.peer) c.in-Some.group.now lent.sound c.requires.named
    (lent-there lent.state c.args.call.now c.args.self.now.own.now (behind c.args.self.now.peer) c.args.self.now.group _ c.in-Some.is lent.lends)

pub look_nowhere-requires : goal.look_nowhere-requires
look_nowhere-requires c =
    let lent = c.requires.lent in
    lent-over lent.state c.args.id c.args.call.now c.args.self.now.own.now (behind c.args.self.now.peer) c.requires.named
    (lent-missing lent.state c.args.call.now c.args.self.now.own.now (behind c.args.self.now.peer) c.args.self.now.group c.in-None.is lent.lends)

pub returns-in-Some-clause-answer : goal.returns-in-Some-clause-answer
returns-in-Some-clause-answer c = λ s sound lends.
    let here = lent-there s c.args.call.now c.args.self.now.own.now (behind c.args.self.now.peer) c.args.self.now.group _ c.in-Some.is lends in
    found-ok s c.args.id c.args.thread c.args.self.now.own.now (behind c.args.self.now.peer) c.in-Some.group.now c.args.call.now c.look.result sound c.requires.named here c.look.ensures.look

pub returns-in-None-clause-answer : goal.returns-in-None-clause-answer
returns-in-None-clause-answer c = λ s sound lends.
    let here = lent-missing s c.args.call.now c.args.self.now.own.now (behind c.args.self.now.peer) c.args.self.now.group c.in-None.is lends in
    found-nowhere s c.args.id c.args.thread c.args.self.now.own.now (behind c.args.self.now.peer) c.args.call.now c.look_nowhere.result c.requires.named here c.look_nowhere.ensures.look

pub returns-in-Some-clause-unready : goal.returns-in-Some-clause-unready
returns-in-Some-clause-unready c = λ s sound lends waits.
    let here = lent-there s c.args.call.now c.args.self.now.own.now (behind c.args.self.now.peer) c.args.self.now.group _ c.in-Some.is lends in
    found-unready s c.args.id c.args.thread c.args.self.now.own.now (behind c.args.self.now.peer) c.in-Some.group.now c.args.call.now sound c.requires.named here c.look.ensures.unready waits
