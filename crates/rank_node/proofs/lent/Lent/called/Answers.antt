use Rattle.rank_node.specs.Lending.{behind}
use Rattle.rank_node.proofs.lent.Lent.called.Goals as goal

pub returns-in-Some-peer-clause-left : goal.returns-in-Some-peer-clause-left
returns-in-Some-peer-clause-left c = λ s t on. rw c.in-Some-peer.is (c.called_between.ensures s t (behind c.args.self.now.group) (rw c.in-Some-peer.is at on))

pub returns-clause-left : goal.returns-clause-left
returns-clause-left c = λ s t on. rw c.in-None-peer.is (c.called_alone.ensures s t (behind c.args.self.now.group) (rw c.in-None-peer.is at on))
