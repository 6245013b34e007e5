use Rattle.std.proofs.Common.{None, Some}
use Rattle.rank_node.proofs.LentTakes.{take-can, take-left}
use Rattle.rank_node.proofs.lent_transfers.take_between.Goals as goal

pub take_from-requires : goal.take_from-requires
take_from-requires c = take-can c.args.own.now (Some c.args.peer.now) None c.args.t c.requires

pub returns-clause-left : goal.returns-clause-left
returns-clause-left c = λ s after outcome w first. take-left s after outcome c.args.own.now c.take_from.new.self (Some c.args.peer.now) None c.args.place c.args.t w first c.take_from.ensures
