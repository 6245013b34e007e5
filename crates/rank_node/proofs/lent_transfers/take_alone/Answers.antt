use Rattle.std.proofs.Common.{None}
use Rattle.rank_node.proofs.LentTakes.{take-can, take-left}
use Rattle.rank_node.proofs.lent_transfers.take_alone.Goals as goal

pub take_from-requires : goal.take_from-requires
take_from-requires c = take-can c.args.own.now None None c.args.t c.requires

pub returns : goal.returns
returns c = λ s after outcome w first. take-left s after outcome c.args.own.now c.take_from.new.self None None c.args.place c.args.t w first c.take_from.ensures
