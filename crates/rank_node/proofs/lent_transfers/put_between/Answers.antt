use Rattle.std.proofs.Common.{None, Some}
use Rattle.rank_node.proofs.LentPuts.{put-can, put-between}
use Rattle.rank_node.proofs.lent_transfers.put_between.Goals as goal

pub put_into-outcome-requires : goal.put_into-outcome-requires
put_into-outcome-requires c = put-can c.args.own.now (Some c.args.peer.now) None c.args.t c.requires

pub returns : goal.returns
returns c = λ s after outcome w first.
    put-between s after outcome c.put_into-outcome.result c.args.own.now c.args.peer.now c.put_into-outcome.new.self c.put_into-outcome.new.destination None c.args.place c.args.t w first (record {
      ends = c.put_into-outcome.ensures.outcome;
      head = c.put_into-outcome.ensures.head;
      posts = c.put_into-outcome.ensures.posts;
      memory_is = c.put_into-outcome.ensures.memory;
    })
