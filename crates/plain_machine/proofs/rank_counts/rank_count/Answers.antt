use Rattle.std.proofs.Common.{◌∙◌, ap, sym, arith, length}
use Rattle.plain_machine.proofs.Counted.{count_set}
use Rattle.plain_machine.proofs.Walked.{own_transfers}
use Rattle.plain_machine.proofs.rank_counts.rank_count.Goals as goal

pub lanes_count-count-requires : goal.lanes_count-count-requires
lanes_count-count-requires c =
    let own = ap length (own_transfers c.args.limits.now c.args.posts.now c.args.rank c.lanes_of_rank.result.now (c.lanes_of_rank.ensures c.args.posts.now c.requires.named)) in
    let few = c.requires.few c.args.rank in
    omega (arith, own, few)

pub returns-clause-count : goal.returns-clause-count
returns-clause-count c = c.lanes_count-count.ensures ∙ sym (ap length (own_transfers c.args.limits.now c.args.posts.now c.args.rank c.lanes_of_rank.result.now (c.lanes_of_rank.ensures c.args.posts.now c.requires.named)))

pub returns-clause-kept : goal.returns-clause-kept
returns-clause-kept c =
    rw c.set_count.ensures
    (count_set c.args.limits.now c.args.posts.now c.args.counts.now c.args.rank c.lanes_count-count.result c.requires.counts
    (c.lanes_count-count.ensures ∙ sym (ap length (own_transfers c.args.limits.now c.args.posts.now c.args.rank c.lanes_of_rank.result.now (c.lanes_of_rank.ensures c.args.posts.now c.requires.named)))))
