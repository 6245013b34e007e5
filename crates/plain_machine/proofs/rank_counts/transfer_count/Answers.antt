use Rattle.std.proofs.Common.{◌≡◌, ◌+◌, ◌≤◌, length, subst, ap, sym, ◌∙◌, arith, rules}
use Rattle.gaspi_model.specs.Transfers.{transfers}
use Rattle.plain_machine.proofs.Totals.{few_in_all}
use Rattle.plain_machine.proofs.rank_counts.transfer_count.Goals as goal

pub overflow_add-count : goal.overflow_add-count
overflow_add-count c =
    let most = few_in_all c.args.limits.now c.args.posts.now c.requires.few c.requires.ranks in
    let own = c.rank_count.ensures.count in
    let all = rw (c.in-Some-Some.is-0, c.in-Some-Some.is-1) at c.requires.counts.others in
    omega (arith, most, own, all)
