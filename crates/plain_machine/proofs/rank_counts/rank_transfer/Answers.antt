use Rattle.std.proofs.Common.{List, sym, subst}
use Rattle.gaspi_types.specs.declared.events.Transfer.{Transfer}
use Rattle.plain_machine.specs.NonemptyLanes.{IsSearchOf}
use Rattle.plain_machine.proofs.Walked.{own_transfers}
use Rattle.plain_machine.proofs.rank_counts.rank_transfer.Goals as goal

pub returns-in-Some-2 : goal.returns-in-Some-2
returns-in-Some-2 c =
    subst (λ (xs : List Transfer). IsSearchOf c.lanes_transfer.result xs c.args.place)
    (sym (own_transfers c.args.limits.now c.args.posts.now c.args.rank c.lanes_of_rank.result.now (c.lanes_of_rank.ensures c.args.posts.now c.requires.named)))
    c.lanes_transfer.ensures
