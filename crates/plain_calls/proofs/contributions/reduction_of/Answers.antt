use Rattle.std.proofs.Common.{ℤ, List, length, sym, ap, ◌∙◌}
use Rattle.gaspi_types.specs.Collectives.{contribution_in}
use Rattle.plain_calls.proofs.Rounds.{count-first}
use Rattle.plain_calls.proofs.contributions.reduction_of.Goals as goal

pub reduce_onto-requires-clause-alike : goal.reduce_onto-requires-clause-alike
reduce_onto-requires-clause-alike c =
    let items = c.in_ok-total-in-len1-up.ensures.ok ∙ c.values_in.ensures.values in
    let count =
    ap (λ (values : List ℤ). length values) items
    ∙ count-first (contribution_in c.args.group.now c.args.round) c.args.num_type c.requires.alike.0 c.first-item.result c.args.members.now c.in-len1-up.len_at_least c.first-item.is c.requires.full c.requires.alike.1 in
    λ rank given there. let alike = c.requires.alike.1 rank given there in (alike.0, alike.1 ∙ sym count)
