use Rattle.std.proofs.Common.{arith, rules}
use Rattle.gaspi_types.specs.Collectives.{contribution_in}
use Rattle.plain_calls.proofs.Rounds.{full-others}
use Rattle.plain_calls.proofs.contributions.+reduce_onto.Goals as goal

pub reduce_onto-requires : goal.reduce_onto-requires
reduce_onto-requires t c = (
  search rules,
  (
    full-others (contribution_in c.args.group.now c.args.round) c.args.members.now c.requires.full,
    (
      λ rank given there. ((c.requires.alike rank given there).0, (let alike = (c.requires.alike rank given there).1 in omega (arith, alike))),
      c.reduce_contribution.ensures.range,
    ),
  ),
)
