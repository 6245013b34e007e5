-- What is contributed to one round of a group, values aside. (GASPI: collectives)
use Rattle.std.specs.Prelude.{Option}
use Rattle.std.specs.Option.{option_map}
use Rattle.gaspi_types.specs.declared.collectives.Coll.{Coll}
use Rattle.gaspi_types.specs.declared.groups.Contribution.{Contribution}

-- the collective of a contribution, values aside
abbrev pub coll_in : Option Contribution → Option Coll
coll_in given = option_map (λ (c : Contribution). c.args.coll) given
