-- What contracts see of `ReservedNumbers`: the length of each list.
use Rattle.std.specs.Prelude.{length}
use Rattle.rank_node.specs.Capacities.{NumberCapacities}
use Rattle.rank_node.specs.declared.reserved_numbers.ReservedNumbers.TheInside.{Inside}

-- the length of each list
abbrev pub capacities_of : Inside → NumberCapacities
capacities_of r = record { values = length r.values; event = length r.event; caller = length r.caller }
