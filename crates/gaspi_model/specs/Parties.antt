-- Which pass may commit an event: each declared caller has a number, and a call and a join are their caller's alone. (own choice)
use Rattle.std.specs.Prelude.{ℕ, ◌+◌, ◌*◌, nat_lt, Bool, List, Option, None, Some, count_by, if◌then◌else◌}
use Rattle.std.specs.List.{list_any}
use Rattle.gaspi_types.specs.World.{ShapeValue, is_caller}
use Rattle.gaspi_types.specs.declared.events.Event.{Event}
use Rattle.gaspi_types.specs.declared.events.Event.TheVariants.{Called, Joined, Take, Put}
use Rattle.gaspi_types.specs.declared.shapes.CallerId.{CallerId}

-- callers by rank, and then by thread
abbrev pub comes_before : CallerId → CallerId → Bool
comes_before a b = nat_lt (a.rank * 4 + a.thread) (b.rank * 4 + b.thread)

-- the number of a caller: how many declared ones come before it
abbrev pub number_of : List CallerId → CallerId → ℕ
number_of callers c = count_by (λ d. comes_before d c) callers

-- the party of a declared caller
abbrev pub caller_party : List CallerId → CallerId → Option ℕ
caller_party callers c = if list_any (is_caller c.rank c.thread) callers then Some (number_of callers c) else None

-- a call and a join are their caller's alone, a transfer may be made by every worker
abbrev pub party_of : ShapeValue → Event → Option ℕ
party_of w (Called c call reply) = caller_party w.callers c
party_of w (Joined c id args) = caller_party w.callers c
party_of w (Take origin queue target number outcome) = None
party_of w (Put origin queue target number outcome) = None
