-- What a caller did in a history.
use Rattle.std.specs.Prelude.{Bool, false, List, filter}
use Rattle.gaspi_types.specs.World.{is_caller}
use Rattle.gaspi_types.specs.declared.events.Event.{Event}
use Rattle.gaspi_types.specs.declared.events.Event.TheVariants.{Called, Joined, Take, Put}
use Rattle.gaspi_types.specs.declared.shapes.CallerId.{CallerId}

-- whether an event is a call or a join of a caller
abbrev pub is_event_of : CallerId → Event → Bool
is_event_of c (Called d call reply) = is_caller c.rank c.thread d
is_event_of c (Joined d id args) = is_caller c.rank c.thread d
is_event_of c (Take origin queue target number outcome) = false
is_event_of c (Put origin queue target number outcome) = false

-- the calls and joins of a caller in a history, in order
abbrev pub events_of : CallerId → List Event → List Event
events_of c history = filter (is_event_of c) history
