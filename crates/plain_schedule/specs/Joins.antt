-- Joins of a caller and the calls that they are of. (GASPI: collectives)
use Rattle.std.specs.Prelude.{◌≡◌, ◌⊎◌, ℕ, List, [], ◌∷◌, Option, Some}
use Rattle.gaspi_types.specs.declared.calls.Call.{Call}
use Rattle.gaspi_types.specs.declared.calls.Call.TheVariants.{End}
use Rattle.gaspi_types.specs.declared.events.Event.{Event}
use Rattle.gaspi_types.specs.declared.events.Event.TheVariants.{Called, Joined, Take, Put}
use Rattle.gaspi_types.specs.declared.groups.Args.{Args}
use Rattle.gaspi_types.specs.declared.shapes.CallerId.{CallerId}
use Rattle.gaspi_model.specs.CollectiveCalls.{joining_call}

-- whether a join of a caller is of the call that it makes next; or, where its run was stopped before that call, it makes its end next
abbrev pub IsFollowed : Option Call → Call → List Event → Type 0
IsFollowed stopped joins [] = ⊥
IsFollowed stopped joins (Called c call reply ∷ events) = (call ≡ joins) ⊎ ((call ≡ End) × (stopped ≡ Some joins))
IsFollowed stopped joins (Joined c id args ∷ events) = ⊥
IsFollowed stopped joins (Take origin queue target number outcome ∷ events) = ⊥
IsFollowed stopped joins (Put origin queue target number outcome ∷ events) = ⊥

-- each join of a caller's events is
abbrev pub AreJoinsFollowed : Option Call → List Event → Type 0
AreJoinsFollowed stopped [] = Unit {0}
AreJoinsFollowed stopped (Joined c id args ∷ events) = IsFollowed stopped (joining_call id args) events × AreJoinsFollowed stopped events
AreJoinsFollowed stopped (Called c call reply ∷ events) = AreJoinsFollowed stopped events
AreJoinsFollowed stopped (Take origin queue target number outcome ∷ events) = AreJoinsFollowed stopped events
AreJoinsFollowed stopped (Put origin queue target number outcome ∷ events) = AreJoinsFollowed stopped events

-- no event, or a join of the caller for that call
abbrev pub IsJoinOf : CallerId → Call → List Event → Type 0
IsJoinOf c call events = (events ≡ []) ⊎ ((id : ℕ) × (args : Args) × (events ≡ Joined c id args ∷ []) × (joining_call id args ≡ call))
