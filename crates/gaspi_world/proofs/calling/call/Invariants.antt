use Rattle.std.proofs.Common.{◌≡◌, suc, List, length}
use Rattle.gaspi_types.specs.declared.events.Event.{Event}
use Rattle.timeout_state.specs.Looks.{looks_of, left_after, answer_of, HasLook}
use Rattle.timeout_state.specs.declared.budget.Look.TheVariants.{More}
use Rattle.commit_table.specs.Calls.{HoldsNone}
use Rattle.gaspi_world.specs.Calling.{HasWaited}
use Rattle.gaspi_world.proofs.calling.call.Given as goal

abbrev pub invariant-loop : goal.invariant-loop
invariant-loop g l =
    (goal.iterator-loop g).can_next l.iterator'
    × (goal.iterator-loop g).is_finite l.iterator'
    × (l.pass.table ≡ l.fn.pass.table)
    × HoldsNone l.pass.known
    × ((earlier : List (List Event)) × HasWaited l.fn.table.start.shape l.fn.invocation.caller l.fn.invocation.call.now earlier l.fn.pass.known l.pass.known
    × HasLook (left_after (length earlier) (looks_of l.fn.timeout))
    × (l.look ≡ answer_of (left_after (length earlier) (looks_of l.fn.timeout)))
    × (l.budget ≡ left_after (suc (length earlier)) (looks_of l.fn.timeout))
    × (l.look ≡ More → HasLook l.budget))
