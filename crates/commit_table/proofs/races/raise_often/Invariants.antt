use Rattle.std.proofs.Common.{◌≡◌}
use Rattle.commit_table.specs.Calls.{IsOf, HoldsNone}
use Rattle.commit_table.proofs.races.raise_often.Given as goal

abbrev pub invariant-loop : goal.invariant-loop
invariant-loop g l =
    (goal.iterator-loop g).can_next l.iterator' × (goal.iterator-loop g).is_finite l.iterator' × IsOf l.table l.pass × HoldsNone l.pass.known × (l.pass.known.party ≡ l.fn.pass.known.party)
