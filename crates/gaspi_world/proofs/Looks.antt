-- What a look leaves but for what was seen.
use Rattle.std.proofs.Common.{ℕ, List, refl, sym, subst, ◌∙◌}
use Rattle.gaspi_types.specs.World.{ShapeValue, IsShape}
use Rattle.gaspi_types.specs.declared.events.Event.{Event}
use Rattle.gaspi_types.specs.declared.shapes.CallerId.{CallerId}
use Rattle.gaspi_model.specs.Parties.{number_of}
use Rattle.commit_table.specs.Attempts.{IsLookedOnly}
use Rattle.commit_table.specs.Calls.{Looked}
use Rattle.commit_table.specs.Machine.{Machine}
use Rattle.commit_table.specs.declared.views.PassView.{PassView}
use Rattle.gaspi_world.specs.Attempts.{IsExtended}
use Rattle.gaspi_world.specs.Callers.{IsPassOf}
use Rattle.gaspi_world.specs.WorldMachine.{world_machine}
use Rattle.gaspi_world.proofs.OwnEvents.{mine-events}

pub looked-only : {S X E : Type 0} (m : Machine X E) (v : PassView S E) (n : ℕ) (h : List E) (w : PassView S E) → Looked m v n h w → IsLookedOnly m v w
looked-only m v n h w look = subst (IsLookedOnly m v) (sym look.is) (record {
  goes_on = look.seen;
  legal = look.legal;
  own = look.own;
  looks = refl;
  mine = refl;
  commits = refl;
  missed = refl;
  met = refl;
  party = refl;
  start = refl;
})

-- what the pass of a caller has seen goes on
pub looked-goes-on : {S : Type 0} (w : ShapeValue) (c : CallerId) (v n : PassView S Event) → IsShape w → IsPassOf w c v → IsLookedOnly (world_machine w) v n → IsExtended w c v n
looked-goes-on w c v n world pass look = record {
  seen = look.goes_on;
  legal = look.legal;
  own = sym (mine-events w c n.seen world pass.0) ∙ look.own (number_of w.callers c) (look.party ∙ pass.1);
  party = look.party;
  start = look.start;
}
