-- A pass may be used on after a call.
use Rattle.std.proofs.Common.{◌≡◌, Result, Ok, Err, ◌∙◌}
use Rattle.gaspi_types.specs.World.{ShapeValue}
use Rattle.gaspi_types.specs.declared.calls.Call.{Call}
use Rattle.gaspi_types.specs.declared.calls.Timeout as timeouts
use Rattle.gaspi_types.specs.declared.events.Event.{Event}
use Rattle.gaspi_types.specs.declared.replies.Reply.{Reply}
use Rattle.gaspi_types.specs.declared.shapes.CallerId.{CallerId}
use Rattle.timeout_state.specs.declared.budget.Look.{Look}
use Rattle.commit_table.specs.Calls.{TableValue, PassValue, HoldsNone}
use Rattle.commit_table.specs.declared.views.PassView.{PassView}
use Rattle.gaspi_world.specs.Attempts.{IsExtended, Attempted}
use Rattle.gaspi_world.specs.Calling.{Calls, MayCall}
use Rattle.gaspi_world.specs.declared.attempts.Halt.{Halt}
use Rattle.gaspi_world.specs.declared.attempts.Halt.TheVariants as halts
use Rattle.gaspi_world.specs.declared.calling.Stop.{Stop}
use Rattle.gaspi_world.specs.declared.calling.Stop.TheVariants as stops
use Rattle.gaspi_world.specs.declared.starts.Start.{Start}

module _ {S : Type 0} (w : ShapeValue) (c : CallerId) where
  pub attempt-goes-on : (call : Call) (look : Look) (v n : PassView S Event) (r : Result Reply Halt) → Attempted w c call look v r n → IsExtended w c v n
  attempt-goes-on call look v n (Ok reply) told = told.goes_on
  attempt-goes-on call look v n (Err halts.Busy) told = told.goes_on
  attempt-goes-on call look v n (Err halts.NotYet) told = told.goes_on
  attempt-goes-on call look v n (Err halts.EventLimit) told = told.goes_on
  attempt-goes-on call look v n (Err halts.NoMemory) told = told.goes_on

  pub call-goes-on : (call : Call) (timeout : timeouts.Timeout) (v n : PassView S Event) (r : Result Reply Stop) → Calls w c call timeout v r n → IsExtended w c v n
  call-goes-on call timeout v n (Ok reply) told = told.goes_on
  call-goes-on call timeout v n (Err stops.EventLimit) told = told.goes_on
  call-goes-on call timeout v n (Err stops.NoMemory) told = told.1.goes_on

pub may-call-on : (t : TableValue Start) (p q : PassValue Start Event) → (may : MayCall t p) → q.table ≡ p.table → HoldsNone q.known → IsExtended t.start.shape may.2.0 p.known q.known → MayCall t q
may-call-on t p q may table free goes =
    ((table ∙ may.0.0, goes.start ∙ may.0.1), free, (may.2.0, (may.2.1.0, goes.party ∙ may.2.1.1)))
