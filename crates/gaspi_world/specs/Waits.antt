-- Whether the timeouts of a caller came only when its looks were spent. (GASPI: timeouts)
use Rattle.std.specs.Prelude.{◌≡◌, ℕ, ◌<◌, ◌≤◌, true, List, ◌++◌, length, take, slice_get, Some}
use mathlib.Core.List.{IsPrefix}
use Rattle.gaspi_types.specs.World.{ShapeValue}
use Rattle.gaspi_types.specs.declared.calls.Call.{Call}
use Rattle.gaspi_types.specs.declared.events.Event.{Event}
use Rattle.gaspi_types.specs.declared.events.Event.TheVariants.{Called}
use Rattle.gaspi_types.specs.declared.replies.Reply.{Reply}
use Rattle.gaspi_types.specs.declared.replies.Reply.TheVariants.{Timeout}
use Rattle.gaspi_types.specs.declared.shapes.CallerId.{CallerId}
use Rattle.gaspi_model.specs.Step.{recorded_calls}
use Rattle.commit_table.specs.declared.views.PassView.{PassView}
use Rattle.gaspi_world.specs.Attempts.{is_unready, answer_after}

module _ (w : ShapeValue) (c : CallerId) where
  -- A look, by the length of the history that it saw, was one of a call that timed out at a place: it was no later than the call, later
  -- than each earlier call of the caller, and found the call neither refused nor ready.
  pub record IsLookOf (call : Call) (history : List Event) (place look : ℕ) : Type 0 where
    pub in_time : look ≤ place
    pub since : (k : ℕ) (other : Call) (reply : Reply) → k < place → slice_get history k ≡ Some (Called c other reply) → k < look
    pub unready : is_unready (answer_after w c call (take look history)) ≡ true

  -- n of these looks, one after another, were looks of that call
  pub record HasLooks (call : Call) (history : List Event) (place : ℕ) (looks : List ℕ) (n : ℕ) : Type 0 where
    pub before : List ℕ
    pub these : List ℕ
    pub later : List ℕ
    pub parts : looks ≡ before ++ (these ++ later)
    pub many : n ≤ length these
    pub each : (k look : ℕ) → slice_get these k ≡ Some look → IsLookOf call history place look

  -- No timeout of the caller came before its looks: ns says, for each of the caller's calls in order, how many looks it has.
  abbrev pub Waited : List Event → List ℕ → List ℕ → Type 0
  Waited history looks ns =
      (place : ℕ) (call : Call) (n : ℕ) → slice_get history place ≡ Some (Called c call Timeout) → slice_get ns (length (recorded_calls c.rank c.thread (take place history))) ≡ Some n
      → HasLooks call history place looks n

  -- Waited holds of what the pass of the caller has seen, where ns has a number for each of the caller's recorded calls, in order; and
  -- what it has seen has all these calls.
  pub record HaveWaited {S : Type 0} (ns : List ℕ) (v : PassView S Event) : Type 0 where
    pub waited : Waited v.seen v.looks ns
    pub each : length ns ≡ length (recorded_calls c.rank c.thread v.mine)
    pub seen : IsPrefix (recorded_calls c.rank c.thread v.mine) (recorded_calls c.rank c.thread v.seen)
