-- The calls of a caller in a history that goes on.
use Rattle.std.proofs.Common.{◌≡◌, ℕ, Bool, true, false, List, [], ◌∷◌, ◌++◌, refl, ap, if◌then◌else◌}
use Rattle.gaspi_types.specs.World.{is_caller}
use Rattle.gaspi_types.specs.declared.calls.Call.{Call}
use Rattle.gaspi_types.specs.declared.events.Event.{Event}
use Rattle.gaspi_types.specs.declared.events.Event.TheVariants.{Called}
use Rattle.gaspi_types.specs.declared.replies.Reply.{Reply}
use Rattle.gaspi_model.specs.Step.{recorded_calls}

pub own_calls-append : (rank thread : ℕ) (a b : List Event) → recorded_calls rank thread (a ++ b) ≡ recorded_calls rank thread a ++ recorded_calls rank thread b
own_calls-append rank thread [] b = refl
own_calls-append rank thread (Called c call reply ∷ a) b = go (is_caller rank thread c) (own_calls-append rank thread a b)
  where
    go : (x : Bool) → recorded_calls rank thread (a ++ b) ≡ recorded_calls rank thread a ++ recorded_calls rank thread b
        → (if x then (call, reply) ∷ recorded_calls rank thread (a ++ b) else recorded_calls rank thread (a ++ b))
        ≡ (if x then (call, reply) ∷ recorded_calls rank thread a else recorded_calls rank thread a) ++ recorded_calls rank thread b
    go true rest = ap (λ (ps : List (Call × Reply)). (call, reply) ∷ ps) rest
    go false rest = rest
own_calls-append rank thread (transfer ∷ a) b = own_calls-append rank thread a b
