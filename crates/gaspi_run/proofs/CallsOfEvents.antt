-- The calls of a caller in a history are those among its own events.
use Rattle.std.proofs.Common.{◌≡◌, Bool, true, false, List, [], ◌∷◌, refl, ap}
use Rattle.gaspi_types.specs.World.{is_caller}
use Rattle.gaspi_types.specs.declared.calls.Call.{Call}
use Rattle.gaspi_types.specs.declared.events.Event.{Event}
use Rattle.gaspi_types.specs.declared.events.Event.TheVariants.{Called, Joined, Take, Put}
use Rattle.gaspi_types.specs.declared.replies.Reply.{Reply}
use Rattle.gaspi_types.specs.declared.shapes.CallerId.{CallerId}
use Rattle.gaspi_model.specs.Step.{recorded_calls}
use Rattle.gaspi_model.specs.CallerEvents.{events_of}

pub own-events : (c : CallerId) (history : List Event) → recorded_calls c.rank c.thread (events_of c history) ≡ recorded_calls c.rank c.thread history
own-events c [] = refl
own-events c (Called d call reply ∷ history) = go (is_caller c.rank c.thread d) refl (own-events c history)
  where
    go : (b : Bool) → is_caller c.rank c.thread d ≡ b → recorded_calls c.rank c.thread (events_of c history) ≡ recorded_calls c.rank c.thread history
        → recorded_calls c.rank c.thread (events_of c (Called d call reply ∷ history)) ≡ recorded_calls c.rank c.thread (Called d call reply ∷ history)
    go true is rest = rw is (rw is (ap (λ (ps : List (Call × Reply)). (call, reply) ∷ ps) rest))
    go false is rest = rw is rest
own-events c (Joined d id args ∷ history) = go (is_caller c.rank c.thread d) refl (own-events c history)
  where
    go : (b : Bool) → is_caller c.rank c.thread d ≡ b → recorded_calls c.rank c.thread (events_of c history) ≡ recorded_calls c.rank c.thread history
        → recorded_calls c.rank c.thread (events_of c (Joined d id args ∷ history)) ≡ recorded_calls c.rank c.thread (Joined d id args ∷ history)
    go true is rest = rw is rest
    go false is rest = rw is rest
own-events c (Take origin queue target number outcome ∷ history) = own-events c history
own-events c (Put origin queue target number outcome ∷ history) = own-events c history
