-- The calls of a caller in a history, one event after another.
use Rattle.std.proofs.Common.{◌≡◌, ℕ, ◌+◌, ◌<◌, false, List, [], ◌∷◌, ◌++◌, take, get_or, length, refl, sym, ap, subst, ◌∙◌}
use Rattle.std.proofs.lemmas.Bool.{eq-eqb}
use Rattle.std.proofs.lemmas.List.{append-nil, take_more}
use Rattle.gaspi_types.specs.World.{is_caller}
use Rattle.gaspi_types.specs.declared.shapes.CallerId.{CallerId}
use Rattle.gaspi_types.specs.declared.calls.Call.{Call}
use Rattle.gaspi_types.specs.declared.replies.Reply.{Reply}
use Rattle.gaspi_types.specs.declared.events.Event.{Event}
use Rattle.gaspi_types.specs.declared.events.Event.TheVariants.{Called}
use Rattle.gaspi_model.specs.Step.{recorded_calls}
use Rattle.gaspi_model.proofs.OwnCalls.{own_calls-append}

-- the calls of a caller in one event
abbrev pub own_of : ℕ → ℕ → Event → List (Call × Reply)
own_of rank thread e = recorded_calls rank thread (e ∷ [])

pub own-same : (c : CallerId) (call : Call) (reply : Reply) → own_of c.rank c.thread (Called c call reply) ≡ (call, reply) ∷ []
own-same c call reply = rw (eq-eqb c.rank c.rank refl, eq-eqb c.thread c.thread refl) refl

own-other : (rank thread : ℕ) (c : CallerId) (call : Call) (reply : Reply) → is_caller rank thread c ≡ false → own_of rank thread (Called c call reply) ≡ []
own-other rank thread c call reply apart = rw apart refl

-- one event more: a call of that caller
pub calls-more : (history : List Event) (c : CallerId) (call : Call) (reply : Reply)
    → recorded_calls c.rank c.thread (history ++ Called c call reply ∷ []) ≡ recorded_calls c.rank c.thread history ++ (call, reply) ∷ []
calls-more history c call reply =
    own_calls-append c.rank c.thread history (Called c call reply ∷ []) ∙ ap (λ (ps : List (Call × Reply)). recorded_calls c.rank c.thread history ++ ps) (own-same c call reply)

calls-kept : (history : List Event) (e : Event) (rank thread : ℕ) → own_of rank thread e ≡ [] → recorded_calls rank thread (history ++ e ∷ []) ≡ recorded_calls rank thread history
calls-kept history e rank thread none =
    own_calls-append rank thread history (e ∷ [])
    ∙ (ap (λ (ps : List (Call × Reply)). recorded_calls rank thread history ++ ps) none ∙ append-nil (recorded_calls rank thread history))

-- one of another caller
pub calls-other : (history : List Event) (c : CallerId) (call : Call) (reply : Reply) (rank thread : ℕ) → is_caller rank thread c ≡ false
    → recorded_calls rank thread (history ++ Called c call reply ∷ []) ≡ recorded_calls rank thread history
calls-other history c call reply rank thread apart = calls-kept history (Called c call reply) rank thread (own-other rank thread c call reply apart)

-- no call
pub calls-same : (history : List Event) (e : Event) → ((c : CallerId) (call : Call) (reply : Reply) → e ≡ Called c call reply → ⊥)
    → (rank thread : ℕ) → recorded_calls rank thread (history ++ e ∷ []) ≡ recorded_calls rank thread history
calls-same history (Called c call reply) none rank thread = absurd (none c call reply refl)
calls-same history transfer none rank thread = calls-kept history transfer rank thread refl

-- the prefix of a history, with its next event
pub front-more : (P : List Event → Type 0) (history : List Event) (i : ℕ) (e : Event) → i < length history → e ≡ get_or history i e
    → P (take i history ++ e ∷ []) → P (take (i + 1) history)
front-more P history i e within at is = subst P (ap (λ (x : Event). take i history ++ x ∷ []) at ∙ sym (take_more history i e within)) is
