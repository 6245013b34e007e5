-- The calls of a caller in a history, and in its own events.
use Rattle.std.proofs.Common.{◌≡◌, ℕ, zero, suc, Bool, true, false, List, [], ◌∷◌, ◌++◌, length, length-append, Some, refl, sym, ap, ◌∙◌, subst, arith, inl, inr, append-nil}
use Rattle.std.specs.List.{slice_get}
use Rattle.std.proofs.lemmas.Bool.{eq-eqb}
use Rattle.gaspi_types.specs.World.{ShapeValue, is_caller}
use Rattle.gaspi_types.specs.declared.calls.Call.{Call}
use Rattle.gaspi_types.specs.declared.calls.Call.TheVariants.{End}
use Rattle.gaspi_types.specs.declared.events.Event.{Event}
use Rattle.gaspi_types.specs.declared.events.Event.TheVariants.{Called, Joined, Take, Put}
use Rattle.gaspi_types.specs.declared.replies.Reply.{Reply}
use Rattle.gaspi_types.specs.declared.shapes.CallerId.{CallerId}
use Rattle.gaspi_model.specs.Step.{recorded_calls}
use Rattle.gaspi_model.proofs.OwnCalls.{own_calls-append}
use Rattle.gaspi_world.specs.Attempts.{MayHaveJoined}
use Rattle.gaspi_model.specs.CallerEvents.{events_of}
use Rattle.gaspi_world.specs.Calling.{JoinedFirst}
use Rattle.gaspi_run.specs.SoFar.{HasNoEnd}

abbrev Pairs : Type 0
Pairs = List (Call × Reply)

pub own-one : (c : CallerId) (call : Call) (reply : Reply) → recorded_calls c.rank c.thread (Called c call reply ∷ []) ≡ (call, reply) ∷ []
own-one c call reply = rw (eq-eqb c.rank c.rank refl, eq-eqb c.thread c.thread refl) refl

-- a call more
pub own-more : (c : CallerId) (events : List Event) (call : Call) (reply : Reply) → recorded_calls c.rank c.thread (events ++ Called c call reply ∷ []) ≡ recorded_calls c.rank c.thread events ++ (call, reply) ∷ []
own-more c events call reply =
    own_calls-append c.rank c.thread events (Called c call reply ∷ []) ∙ ap (λ (ps : Pairs). recorded_calls c.rank c.thread events ++ ps) (own-one c call reply)

call-first : (c d : CallerId) (call : Call) (reply : Reply) (events : List Event) → is_caller c.rank c.thread d ≡ true → recorded_calls c.rank c.thread (Called d call reply ∷ events) ≡ (call, reply) ∷ recorded_calls c.rank c.thread events
call-first c d call reply events is = rw is refl

event-first : (c d : CallerId) (call : Call) (reply : Reply) (events : List Event) → is_caller c.rank c.thread d ≡ true → events_of c (Called d call reply ∷ events) ≡ Called d call reply ∷ events_of c events
event-first c d call reply events is = rw is refl

-- what a caller called is told by its own events
pub own-events : (c : CallerId) (history : List Event) → recorded_calls c.rank c.thread (events_of c history) ≡ recorded_calls c.rank c.thread history
own-events c [] = refl
own-events c (Called d call reply ∷ history) = go (is_caller c.rank c.thread d) refl (own-events c history)
  where
    go : (b : Bool) → is_caller c.rank c.thread d ≡ b → recorded_calls c.rank c.thread (events_of c history) ≡ recorded_calls c.rank c.thread history → recorded_calls c.rank c.thread (events_of c (Called d call reply ∷ history)) ≡ recorded_calls c.rank c.thread (Called d call reply ∷ history)
    go true is rest = ap (recorded_calls c.rank c.thread) (event-first c d call reply history is) ∙ (call-first c d call reply (events_of c history) is ∙ (ap (λ (ps : Pairs). (call, reply) ∷ ps) rest ∙ sym (call-first c d call reply history is)))
    go false is rest = rw is rest
own-events c (Joined d id args ∷ history) = go (is_caller c.rank c.thread d) refl (own-events c history)
  where
    go : (b : Bool) → is_caller c.rank c.thread d ≡ b → recorded_calls c.rank c.thread (events_of c history) ≡ recorded_calls c.rank c.thread history → recorded_calls c.rank c.thread (events_of c (Joined d id args ∷ history)) ≡ recorded_calls c.rank c.thread (Joined d id args ∷ history)
    go true is rest = rw is rest
    go false is rest = rw is rest
own-events c (Take origin queue target number outcome ∷ history) = own-events c history
own-events c (Put origin queue target number outcome ∷ history) = own-events c history

-- a join is no call
pub join-calls-nothing : (w : ShapeValue) (c : CallerId) (call : Call) (history joins : List Event) → MayHaveJoined w c call history joins → recorded_calls c.rank c.thread joins ≡ []
join-calls-nothing w c call history joins (inl none) = ap (recorded_calls c.rank c.thread) none
join-calls-nothing w c call history joins (inr (args, is, found)) = ap (recorded_calls c.rank c.thread) is

pub joins-call-nothing : (w : ShapeValue) (c : CallerId) (call : Call) (earlier : List (List Event)) (last joins : List Event) → JoinedFirst w c call (earlier ++ last ∷ []) joins → recorded_calls c.rank c.thread joins ≡ []
joins-call-nothing w c call [] last joins joined = join-calls-nothing w c call last joins joined.0
joins-call-nothing w c call (first ∷ others) last joins joined = join-calls-nothing w c call first joins joined.0

-- the events that a call adds
pub own-after : (w : ShapeValue) (c : CallerId) (call : Call) (earlier : List (List Event)) (last mine joins : List Event) → JoinedFirst w c call (earlier ++ last ∷ []) joins
    → recorded_calls c.rank c.thread (mine ++ joins) ≡ recorded_calls c.rank c.thread mine
own-after w c call earlier last mine joins joined =
    own_calls-append c.rank c.thread mine joins ∙ (ap (λ (ps : Pairs). recorded_calls c.rank c.thread mine ++ ps) (joins-call-nothing w c call earlier last joins joined) ∙ append-nil (recorded_calls c.rank c.thread mine))

-- the last of a list that is made of two
pub same-front : {A : Type 0} (a b : List A) (x y : A) → a ++ x ∷ [] ≡ b ++ y ∷ [] → a ≡ b
same-front [] [] x y h = refl
same-front [] (z ∷ b) x y h = absurd (let l = ap length h in let k = length-append b (y ∷ []) in omega arith)
same-front (z ∷ a) [] x y h = absurd (let l = ap length h in let k = length-append a (x ∷ []) in omega arith)
same-front {A} (z ∷ a) (u ∷ b) x y h =
    let head : z ≡ u = cc in
    let tail : a ++ x ∷ [] ≡ b ++ y ∷ [] = cc in
    ap (λ (l : List A). z ∷ l) (same-front a b x y tail) ∙ ap (λ (v : A). v ∷ b) head

-- No end.

pub no-end-more : (c : CallerId) (events : List Event) (call : Call) (reply : Reply) → (call ≡ End → ⊥) → HasNoEnd c events → HasNoEnd c (events ++ Called c call reply ∷ [])
no-end-more c events call reply plain none k given at = go (recorded_calls c.rank c.thread events) k none (subst (λ (ps : Pairs). slice_get ps k ≡ Some (End, given)) (own-more c events call reply) at)
  where
    go : (xs : Pairs) (k : ℕ) → ((j : ℕ) (r : Reply) → slice_get xs j ≡ Some (End, r) → ⊥) → slice_get (xs ++ (call, reply) ∷ []) k ≡ Some (End, given) → ⊥
    go [] zero none at = plain (let pair : ◌≡◌ {A = Call × Reply} (call, reply) (End, given) = cc in ap (λ (p : Call × Reply). p.0) pair)
    go [] (suc k) none at = (let no : ⊥ = cc in no)
    go (x ∷ xs) zero none at = none 0 given at
    go (x ∷ xs) (suc k) none at = go xs k (λ j r there. none (suc j) r there) at

pub no-end-same : (c : CallerId) (a b : List Event) → recorded_calls c.rank c.thread a ≡ recorded_calls c.rank c.thread b → HasNoEnd c b → HasNoEnd c a
no-end-same c a b same none k reply at = none k reply (subst (λ (ps : Pairs). slice_get ps k ≡ Some (End, reply)) same at)
