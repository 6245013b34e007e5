-- Joins of a caller are followed by the calls that they are of.
use Rattle.std.proofs.Common.{◌≡◌, Bool, true, false, List, [], ◌∷◌, ◌++◌, Option, Some, refl, inl, inr}
use Rattle.gaspi_types.specs.declared.calls.Call.{Call}
use Rattle.gaspi_types.specs.declared.calls.Call.TheVariants.{End}
use Rattle.gaspi_types.specs.declared.events.Event.{Event}
use Rattle.gaspi_types.specs.declared.events.Event.TheVariants.{Called, Joined, Take, Put}
use Rattle.gaspi_types.specs.declared.groups.Args.{Args}
use Rattle.gaspi_types.specs.declared.replies.Reply.{Reply}
use Rattle.gaspi_types.specs.declared.shapes.CallerId.{CallerId}
use Rattle.gaspi_model.specs.CollectiveCalls.{joining_call}
use Rattle.plain_schedule.specs.Joins.{IsFollowed, AreJoinsFollowed}
use Rattle.std.specs.Prelude.{ℕ}

-- So far: a join is followed by its call, and one that stands last is of the call that comes next.
abbrev pub IsFollowedSoFar : Option Call → Call → List Event → Type 0
IsFollowedSoFar next joins [] = next ≡ Some joins
IsFollowedSoFar next joins (Called c call reply ∷ events) = call ≡ joins
IsFollowedSoFar next joins (Joined c id args ∷ events) = ⊥
IsFollowedSoFar next joins (Take origin queue target number outcome ∷ events) = ⊥
IsFollowedSoFar next joins (Put origin queue target number outcome ∷ events) = ⊥

abbrev pub AreFollowedSoFar : Option Call → List Event → Type 0
AreFollowedSoFar next [] = Unit {0}
AreFollowedSoFar next (Joined c id args ∷ events) = IsFollowedSoFar next (joining_call id args) events × AreFollowedSoFar next events
AreFollowedSoFar next (Called c call reply ∷ events) = AreFollowedSoFar next events
AreFollowedSoFar next (Take origin queue target number outcome ∷ events) = AreFollowedSoFar next events
AreFollowedSoFar next (Put origin queue target number outcome ∷ events) = AreFollowedSoFar next events

-- whether the last event is a join
abbrev pub is_join_event : Event → Bool
is_join_event (Called c call reply) = false
is_join_event (Joined c id args) = true
is_join_event (Take origin queue target number outcome) = false
is_join_event (Put origin queue target number outcome) = false

abbrev pub ends_joined : List Event → Bool
ends_joined [] = false
ends_joined (e ∷ []) = is_join_event e
ends_joined (e ∷ x ∷ events) = ends_joined (x ∷ events)

tail-ends : (e : Event) (events : List Event) → ends_joined (e ∷ events) ≡ false → ends_joined events ≡ false
tail-ends e [] h = refl
tail-ends e (x ∷ events) h = h

pub called-ends : (events : List Event) (c : CallerId) (call : Call) (reply : Reply) → ends_joined (events ++ Called c call reply ∷ []) ≡ false
called-ends [] c call reply = refl
called-ends (e ∷ []) c call reply = refl
called-ends (e ∷ x ∷ events) c call reply = called-ends (x ∷ events) c call reply

-- the call that comes next is made
pub called-so-far : (next : Option Call) (events : List Event) (c : CallerId) (call : Call) (reply : Reply) → AreFollowedSoFar (Some call) events → AreFollowedSoFar next (events ++ Called c call reply ∷ [])
called-so-far next [] c call reply h = tt
called-so-far next (Joined d id args ∷ events) c call reply h = (first events h.0, called-so-far next events c call reply h.1)
  where
    first : (es : List Event) → IsFollowedSoFar (Some call) (joining_call id args) es → IsFollowedSoFar next (joining_call id args) (es ++ Called c call reply ∷ [])
    first [] is = let one : ◌≡◌ {A = Option Call} (Some call) (Some (joining_call id args)) = is in cc
    first (Called x made answer ∷ es) is = is
    first (Joined x k xs ∷ es) is = is
    first (Take o q t n r ∷ es) is = is
    first (Put o q t n r ∷ es) is = is
called-so-far next (Called d made answer ∷ events) c call reply h = called-so-far next events c call reply h
called-so-far next (Take o q t n r ∷ events) c call reply h = called-so-far next events c call reply h
called-so-far next (Put o q t n r ∷ events) c call reply h = called-so-far next events c call reply h

-- the call that comes next joins, where no join stands last
pub joined-so-far : (next : Option Call) (events : List Event) (c : CallerId) (id : ℕ) (args : Args) → ends_joined events ≡ false → AreFollowedSoFar next events
    → AreFollowedSoFar (Some (joining_call id args)) (events ++ Joined c id args ∷ [])
joined-so-far next [] c id args ends h = (refl, tt)
joined-so-far next (Joined d k xs ∷ []) c id args ends h = absurd (let no : ⊥ = cc in no)
joined-so-far next (Joined d k xs ∷ e ∷ events) c id args ends h = (first e events h.0, joined-so-far next (e ∷ events) c id args ends h.1)
  where
    first : (x : Event) (es : List Event) → IsFollowedSoFar next (joining_call k xs) (x ∷ es) → IsFollowedSoFar (Some (joining_call id args)) (joining_call k xs) ((x ∷ es) ++ Joined c id args ∷ [])
    first (Called y made answer) es is = is
    first (Joined y j ys) es is = is
    first (Take o q t n r) es is = is
    first (Put o q t n r) es is = is
joined-so-far next (Called d made answer ∷ events) c id args ends h = joined-so-far next events c id args (tail-ends (Called d made answer) events ends) h
joined-so-far next (Take o q t n r ∷ events) c id args ends h = joined-so-far next events c id args (tail-ends (Take o q t n r) events ends) h
joined-so-far next (Put o q t n r ∷ events) c id args ends h = joined-so-far next events c id args (tail-ends (Put o q t n r) events ends) h

-- the caller makes its end, where the call that comes next is the one before which its run was stopped
pub followed-at-end : (stopped : Option Call) (events : List Event) (c : CallerId) (reply : Reply) → AreFollowedSoFar stopped events → AreJoinsFollowed stopped (events ++ Called c End reply ∷ [])
followed-at-end stopped [] c reply h = tt
followed-at-end stopped (Joined d id args ∷ events) c reply h = (first events h.0, followed-at-end stopped events c reply h.1)
  where
    first : (es : List Event) → IsFollowedSoFar stopped (joining_call id args) es → IsFollowed stopped (joining_call id args) (es ++ Called c End reply ∷ [])
    first [] is = inr (refl, is)
    first (Called x made answer ∷ es) is = inl is
    first (Joined x k xs ∷ es) is = is
    first (Take o q t n r ∷ es) is = is
    first (Put o q t n r ∷ es) is = is
followed-at-end stopped (Called d made answer ∷ events) c reply h = followed-at-end stopped events c reply h
followed-at-end stopped (Take o q t n r ∷ events) c reply h = followed-at-end stopped events c reply h
followed-at-end stopped (Put o q t n r ∷ events) c reply h = followed-at-end stopped events c reply h
