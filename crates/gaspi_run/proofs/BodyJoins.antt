-- Joins of a caller are followed by the calls that they are of.
use Rattle.std.proofs.Common.{◌≡◌, ℕ, List, [], ◌∷◌, ◌++◌, Option, None, Some, Result, Ok, Err, inl, inr, refl, sym, ap, ◌∙◌, subst}
use Rattle.gaspi_types.specs.CallRows.{row_of}
use Rattle.gaspi_types.specs.declared.calls.Call.{Call}
use Rattle.gaspi_types.specs.declared.calls.Call.TheVariants.{End}
use Rattle.gaspi_types.specs.declared.events.Event.{Event}
use Rattle.gaspi_types.specs.declared.events.Event.TheVariants.{Called, Joined, Take, Put}
use Rattle.gaspi_types.specs.declared.groups.Args.{Args}
use Rattle.gaspi_types.specs.declared.replies.Ready.{Ready}
use Rattle.gaspi_types.specs.declared.replies.Ready.TheVariants as ready
use Rattle.gaspi_types.specs.declared.replies.Reply.{Reply}
use Rattle.gaspi_types.specs.declared.shapes.CallerId.{CallerId}
use Rattle.gaspi_types.specs.World.{ShapeValue}
use Rattle.gaspi_model.specs.CollectiveCalls.{joining_call}
use Rattle.gaspi_model.specs.Step.{reached, answer_in}
use Rattle.gaspi_model.specs.declared.states.State.{State}
use Rattle.gaspi_model.specs.declared.states.Why.{Why}
use Rattle.gaspi_world.specs.Attempts.{MayHaveJoined}
use Rattle.gaspi_world.specs.Calling.{JoinedFirst}
use Rattle.gaspi_model.proofs.Recordable.{join-group}
use Rattle.plain_schedule.specs.Joins.{IsFollowed, AreJoinsFollowed, IsJoinOf}

-- A law of the machine: a call joins as itself.
abbrev pub Itself : Type 0
Itself = (s : State) (rank thread id : ℕ) (call : Call) (args : Args) → (row_of call).group ≡ Some id → answer_in s rank thread call ≡ Some (ready.Join args) → joining_call id args ≡ call

module _ (w : ShapeValue) (c : CallerId) where
  may-join : Itself → (call : Call) (history joins : List Event) → MayHaveJoined w c call history joins → IsJoinOf c call joins
  may-join itself call history joins (inl none) = inl none
  may-join itself call history joins (inr (args, is, found)) = go (reached w history) refl
    where
      go : (r : Result State Why) → reached w history ≡ r → IsJoinOf c call joins
      go (Err why) at = absurd (let none : ◌≡◌ {A = Option Ready} None (Some (ready.Join args)) = rw at at found in let no : ⊥ = cc in no)
      go (Ok s) at =
          let answered : answer_in s c.rank c.thread call ≡ Some (ready.Join args) = rw at at found in
          let group = join-group s c.rank c.thread call args answered in
          inr (group.0, args, is ∙ rw group.1 refl, itself s c.rank c.thread group.0 call args group.1 answered)

  -- what a call adds before it is recorded
  pub joins-itself : Itself → (call : Call) (earlier : List (List Event)) (last joins : List Event) → JoinedFirst w c call (earlier ++ last ∷ []) joins → IsJoinOf c call joins
  joins-itself itself call [] last joins joined = may-join itself call last joins joined.0
  joins-itself itself call (first ∷ others) last joins joined = may-join itself call first joins joined.0

  end-joins-not : (history joins : List Event) → MayHaveJoined w c End history joins → joins ≡ []
  end-joins-not history joins (inl none) = none
  end-joins-not history joins (inr (args, is, found)) = absurd (go (reached w history) refl)
    where
      go : (r : Result State Why) → reached w history ≡ r → ⊥
      go (Err why) at = (let none : ◌≡◌ {A = Option Ready} None (Some (ready.Join args)) = rw at at found in let no : ⊥ = cc in no)
      go (Ok s) at =
          let answered : answer_in s c.rank c.thread End ≡ Some (ready.Join args) = rw at at found in
          let group = join-group s c.rank c.thread End args answered in
          let never : ◌≡◌ {A = Option ℕ} None (Some group.0) = group.1 in
          (let no : ⊥ = cc in no)

  -- an end joins nothing
  pub end-adds-nothing : (earlier : List (List Event)) (last joins : List Event) → JoinedFirst w c End (earlier ++ last ∷ []) joins → joins ≡ []
  end-adds-nothing [] last joins joined = end-joins-not last joins joined.0
  end-adds-nothing (first ∷ others) last joins joined = end-joins-not first joins joined.0

-- Joins that are followed stay so.

followed-more : (stopped : Option Call) (joins : Call) (a b : List Event) → IsFollowed stopped joins a → IsFollowed stopped joins (a ++ b)
followed-more stopped joins [] b is = absurd is
followed-more stopped joins (Called c call reply ∷ a) b is = is
followed-more stopped joins (Joined c id args ∷ a) b is = is
followed-more stopped joins (Take origin queue target number outcome ∷ a) b is = is
followed-more stopped joins (Put origin queue target number outcome ∷ a) b is = is

pub followed-both : (stopped : Option Call) (a b : List Event) → AreJoinsFollowed stopped a → AreJoinsFollowed stopped b → AreJoinsFollowed stopped (a ++ b)
followed-both stopped [] b first second = second
followed-both stopped (Called c call reply ∷ a) b first second = followed-both stopped a b first second
followed-both stopped (Joined c id args ∷ a) b first second = (followed-more stopped (joining_call id args) a b first.0, followed-both stopped a b first.1 second)
followed-both stopped (Take origin queue target number outcome ∷ a) b first second = followed-both stopped a b first second
followed-both stopped (Put origin queue target number outcome ∷ a) b first second = followed-both stopped a b first second

-- where no run was stopped they are followed by their calls, wherever one is
followed-where : (stopped : Option Call) (joins : Call) (events : List Event) → IsFollowed None joins events → IsFollowed stopped joins events
followed-where stopped joins [] is = is
followed-where stopped joins (Called c call reply ∷ events) (inl same) = inl same
followed-where stopped joins (Called c call reply ∷ events) (inr (ends, none)) = absurd (let no : ⊥ = cc in no)
followed-where stopped joins (Joined c id args ∷ events) is = is
followed-where stopped joins (Take origin queue target number outcome ∷ events) is = is
followed-where stopped joins (Put origin queue target number outcome ∷ events) is = is

pub followed-all : (stopped : Option Call) (events : List Event) → AreJoinsFollowed None events → AreJoinsFollowed stopped events
followed-all stopped [] are = tt
followed-all stopped (Called c call reply ∷ events) are = followed-all stopped events are
followed-all stopped (Joined c id args ∷ events) are = (followed-where stopped (joining_call id args) events are.0, followed-all stopped events are.1)
followed-all stopped (Take origin queue target number outcome ∷ events) are = followed-all stopped events are
followed-all stopped (Put origin queue target number outcome ∷ events) are = followed-all stopped events are

-- a call with its join
pub call-follows : (c : CallerId) (call : Call) (reply : Reply) (joins : List Event) → IsJoinOf c call joins → AreJoinsFollowed None (joins ++ Called c call reply ∷ [])
call-follows c call reply joins (inl none) = subst (λ (es : List Event). AreJoinsFollowed None (es ++ Called c call reply ∷ [])) (sym none) tt
call-follows c call reply joins (inr (id, args, is, of_call)) = subst (λ (es : List Event). AreJoinsFollowed None (es ++ Called c call reply ∷ [])) (sym is) (inl (sym of_call), tt)

-- an end behind the join of a call that was not made
pub end-follows : (c : CallerId) (call : Call) (reply : Reply) (joins : List Event) → IsJoinOf c call joins → AreJoinsFollowed (Some call) (joins ++ Called c End reply ∷ [])
end-follows c call reply joins (inl none) = subst (λ (es : List Event). AreJoinsFollowed (Some call) (es ++ Called c End reply ∷ [])) (sym none) tt
end-follows c call reply joins (inr (id, args, is, of_call)) =
    subst (λ (es : List Event). AreJoinsFollowed (Some call) (es ++ Called c End reply ∷ [])) (sym is) (inr (refl, ap (λ (x : Call). Some x) (sym of_call)), tt)
