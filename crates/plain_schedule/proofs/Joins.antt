-- Joins of the present calls of callers.
use Rattle.std.proofs.Common.{◌≡◌, ℕ, ◌+◌, ◌≤◌, Bool, true, false, Option, None, Some, Result, Ok, Err, refl, ap, ◌∙◌, arith, IsOk}
use Rattle.std.specs.List.{slice_get}
use Rattle.gaspi_types.specs.CallRows.{row_of, need_of}
use Rattle.gaspi_types.specs.declared.calls.Call.{Call}
use Rattle.gaspi_types.specs.declared.events.Event.{Event}
use Rattle.gaspi_types.specs.declared.events.Event.TheVariants.{Joined}
use Rattle.gaspi_types.specs.declared.groups.Args.{Args}
use Rattle.gaspi_types.specs.declared.replies.Ready.{Ready}
use Rattle.gaspi_types.specs.declared.replies.Ready.TheVariants as ready
use Rattle.gaspi_types.specs.declared.replies.Refusal.{Refusal}
use Rattle.gaspi_types.specs.declared.replies.Reply.{Reply}
use Rattle.gaspi_types.specs.declared.shapes.CallerId.{CallerId}
use Rattle.gaspi_model.specs.Calls.{answer, call_result, answer_of_result}
use Rattle.gaspi_model.specs.CollectiveCalls.{is_joining, joining_call, group_of, join_event}
use Rattle.gaspi_model.specs.Sound.{IsSound}
use Rattle.gaspi_model.specs.State.{is_running, thread_at}
use Rattle.gaspi_model.specs.Step.{step, answer_in, call_memory, is_active, is_pending, used_room}
use Rattle.gaspi_model.specs.declared.states.Posts.{Posts}
use Rattle.gaspi_model.specs.declared.states.State.{State}
use Rattle.rank_script.specs.declared.scripts.ScriptLine.{ScriptLine}
use Rattle.plain_schedule.specs.Endings.{present_need}
use Rattle.plain_schedule.proofs.Work.{JoinsAreSteps}
use Rattle.plain_schedule.proofs.RunningAll.{JoinLaws}

-- What joins is a collective.

ready-joins-not : (r : Result (Option Reply) Refusal) (args : Args) → answer_of_result r ≡ ready.Join args → ⊥
ready-joins-not (Ok None) args is = cc
ready-joins-not (Ok (Some reply)) args is = cc
ready-joins-not (Err refusal) args is = cc

plain-joins-not : (s : State) (rank thread : ℕ) (call : Call) (posts : Posts) (args : Args) → answer s.limits rank posts (call_memory s rank posts call) thread call ≡ ready.Join args → ⊥
plain-joins-not s rank thread call posts args = go (is_running (thread_at posts thread)) refl
  where
    go : (b : Bool) → is_running (thread_at posts thread) ≡ b → answer s.limits rank posts (call_memory s rank posts call) thread call ≡ ready.Join args → ⊥
    go true running is = ready-joins-not (call_result s.limits rank posts (call_memory s rank posts call) call) args (rw running at is)
    go false ended is = let never = rw ended at is in cc

pub join-has-group : (s : State) (rank thread : ℕ) (call : Call) (args : Args) → answer_in s rank thread call ≡ Some (ready.Join args) → (row_of call).group ≡ Some (group_of call)
join-has-group s rank thread call args is = by-posts (slice_get s.posts rank) refl (row_of call).group refl
  where
    by-posts : (o : Option Posts) → slice_get s.posts rank ≡ o → (g : Option ℕ) → (row_of call).group ≡ g → (row_of call).group ≡ Some (group_of call)
    by-posts None at g named = absurd (let never : ◌≡◌ {A = Option Ready} None (Some (ready.Join args)) = rw at at is in let no : ⊥ = cc in no)
    by-posts (Some posts) at None named = absurd (plain-joins-not s rank thread call posts args (let found : ◌≡◌ {A = Option Ready} (Some (answer s.limits rank posts (call_memory s rank posts call) thread call)) (Some (ready.Join args)) = rw (at, named) at is in cc))
    by-posts (Some posts) at (Some id) named = rw named refl

-- What the laws of the machine come to, for the schedule.

joins-are-steps : ((s : State) (rank thread id : ℕ) (call : Call) (args : Args) → IsSound s → is_active s rank thread ≡ true
    → used_room s rank + need_of call (is_pending s rank thread call) false ≤ s.limits.events → (row_of call).group ≡ Some id
    → answer_in s rank thread call ≡ Some (ready.Join args) → IsOk (step s (Joined (record { rank = rank; thread = thread }) id args))) → JoinsAreSteps
joins-are-steps law s c line args sound active room answers =
    law s c.rank c.thread (group_of line.call) line.call args sound active room (join-has-group s c.rank c.thread line.call args answers) answers

pub join-laws : ((s t : State) (e : Event) → step s e ≡ Ok t → t.limits ≡ s.limits)
    → ((s : State) (rank thread id : ℕ) (call : Call) (args : Args) → IsSound s → is_active s rank thread ≡ true
    → used_room s rank + need_of call (is_pending s rank thread call) false ≤ s.limits.events → (row_of call).group ≡ Some id
    → answer_in s rank thread call ≡ Some (ready.Join args) → IsOk (step s (Joined (record { rank = rank; thread = thread }) id args)))
    → ((s : State) (rank thread id : ℕ) (call : Call) (args : Args) → (row_of call).group ≡ Some id → answer_in s rank thread call ≡ Some (ready.Join args) → joining_call id args ≡ call)
    → ((s t : State) (c : CallerId) (call : Call) (id : ℕ) (args : Args) → IsSound s → (row_of call).group ≡ Some id → step s (Joined c id args) ≡ Ok t
    → (is_pending t c.rank c.thread call ≡ true) × (used_room t c.rank ≡ used_room s c.rank + 1))
    → ((s : State) (rank thread : ℕ) (call : Call) (found : Ready) → is_pending s rank thread call ≡ true → answer_in s rank thread call ≡ Some found → is_joining found ≡ false)
    → ((call : Call) (id : ℕ) → (row_of call).group ≡ Some id → (need_of call false false ≡ 2) × (need_of call true false ≡ 1))
    → JoinLaws
join-laws stay join itself joined pending needs = record {
  steps = joins-are-steps join;
  room = keeps-room;
  once = once;
  itself = λ s c line args answers. itself s c.rank c.thread (group_of line.call) line.call args (join-has-group s c.rank c.thread line.call args answers) answers;
  pends = λ s t c line args sound answers made. (joined s t c line.call (group_of line.call) args sound (join-has-group s c.rank c.thread line.call args answers) made).0;
}
  where
    once : (s : State) (c : CallerId) (line : ScriptLine) (args : Args) → answer_in s c.rank c.thread line.call ≡ Some (ready.Join args) → is_pending s c.rank c.thread line.call ≡ false
    once s c line args answers = go (is_pending s c.rank c.thread line.call) refl
      where
        go : (b : Bool) → is_pending s c.rank c.thread line.call ≡ b → is_pending s c.rank c.thread line.call ≡ false
        go false is = is
        go true is = absurd (let never : is_joining (ready.Join args) ≡ false = pending s c.rank c.thread line.call (ready.Join args) is answers in let no : ⊥ = cc in no)

    keeps-room : (s t : State) (c : CallerId) (line : ScriptLine) (args : Args) → IsSound s → answer_in s c.rank c.thread line.call ≡ Some (ready.Join args)
        → used_room s c.rank + present_need s c line ≤ s.limits.events → step s (join_event c line.call args) ≡ Ok t → used_room t c.rank + present_need t c line ≤ t.limits.events
    keeps-room s t c line args sound answers room made =
        let named = join-has-group s c.rank c.thread line.call args answers in
        let after = joined s t c line.call (group_of line.call) args sound named made in
        let need = needs line.call (group_of line.call) named in
        let before : present_need s c line ≡ 2 = ap (λ (b : Bool). need_of line.call b false) (once s c line args answers) ∙ need.0 in
        let now : present_need t c line ≡ 1 = ap (λ (b : Bool). need_of line.call b false) after.0 ∙ need.1 in
        let same : t.limits.events ≡ s.limits.events = ap (λ (l : Rattle.gaspi_types.specs.declared.shapes.Limits.Limits). l.events) (stay s t (join_event c line.call args) made) in
        let took = after.1 in
        omega arith
