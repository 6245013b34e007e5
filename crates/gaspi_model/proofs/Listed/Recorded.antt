-- What is recorded is what a look answers.
use Rattle.std.proofs.Common.{◌≡◌, ℕ, Bool, true, false, Option, None, Some, Result, Ok, Err, refl, sym, ap, ◌∙◌}
use Rattle.gaspi_types.specs.CallRows.{row_of}
use Rattle.gaspi_types.specs.declared.calls.Call.{Call}
use Rattle.gaspi_types.specs.declared.events.Event.TheVariants.{Called, Joined}
use Rattle.gaspi_types.specs.declared.groups.Args.{Args}
use Rattle.gaspi_types.specs.declared.replies.Ready.{Ready}
use Rattle.gaspi_types.specs.declared.replies.Ready.TheVariants as ready
use Rattle.gaspi_types.specs.declared.replies.Refusal.{Refusal}
use Rattle.gaspi_types.specs.declared.replies.Reply.{Reply}
use Rattle.gaspi_types.specs.declared.replies.Reply.TheVariants as replies
use Rattle.gaspi_types.specs.declared.shapes.CallerId.{CallerId}
use Rattle.gaspi_types.specs.declared.shapes.Limits.{Limits}
use Rattle.gaspi_model.specs.Calls.{call_result, answer_of_result, answer, recorded_reply}
use Rattle.gaspi_model.specs.CollectiveCalls.{collective_answer, is_reply_of, is_join_of, is_joining, joining_call}
use Rattle.gaspi_model.specs.State.{thread_at, is_running}
use Rattle.gaspi_model.specs.Step.{step, group_in, answer_in, call_memory}
use Rattle.gaspi_model.specs.declared.states.Memory.{Memory}
use Rattle.gaspi_model.specs.declared.states.Posts.{Posts}
use Rattle.gaspi_model.specs.declared.states.State.{State}
use Rattle.gaspi_model.proofs.GroupSteps.{step-completed, step-joined}
use Rattle.gaspi_model.proofs.Listed.Readiness.{joining-names}
use Rattle.gaspi_model.proofs.Made.{call-footprint, step-called, on_memory-at}
use Rattle.gaspi_model.proofs.Same.{same_reply-same, same_args-same}

-- a call that is no collective never may join
never-joins : (limits : Limits) (me : ℕ) (posts : Posts) (memory : Memory) (thread : ℕ) (call : Call) → is_joining (answer limits me posts memory thread call) ≡ false
never-joins limits me posts memory thread call = by-running (is_running (thread_at posts thread)) refl
  where
    by-finds : (finds : Result (Option Reply) Refusal) → is_joining (answer_of_result finds) ≡ false
    by-finds (Ok None) = refl
    by-finds (Ok (Some reply)) = refl
    by-finds (Err refusal) = refl

    by-running : (b : Bool) → is_running (thread_at posts thread) ≡ b → is_joining (answer limits me posts memory thread call) ≡ false
    by-running true runs = rw runs (by-finds (call_result limits me posts memory call))
    by-running false ended = rw ended refl

-- a collective that is recorded was found so
found-so : (found : Ready) (reply : Reply) → is_reply_of found reply ≡ true → (is_joining found ≡ false) × (reply ≡ recorded_reply found)
found-so (ready.Reply r) reply is = (refl, same_reply-same reply r is)
found-so (ready.Join args) reply is = absurd (let no : ⊥ = cc in no)
found-so ready.NotReady reply is = (refl, same_reply-same reply replies.Timeout is)

pub step-recorded : (s t : State) (c : CallerId) (call : Call) (reply : Reply) → step s (Called c call reply) ≡ Ok t
    → (found : Ready) × (answer_in s c.rank c.thread call ≡ Some found) × (is_joining found ≡ false) × (reply ≡ recorded_reply found)
step-recorded s t c call reply h = by-group (row_of call).group refl
  where
    by-group : (o : Option ℕ) → (row_of call).group ≡ o → (found : Ready) × (answer_in s c.rank c.thread call ≡ Some found) × (is_joining found ≡ false) × (reply ≡ recorded_reply found)
    by-group (Some id) named =
        let made = step-completed s t c id call reply named h in
        let m = made.2 in
        let found = collective_answer made.0 (group_in s id) c.rank c.thread id call in
        let so = found-so found reply m.is.answered in
        (found, rw (m.posts_there, named) refl, so.0, so.1)
    by-group None plain =
        let made = step-called s t c call reply plain h in
        let m = made.3 in
        let memory : call_memory s c.rank made.0 call ≡ made.1 = on_memory-at s made.0 c.rank (call-footprint s.limits.ranks c.rank call) ∙ sym m.worked in (
          answer s.limits c.rank made.0 made.1 c.thread call,
          rw (m.posts_there, plain, memory) refl,
          never-joins s.limits c.rank made.0 made.1 c.thread call,
          same_reply-same reply (recorded_reply (answer s.limits c.rank made.0 made.1 c.thread call)) m.is.answered,
        )

join-so : (found : Ready) (args : Args) → is_join_of found args ≡ true → found ≡ ready.Join args
join-so (ready.Reply r) args is = absurd (let no : ⊥ = cc in no)
join-so (ready.Join may) args is = ap (λ (a : Args). ready.Join a) (same_args-same may args is)
join-so ready.NotReady args is = absurd (let no : ⊥ = cc in no)

pub join-found_so : (s t : State) (c : CallerId) (id : ℕ) (args : Args) → step s (Joined c id args) ≡ Ok t → answer_in s c.rank c.thread (joining_call id args) ≡ Some (ready.Join args)
join-found_so s t c id args h =
    let made = step-joined s t c id args h in
    let m = made.2 in
    let named = joining-names id args in
    rw (m.posts_there, named) (ap (λ (r : Ready). Some r) (join-so (collective_answer made.0 (group_in s id) c.rank c.thread id (joining_call id args)) args m.is.joins))
