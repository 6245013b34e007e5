-- What an end changes.
use Rattle.std.proofs.Common.{◌≡◌, ℕ, true, false, Bool, Option, None, Some, Ok, refl, ap, ◌∙◌}
use Rattle.std.specs.List.{slice_get, slice_set}
use Rattle.gaspi_types.specs.declared.calls.Call.TheVariants as calls
use Rattle.gaspi_types.specs.declared.events.Event.TheVariants.{Called}
use Rattle.gaspi_types.specs.declared.replies.Reply.TheVariants as replies
use Rattle.gaspi_types.specs.declared.shapes.CallerId.{CallerId}
use Rattle.gaspi_types.specs.declared.replies.Refusal.TheVariants.{CallerEnded}
use Rattle.gaspi_model.specs.Calls.{answer, recorded_reply}
use Rattle.gaspi_model.specs.Changes.{IsEnded}
use Rattle.gaspi_model.specs.State.{thread_at, is_running}
use Rattle.gaspi_model.specs.Step.{step}
use Rattle.gaspi_model.specs.declared.states.Posts.{Posts}
use Rattle.gaspi_model.specs.declared.states.State.{State}
use Rattle.gaspi_model.specs.declared.states.ThreadState.{ThreadState}
use Rattle.gaspi_model.specs.declared.states.ThreadState.TheVariants.{Absent, Running, Ended}
use Rattle.gaspi_model.specs.Transfers.{PostsAndMemory}
use Rattle.gaspi_model.specs.declared.states.Memory.{Memory}
use Rattle.gaspi_model.proofs.Made.{step-called}
use Rattle.gaspi_model.proofs.Same.{same_reply-same}

pub is-running : (posts : Posts) (thread : ℕ) → is_running (thread_at posts thread) ≡ true → slice_get posts.threads thread ≡ Some Running
is-running posts thread runs = go (slice_get posts.threads thread) refl
  where
    go : (o : Option ThreadState) → slice_get posts.threads thread ≡ o → slice_get posts.threads thread ≡ Some Running
    go None at = absurd (let none : false ≡ true = rw at at runs in let no : ⊥ = cc in no)
    go (Some Absent) at = absurd (let none : false ≡ true = rw at at runs in let no : ⊥ = cc in no)
    go (Some Running) at = at
    go (Some Ended) at = absurd (let none : false ≡ true = rw at at runs in let no : ⊥ = cc in no)

pub ended : (s t : State) (c : CallerId) → step s (Called c calls.End replies.Done) ≡ Ok t → IsEnded s t c
ended s t c h =
    let made = step-called s t c calls.End replies.Done refl h in
    let m = made.3 in
    let posts = made.0 in
    record {
      posts = posts;
      posts_there = m.posts_there;
      running = is-running posts c.thread (runs posts made.1 (same_reply-same _ _ m.is.answered));
      after = m.leaves ∙ ap (λ (w : PostsAndMemory). record s { posts = slice_set s.posts c.rank w.posts }) m.is.leaves;
    }
  where
    runs : (posts : Posts) (memory : Memory) → replies.Done ≡ recorded_reply (answer s.limits c.rank posts memory c.thread calls.End) → is_running (thread_at posts c.thread) ≡ true
    runs posts memory is = go (is_running (thread_at posts c.thread)) refl
      where
        go : (b : Bool) → is_running (thread_at posts c.thread) ≡ b → is_running (thread_at posts c.thread) ≡ true
        go true runs = runs
        go false gone = absurd (let refused : replies.Done ≡ replies.Refused CallerEnded = rw gone at is in let no : ⊥ = cc in no)
