-- What a call found whose reply was recorded.
use Rattle.std.proofs.Common.{◌≡◌, ℕ, Bool, true, false, Option, None, Some, Result, Ok, Err, refl, sym, ap, ◌∙◌}
use Rattle.gaspi_types.specs.Replies.{is_idle}
use Rattle.gaspi_types.specs.declared.shapes.Limits.{Limits}
use Rattle.gaspi_types.specs.declared.calls.Call.{Call}
use Rattle.gaspi_types.specs.declared.replies.Reply.{Reply}
use Rattle.gaspi_types.specs.declared.replies.Reply.TheVariants as replies
use Rattle.gaspi_types.specs.declared.replies.Refusal.{Refusal}
use Rattle.gaspi_model.specs.State.{is_running, thread_at}
use Rattle.gaspi_model.specs.Calls.{answer, call_result, recorded_reply, answer_of_result}
use Rattle.gaspi_model.specs.declared.states.Posts.{Posts}
use Rattle.gaspi_model.specs.declared.states.Memory.{Memory}

-- a call that was answered neither with a refusal nor with a timeout found its reply
pub found-reply : (limits : Limits) (me : ℕ) (posts : Posts) (memory : Memory) (thread : ℕ) (call : Call) (reply : Reply)
    → reply ≡ recorded_reply (answer limits me posts memory thread call) → is_idle reply ≡ false → call_result limits me posts memory call ≡ Ok (Some reply)
found-reply limits me posts memory thread call reply is idle = by-thread (is_running (thread_at posts thread)) refl
  where
    by-finds : (finds : Result (Option Reply) Refusal) → call_result limits me posts memory call ≡ finds → reply ≡ recorded_reply (answer_of_result finds) → call_result limits me posts memory call ≡ Ok (Some reply)
    by-finds (Ok (Some r)) h same = h ∙ ap (λ (x : Reply). Ok (Some x)) (sym same)
    by-finds (Ok None) h same = absurd (let out = rw same at idle in let no : ⊥ = cc in no)
    by-finds (Err refusal) h same = absurd (let out = rw same at idle in let no : ⊥ = cc in no)

    by-thread : (b : Bool) → is_running (thread_at posts thread) ≡ b → call_result limits me posts memory call ≡ Ok (Some reply)
    by-thread true running = by-finds (call_result limits me posts memory call) refl (rw running at is)
    by-thread false ended = absurd (let refused : reply ≡ replies.Refused _ = rw ended at is in let out = rw refused at idle in let no : ⊥ = cc in no)
