-- The evaluation of a look, and the posts after a record with it. `finds` is the result of a call (its refusal, its reply, or none where
-- it is not ready), `asked` the kinds of the entries that a call that posts asks for, or its refusal.
use Rattle.std.specs.Prelude.{◌≡◌, ℕ, ◌≤◌, Bool, List, [], ◌∷◌, length, slice_get, Option, None, Some, Result, Ok, Err, if◌then◌else◌, true, false}
use Rattle.gaspi_types.specs.CallRows.{row_of}
use Rattle.gaspi_types.specs.Replies.{is_idle}
use Rattle.gaspi_types.specs.declared.call_rows.Posting.{Posting}
use Rattle.gaspi_types.specs.declared.calls.Call.{Call}
use Rattle.gaspi_types.specs.declared.entries.Kind.{Kind}
use Rattle.gaspi_types.specs.declared.inboxes.Message.{Message}
use Rattle.gaspi_types.specs.declared.replies.Refusal.{Refusal}
use Rattle.gaspi_types.specs.declared.replies.Reply.{Reply}
use Rattle.gaspi_types.specs.declared.replies.Reply.TheVariants as replies
use Rattle.gaspi_types.specs.declared.replies.Ready.{Ready}
use Rattle.gaspi_types.specs.declared.replies.Ready.TheVariants as ready
use Rattle.gaspi_types.specs.declared.shapes.Limits.{Limits}
use Rattle.gaspi_model.specs.Calls.{requested_kinds, answer, answer_of_result, recorded_reply, plain_effect}
use Rattle.gaspi_model.specs.Posting.{with_post, counted}
use Rattle.gaspi_model.specs.declared.states.Posts.{Posts}
use Rattle.gaspi_model.specs.declared.states.Memory.{Memory}
use Rattle.gaspi_model.specs.declared.states.StepFault.{StepFault}
use Rattle.gaspi_model.specs.declared.states.StepFault.TheVariants as faults
use Rattle.gaspi_types.specs.declared.memory.NoMemory.{NoMemory}
use Rattle.segment_store.specs.PostKinds.{kinds_of}
use Rattle.segment_store.specs.declared.kinds.EntryKinds.{EntryKinds}
use Rattle.plain_calls.specs.declared.looks.Evaluation.{Evaluation}

-- the result that follows from a check: done where the check passes, and else its refusal
abbrev pub Grants : Result (Unit {0}) Refusal → Result (Option Reply) Refusal → Type 0
Grants (Ok granted) finds = finds ≡ Ok (Some replies.Done)
Grants (Err refusal) finds = finds ≡ Err refusal

-- the same of a call that posts: done with the kinds that it asks for, or its refusal
abbrev pub Accepts : Result EntryKinds Refusal → Result (List Kind) Refusal → Result (Option Reply) Refusal → Type 0
Accepts (Ok kinds) asked finds = (asked ≡ Ok (kinds_of kinds)) × (finds ≡ Ok (Some replies.Done))
Accepts (Err refusal) asked finds = finds ≡ Err refusal

-- the evaluation of a call that posts: its answer; and the kinds of its entries where it is done, else none
pub record IsPostEvaluation (evaluation : Evaluation) (asked : Result (List Kind) Refusal) (finds : Result (Option Reply) Refusal) : Type 0 where
  pub ready : evaluation.ready ≡ answer_of_result finds
  pub kinds : is_idle (recorded_reply evaluation.ready) ≡ false → asked ≡ Ok (kinds_of evaluation.kinds)
  pub nothing : is_idle (recorded_reply evaluation.ready) ≡ true → kinds_of evaluation.kinds ≡ []

-- This is the evaluation of this call of this caller, with these posts of its rank and the memory that it works on: its answer, and the
-- kinds of the entries that it appends, which are none where it is recorded with a refusal or a timeout.
pub record IsEvaluation (evaluation : Evaluation) (limits : Limits) (me : ℕ) (posts : Posts) (memory : Memory) (thread : ℕ) (call : Call) : Type 0 where
  pub ready : evaluation.ready ≡ answer limits me posts memory thread call
  pub kinds : is_idle (recorded_reply evaluation.ready) ≡ false → requested_kinds limits me posts call ≡ Ok (kinds_of evaluation.kinds)
  pub nothing : is_idle (recorded_reply evaluation.ready) ≡ true → kinds_of evaluation.kinds ≡ []

-- the message of an evaluation is the one that its call sends, where the call is recorded neither with a refusal nor with a timeout
abbrev pub HasMessage : Evaluation → Option Message → Type 0
HasMessage evaluation message = is_idle (recorded_reply evaluation.ready) ≡ false → evaluation.message ≡ message

-- no message of an inbox has more than 4,096 bytes
abbrev pub AreShort : List Message → Type 0
AreShort inbox = (place : ℕ) (m : Message) → slice_get inbox place ≡ Some m → length m.bytes ≤ 4096

-- the sender and the size of the first message
abbrev pub front_of : List Message → Option (ℕ × ℕ)
front_of [] = None
front_of (message ∷ messages) = Some (message.sender, length message.bytes)

-- The posts of a rank after the effect of a call that was neither refused nor not ready: a post appends entries of these kinds.
abbrev pub posts_effect_with : Posts → ℕ → Call → List Kind → Posts
posts_effect_with posts thread call kinds = done_by (row_of call).posting
  where
    done_by : Option Posting → Posts
    done_by None = plain_effect posts thread call
    done_by (Some to) = with_post posts to.queue to.rank (Ok kinds)

-- the posts after a record with an evaluation: one event more; a refusal or a timeout changes nothing else
abbrev pub posts_after_evaluation : Posts → ℕ → Call → Evaluation → Posts
posts_after_evaluation posts thread call evaluation =
    counted (if is_idle (recorded_reply evaluation.ready) then posts else posts_effect_with posts thread call (kinds_of evaluation.kinds))

-- the result of a step without the value that it gives: made, or its fault
abbrev pub made_of : {A : Type 0} → Result A StepFault → Result (Unit {0}) StepFault
made_of (Ok given) = Ok tt
made_of (Err fault) = Err fault

-- the same of a step that fails only where memory runs out
abbrev pub recorded_of : {A : Type 0} → Result A NoMemory → Result (Unit {0}) StepFault
recorded_of (Ok given) = Ok tt
recorded_of (Err fault) = Err faults.NoMemory
