-- What a look found, recorded: the step by the call with that reply.
use Rattle.std.proofs.Common.{◌≡◌, ℕ, ◌+◌, ◌-◌, ◌≤◌, arith, Bool, true, false, nat_le, List, [], Option, None, Some, Result, Ok, Err, OnOk, length, refl, sym, ap, ◌∙◌}
use Rattle.gaspi_types.specs.CallRows.{row_of}
use Rattle.gaspi_types.specs.Replies.{is_idle, same_reply}
use Rattle.gaspi_types.specs.World.{are_limits}
use Rattle.gaspi_types.specs.declared.call_rows.Posting.{Posting}
use Rattle.gaspi_types.specs.declared.calls.Call.{Call}
use Rattle.gaspi_types.specs.declared.calls.Call.TheVariants.{Write, Read, Notify, WriteNotify, ReadNotify, WriteList, WriteListNotify, ReadList, ReadListNotify, PassiveSend}
use Rattle.gaspi_types.specs.declared.entries.Kind.{Kind}
use Rattle.gaspi_types.specs.declared.shapes.Limits.{Limits}
use Rattle.gaspi_types.specs.declared.replies.Ready.{Ready}
use Rattle.gaspi_model.specs.State.{thread_at, owed}
use Rattle.gaspi_model.specs.Calls.{requested_kinds, answer, recorded_reply, posts_effect, posts_after, memory_effect, memory_after, charge}
use Rattle.gaspi_model.specs.Posting.{with_post, counted}
use Rattle.gaspi_model.specs.Sound.{IsSoundPosts}
use Rattle.gaspi_model.specs.Step.{called, is_there}
use Rattle.gaspi_types.specs.declared.inboxes.Message.{Message}
use Rattle.gaspi_model.specs.PassiveCalls.{sent_message}
use Rattle.gaspi_model.specs.declared.states.Posts.{Posts}
use Rattle.gaspi_model.specs.declared.states.Memory.{Memory}
use Rattle.gaspi_model.specs.declared.states.Why.TheVariants as whys
use Rattle.gaspi_model.proofs.Listed.Enabled.{same_reply-refl}
use Rattle.segment_store.specs.PostKinds.{kinds_of}
use Rattle.plain_calls.specs.Looks.{IsEvaluation, posts_effect_with, posts_after_evaluation, HasMessage}
use Rattle.plain_calls.specs.NumberBounds.{CallIsBounded, released}
use Rattle.plain_calls.specs.declared.looks.Evaluation.{Evaluation}
use Rattle.plain_calls.proofs.CallBounds.{found_by, room_by, used_by}

-- a call that posts nothing asks for nothing
pub plain_asks : (limits : Limits) (me : ℕ) (posts : Posts) (call : Call) → (row_of call).posting ≡ None → requested_kinds limits me posts call ≡ Ok []
plain_asks limits me posts (Write call) is = absurd (let no : ⊥ = cc in no)
plain_asks limits me posts (Read call) is = absurd (let no : ⊥ = cc in no)
plain_asks limits me posts (Notify call) is = absurd (let no : ⊥ = cc in no)
plain_asks limits me posts (WriteNotify call) is = absurd (let no : ⊥ = cc in no)
plain_asks limits me posts (ReadNotify call) is = absurd (let no : ⊥ = cc in no)
plain_asks limits me posts (WriteList call) is = absurd (let no : ⊥ = cc in no)
plain_asks limits me posts (WriteListNotify call) is = absurd (let no : ⊥ = cc in no)
plain_asks limits me posts (ReadList call) is = absurd (let no : ⊥ = cc in no)
plain_asks limits me posts (ReadListNotify call) is = absurd (let no : ⊥ = cc in no)
plain_asks limits me posts call is = refl

-- the evaluation of such a call, which has no entry
pub plain_evaluation : {A E : Type 0} (r : Result A E) (evaluation : Evaluation) (limits : Limits) (me : ℕ) (posts : Posts) (memory : Memory) (thread : ℕ) (call : Call) → (row_of call).posting ≡ None
    → evaluation.ready ≡ answer limits me posts memory thread call → kinds_of evaluation.kinds ≡ [] → OnOk r (IsEvaluation evaluation limits me posts memory thread call)
plain_evaluation {A} {E} (Err fault) evaluation limits me posts memory thread call none ready nothing = tt
plain_evaluation {A} {E} (Ok done) evaluation limits me posts memory thread call none ready nothing = record {
  ready = ready;
  kinds = λ busy. plain_asks limits me posts call none ∙ ap (λ (kinds : List Kind). Ok kinds) (sym nothing);
  nothing = λ idle. nothing;
}

-- a call that posts brings no message
pub posting_brings : (me : ℕ) (own : Memory) (call : Call) (to : Posting) → (row_of call).posting ≡ Some to → sent_message me own call ≡ None
posting_brings me own (PassiveSend call) to is = absurd (let no : ⊥ = cc in no)
posting_brings me own call to is = refl

-- what a look brought, or nothing, is the same to a call that is idle
pub message_same : (evaluation : Evaluation) (message : Option Message) (limits : Limits) (me : ℕ) (posts : Posts) (memory : Memory) (thread : ℕ) (call : Call) → HasMessage evaluation message
    → called limits me posts evaluation.message memory thread call (recorded_reply evaluation.ready) ≡ called limits me posts message memory thread call (recorded_reply evaluation.ready)
message_same evaluation message limits me posts memory thread call brings = by_idle (is_idle (recorded_reply evaluation.ready)) refl
  where
    by_idle : (idle : Bool) → is_idle (recorded_reply evaluation.ready) ≡ idle
        → called limits me posts evaluation.message memory thread call (recorded_reply evaluation.ready) ≡ called limits me posts message memory thread call (recorded_reply evaluation.ready)
    by_idle true idle = rw idle refl
    by_idle false busy = ap (λ (m : Option Message). called limits me posts m memory thread call (recorded_reply evaluation.ready)) (brings busy)

-- a call that posts changes no memory
pub posting_memory : (limits : Limits) (posts : Posts) (message : Option Message) (memory : Memory) (call : Call) (to : Posting) → (row_of call).posting ≡ Some to → memory_effect limits posts message memory call ≡ memory
posting_memory limits posts message memory (Write call) to is = refl
posting_memory limits posts message memory (Read call) to is = refl
posting_memory limits posts message memory (Notify call) to is = refl
posting_memory limits posts message memory (WriteNotify call) to is = refl
posting_memory limits posts message memory (ReadNotify call) to is = refl
posting_memory limits posts message memory (WriteList call) to is = refl
posting_memory limits posts message memory (WriteListNotify call) to is = refl
posting_memory limits posts message memory (ReadList call) to is = refl
posting_memory limits posts message memory (ReadListNotify call) to is = refl
posting_memory limits posts message memory call to is = absurd (let no : ⊥ = cc in no)

-- what was found is what the call asks for
found_done-same : (limits : Limits) (me : ℕ) (posts : Posts) (thread : ℕ) (call : Call) (kinds : List Kind)
    → requested_kinds limits me posts call ≡ Ok kinds → posts_effect_with posts thread call kinds ≡ posts_effect limits me posts thread call
found_done-same limits me posts thread call kinds asks = by_posting (row_of call).posting refl
  where
    by_posting : (posting : Option Posting) → (row_of call).posting ≡ posting → posts_effect_with posts thread call kinds ≡ posts_effect limits me posts thread call
    by_posting None is = rw is refl
    by_posting (Some to) is = rw is (ap (with_post posts to.queue to.rank) (sym asks))

pub found_after-same : (evaluation : Evaluation) (limits : Limits) (me : ℕ) (posts : Posts) (memory : Memory) (thread : ℕ) (call : Call)
    → IsEvaluation evaluation limits me posts memory thread call → posts_after_evaluation posts thread call evaluation ≡ posts_after limits me posts thread call (recorded_reply evaluation.ready)
found_after-same evaluation limits me posts memory thread call l = by_idle (is_idle (recorded_reply evaluation.ready)) refl
  where
    by_idle : (idle : Bool) → is_idle (recorded_reply evaluation.ready) ≡ idle → posts_after_evaluation posts thread call evaluation ≡ posts_after limits me posts thread call (recorded_reply evaluation.ready)
    by_idle true idle = rw idle refl
    by_idle false busy = rw busy (ap counted (found_done-same limits me posts thread call (kinds_of evaluation.kinds) (l.kinds busy)))

-- the reply is the one that may be recorded
pub look_same : (evaluation : Evaluation) (limits : Limits) (me : ℕ) (posts : Posts) (memory : Memory) (thread : ℕ) (call : Call)
    → IsEvaluation evaluation limits me posts memory thread call → same_reply (recorded_reply evaluation.ready) (recorded_reply (answer limits me posts memory thread call)) ≡ true
look_same evaluation limits me posts memory thread call l =
    ap (λ (r : Ready). same_reply (recorded_reply evaluation.ready) (recorded_reply r)) (sym l.ready) ∙ same_reply-refl (recorded_reply evaluation.ready)

pub look_room : (evaluation : Evaluation) (limits : Limits) (me : ℕ) (posts : Posts) (memory : Memory) (thread : ℕ) (call : Call)
    → are_limits limits ≡ true → IsSoundPosts limits posts → IsEvaluation evaluation limits me posts memory thread call
    → is_idle (recorded_reply evaluation.ready) ≡ false → CallIsBounded posts call (length (kinds_of evaluation.kinds))
look_room evaluation limits me posts memory thread call limited sound l busy =
    room_by limits me posts memory thread call (recorded_reply evaluation.ready) (kinds_of evaluation.kinds) (l.kinds busy) limited sound
    (found_by limits me posts memory thread call (recorded_reply evaluation.ready) (look_same evaluation limits me posts memory thread call l) busy)

-- the step, where the rank has room and where it has none
pub look_steps : (evaluation : Evaluation) (limits : Limits) (me : ℕ) (posts : Posts) (memory : Memory) (thread : ℕ) (call : Call)
    → IsEvaluation evaluation limits me posts memory thread call → is_there (thread_at posts thread) ≡ true
    → nat_le (posts.events + owed posts + charge (thread_at posts thread) call (recorded_reply evaluation.ready)) limits.events ≡ true
    → called limits me posts evaluation.message memory thread call (recorded_reply evaluation.ready)
    ≡ Ok (record { posts = posts_after_evaluation posts thread call evaluation; memory = memory_after limits posts evaluation.message memory call (recorded_reply evaluation.ready) })
look_steps evaluation limits me posts memory thread call l there room =
    rw (there, look_same evaluation limits me posts memory thread call l, room)
    (ap (λ (p : Posts). Ok (record { posts = p; memory = memory_after limits posts evaluation.message memory call (recorded_reply evaluation.ready) })) (sym (found_after-same evaluation limits me posts memory thread call l)))

pub look_limit : (evaluation : Evaluation) (limits : Limits) (me : ℕ) (posts : Posts) (memory : Memory) (thread : ℕ) (call : Call)
    → IsEvaluation evaluation limits me posts memory thread call → is_there (thread_at posts thread) ≡ true
    → nat_le (posts.events + owed posts + charge (thread_at posts thread) call (recorded_reply evaluation.ready)) limits.events ≡ false
    → called limits me posts evaluation.message memory thread call (recorded_reply evaluation.ready) ≡ Err whys.Limit
look_limit evaluation limits me posts memory thread call l there full = rw (there, look_same evaluation limits me posts memory thread call l, full) refl

-- what the rank has taken grows by the charge
pub look_used : (evaluation : Evaluation) (limits : Limits) (me : ℕ) (posts : Posts) (memory : Memory) (thread : ℕ) (call : Call)
    → IsSoundPosts limits posts → IsEvaluation evaluation limits me posts memory thread call
    → (posts_after_evaluation posts thread call evaluation).events + owed (posts_after_evaluation posts thread call evaluation) + released posts call (recorded_reply evaluation.ready)
    ≡ posts.events + owed posts + charge (thread_at posts thread) call (recorded_reply evaluation.ready)
look_used evaluation limits me posts memory thread call sound l =
    ap (λ (p : Posts). p.events + owed p + released posts call (recorded_reply evaluation.ready)) (found_after-same evaluation limits me posts memory thread call l)
    ∙ used_by limits me posts memory thread call (recorded_reply evaluation.ready) sound (look_same evaluation limits me posts memory thread call l)

-- what is left of a total without what is freed
pub less-released : (after released total result : ℕ) → after + released ≡ total → result ≡ released → total - result ≡ after
less-released after released total result all is = omega (arith, all, is)

pub released-within : (after released total result : ℕ) → after + released ≡ total → result ≡ released → result ≤ total
released-within after released total result all is = omega (arith, all, is)
