-- A call that posts: what it asks for, what it finds and what it leaves, as its row says.
use Rattle.std.proofs.Common.{◌≡◌, ℕ, ◌+◌, ◌*◌, ◌≤◌, true, nat_le, nat_lt, List, Option, Some, Result, Ok, if◌then◌else◌, length, slice_get, refl, sym, ap, arith}
use Rattle.gaspi_types.specs.CallRows.{row_of, entries_of}
use Rattle.gaspi_types.specs.Checks.{check, ok_or, err_if_some}
use Rattle.gaspi_types.specs.Replies.{is_done}
use Rattle.gaspi_types.specs.declared.call_rows.Posting.{Posting}
use Rattle.gaspi_types.specs.declared.calls.Call.{Call}
use Rattle.gaspi_types.specs.declared.entries.Kind.{Kind}
use Rattle.gaspi_types.specs.declared.shapes.Limits.{Limits}
use Rattle.gaspi_types.specs.declared.replies.Refusal.{Refusal}
use Rattle.gaspi_types.specs.declared.replies.Reply.{Reply}
use Rattle.gaspi_types.specs.declared.replies.Reply.TheVariants as replies
use Rattle.gaspi_model.specs.Calls.{requested_kinds, call_result, posts_effect, charge}
use Rattle.gaspi_model.specs.PostCalls.{post_request_result}
use Rattle.gaspi_model.specs.Posting.{with_post}
use Rattle.gaspi_types.specs.declared.entries.Queue.{Queue}
use Rattle.gaspi_model.specs.declared.states.Posts.{Posts}
use Rattle.gaspi_model.specs.declared.states.Memory.{Memory}
use Rattle.gaspi_model.specs.declared.states.ThreadState.{ThreadState}
use Rattle.gaspi_model.proofs.Sound.Accounts.{asks-counted, asks-some, few-posted, posting-goes_on}
use Rattle.gaspi_types.proofs.Chains.{bind_then, found_there, check_holds}

-- what an accepted post stands on
pub record IsPost (limits : Limits) (posts : Posts) (rank queue : ℕ) (finds : Result (List Kind) Refusal) (reply : Reply) : Type 0 where
  pub replied : is_done reply ≡ true
  pub ranked : nat_lt rank limits.ranks ≡ true
  pub q : Queue
  pub there : slice_get posts.queues queue ≡ Some q
  pub kinds : List Kind
  pub made : finds ≡ Ok kinds
  pub room : nat_le (q.open_count + length kinds) limits.depth ≡ true

pub post_by : (limits : Limits) (posts : Posts) (rank queue : ℕ) (asked : Result (List Kind) Refusal) (reply : Reply)
    → post_request_result limits posts rank queue asked ≡ Ok (Some reply) → IsPost limits posts rank queue asked reply
post_by limits posts rank queue asked reply is =
    bind_then (check (nat_lt rank limits.ranks) _) _ _ is (λ u ranked more.
    bind_then (ok_or (slice_get posts.queues queue) _) _ _ more (λ q there more.
    bind_then asked _ _ more (λ kinds made more.
    bind_then (err_if_some q.broken _) _ _ more (λ v whole more.
    bind_then (check (nat_le (q.open_count + length kinds) limits.depth) _) _ _ more (λ w room more.
    record { replied = done_reply reply more; ranked = check_holds _ _ _ ranked; q = q; there = found_there _ _ _ there; kinds = kinds; made = made; room = check_holds _ _ _ room })))))
  where
    done_reply : (reply : Reply) → ◌≡◌ {A = Result (Option Reply) Refusal} (Ok (Some replies.Done)) (Ok (Some reply)) → is_done reply ≡ true
    done_reply reply is = let same : replies.Done ≡ reply = cc in sym (ap is_done same)

-- how many entries what is asked for has, where it has them
abbrev pub HasLength : Result (List Kind) Refusal → ℕ → Type 0
HasLength asked entries = (kinds : List Kind) → asked ≡ Ok kinds → length kinds ≡ entries

-- what is asked for is something
abbrev pub IsFilled : Result (List Kind) Refusal → ℕ → Type 0
IsFilled asked entries = (kinds : List Kind) → asked ≡ Ok kinds → 1 ≤ entries

-- a call that posts asks for as many entries as its row says, and owes as many where it is done
record IsCounted (limits : Limits) (me : ℕ) (posts : Posts) (call : Call) (entries : ℕ) : Type 0 where
  long : HasLength (requested_kinds limits me posts call) entries
  few : entries ≤ 257
  some : IsFilled (requested_kinds limits me posts call) entries
  charged : (t : ThreadState) (reply : Reply) → charge t call reply ≡ (if is_done reply then 1 + 2 * entries else 1)

counted_of : (limits : Limits) (me : ℕ) (posts : Posts) (call : Call) (to : Posting) → (row_of call).posting ≡ Some to → IsCounted limits me posts call to.entries
counted_of limits me posts call to is = record {
  long = λ kinds asks. asks-counted limits me posts call to kinds is asks;
  few = (let few = few-posted call in let same : entries_of call ≡ to.entries = rw is refl in omega (arith, few, same));
  some = λ kinds asks. asks-some limits me posts call to kinds is asks;
  charged = λ t reply. rw (is, posting-goes_on call to is) refl;
}

-- a call that posts does what its row says
pub record IsPosting (limits : Limits) (me : ℕ) (posts : Posts) (call : Call) (posting : Posting) : Type 0 where
  pub long : HasLength (requested_kinds limits me posts call) posting.entries
  pub few : posting.entries ≤ 257
  pub some : IsFilled (requested_kinds limits me posts call) posting.entries
  pub finds : (memory : Memory) → call_result limits me posts memory call ≡ post_request_result limits posts posting.rank posting.queue (requested_kinds limits me posts call)
  pub leaves : (thread : ℕ) → posts_effect limits me posts thread call ≡ with_post posts posting.queue posting.rank (requested_kinds limits me posts call)
  pub charged : (t : ThreadState) (reply : Reply) → charge t call reply ≡ (if is_done reply then 1 + 2 * posting.entries else 1)

pub posting_of : (limits : Limits) (me : ℕ) (posts : Posts) (call : Call) (posting : Posting) → (row_of call).posting ≡ Some posting → IsPosting limits me posts call posting
posting_of limits me posts call posting is =
    let n = counted_of limits me posts call posting is in
    record {
      long = n.long;
      few = n.few;
      some = n.some;
      finds = λ memory. rw is refl;
      leaves = λ thread. rw is refl;
      charged = n.charged;
    }
