-- The result and the effect of each call, collectives aside. A call of a rank `me` reads and changes that rank's posts and at
-- most one memory: that of its rank or, for an atomic and a send, of the rank that it names. A send also has a message
-- (`brought`), which it takes from the own memory, and a register changes the posts of the rank that it names. The file of each
-- chapter has what its calls do.
use Rattle.std.specs.Prelude.{ℕ, ◌+◌, ◌*◌, ◌&&◌, List, Option, None, Some, Result, Ok, Err, if◌then◌else◌, slice_set}
use Rattle.gaspi_types.specs.CallRows.{row_of, entries_of, is_end}
use Rattle.gaspi_types.specs.Posts.{call_kinds}
use Rattle.gaspi_types.specs.Replies.{is_done, is_idle}
use Rattle.gaspi_types.specs.SegmentTables.{extent_in}
use Rattle.gaspi_types.specs.declared.call_rows.Posting.{Posting}
use Rattle.gaspi_types.specs.declared.entries.Kind.{Kind}
use Rattle.gaspi_types.specs.declared.shapes.Limits.{Limits}
use Rattle.gaspi_types.specs.declared.calls.Call.{Call}
use Rattle.gaspi_types.specs.declared.calls.Call.TheVariants.{Alloc, Register, Delete, Store, Load, Wait, Purge, Qsize, Waitsome, Reset, PassiveSend, PassiveReceive, FetchAdd, CompareSwap, GroupCreate, GroupAdd, GroupDelete, State, End}
use Rattle.gaspi_types.specs.declared.replies.Refusal.{Refusal}
use Rattle.gaspi_types.specs.declared.replies.Refusal.TheVariants.{CallerEnded}
use Rattle.gaspi_types.specs.declared.replies.Reply.{Reply}
use Rattle.gaspi_types.specs.declared.replies.Reply.TheVariants as replies
use Rattle.gaspi_types.specs.declared.replies.Ready.{Ready}
use Rattle.gaspi_types.specs.declared.replies.Ready.TheVariants as ready
use Rattle.gaspi_model.specs.State.{thread_at, is_running}
use Rattle.gaspi_model.specs.Posting.{with_post, counted}
use Rattle.gaspi_model.specs.SegmentCalls.{alloc_result, with_own, alloc_effect, register_result, with_known, delete_result, without_own, delete_effect}
use Rattle.gaspi_model.specs.MemoryCalls.{store_result, store_effect, load_result}
use Rattle.gaspi_model.specs.PostCalls.{post_request_result}
use Rattle.gaspi_model.specs.QueueCalls.{wait_result, purge_result, qsize_result, state_result, closed, purged}
use Rattle.gaspi_model.specs.NotificationCalls.{waitsome_result, reset_result, reset_effect}
use Rattle.gaspi_model.specs.AtomicCalls.{word_result, fetch_add_effect, compare_swap_effect}
use Rattle.gaspi_model.specs.PassiveCalls.{send_result, send_effect, receive_result, receive_effect}
use Rattle.gaspi_model.specs.GroupCalls.{group_create_result, group_create_effect, group_add_result, group_add_effect, group_delete_result, group_delete_effect}
use Rattle.gaspi_types.specs.declared.inboxes.Message.{Message}
use Rattle.gaspi_model.specs.declared.states.ThreadState.{ThreadState}
use Rattle.gaspi_model.specs.declared.states.ThreadState.TheVariants as threads
use Rattle.gaspi_model.specs.declared.states.Posts.{Posts}
use Rattle.gaspi_model.specs.declared.states.Memory.{Memory}

-- the result of a call that is no post and no collective: its refusal, or its reply, or none where it is not ready
abbrev pub plain_result : Limits → ℕ → Posts → Memory → Call → Result (Option Reply) Refusal
plain_result limits me posts memory (Alloc call) = alloc_result posts call
plain_result limits me posts memory (Register call) = register_result limits posts call
plain_result limits me posts memory (Delete call) = delete_result posts call
plain_result limits me posts memory (Store call) = store_result posts call
plain_result limits me posts memory (Load call) = load_result posts memory call
plain_result limits me posts memory (Wait call) = wait_result posts call
plain_result limits me posts memory (Purge call) = purge_result posts call
plain_result limits me posts memory (Qsize call) = qsize_result posts call
plain_result limits me posts memory (Waitsome call) = waitsome_result limits posts memory call
plain_result limits me posts memory (Reset call) = reset_result limits posts memory call
plain_result limits me posts memory (PassiveSend call) = send_result limits posts memory call
plain_result limits me posts memory (PassiveReceive call) = receive_result posts memory call
plain_result limits me posts memory (FetchAdd call) = word_result limits me posts memory call.seg call.offset call.rank
plain_result limits me posts memory (CompareSwap call) = word_result limits me posts memory call.seg call.offset call.rank
plain_result limits me posts memory GroupCreate = group_create_result posts
plain_result limits me posts memory (GroupAdd call) = group_add_result limits posts call
plain_result limits me posts memory (GroupDelete call) = group_delete_result posts call
plain_result limits me posts memory State = state_result posts
plain_result limits me posts memory call = Ok (Some replies.Done)

-- the kinds of the entries that a post asks for
abbrev pub requested_kinds : Limits → ℕ → Posts → Call → Result (List Kind) Refusal
requested_kinds limits me posts call = call_kinds limits.notes me posts.segments call

-- the result of a call that is no collective
abbrev pub call_result : Limits → ℕ → Posts → Memory → Call → Result (Option Reply) Refusal
call_result limits me posts memory call = finds_by (row_of call).posting
  where
    finds_by : Option Posting → Result (Option Reply) Refusal
    finds_by None = plain_result limits me posts memory call
    finds_by (Some to) = post_request_result limits posts to.rank to.queue (requested_kinds limits me posts call)

-- the result as an answer
abbrev pub answer_of_result : Result (Option Reply) Refusal → Ready
answer_of_result (Ok None) = ready.NotReady
answer_of_result (Ok (Some reply)) = ready.Reply reply
answer_of_result (Err refusal) = ready.Reply (replies.Refused refusal)

-- the answer of a look at a call: that the caller has ended comes before everything else
abbrev pub answer : Limits → ℕ → Posts → Memory → ℕ → Call → Ready
answer limits me posts memory thread call =
    if is_running (thread_at posts thread)
    then answer_of_result (call_result limits me posts memory call)
    else ready.Reply (replies.Refused CallerEnded)

-- the one reply with which the call may be recorded: its reply, or a timeout where it is not ready (timeouts); a collective
-- that may join has none before it has joined
abbrev pub recorded_reply : Ready → Reply
recorded_reply (ready.Reply reply) = reply
recorded_reply (ready.Join args) = replies.Timeout
recorded_reply ready.NotReady = replies.Timeout

-- The effect of a call that is answered neither with a refusal nor with a timeout.

-- on the posts of its rank, where it is no post
abbrev pub plain_effect : Posts → ℕ → Call → Posts
plain_effect posts thread (Alloc call) = with_own posts call.seg call.size
plain_effect posts thread (Delete call) = without_own posts call.seg
plain_effect posts thread (Wait call) = closed posts call.queue
plain_effect posts thread (Purge call) = purged posts call.queue
plain_effect posts thread GroupCreate = group_create_effect posts
plain_effect posts thread (GroupAdd call) = group_add_effect posts call
plain_effect posts thread (GroupDelete call) = group_delete_effect posts call
plain_effect posts thread End = record posts { threads = slice_set posts.threads thread threads.Ended }
plain_effect posts thread call = posts

-- on the posts of its rank
abbrev pub posts_effect : Limits → ℕ → Posts → ℕ → Call → Posts
posts_effect limits me posts thread call = done_by (row_of call).posting
  where
    done_by : Option Posting → Posts
    done_by None = plain_effect posts thread call
    done_by (Some to) = with_post posts to.queue to.rank (requested_kinds limits me posts call)

-- On the memory that it reads or changes: `posts` are its rank's before it, `brought` the message of a send.
abbrev pub memory_effect : Limits → Posts → Option Message → Memory → Call → Memory
memory_effect limits posts brought memory (Alloc call) = alloc_effect limits posts memory call
memory_effect limits posts brought memory (Delete call) = delete_effect memory call
memory_effect limits posts brought memory (Store call) = store_effect memory call
memory_effect limits posts brought memory (Reset call) = reset_effect memory call
memory_effect limits posts brought memory (PassiveSend call) = send_effect brought memory
memory_effect limits posts brought memory (PassiveReceive call) = receive_effect memory call
memory_effect limits posts brought memory (FetchAdd call) = fetch_add_effect memory call
memory_effect limits posts brought memory (CompareSwap call) = compare_swap_effect memory call
memory_effect limits posts brought memory call = memory

-- on the posts of a peer that it reaches, where its own rank's were so before it (segments: segment_register)
abbrev pub peer_effect : ℕ → Posts → Call → Posts → Posts
peer_effect me posts (Register call) peer = with_known me call.seg (extent_in posts.segments.own call.seg) peer
peer_effect me posts call peer = peer

-- The posts of the caller's rank after a call with its reply: a refusal or a timeout changes nothing but the count of events.
abbrev pub posts_after : Limits → ℕ → Posts → ℕ → Call → Reply → Posts
posts_after limits me posts thread call reply =
    counted (if is_idle reply then posts else posts_effect limits me posts thread call)

-- the memory after it
abbrev pub memory_after : Limits → Posts → Option Message → Memory → Call → Reply → Memory
memory_after limits posts brought memory call reply = if is_idle reply then memory else memory_effect limits posts brought memory call

-- the posts of a peer after it
abbrev pub peer_after : ℕ → Posts → Call → Reply → Posts → Posts
peer_after me posts call reply peer = if is_idle reply then peer else peer_effect me posts call peer

-- own choice: the charge of a call with its reply: nothing for the end of an active caller, itself and the two transfers of
-- each entry for a post that is done, and else itself
abbrev pub charge : ThreadState → Call → Reply → ℕ
charge t call reply =
    if is_end call && is_running t then 0 else (if is_done reply then 1 + 2 * entries_of call else 1)
