-- A call that is recorded: the room that is taken grows by at most its charge, by less where a purge frees some.
use Rattle.std.proofs.Common.{◌≡◌, ℕ, ◌+◌, ◌*◌, ◌<◌, ◌≤◌, Bool, true, false, List, [], ◌++◌, length, Option, None, Some, Result, Ok, Err, refl, sym, subst, arith, cond, get_or, ◌&&◌, if◌then◌else◌}
use Rattle.std.specs.List.{slice_get, slice_set}
use Rattle.std.proofs.lemmas.Bool.{ltb-true}
use Rattle.std.proofs.lemmas.List.Sums.{sum_by-append}
use Rattle.std.proofs.lemmas.Option.{slice_get-get_or}
use Rattle.gaspi_types.specs.Lanes.{lane_owed, posted_entries}
use Rattle.gaspi_types.specs.Replies.{is_idle, is_done}
use Rattle.gaspi_types.specs.declared.entries.Entry.{Entry}
use Rattle.gaspi_types.specs.declared.entries.Kind.{Kind}
use Rattle.gaspi_types.specs.declared.shapes.Limits.{Limits}
use Rattle.gaspi_types.specs.declared.calls.Call.{Call}
use Rattle.gaspi_types.specs.declared.calls.Call.TheVariants.{Alloc, Delete, Wait, Purge, GroupCreate, GroupAdd, GroupDelete, End}
use Rattle.gaspi_types.specs.CallRows.{row_of, entries_of, is_end}
use Rattle.gaspi_types.specs.declared.call_rows.Posting.{Posting}
use Rattle.gaspi_types.specs.declared.replies.Reply.{Reply}
use Rattle.gaspi_types.specs.declared.replies.Reply.TheVariants as replies
use Rattle.gaspi_types.specs.declared.replies.Refusal.{Refusal}
use Rattle.gaspi_types.specs.declared.replies.Refusal.TheVariants.{CallerEnded}
use Rattle.gaspi_model.specs.State.{owed, is_running, thread_at}
use Rattle.gaspi_types.specs.Queues.{queue_owed, with_entries}
use Rattle.gaspi_model.specs.Posting.{with_post, counted}
use Rattle.gaspi_types.specs.Tables.{changed_at}
use Rattle.gaspi_model.specs.QueueCalls.{emptied, purged}
use Rattle.gaspi_model.specs.GroupCalls.{group_create_effect, group_add_effect, group_delete_effect}
use Rattle.gaspi_model.specs.SegmentCalls.{with_own, without_own}
use Rattle.gaspi_model.specs.PostCalls.{post_request_result}
use Rattle.gaspi_model.specs.Calls.{posts_after, charge, answer, call_result, answer_of_result, recorded_reply, plain_result, plain_effect, requested_kinds}
use Rattle.gaspi_types.specs.declared.entries.Queue.{Queue}
use Rattle.gaspi_model.specs.declared.states.ThreadState.{ThreadState}
use Rattle.gaspi_model.specs.declared.states.ThreadState.TheVariants as threads
use Rattle.gaspi_model.specs.declared.states.Posts.{Posts}
use Rattle.gaspi_model.specs.declared.states.Memory.{Memory}
use Rattle.gaspi_types.proofs.Items.{sum_by-changed, changed_at-found}
use Rattle.gaspi_model.proofs.Sound.OpenCounts.{sum-emptied}
use Rattle.gaspi_model.proofs.Sound.Accounts.{entries_owed-queue, queue_owed-lane, lane_owed-posted, asks-counted, posting-goes_on, IsPosted, post-ok}

-- each queue has that many lanes
abbrev pub HasLanes : ℕ → Posts → Type 0
HasLanes ranks posts = (queue : ℕ) (q : Queue) → slice_get posts.queues queue ≡ Some q → length q.lanes ≡ ranks

-- a queue with entries added to one of its lanes owes theirs too
queue_owed-entries : (q : Queue) (target : ℕ) (entries : List Entry) → target < length q.lanes → queue_owed (with_entries target entries q) ≡ queue_owed q + lane_owed entries
queue_owed-entries q target entries within =
    let lane = get_or q.lanes target [] in
    let at = slice_get-get_or q.lanes target [] within in
    let sum = queue_owed-lane q.lanes target lane (lane ++ entries) at in
    let both = sum_by-append (λ (e : Entry). Rattle.gaspi_types.specs.Lanes.entry_owed e) lane entries in
    rw (changed_at-found q.lanes target lane (λ (l : List Entry). l ++ entries) at) (omega arith)

-- the posts after a post that was taken
post-owed : (limits : Limits) (posts : Posts) (rank queue : ℕ) (asked : Result (List Kind) Refusal) (reply : Option Reply) (q : Queue) (kinds : List Kind) → HasLanes limits.ranks posts
    → IsPosted limits posts rank queue asked reply q kinds → owed (with_post posts queue rank asked) ≡ owed posts + 2 * length kinds
post-owed limits posts rank queue asked reply q kinds lanes h =
    let within : rank < length q.lanes = subst (λ (n : ℕ). rank < n) (sym (lanes queue q h.in_posts)) (ltb-true rank limits.ranks h.ranked) in
    let entries = posted_entries posts.next kinds in
    let more = lane_owed-posted posts.next kinds in
    let one = queue_owed-entries q rank entries within in
    let all = entries_owed-queue posts.queues queue q (with_entries rank entries) h.in_posts in
    rw h.asks (omega arith)

-- a thread of a rank that ends
ended-owed : (posts : Posts) (thread : ℕ) → is_running (thread_at posts thread) ≡ true
    → owed (record posts { threads = slice_set posts.threads thread threads.Ended }) + 1 ≡ owed posts
ended-owed posts thread h = go (slice_get posts.threads thread) refl
  where
    go : (o : Option ThreadState) → slice_get posts.threads thread ≡ o → owed (record posts { threads = slice_set posts.threads thread threads.Ended }) + 1 ≡ owed posts
    go None at = absurd (let none = rw at at h in let no : ⊥ = cc in no)
    go (Some threads.Absent) at = absurd (let none = rw at at h in let no : ⊥ = cc in no)
    go (Some threads.Running) at =
        let sum = sum_by-changed (λ (t : ThreadState). cond (is_running t) 1 0) posts.threads thread threads.Running threads.Ended at in
        omega arith
    go (Some threads.Ended) at = absurd (let none = rw at at h in let no : ⊥ = cc in no)

-- what a wait that is done leaves owes the same
waited-owed : (posts : Posts) (queue : ℕ) → owed (record posts { queues = changed_at posts.queues queue (λ (q : Queue). record q { open_count = 0 }) }) ≡ owed posts
waited-owed posts queue = go (slice_get posts.queues queue) refl
  where
    go : (o : Option Queue) → slice_get posts.queues queue ≡ o → owed (record posts { queues = changed_at posts.queues queue (λ (q : Queue). record q { open_count = 0 }) }) ≡ owed posts
    go None at = rw at refl
    go (Some q) at =
        let sum = entries_owed-queue posts.queues queue q (λ (x : Queue). record x { open_count = 0 }) at in
        omega arith

-- what a purge leaves owes no more
purged-owed : (posts : Posts) (queue : ℕ) → owed (purged posts queue) ≤ owed posts
purged-owed posts queue = go (slice_get posts.queues queue) refl
  where
    go : (o : Option Queue) → slice_get posts.queues queue ≡ o → owed (purged posts queue) ≤ owed posts
    go None at = rw at (omega arith)
    go (Some q) at =
        let sum = entries_owed-queue posts.queues queue q emptied at in
        let none : queue_owed (emptied q) ≡ 0 = sum-emptied lane_owed q.lanes refl in
        omega arith

-- The room that is taken grows by at most the charge of the call.
abbrev Grows : Limits → ℕ → Posts → ℕ → Call → Reply → Type 0
Grows limits me posts thread call reply =
    (posts_after limits me posts thread call reply).events + owed (posts_after limits me posts thread call reply)
    ≤ posts.events + owed posts + charge (thread_at posts thread) call reply

either-same : (b : Bool) (x : Posts) → (if b then x else x) ≡ x
either-same true x = refl
either-same false x = refl

pub with_post-events : (posts : Posts) (queue target : ℕ) (asked : Result (List Kind) Refusal) → (with_post posts queue target asked).events ≡ posts.events
with_post-events posts queue target (Ok kinds) = refl
with_post-events posts queue target (Err refusal) = refl

-- a call that leaves the posts as they are
idle-grows : (b : Bool) (posts : Posts) → (counted (if b then posts else posts)).events + owed (counted (if b then posts else posts)) ≡ posts.events + owed posts + 1
idle-grows true posts = omega arith
idle-grows false posts = omega arith

-- a call that leaves the events as they are, and what is owed
posts-grow : (b : Bool) (posts done : Posts) → done.events ≡ posts.events → owed done ≡ owed posts → (counted (if b then posts else done)).events + owed (counted (if b then posts else done)) ≡ posts.events + owed posts + 1
posts-grow true posts done events same = omega arith
posts-grow false posts done events same = omega arith

-- a post, by what it asks for: so many entries, where it is not refused
posted-grows : (limits : Limits) (posts : Posts) (rank queue count : ℕ) (asked : Result (List Kind) Refusal) (finds : Result (Option Reply) Refusal) → HasLanes limits.ranks posts
    → ((kinds : List Kind) → asked ≡ Ok kinds → length kinds ≡ count) → post_request_result limits posts rank queue asked ≡ finds
    → (counted (if is_idle (recorded_reply (answer_of_result finds)) then posts else with_post posts queue rank asked)).events
    + owed (counted (if is_idle (recorded_reply (answer_of_result finds)) then posts else with_post posts queue rank asked))
    ≡ posts.events + owed posts + (if is_done (recorded_reply (answer_of_result finds)) then 1 + 2 * count else 1)
posted-grows limits posts rank queue count asked (Ok None) lanes counts is = omega arith
posted-grows limits posts rank queue count asked (Ok (Some reply)) lanes counts is =
    let posted = post-ok limits posts rank queue asked (Some reply) is in
    let p = posted.2 in
    let same : reply ≡ replies.Done = let done = p.done in cc in
    let owes = post-owed limits posts rank queue asked (Some reply) posted.0 posted.1 lanes p in
    let many = counts posted.1 p.asks in
    let events = with_post-events posts queue rank asked in
    rw same (omega arith)
posted-grows limits posts rank queue count asked (Err refusal) lanes counts is = omega arith

waited-grows : (b : Bool) (posts : Posts) (queue : ℕ) → (counted (if b then posts else (record posts { queues = changed_at posts.queues queue (λ (q : Queue). record q { open_count = 0 }) }))).events
    + owed (counted (if b then posts else (record posts { queues = changed_at posts.queues queue (λ (q : Queue). record q { open_count = 0 }) }))) ≡ posts.events + owed posts + 1
waited-grows true posts queue = omega arith
waited-grows false posts queue = let same = waited-owed posts queue in omega arith

purged-grows : (b : Bool) (posts : Posts) (queue : ℕ) → (counted (if b then posts else purged posts queue)).events + owed (counted (if b then posts else purged posts queue)) ≤ posts.events + owed posts + 1
purged-grows true posts queue = omega arith
purged-grows false posts queue = let less = purged-owed posts queue in omega arith

-- a call that posts nothing charges for itself alone
plain-charge : (call : Call) (reply : Reply) → (row_of call).posting ≡ None → (if is_done reply then 1 + 2 * entries_of call else 1) ≡ 1
plain-charge call reply none = rw none (go (is_done reply))
  where
    go : (b : Bool) → (if b then 1 + 2 * 0 else 1) ≡ 1
    go true = refl
    go false = refl

-- what is as much is at most as much, also of a charge that is said otherwise
at-most : (a b : ℕ) → a ≡ b → a ≤ b
at-most a b same = omega arith

at-most-charged : (a b m n : ℕ) → a ≤ b + m → n ≡ m → a ≤ b + n
at-most-charged a b m n less same = omega arith

-- of a running thread, by what the call finds that posts nothing
plain-grows : (limits : Limits) (me : ℕ) (posts : Posts) (memory : Memory) (thread : ℕ) (call : Call) (finds : Result (Option Reply) Refusal)
    → is_running (thread_at posts thread) ≡ true → plain_result limits me posts memory call ≡ finds
    → (counted (if is_idle (recorded_reply (answer_of_result finds)) then posts else plain_effect posts thread call)).events
    + owed (counted (if is_idle (recorded_reply (answer_of_result finds)) then posts else plain_effect posts thread call)) ≤ posts.events + owed posts + (if is_end call then 0 else 1)
plain-grows limits me posts memory thread (Alloc call) finds running is = at-most _ _ (posts-grow (is_idle (recorded_reply (answer_of_result finds))) posts (with_own posts call.seg call.size) refl refl)
plain-grows limits me posts memory thread (Delete call) finds running is = at-most _ _ (posts-grow (is_idle (recorded_reply (answer_of_result finds))) posts (without_own posts call.seg) refl refl)
plain-grows limits me posts memory thread (Wait call) finds running is = at-most _ _ (waited-grows (is_idle (recorded_reply (answer_of_result finds))) posts call.queue)
plain-grows limits me posts memory thread (Purge call) finds running is = purged-grows (is_idle (recorded_reply (answer_of_result finds))) posts call.queue
plain-grows limits me posts memory thread GroupCreate finds running is = at-most _ _ (posts-grow (is_idle (recorded_reply (answer_of_result finds))) posts (group_create_effect posts) refl refl)
plain-grows limits me posts memory thread (GroupAdd call) finds running is = at-most _ _ (posts-grow (is_idle (recorded_reply (answer_of_result finds))) posts (group_add_effect posts call) refl refl)
plain-grows limits me posts memory thread (GroupDelete call) finds running is = at-most _ _ (posts-grow (is_idle (recorded_reply (answer_of_result finds))) posts (group_delete_effect posts call) refl refl)
plain-grows limits me posts memory thread End finds running is =
    let ends = ended-owed posts thread running in
    rw (← is) (omega arith)
plain-grows limits me posts memory thread other finds running is = at-most _ _ (idle-grows (is_idle (recorded_reply (answer_of_result finds))) posts)

-- of a running thread, by what the call finds
running-grows : (limits : Limits) (me : ℕ) (posts : Posts) (memory : Memory) (thread : ℕ) (call : Call) (finds : Result (Option Reply) Refusal)
    → HasLanes limits.ranks posts → is_running (thread_at posts thread) ≡ true → call_result limits me posts memory call ≡ finds
    → Grows limits me posts thread call (recorded_reply (answer_of_result finds))
running-grows limits me posts memory thread call finds lanes running is = by-posting (row_of call).posting refl
  where
    charged : (b : Bool) → is_end call ≡ b → (row_of call).posting ≡ None
        → (if is_end call && true then 0 else (if is_done (recorded_reply (answer_of_result finds)) then 1 + 2 * entries_of call else 1)) ≡ (if is_end call then 0 else 1)
    charged true ends none = rw ends refl
    charged false goes none = rw goes (plain-charge call (recorded_reply (answer_of_result finds)) none)

    by-posting : (o : Option Posting) → (row_of call).posting ≡ o → Grows limits me posts thread call (recorded_reply (answer_of_result finds))
    by-posting None none =
        let grows = plain-grows limits me posts memory thread call finds running (rw none at is) in
        let charge_is = charged (is_end call) refl none in
        rw (none, running) (at-most-charged _ _ _ _ grows (rw none at charge_is))
    by-posting (Some to) post =
        let grows = posted-grows limits posts to.rank to.queue to.entries (requested_kinds limits me posts call) finds lanes (λ kinds asks. asks-counted limits me posts call to kinds post asks) (rw post at is) in
        rw (post, posting-goes_on call to post) (at-most _ _ grows)

-- of a thread that has ended, or has no section
ended-grows : (limits : Limits) (me : ℕ) (posts : Posts) (thread : ℕ) (call : Call) → is_running (thread_at posts thread) ≡ false
    → Grows limits me posts thread call (replies.Refused CallerEnded)
ended-grows limits me posts thread call ended = go (is_end call) refl
  where
    go : (b : Bool) → is_end call ≡ b → Grows limits me posts thread call (replies.Refused CallerEnded)
    go true is = rw (is, ended) (omega arith)
    go false is = rw is (omega arith)

-- the room that is taken grows by at most the charge of a call that is recorded with the reply that it has
pub call-grows : (limits : Limits) (me : ℕ) (posts : Posts) (memory : Memory) (thread : ℕ) (call : Call) (reply : Reply) → HasLanes limits.ranks posts
    → reply ≡ recorded_reply (answer limits me posts memory thread call) → Grows limits me posts thread call reply
call-grows limits me posts memory thread call reply lanes is = go (is_running (thread_at posts thread)) refl
  where
    go : (b : Bool) → is_running (thread_at posts thread) ≡ b → Grows limits me posts thread call reply
    go true running =
        let same : reply ≡ recorded_reply (answer_of_result (call_result limits me posts memory call)) = rw running at is in
        rw same (running-grows limits me posts memory thread call (call_result limits me posts memory call) lanes running refl)
    go false ended =
        let refused : reply ≡ replies.Refused CallerEnded = rw ended at is in
        rw refused (ended-grows limits me posts thread call ended)
