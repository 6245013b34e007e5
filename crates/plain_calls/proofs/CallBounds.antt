-- The room of a call that may be recorded: a post's numbers fit, and what its rank has taken grows by its charge, less what
-- a purge frees.
use Rattle.std.proofs.Common.{◌≡◌, ℕ, ◌+◌, ◌*◌, ◌^◌, ◌<◌, ◌≤◌, Bool, true, false, cond, nat_le, nat_lt, List, [], ◌++◌, Option, None, Some, Result, Ok, Err, length, get_or, count_by, sum_by, slice_get, slice_set, refl, sym, ap, subst, ◌∙◌, arith}
use Rattle.std.proofs.lemmas.Bool.Decides.{nat_tests}
use Rattle.std.proofs.lemmas.List.Sums.{sum_by-append}
use Rattle.std.proofs.lemmas.Option.{slice_get-get_or}
use Rattle.gaspi_types.specs.CallRows.{row_of}
use Rattle.gaspi_types.specs.Checks.{check, ok_or, err_if_some}
use Rattle.gaspi_types.specs.Lanes.{lane_owed, entry_owed, posted_entries}
use Rattle.gaspi_types.specs.SegmentTables.{extent_in, alloc_checks}
use Rattle.gaspi_types.specs.Replies.{same_reply, is_idle, is_done}
use Rattle.gaspi_types.specs.World.{are_limits}
use Rattle.gaspi_types.specs.declared.entries.Entry.{Entry}
use Rattle.gaspi_types.specs.declared.entries.Kind.{Kind}
use Rattle.gaspi_types.specs.declared.shapes.Limits.{Limits}
use Rattle.gaspi_types.specs.declared.call_rows.Posting.{Posting}
use Rattle.gaspi_types.specs.declared.calls.Call.{Call}
use Rattle.gaspi_types.specs.declared.calls.Call.TheVariants.{Alloc, Wait, Purge, GroupCreate, GroupAdd, End}
use Rattle.gaspi_model.proofs.GroupFinds.{add-found}
use Rattle.gaspi_types.specs.declared.calls.segments.Alloc as alloc
use Rattle.gaspi_types.specs.declared.replies.Refusal.{Refusal}
use Rattle.gaspi_types.specs.declared.replies.Reply.{Reply}
use Rattle.gaspi_types.specs.declared.replies.Reply.TheVariants as replies
use Rattle.gaspi_types.specs.declared.replies.Ready.TheVariants as ready
use Rattle.gaspi_types.specs.declared.replies.Refusal.TheVariants.{CallerEnded}
use Rattle.gaspi_model.specs.State.{thread_at, is_running, owed}
use Rattle.gaspi_types.specs.Queues.{queue_owed, with_entries}
use Rattle.gaspi_model.specs.Calls.{requested_kinds, call_result, answer, answer_of_result, recorded_reply, posts_effect, posts_after, charge}
use Rattle.gaspi_model.specs.Posting.{with_post}
use Rattle.gaspi_types.specs.Tables.{changed_at}
use Rattle.gaspi_model.specs.QueueCalls.{emptied}
use Rattle.gaspi_model.specs.SegmentCalls.{alloc_result}
use Rattle.gaspi_model.specs.Sound.{IsSoundPosts}
use Rattle.gaspi_types.specs.declared.entries.Queue.{Queue}
use Rattle.gaspi_model.specs.declared.states.Posts.{Posts}
use Rattle.gaspi_model.specs.declared.states.Memory.{Memory}
use Rattle.gaspi_model.specs.declared.states.ThreadState.{ThreadState}
use Rattle.gaspi_model.specs.declared.states.ThreadState.TheVariants as threads
use Rattle.plain_calls.specs.NumberBounds.{IsBounded, PostIsBounded, AllocIsBounded, PlainCallIsBounded, CallIsBounded, purged_queue, owed_at, released_at, released}
use Rattle.gaspi_types.proofs.Chains.{bind_then, check_holds}
use Rattle.gaspi_types.proofs.Items.{changed_at-found}
use Rattle.gaspi_model.proofs.Sound.OpenCounts.{sum-emptied}
use Rattle.plain_calls.proofs.Owed.{sum_by-put, lane_owed-posted}
use Rattle.plain_calls.proofs.Postings.{IsPost, post_by, HasLength, IsPosting, posting_of}

-- replies that are the same are both idle or both not, and both done or both not
pub same_idle : (a b : Reply) → same_reply a b ≡ true → is_idle a ≡ is_idle b
same_idle replies.Done replies.Done same = refl
same_idle (replies.Value m) (replies.Value n) same = refl
same_idle (replies.Id m) (replies.Id n) same = refl
same_idle (replies.Bytes m) (replies.Bytes n) same = refl
same_idle (replies.Mask m) (replies.Mask n) same = refl
same_idle (replies.List m) (replies.List n) same = refl
same_idle replies.Timeout replies.Timeout same = refl
same_idle (replies.Refused m) (replies.Refused n) same = refl
same_idle _ _ same = cc

pub same_done : (a b : Reply) → same_reply a b ≡ true → is_done a ≡ is_done b
same_done replies.Done replies.Done same = refl
same_done (replies.Value m) (replies.Value n) same = refl
same_done (replies.Id m) (replies.Id n) same = refl
same_done (replies.Bytes m) (replies.Bytes n) same = refl
same_done (replies.Mask m) (replies.Mask n) same = refl
same_done (replies.List m) (replies.List n) same = refl
same_done replies.Timeout replies.Timeout same = refl
same_done (replies.Refused m) (replies.Refused n) same = refl
same_done _ _ same = cc

-- a reply that is not idle is what the call found
result_reply : (r : Result (Option Reply) Refusal) (reply : Reply) → same_reply reply (recorded_reply (answer_of_result r)) ≡ true → is_idle reply ≡ false → (ok_or : Reply) × (r ≡ Ok (Some ok_or)) × (is_done reply ≡ is_done ok_or)
result_reply (Ok (Some ok_or)) reply same busy = (ok_or, refl, same_done reply ok_or same)
result_reply (Ok None) reply same busy = let idle = same_idle reply replies.Timeout same in cc
result_reply (Err e) reply same busy = let idle = same_idle reply (replies.Refused e) same in cc

pub record IsFound (limits : Limits) (me : ℕ) (posts : Posts) (memory : Memory) (thread : ℕ) (call : Call) (reply : Reply) : Type 0 where
  pub reply_found : Reply
  pub running : is_running (thread_at posts thread) ≡ true
  pub finds : call_result limits me posts memory call ≡ Ok (Some reply_found)
  pub done : is_done reply ≡ is_done reply_found

-- a recorded call that is not idle: its caller runs, and it found its reply
found_when : (limits : Limits) (me : ℕ) (posts : Posts) (memory : Memory) (thread : ℕ) (call : Call) (reply : Reply) (running : Bool)
    → is_running (thread_at posts thread) ≡ running
    → same_reply reply (recorded_reply (cond running (answer_of_result (call_result limits me posts memory call)) (ready.Reply (replies.Refused CallerEnded)))) ≡ true
    → is_idle reply ≡ false → IsFound limits me posts memory thread call reply
found_when limits me posts memory thread call reply true runs same busy =
    let f = result_reply (call_result limits me posts memory call) reply same busy in
    record { reply_found = f.0; running = runs; finds = f.1; done = f.2 }
found_when limits me posts memory thread call reply false runs same busy =
    let idle = same_idle reply (replies.Refused CallerEnded) same in cc

pub found_by : (limits : Limits) (me : ℕ) (posts : Posts) (memory : Memory) (thread : ℕ) (call : Call) (reply : Reply)
    → same_reply reply (recorded_reply (answer limits me posts memory thread call)) ≡ true
    → is_idle reply ≡ false → IsFound limits me posts memory thread call reply
found_by limits me posts memory thread call reply same busy =
    found_when limits me posts memory thread call reply (is_running (thread_at posts thread)) refl same busy

-- the numbers and the open count of an accepted post fit
post_room : (limits : Limits) (posts : Posts) (rank queue : ℕ) (asked : Result (List Kind) Refusal) (reply : Reply) (entries : ℕ) → entries ≤ 257
    → are_limits limits ≡ true → IsSoundPosts limits posts → IsPost limits posts rank queue asked reply → HasLength asked entries → IsBounded posts entries queue
post_room limits posts rank queue asked reply entries few limited sound p long =
    let a = sound.room in
    let b = sound.numbers in
    record {
      numbers = grind (arith, nat_tests);
      counts = λ q there. room_counts p.q q (length p.kinds) p.there there (long p.kinds p.made) p.room;
    }
  where
    room_counts : (p q : Queue) (count : ℕ)
        → slice_get posts.queues queue ≡ Some p → slice_get posts.queues queue ≡ Some q → count ≡ entries → nat_le (p.open_count + count) limits.depth ≡ true → q.open_count + entries < 2 ^ 32
    room_counts p q count a b is room = let same : p ≡ q = cc in let counts = ap (λ (x : Queue). x.open_count) same in grind (arith, nat_tests)

-- the generation and the size of a segment that may be made fit
pub alloc_room : (limits : Limits) (posts : Posts) (call : alloc.Alloc) (reply : Reply) → are_limits limits ≡ true → IsSoundPosts limits posts
    → alloc_result posts call ≡ Ok (Some reply) → AllocIsBounded posts call
alloc_room limits posts call reply limited sound is =
    bind_then (alloc_checks posts.segments.own call.seg call.size) _ _ is (λ u fits more.
    bind_then (check (nat_lt call.seg 32) _) _ _ fits (λ u numbered more.
    bind_then (err_if_some (extent_in posts.segments.own call.seg) _) _ _ more (λ u free more.
    let sized = check_holds _ _ _ more in
    let below = check_holds _ _ _ numbered in
    let long = sound.numbered in
    let within : call.seg < length posts.segments.next_generations = grind (arith, nat_tests) in
    let next = sound.generations call.seg (get_or posts.segments.next_generations call.seg 0) (slice_get-get_or posts.segments.next_generations call.seg 0 within) in
    let room = sound.room in
    (grind (arith, nat_tests), grind (arith, nat_tests)))))

-- the post of a call that was found
pub posted : (limits : Limits) (me : ℕ) (posts : Posts) (memory : Memory) (thread : ℕ) (call : Call) (reply : Reply) (posting : Posting)
    → (p : IsPosting limits me posts call posting) → (f : IsFound limits me posts memory thread call reply) → IsPost limits posts posting.rank posting.queue (requested_kinds limits me posts call) f.reply_found
posted limits me posts memory thread call reply posting p f = post_by limits posts posting.rank posting.queue (requested_kinds limits me posts call) f.reply_found (sym (p.finds memory) ∙ f.finds)

-- the numbers and the open count of a post that may be recorded fit
posting_room : (limits : Limits) (me : ℕ) (posts : Posts) (memory : Memory) (thread : ℕ) (call : Call) (reply : Reply) (kinds : List Kind) (posting : Option Posting)
    → (row_of call).posting ≡ posting → requested_kinds limits me posts call ≡ Ok kinds → are_limits limits ≡ true → IsSoundPosts limits posts
    → IsFound limits me posts memory thread call reply → PostIsBounded posts posting (length kinds)
posting_room limits me posts memory thread call reply kinds None is asks limited sound f = tt
posting_room limits me posts memory thread call reply kinds (Some posting) is asks limited sound f =
    let p = posting_of limits me posts call posting is in
    subst (λ (n : ℕ). IsBounded posts n posting.queue) (sym (p.long kinds asks))
    (post_room limits posts posting.rank posting.queue (requested_kinds limits me posts call) f.reply_found posting.entries p.few limited sound (posted limits me posts memory thread call reply posting p f) p.long)

plain_room : (limits : Limits) (me : ℕ) (posts : Posts) (memory : Memory) (thread : ℕ) (call : Call) (reply : Reply)
    → are_limits limits ≡ true → IsSoundPosts limits posts → IsFound limits me posts memory thread call reply → PlainCallIsBounded posts call
plain_room limits me posts memory thread (Alloc call) reply limited sound f = alloc_room limits posts call f.reply_found limited sound f.finds
plain_room limits me posts memory thread GroupCreate reply limited sound f = let few = sound.groups.made in grind (arith, nat_tests)
plain_room limits me posts memory thread (GroupAdd call) reply limited sound f =
    let ok_or = add-found limits posts call f.reply_found f.finds in
    let ranked = ok_or.ranked in
    grind (arith, nat_tests)
plain_room limits me posts memory thread call reply limited sound f = tt

pub room_by : (limits : Limits) (me : ℕ) (posts : Posts) (memory : Memory) (thread : ℕ) (call : Call) (reply : Reply) (kinds : List Kind)
    → requested_kinds limits me posts call ≡ Ok kinds → are_limits limits ≡ true → IsSoundPosts limits posts → IsFound limits me posts memory thread call reply
    → CallIsBounded posts call (length kinds)
room_by limits me posts memory thread call reply kinds asks limited sound f = record {
  posting = posting_room limits me posts memory thread call reply kinds (row_of call).posting refl asks limited sound f;
  plain = plain_room limits me posts memory thread call reply limited sound f;
}

idle_not_done : (reply : Reply) → is_idle reply ≡ true → is_done reply ≡ false
idle_not_done replies.Done idle = cc
idle_not_done (replies.Value n) idle = refl
idle_not_done (replies.Id n) idle = refl
idle_not_done (replies.Bytes bytes) idle = refl
idle_not_done (replies.Mask mask) idle = refl
idle_not_done (replies.List numbers) idle = refl
idle_not_done replies.Timeout idle = refl
idle_not_done (replies.Refused refusal) idle = refl

-- what is recorded done or not is one event
one_event : (done : Bool) → ◌≡◌ {A = ℕ} (cond done 1 1) 1
one_event true = refl
one_event false = refl

-- a call that is recorded idly takes one event
idle_charge : (limits : Limits) (me : ℕ) (posts : Posts) (memory : Memory) (thread : ℕ) (call : Call) (reply : Reply)
    → same_reply reply (recorded_reply (answer limits me posts memory thread call)) ≡ true
    → is_idle reply ≡ true → charge (thread_at posts thread) call reply ≡ 1
idle_charge limits me posts memory thread End reply same idle = rw (idle_not_done reply idle) (ended (is_running (thread_at posts thread)) same)
  where
    ended : (running : Bool) → same_reply reply (recorded_reply (cond running (ready.Reply replies.Done) (ready.Reply (replies.Refused CallerEnded)))) ≡ true → ◌≡◌ {A = ℕ} (cond running 0 1) 1
    ended true same = let busy = same_idle reply replies.Done same in cc
    ended false same = refl
idle_charge limits me posts memory thread call reply same idle = rw (idle_not_done reply idle) refl

-- a queue replaced by one that owes the same
owed-changed : (queues : List Queue) (queue : ℕ) (change : Queue → Queue) → ((q : Queue) → queue_owed (change q) ≡ queue_owed q)
    → sum_by queue_owed (changed_at queues queue change) ≡ sum_by queue_owed queues
owed-changed queues queue change same = by_item (slice_get queues queue) refl
  where
    by_item : (o : Option Queue) → slice_get queues queue ≡ o → sum_by queue_owed (changed_at queues queue change) ≡ sum_by queue_owed queues
    by_item None there = rw there refl
    by_item (Some q) there =
        let put = sum_by-put queue_owed queues queue q (change q) there in
        let kept = same q in
        let is = changed_at-found queues queue q change there in
        rw is (omega arith)

-- a queue that is emptied owes no more what it owed
owed-emptied : (queues : List Queue) (queue : ℕ) → sum_by queue_owed (changed_at queues queue emptied) + owed_at queues queue ≡ sum_by queue_owed queues
owed-emptied queues queue = by_item (slice_get queues queue) refl
  where
    by_item : (o : Option Queue) → slice_get queues queue ≡ o → sum_by queue_owed (changed_at queues queue emptied) + owed_at queues queue ≡ sum_by queue_owed queues
    by_item None there = rw there (omega arith)
    by_item (Some q) there =
        let put = sum_by-put queue_owed queues queue q (emptied q) there in
        let none : queue_owed (emptied q) ≡ 0 = sum-emptied lane_owed q.lanes refl in
        rw there (omega (arith, put, none))

-- what the entries of a queue owe is at most what all do
owed_at-part : (queues : List Queue) (queue : ℕ) → owed_at queues queue ≤ sum_by queue_owed queues
owed_at-part queues queue = let all = owed-emptied queues queue in omega (arith, all)

pub released-part : (posts : Posts) (call : Call) (reply : Reply) → released posts call reply ≤ owed posts
released-part posts call reply = by_idle (is_idle reply) (purged_queue call)
  where
    by_idle : (idle : Bool) (purged : Option ℕ) → cond idle 0 (released_at posts.queues purged) ≤ owed posts
    by_idle true purged = omega arith
    by_idle false None = omega arith
    by_idle false (Some queue) = let part = owed_at-part posts.queues queue in omega (arith, part)

-- a lane with entries added
owed-entries : (q : Queue) (rank number : ℕ) (kinds : List Kind) → rank < length q.lanes
    → queue_owed (with_entries rank (posted_entries number kinds) q) ≡ queue_owed q + 2 * length kinds
owed-entries q rank number kinds within =
    let there : slice_get q.lanes rank ≡ Some (get_or q.lanes rank []) = slice_get-get_or q.lanes rank [] within in
    let lane = get_or q.lanes rank [] in
    let is = changed_at-found q.lanes rank lane (λ (lane : List Entry). lane ++ posted_entries number kinds) there in
    let put = sum_by-put lane_owed q.lanes rank lane (lane ++ posted_entries number kinds) there in
    let more = sum_by-append entry_owed lane (posted_entries number kinds) in
    let posted = lane_owed-posted number kinds in
    rw is (omega arith)

-- an accepted post owes two events for each of its entries
owed-post : (posts : Posts) (queue rank : ℕ) (q : Queue) (kinds : List Kind) → slice_get posts.queues queue ≡ Some q → rank < length q.lanes
    → owed (with_post posts queue rank (Ok kinds)) ≡ owed posts + 2 * length kinds
owed-post posts queue rank q kinds there within =
    let is = changed_at-found posts.queues queue q (with_entries rank (posted_entries posts.next kinds)) there in
    let put = sum_by-put queue_owed posts.queues queue q (with_entries rank (posted_entries posts.next kinds) q) there in
    let more = owed-entries q rank posts.next kinds within in
    rw is (omega arith)

-- a thread that ends owes no end any more
owed-end : (posts : Posts) (thread : ℕ) → is_running (thread_at posts thread) ≡ true
    → count_by is_running (slice_set posts.threads thread threads.Ended) + 1 ≡ count_by is_running posts.threads
owed-end posts thread runs = by_item (slice_get posts.threads thread) refl runs
  where
    by_state : (t : ThreadState) → slice_get posts.threads thread ≡ Some t → is_running t ≡ true
        → count_by is_running (slice_set posts.threads thread threads.Ended) + 1 ≡ count_by is_running posts.threads
    by_state threads.Absent there runs = cc
    by_state threads.Running there runs =
        let put = sum_by-put (λ (t : ThreadState). cond (is_running t) 1 0) posts.threads thread threads.Running threads.Ended there in
        omega (arith, put)
    by_state threads.Ended there runs = cc

    by_item : (o : Option ThreadState) → slice_get posts.threads thread ≡ o → is_running (thread_at posts thread) ≡ true
        → count_by is_running (slice_set posts.threads thread threads.Ended) + 1 ≡ count_by is_running posts.threads
    by_item None there runs = let gone = rw there at runs in cc
    by_item (Some t) there runs = by_state t there (rw there at runs)

-- what a rank has taken grows by the charge of an accepted post
post_used : (limits : Limits) (posts : Posts) (rank queue : ℕ) (asked : Result (List Kind) Refusal) (reply reply_found : Reply) (entries : ℕ)
    → IsSoundPosts limits posts → IsPost limits posts rank queue asked reply_found → is_done reply ≡ is_done reply_found → HasLength asked entries
    → 1 + owed (with_post posts queue rank asked) ≡ owed posts + cond (is_done reply) (1 + 2 * entries) 1
post_used limits posts rank queue asked reply reply_found entries sound p done long =
    let count = long p.kinds p.made in
    let lanes = sound.lanes queue p.q p.there in
    let within : rank < length p.q.lanes = grind (arith, nat_tests, p.ranked) in
    let more = owed-post posts queue rank p.q p.kinds p.there within in
    rw (p.made, done, p.replied) (omega (arith, more, count))

-- of a call that posts nothing
plain_used : (limits : Limits) (me : ℕ) (posts : Posts) (memory : Memory) (thread : ℕ) (call : Call) (reply : Reply)
    → (row_of call).posting ≡ None → IsFound limits me posts memory thread call reply
    → 1 + owed (posts_effect limits me posts thread call) + released_at posts.queues (purged_queue call) ≡ owed posts + charge (thread_at posts thread) call reply
plain_used limits me posts memory thread (Wait call) reply is f =
    let same = owed-changed posts.queues call.queue (λ (q : Queue). record q { open_count = 0 }) (λ q. refl) in
    let one = one_event (is_done reply) in omega (arith, same, one)
plain_used limits me posts memory thread (Purge call) reply is f =
    let less = owed-emptied posts.queues call.queue in
    let one = one_event (is_done reply) in omega (arith, less, one)
plain_used limits me posts memory thread End reply is f = let less = owed-end posts thread f.running in rw f.running (omega (arith, less))
plain_used limits me posts memory thread call reply is f = let one = one_event (is_done reply) in first_of (cc, omega (arith, one))

-- a post purges nothing
post_frees : (queues : List Queue) (call : Call) (posting : Posting) → (row_of call).posting ≡ Some posting → ◌≡◌ {A = ℕ} (released_at queues (purged_queue call)) 0
post_frees queues (Purge call) posting is = absurd (let no : ⊥ = cc in no)
post_frees queues call posting is = refl

-- what a rank has taken grows by the charge of a call that is not idle
busy_used : (limits : Limits) (me : ℕ) (posts : Posts) (memory : Memory) (thread : ℕ) (call : Call) (reply : Reply)
    → IsSoundPosts limits posts → IsFound limits me posts memory thread call reply
    → 1 + owed (posts_effect limits me posts thread call) + released_at posts.queues (purged_queue call) ≡ owed posts + charge (thread_at posts thread) call reply
busy_used limits me posts memory thread call reply sound f = by_posting (row_of call).posting refl
  where
    by_posting : (posting : Option Posting) → (row_of call).posting ≡ posting
        → 1 + owed (posts_effect limits me posts thread call) + released_at posts.queues (purged_queue call) ≡ owed posts + charge (thread_at posts thread) call reply
    by_posting None is = plain_used limits me posts memory thread call reply is f
    by_posting (Some posting) is =
        let p = posting_of limits me posts call posting is in
        let nothing = post_frees posts.queues call posting is in
        let grows = post_used limits posts posting.rank posting.queue (requested_kinds limits me posts call) reply f.reply_found posting.entries sound
        (posted limits me posts memory thread call reply posting p f) f.done p.long in
        rw (p.leaves thread, p.charged (thread_at posts thread) reply, nothing) (omega (arith, grows))

-- no call that is not idle counts itself
done_events : (limits : Limits) (me : ℕ) (posts : Posts) (thread : ℕ) (call : Call) → (posts_effect limits me posts thread call).events ≡ posts.events
done_events limits me posts thread call = by_posting (row_of call).posting refl
  where
    of_post : (queue rank : ℕ) (asked : Result (List Kind) Refusal) → (with_post posts queue rank asked).events ≡ posts.events
    of_post queue rank (Ok kinds) = refl
    of_post queue rank (Err refusal) = refl

    of_plain : (call : Call) → (row_of call).posting ≡ None → (posts_effect limits me posts thread call).events ≡ posts.events
    of_plain End is = refl
    of_plain call is = cc

    by_posting : (posting : Option Posting) → (row_of call).posting ≡ posting → (posts_effect limits me posts thread call).events ≡ posts.events
    by_posting None is = of_plain call is
    by_posting (Some posting) is =
        let p = posting_of limits me posts call posting is in
        rw (p.leaves thread) (of_post posting.queue posting.rank (requested_kinds limits me posts call))

-- what a rank has taken grows by the charge of its call, less what that frees
pub used_by : (limits : Limits) (me : ℕ) (posts : Posts) (memory : Memory) (thread : ℕ) (call : Call) (reply : Reply)
    → IsSoundPosts limits posts → same_reply reply (recorded_reply (answer limits me posts memory thread call)) ≡ true
    → (posts_after limits me posts thread call reply).events + owed (posts_after limits me posts thread call reply) + released posts call reply
    ≡ posts.events + owed posts + charge (thread_at posts thread) call reply
used_by limits me posts memory thread call reply sound same = by_idle (is_idle reply) refl
  where
    by_idle : (idle : Bool) → is_idle reply ≡ idle
        → (posts_after limits me posts thread call reply).events + owed (posts_after limits me posts thread call reply) + released posts call reply
        ≡ posts.events + owed posts + charge (thread_at posts thread) call reply
    by_idle true idle = let one = idle_charge limits me posts memory thread call reply same idle in rw idle (omega (arith, one))
    by_idle false busy =
        let more = busy_used limits me posts memory thread call reply sound (found_by limits me posts memory thread call reply same busy) in
        let events = done_events limits me posts thread call in
        rw busy (omega (arith, more, events))
