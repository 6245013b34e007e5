-- What a take and a put keep of the posts of their origin: the room taken, and how many queues there are.
use Rattle.std.proofs.Common.{◌≡◌, ℕ, ◌+◌, Bool, true, false, ◌&&◌, List, Some, Result, Ok, length, sum_by, slice_get, slice_set, remove, is_none, refl, ap, arith}
use Rattle.std.proofs.lemmas.List.{length-set}
use Rattle.gaspi_types.specs.Checks.{check, ok_or}
use Rattle.gaspi_types.specs.Lanes.{position_of, may_take, may_put, lane_owed, entry_owed, phase_owed, is_posted, is_carried, is_posted_phase, is_carried_phase}
use Rattle.gaspi_types.specs.declared.entries.Entry.{Entry}
use Rattle.gaspi_types.specs.declared.entries.Phase.{Phase}
use Rattle.gaspi_types.specs.declared.entries.Phase.TheVariants as phases
use Rattle.gaspi_types.specs.declared.events.Outcome.{Outcome}
use Rattle.gaspi_types.specs.declared.events.Outcome.TheVariants.{Applied, Failed}
use Rattle.gaspi_types.specs.declared.shapes.Limits.{Limits}
use Rattle.gaspi_model.specs.State.{owed}
use Rattle.gaspi_types.specs.Queues.{queue_owed}
use Rattle.gaspi_model.specs.Posting.{counted}
use Rattle.gaspi_types.specs.Tables.{changed_at}
use Rattle.gaspi_model.specs.Transfers.{EntryPosition, find_entry, take_result, queue_phase, posts_after_take, take, memory_after_put, queue_without, queue_failed, posts_after_put, put, PostsAndMemory}
use Rattle.gaspi_types.specs.declared.entries.Queue.{Queue}
use Rattle.gaspi_model.specs.declared.states.Posts.{Posts}
use Rattle.gaspi_model.specs.declared.states.Memory.{Memory}
use Rattle.gaspi_model.specs.declared.states.Why.{Why}
use Rattle.gaspi_types.proofs.Chains.{bind_then, found_there, check_holds}
use Rattle.gaspi_types.proofs.Items.{changed_at-found}
use Rattle.plain_calls.proofs.Owed.{sum_by-put, sum_by-taken}

pub record IsKept (spares : ℕ) (old new : Posts) : Type 0 where
  pub used : new.events + owed new + spares ≡ old.events + owed old
  pub queues : length new.queues ≡ length old.queues

-- where an entry was found
pub record IsAt (posts : Posts) (queue target : ℕ) (at : EntryPosition) : Type 0 where
  pub q : slice_get posts.queues queue ≡ Some at.queue
  pub lane : slice_get at.queue.lanes target ≡ Some at.lane
  pub entry : slice_get at.lane at.position ≡ Some at.entry

pub found_at : (posts : Posts) (queue target number : ℕ) (why : Why) (at : EntryPosition) → find_entry posts queue target number why ≡ Ok at → IsAt posts queue target at
found_at posts queue target number why at is =
    bind_then (ok_or (slice_get posts.queues queue) why) _ _ is (λ q there more.
    bind_then (ok_or (slice_get q.lanes target) why) _ _ more (λ lane in_queue more.
    bind_then (ok_or (position_of lane number) why) _ _ more (λ place at_place more.
    bind_then (ok_or (slice_get lane place) why) _ _ more (λ entry in_lane more.
    same_found q lane place entry at (found_there _ _ _ there) (found_there _ _ _ in_queue) (found_there _ _ _ in_lane) more))))
  where
    same_found : (q : Queue) (lane : List Entry) (place : ℕ) (entry : Entry) (at : EntryPosition)
        → slice_get posts.queues queue ≡ Some q → slice_get q.lanes target ≡ Some lane → slice_get lane place ≡ Some entry
        → ◌≡◌ {A = Result EntryPosition Why} (Ok (record { queue = q; lane = lane; position = place; entry = entry })) (Ok at) → IsAt posts queue target at
    same_found q lane place entry at a b c is =
        let same : record { queue = q; lane = lane; position = place; entry = entry } ≡ at = cc in
        rw (← same) (record { q = a; lane = b; entry = c })

-- the lanes of the queue of an entry that was found, with it in another phase, and without it
pub phase_lanes : (posts : Posts) (queue target : ℕ) (at : EntryPosition) (phase : Phase) → IsAt posts queue target at
    → (queue_phase target at.position phase at.queue).lanes ≡ slice_set at.queue.lanes target (slice_set at.lane at.position (record at.entry { phase = phase }))
phase_lanes posts queue target at phase there = rw there.lane rw there.entry refl

pub lanes_without : (posts : Posts) (queue target : ℕ) (at : EntryPosition) → IsAt posts queue target at
    → (queue_without target at.position at.queue).lanes ≡ slice_set at.queue.lanes target (remove at.lane at.position)
lanes_without posts queue target at there = rw there.lane refl

-- a lane replaced by one that owes one event less, and those that are spared
kept_lane : (posts : Posts) (queue target : ℕ) (at : EntryPosition) (change : Queue → Queue) (lane : List Entry) (corrupt : List Bool) (spares : ℕ) → IsAt posts queue target at
    → (change at.queue).lanes ≡ slice_set at.queue.lanes target lane → lane_owed lane + 1 + spares ≡ lane_owed at.lane
    → IsKept spares posts (counted (record posts { queues = changed_at posts.queues queue change; corrupt = corrupt }))
kept_lane posts queue target at change lane corrupt spares there lanes less =
    let at_queue = changed_at-found posts.queues queue at.queue change there.q in
    let all = sum_by-put queue_owed posts.queues queue at.queue (change at.queue) there.q in
    let own = sum_by-put lane_owed at.queue.lanes target at.lane lane there.lane in
    let same : queue_owed (change at.queue) ≡ sum_by lane_owed (slice_set at.queue.lanes target lane) = ap (sum_by lane_owed) lanes in
    rw at_queue (record { used = omega (arith, all, own, same, less); queues = length-set posts.queues queue (change at.queue) })

posted_owes : (p : Phase) → is_posted_phase p ≡ true → phase_owed p ≡ 2
posted_owes phases.Posted is = refl
posted_owes (phases.Carried bytes) is = cc
posted_owes phases.Failed is = cc

carried_owes : (p : Phase) → is_carried_phase p ≡ true → phase_owed p ≡ 1
carried_owes phases.Posted is = cc
carried_owes (phases.Carried bytes) is = refl
carried_owes phases.Failed is = cc

first_holds : (a b : Bool) → (a && b) ≡ true → a ≡ true
first_holds true b is = refl
first_holds false b is = cc

-- a take keeps the room that is taken: its entry owes one event less, and where it failed none
abbrev pub spares_of : Outcome → ℕ
spares_of Applied = 0
spares_of Failed = 1

pub take_keeps : (limits : Limits) (posts : Posts) (memory : Memory) (queue target number : ℕ) (outcome : Outcome) (after : Posts)
    → take limits posts memory queue target number outcome ≡ Ok after → IsKept (spares_of outcome) posts after
take_keeps limits posts memory queue target number outcome after is =
    bind_then (find_entry posts queue target number _) _ _ is (λ at found_it more.
    bind_then (take_result limits memory at outcome) _ _ more (λ bytes given left.
    bind_then (check (is_none at.queue.broken) _) _ _ given (λ u whole more.
    bind_then (check (may_take limits.depth at.lane at.entry) _) _ _ more (λ u permitted more.
    done at bytes outcome after (found_at _ _ _ _ _ at found_it) (first_holds _ _ (check_holds _ _ _ permitted)) left))))
  where
    kept_with : (at : EntryPosition) (bytes : List ℕ) (outcome : Outcome) → IsAt posts queue target at → is_posted at.entry ≡ true → IsKept (spares_of outcome) posts (posts_after_take posts queue target at.position bytes outcome)
    kept_with at bytes Applied there posted =
        let put = sum_by-put entry_owed at.lane at.position at.entry (record at.entry { phase = phases.Carried bytes }) there.entry in
        let owes = posted_owes at.entry.phase posted in
        kept_lane posts queue target at (queue_phase target at.position (phases.Carried bytes)) _ posts.corrupt 0 there (phase_lanes posts queue target at (phases.Carried bytes) there) (omega (arith, put, owes))
    kept_with at bytes Failed there posted =
        let put = sum_by-put entry_owed at.lane at.position at.entry (record at.entry { phase = phases.Failed }) there.entry in
        let owes = posted_owes at.entry.phase posted in
        kept_lane posts queue target at (queue_failed target at.position) _ (slice_set posts.corrupt target true) 1 there (phase_lanes posts queue target at phases.Failed there) (omega (arith, put, owes))

    done : (at : EntryPosition) (bytes : List ℕ) (outcome : Outcome) (after : Posts) → IsAt posts queue target at → is_posted at.entry ≡ true
        → ◌≡◌ {A = Result Posts Why} (Ok (posts_after_take posts queue target at.position bytes outcome)) (Ok after) → IsKept (spares_of outcome) posts after
    done at bytes outcome after there posted is =
        let same : posts_after_take posts queue target at.position bytes outcome ≡ after = cc in
        rw (← same) (kept_with at bytes outcome there posted)

-- a put keeps it too, also one that failed
pub put_keeps : (posts : Posts) (memory : Memory) (queue target number : ℕ) (outcome : Outcome) (after : PostsAndMemory)
    → put posts memory queue target number outcome ≡ Ok after → IsKept 0 posts after.posts
put_keeps posts memory queue target number outcome after is =
    bind_then (find_entry posts queue target number _) _ _ is (λ at found_it more.
    bind_then (memory_after_put memory at outcome) _ _ more (λ m given left.
    bind_then (check (is_none at.queue.broken) _) _ _ given (λ u whole more.
    bind_then (check (may_put at.lane at.entry) _) _ _ more (λ u permitted more.
    done at outcome m (found_at _ _ _ _ _ at found_it) (first_holds _ _ (check_holds _ _ _ permitted)) left))))
  where
    kept_with : (at : EntryPosition) (outcome : Outcome) → IsAt posts queue target at → is_carried at.entry ≡ true → IsKept 0 posts (posts_after_put posts queue target at.position outcome)
    kept_with at Applied there carried =
        let put = sum_by-taken entry_owed at.lane at.position at.entry there.entry in
        let owes = carried_owes at.entry.phase carried in
        kept_lane posts queue target at (queue_without target at.position) _ posts.corrupt 0 there (lanes_without posts queue target at there) (omega (arith, put, owes))
    kept_with at Failed there carried =
        let put = sum_by-put entry_owed at.lane at.position at.entry (record at.entry { phase = phases.Failed }) there.entry in
        let owes = carried_owes at.entry.phase carried in
        kept_lane posts queue target at (queue_failed target at.position) _ (slice_set posts.corrupt target true) 0 there (phase_lanes posts queue target at phases.Failed there) (omega (arith, put, owes))

    done : (at : EntryPosition) (outcome : Outcome) (m : Memory) → IsAt posts queue target at → is_carried at.entry ≡ true
        → ◌≡◌ {A = Result PostsAndMemory Why} (Ok (record { posts = posts_after_put posts queue target at.position outcome; memory = m })) (Ok after) → IsKept 0 posts after.posts
    done at outcome m there carried is =
        let same : record { posts = posts_after_put posts queue target at.position outcome; memory = m } ≡ after = cc in
        rw (← same) (kept_with at outcome there carried)
