-- What a step does to the names of the lanes that have an entry.
use Rattle.std.proofs.Common.{◌≡◌, ℕ, zero, suc, ◌+◌, ◌<◌, ◌≤◌, Bool, true, false, ◌&&◌, nat_le, nat_lt, List, [], ◌∷◌, ◌++◌, Option, None, Some, Result, Ok, Err, length, slice_get, slice_set, remove, refl, sym, ap, inl, inr, ◌∙◌, arith, if◌then◌else◌}
use Rattle.std.specs.List.{flat_map, enumerate_from, prefix_len, insert}
use Rattle.std.specs.List.Sorted.{IsPartitionedBy}
use Rattle.std.proofs.lemmas.Bool.{lt-ltb}
use Rattle.std.proofs.lemmas.Bool.Decides.{nat_tests}
use Rattle.std.proofs.lemmas.Option.{slice_get_within}
use Rattle.gaspi_types.specs.CallRows.{row_of}
use Rattle.gaspi_types.specs.Checks.{check}
use Rattle.gaspi_types.specs.Lanes.{posted_entries}
use Rattle.gaspi_types.specs.Replies.{same_reply, is_idle}
use Rattle.gaspi_types.specs.World.{are_limits}
use Rattle.gaspi_types.specs.declared.calls.Call.{Call}
use Rattle.gaspi_types.specs.declared.call_rows.Posting.{Posting}
use Rattle.gaspi_types.specs.declared.entries.Entry.{Entry}
use Rattle.gaspi_types.specs.declared.entries.Kind.{Kind}
use Rattle.gaspi_types.specs.declared.entries.Phase.{Phase}
use Rattle.gaspi_types.specs.declared.entries.Phase.TheVariants as phases
use Rattle.gaspi_types.specs.declared.events.Event.{Event}
use Rattle.gaspi_types.specs.declared.events.Event.TheVariants.{Called, Joined, Take, Put}
use Rattle.gaspi_types.specs.declared.events.Outcome.{Outcome}
use Rattle.gaspi_types.specs.declared.events.Outcome.TheVariants.{Applied, Failed}
use Rattle.gaspi_types.specs.declared.replies.Refusal.{Refusal}
use Rattle.gaspi_types.specs.declared.replies.Reply.{Reply}
use Rattle.gaspi_types.specs.declared.shapes.Limits.{Limits}
use Rattle.gaspi_types.specs.declared.footprints.Footprint.{Footprint}
use Rattle.gaspi_types.specs.declared.shapes.CallerId.{CallerId}
use Rattle.gaspi_types.proofs.Items.{slice_get-set_same, past-none, changed_at-found}
use Rattle.gaspi_model.specs.State.{owed, thread_at}
use Rattle.gaspi_model.specs.Calls.{requested_kinds, answer, recorded_reply, charge, posts_effect, posts_after, memory_after, peer_after}
use Rattle.gaspi_model.specs.Posting.{with_post, counted}
use Rattle.gaspi_types.specs.Queues.{with_entries}
use Rattle.gaspi_types.specs.Tables.{changed_at}
use Rattle.gaspi_model.specs.Sound.{IsSound, IsSoundPosts}
use Rattle.gaspi_types.specs.declared.inboxes.Message.{Message}
use Rattle.gaspi_model.specs.Step.{call_message, step, called, is_there, Steps}
use Rattle.gaspi_model.specs.Transfers.{EntryPosition, find_entry, take_result, queue_phase, posts_after_take, take, memory_after_put, queue_without, queue_failed, posts_after_put, put, PostsAndMemory}
use Rattle.gaspi_types.specs.declared.entries.Queue.{Queue}
use Rattle.gaspi_model.specs.declared.states.Posts.{Posts}
use Rattle.gaspi_model.specs.declared.states.Memory.{Memory}
use Rattle.gaspi_model.specs.declared.states.State.{State}
use Rattle.gaspi_model.specs.declared.states.StepFault.{StepFault}
use Rattle.gaspi_model.specs.declared.states.StepFault.TheVariants as faults
use Rattle.gaspi_model.specs.declared.states.Why.{Why}
use Rattle.plain_machine.specs.Machine.{HasBoundedNumbers}
use Rattle.plain_machine.specs.Footprints.{call_footprint, with_peer_at}
use Rattle.plain_machine.specs.NonemptyLanes.{lane_id, lane_if_nonempty, queue_nonempty_lanes, rank_nonempty_lanes, nonempty_lanes, lane_entries, is_before, post_lane, posting_lane, call_lane, event_lane, event_purge, is_put}
use Rattle.plain_machine.specs.declared.nonempty_lanes.LaneId.{LaneId}
use Rattle.gaspi_types.proofs.Chains.{bind_then, check_holds}
use Rattle.plain_machine.proofs.Kept.{IsAt, found_at, phase_lanes, lanes_without}
use Rattle.plain_calls.proofs.CallBounds.{found_by, posted}
use Rattle.plain_calls.proofs.Postings.{HasLength, IsPost, posting_of}
use Rattle.plain_calls.proofs.Queues.{plain_queues}
use Rattle.plain_calls.specs.NumberBounds.{purged_queue}
use Rattle.plain_calls.proofs.PostedEntries.{length-posted_entries}
use Rattle.plain_machine.proofs.Lists.{same_in, same_changed}
use Rattle.gaspi_model.proofs.CollectivePosts.{IsMet, on_group-called, on_group-joined}
use Rattle.plain_machine.proofs.OnGroups.{posts_plain}
use Rattle.plain_machine.proofs.AtFootprints.{called_back, used_back, put_back, registered_by}
use Rattle.plain_machine.proofs.Parted.{IsParted, parted_by, kept_by, named_by, unnamed_by, parted_names, behind_target}

-- posts that differ in one lane and in nothing else that names lanes
record IsRelaned (p p' : Posts) (queue target : ℕ) (lane lane' : List Entry) : Type 0 where
  q : Queue
  q' : Queue
  q_there : slice_get p.queues queue ≡ Some q
  there : slice_get q.lanes target ≡ Some lane
  queues : p'.queues ≡ slice_set p.queues queue q'
  lanes : q'.lanes ≡ slice_set q.lanes target lane'

-- the names then, and what stands in that lane
parted : (posts : List Posts) (o queue target : ℕ) (p p' : Posts) (lane lane' : List Entry) → slice_get posts o ≡ Some p → IsRelaned p p' queue target lane lane'
    → IsParted (lane_id o queue target) (nonempty_lanes posts) (nonempty_lanes (slice_set posts o p')) (lane_if_nonempty o queue (target, lane)) (lane_if_nonempty o queue (target, lane'))
parted posts o queue target p p' lane lane' there r = parted_by posts o queue target p p' r.q r.q' lane lane' there r.q_there r.there r.queues r.lanes

entries_old : (posts : List Posts) (o queue target : ℕ) (p p' : Posts) (lane lane' : List Entry) → slice_get posts o ≡ Some p → IsRelaned p p' queue target lane lane'
    → lane_entries posts (lane_id o queue target) ≡ lane
entries_old posts o queue target p p' lane lane' there r = rw there rw r.q_there rw r.there refl

entries_new : (posts : List Posts) (o queue target : ℕ) (p p' : Posts) (lane lane' : List Entry) → slice_get posts o ≡ Some p → IsRelaned p p' queue target lane lane'
    → lane_entries (slice_set posts o p') (lane_id o queue target) ≡ lane'
entries_new posts o queue target p p' lane lane' there r =
    rw (slice_get-set_same posts o p p' there) rw r.queues rw (slice_get-set_same p.queues queue r.q r.q' r.q_there) rw r.lanes rw (slice_get-set_same r.q.lanes target lane lane' r.there) refl

-- a lane with an entry, and a lane with an entry changed
named_at : (o queue target place : ℕ) (lane : List Entry) (e : Entry) → slice_get lane place ≡ Some e → lane_if_nonempty o queue (target, lane) ≡ lane_id o queue target ∷ []
named_at o queue target place [] e there = cc
named_at o queue target place (x ∷ lane) e there = refl

named_set : (o queue target place : ℕ) (lane : List Entry) (e : Entry) → lane_if_nonempty o queue (target, slice_set lane place e) ≡ lane_if_nonempty o queue (target, lane)
named_set o queue target place [] e = refl
named_set o queue target zero (x ∷ lane) e = refl
named_set o queue target (suc place) (x ∷ lane) e = refl

named_more : (o queue target : ℕ) (lane more : List Entry) → 1 ≤ length more → lane_if_nonempty o queue (target, lane ++ more) ≡ lane_id o queue target ∷ []
named_more o queue target [] [] some = absurd (let no : ⊥ = omega (arith, some) in no)
named_more o queue target [] (y ∷ more) some = refl
named_more o queue target (x ∷ lane) more some = refl

-- posts with the lane of an entry that was found replaced
relaned : (posts p' : Posts) (queue target : ℕ) (at : EntryPosition) (change : Queue → Queue) (lane' : List Entry) → IsAt posts queue target at → p'.queues ≡ changed_at posts.queues queue change
    → (change at.queue).lanes ≡ slice_set at.queue.lanes target lane' → IsRelaned posts p' queue target at.lane lane'
relaned posts p' queue target at change lane' there changed lanes = record {
  q = at.queue;
  q' = change at.queue;
  q_there = there.q;
  there = there.lane;
  queues = changed ∙ changed_at-found posts.queues queue at.queue change there.q;
  lanes = lanes;
}

-- a take keeps the names
take_names : (ps : List Posts) (o : ℕ) (limits : Limits) (posts : Posts) (memory : Memory) (queue target number : ℕ) (outcome : Outcome) (after : Posts) → slice_get ps o ≡ Some posts
    → take limits posts memory queue target number outcome ≡ Ok after → nonempty_lanes (slice_set ps o after) ≡ nonempty_lanes ps
take_names ps o limits posts memory queue target number outcome after o_there is =
    bind_then (find_entry posts queue target number _) _ _ is (λ at found_it more.
    bind_then (take_result limits memory at outcome) _ _ more (λ bytes given left.
    done at bytes outcome after (found_at _ _ _ _ _ at found_it) left))
  where
    of_phase : (at : EntryPosition) (phase : Phase) (change : Queue → Queue) (p' : Posts) → IsAt posts queue target at → p'.queues ≡ changed_at posts.queues queue change
        → (change at.queue).lanes ≡ slice_set at.queue.lanes target (slice_set at.lane at.position (record at.entry { phase = phase })) → nonempty_lanes (slice_set ps o p') ≡ nonempty_lanes ps
    of_phase at phase change p' there changed lanes =
        let lane' : List Entry = slice_set at.lane at.position (record at.entry { phase = phase }) in
        let parts = parted ps o queue target posts p' at.lane lane' o_there (relaned posts p' queue target at change lane' there changed lanes) in
        kept_by (lane_id o queue target) _ _ (lane_if_nonempty o queue (target, at.lane))
        (rw (named_set o queue target at.position at.lane (record at.entry { phase = phase })) at parts)

    of_outcome : (at : EntryPosition) (bytes : List ℕ) (outcome : Outcome) → IsAt posts queue target at → (p' : Posts) → p' ≡ posts_after_take posts queue target at.position bytes outcome
        → nonempty_lanes (slice_set ps o p') ≡ nonempty_lanes ps
    of_outcome at bytes Applied there p' is =
        of_phase at (phases.Carried bytes) (queue_phase target at.position (phases.Carried bytes)) p' there (ap (λ (p : Posts). p.queues) is) (phase_lanes posts queue target at (phases.Carried bytes) there)
    of_outcome at bytes Failed there p' is =
        of_phase at phases.Failed (queue_failed target at.position) p' there (ap (λ (p : Posts). p.queues) is) (phase_lanes posts queue target at phases.Failed there)

    done : (at : EntryPosition) (bytes : List ℕ) (outcome : Outcome) (after : Posts) → IsAt posts queue target at
        → ◌≡◌ {A = Result Posts Why} (Ok (posts_after_take posts queue target at.position bytes outcome)) (Ok after) → nonempty_lanes (slice_set ps o after) ≡ nonempty_lanes ps
    done at bytes outcome after there is =
        let same : after ≡ posts_after_take posts queue target at.position bytes outcome = cc in
        of_outcome at bytes outcome there after same

-- a put may take the name of its lane away
put_names : (ps : List Posts) (o : ℕ) (posts : Posts) (memory : Memory) (queue target number : ℕ) (outcome : Outcome) (after : PostsAndMemory) → slice_get ps o ≡ Some posts
    → put posts memory queue target number outcome ≡ Ok after
    → IsParted (lane_id o queue target) (nonempty_lanes ps) (nonempty_lanes (slice_set ps o after.posts)) (lane_id o queue target ∷ []) (lane_if_nonempty o queue (target, lane_entries (slice_set ps o after.posts) (lane_id o queue target)))
put_names ps o posts memory queue target number outcome after o_there is =
    bind_then (find_entry posts queue target number _) _ _ is (λ at found_it more.
    bind_then (memory_after_put memory at outcome) _ _ more (λ m given left.
    done at outcome m after (found_at _ _ _ _ _ at found_it) left))
  where
    of_lane : (at : EntryPosition) (p' : Posts) (lane' : List Entry) → IsAt posts queue target at → IsRelaned posts p' queue target at.lane lane'
        → IsParted (lane_id o queue target) (nonempty_lanes ps) (nonempty_lanes (slice_set ps o p')) (lane_id o queue target ∷ []) (lane_if_nonempty o queue (target, lane_entries (slice_set ps o p') (lane_id o queue target)))
    of_lane at p' lane' there r =
        let parts = parted ps o queue target posts p' at.lane lane' o_there r in
        rw (entries_new ps o queue target posts p' at.lane lane' o_there r)
        (rw (named_at o queue target at.position at.lane at.entry there.entry) at parts)

    of_outcome : (at : EntryPosition) (outcome : Outcome) → IsAt posts queue target at → (p' : Posts) → p' ≡ posts_after_put posts queue target at.position outcome
        → IsParted (lane_id o queue target) (nonempty_lanes ps) (nonempty_lanes (slice_set ps o p')) (lane_id o queue target ∷ []) (lane_if_nonempty o queue (target, lane_entries (slice_set ps o p') (lane_id o queue target)))
    of_outcome at Applied there p' is =
        of_lane at p' _ there (relaned posts p' queue target at (queue_without target at.position) _ there (ap (λ (p : Posts). p.queues) is) (lanes_without posts queue target at there))
    of_outcome at Failed there p' is =
        of_lane at p' _ there (relaned posts p' queue target at (queue_failed target at.position) _ there (ap (λ (p : Posts). p.queues) is) (phase_lanes posts queue target at phases.Failed there))

    done : (at : EntryPosition) (outcome : Outcome) (m : Memory) (after : PostsAndMemory) → IsAt posts queue target at
        → ◌≡◌ {A = Result PostsAndMemory Why} (Ok (record { posts = posts_after_put posts queue target at.position outcome; memory = m })) (Ok after)
        → IsParted (lane_id o queue target) (nonempty_lanes ps) (nonempty_lanes (slice_set ps o after.posts)) (lane_id o queue target ∷ []) (lane_if_nonempty o queue (target, lane_entries (slice_set ps o after.posts) (lane_id o queue target)))
    done at outcome m after there is =
        let same : after ≡ record { posts = posts_after_put posts queue target at.position outcome; memory = m } = cc in
        of_outcome at outcome there after.posts (ap (λ (w : PostsAndMemory). w.posts) same)

-- a post that is done gives its lane a name
post_names : (ps : List Posts) (o : ℕ) (limits : Limits) (posts : Posts) (queue target : ℕ) (finds : Result (List Kind) Refusal) (reply : Reply) (entries : ℕ) → slice_get ps o ≡ Some posts
    → IsSoundPosts limits posts → IsPost limits posts target queue finds reply → HasLength finds entries → 1 ≤ entries
    → IsParted (lane_id o queue target) (nonempty_lanes ps) (nonempty_lanes (slice_set ps o (counted (with_post posts queue target finds)))) (lane_if_nonempty o queue (target, lane_entries ps (lane_id o queue target))) (lane_id o queue target ∷ [])
post_names ps o limits posts queue target finds reply entries o_there sound p count some = by_lane (slice_get p.q.lanes target) refl
  where
    more : List Entry
    more = posted_entries posts.next p.kinds

    by_lane : (found : Option (List Entry)) → slice_get p.q.lanes target ≡ found
        → IsParted (lane_id o queue target) (nonempty_lanes ps) (nonempty_lanes (slice_set ps o (counted (with_post posts queue target finds)))) (lane_if_nonempty o queue (target, lane_entries ps (lane_id o queue target))) (lane_id o queue target ∷ [])
    by_lane None there =
        let lanes = sound.lanes queue p.q p.there in
        let within : target < length p.q.lanes = grind (arith, nat_tests, p.ranked) in
        absurd (past-none p.q.lanes target within there)
    by_lane (Some lane) there =
        let r : IsRelaned posts (counted (with_post posts queue target finds)) queue target lane (lane ++ more) = rw p.made (record {
          q = p.q;
          q' = with_entries target more p.q;
          q_there = p.there;
          there = there;
          queues = changed_at-found posts.queues queue p.q _ p.there;
          lanes = changed_at-found p.q.lanes target lane _ there;
        }) in
        let long = length-posted_entries posts.next p.kinds ∙ count p.kinds p.made in
        let parts = parted ps o queue target posts (counted (with_post posts queue target finds)) lane (lane ++ more) o_there r in
        rw (entries_old ps o queue target posts _ lane (lane ++ more) o_there r) (rw (named_more o queue target lane more (rw long some)) at parts)

-- an accepted post has a lane
post_has_lane : (limits : Limits) (me : ℕ) (posts : Posts) (rank queue : ℕ) (asked : Result (List Kind) Refusal) (reply : Reply) → are_limits limits ≡ true → length posts.queues ≤ 8
    → IsPost limits posts rank queue asked reply → post_lane me rank queue ≡ None → ⊥
post_has_lane limits me posts rank queue asked reply limited few p lane =
    let within = slice_get_within posts.queues queue p.q p.there in
    let rank_in : rank < 16 = grind (arith, nat_tests, p.ranked) in
    let a = lt-ltb rank 16 rank_in in
    let b = lt-ltb queue 8 (omega (arith, within, few)) in
    let is : post_lane me rank queue ≡ Some (lane_id me queue rank) = rw a rw b refl in
    cc

-- a call that posts nothing and purges nothing keeps the names of its rank
quiet_plain : (limits : Limits) (me : ℕ) (posts : Posts) (thread : ℕ) (call : Call) (j : ℕ) → (row_of call).posting ≡ None → purged_queue call ≡ None
    → rank_nonempty_lanes (j, posts_effect limits me posts thread call) ≡ rank_nonempty_lanes (j, posts)
quiet_plain limits me posts thread call j is kept =
    elim (plain_queues limits me posts thread call is kept) [
      | inl same ↦ ap (λ (qs : List Queue). flat_map (queue_nonempty_lanes j) (enumerate_from 0 qs)) same
      | inr at ↦
          ap (λ (qs : List Queue). flat_map (queue_nonempty_lanes j) (enumerate_from 0 qs)) at.1
          ∙ same_changed (queue_nonempty_lanes j) 0 at.0 posts.queues (λ (q : Queue). record q { open_count = 0 }) (λ k q. refl)
    ]

-- so does one that posts to no lane
quiet_call : (limits : Limits) (me : ℕ) (posts : Posts) (memory : Memory) (thread : ℕ) (call : Call) (reply : Reply) (j : ℕ) → are_limits limits ≡ true → length posts.queues ≤ 8
    → same_reply reply (recorded_reply (answer limits me posts memory thread call)) ≡ true → is_idle reply ≡ false → call_lane me call ≡ None → purged_queue call ≡ None
    → rank_nonempty_lanes (j, posts_effect limits me posts thread call) ≡ rank_nonempty_lanes (j, posts)
quiet_call limits me posts memory thread call reply j limited few same busy lane kept = by_posting (row_of call).posting refl
  where
    by_posting : (posting : Option Posting) → (row_of call).posting ≡ posting → rank_nonempty_lanes (j, posts_effect limits me posts thread call) ≡ rank_nonempty_lanes (j, posts)
    by_posting None is = quiet_plain limits me posts thread call j is kept
    by_posting (Some posting) is =
        let p = posting_of limits me posts call posting is in
        let f = found_by limits me posts memory thread call reply same busy in
        let post = posted limits me posts memory thread call reply posting p f in
        let none : post_lane me posting.rank posting.queue ≡ None = rw is at lane in
        absurd (post_has_lane limits me posts posting.rank posting.queue (requested_kinds limits me posts call) f.reply_found limited few post none)

-- what a recorded call has bind_then
pub record IsAnswered (limits : Limits) (me : ℕ) (posts : Posts) (memory : Memory) (thread : ℕ) (call : Call) (reply : Reply) (after : Posts) : Type 0 where
  pub replied : same_reply reply (recorded_reply (answer limits me posts memory thread call)) ≡ true
  pub after_is : posts_after limits me posts thread call reply ≡ after

called_by : (limits : Limits) (me : ℕ) (posts : Posts) (message : Option Message) (memory : Memory) (thread : ℕ) (call : Call) (reply : Reply) (after : PostsAndMemory)
    → called limits me posts message memory thread call reply ≡ Ok after → IsAnswered limits me posts memory thread call reply after.posts
called_by limits me posts message memory thread call reply after is =
    bind_then (check (is_there (thread_at posts thread)) _) _ _ is (λ u there more.
    bind_then (check (same_reply reply (recorded_reply (answer limits me posts memory thread call))) _) _ _ more (λ u answered more.
    bind_then (check (nat_le (posts.events + owed posts + charge (thread_at posts thread) call reply) limits.events) _) _ _ more (λ u room more.
    record { replied = check_holds _ _ _ answered; after_is = done after more })))
  where
    done : (after : PostsAndMemory) → ◌≡◌ {A = Result PostsAndMemory Why} (Ok (record { posts = posts_after limits me posts thread call reply; memory = memory_after limits posts message memory call reply })) (Ok after)
        → posts_after limits me posts thread call reply ≡ after.posts
    done after is =
        let same : record { posts = posts_after limits me posts thread call reply; memory = memory_after limits posts message memory call reply } ≡ after = cc in
        ap (λ (w : PostsAndMemory). w.posts) same

-- what a peer is told names no lane
registered_nonempty : (footprint : Footprint) (me : ℕ) (p : Posts) (call : Call) (reply : Reply) (all : List Posts) → nonempty_lanes (with_peer_at footprint (peer_after me p call reply) all) ≡ nonempty_lanes all
registered_nonempty footprint me p call reply all =
    registered_by (λ ps. nonempty_lanes ps ≡ nonempty_lanes all) footprint me p call reply all refl
    (λ rank change kept. same_changed rank_nonempty_lanes 0 rank all change (λ j peer. ap (λ (qs : List Queue). flat_map (queue_nonempty_lanes j) (enumerate_from 0 qs)) (kept peer)))

-- what a step that was made has done to the posts
pub record IsPosted (s t : State) (o : ℕ) (P : Posts → Posts → Type 0) : Type 0 where
  pub p : Posts
  pub p' : Posts
  pub there : slice_get s.posts o ≡ Some p
  pub is : nonempty_lanes t.posts ≡ nonempty_lanes (slice_set s.posts o p')
  pub by : P p p'

pub call_posts : (s t : State) (c : CallerId) (call : Call) (reply : Reply) → (row_of call).group ≡ None → step s (Called c call reply) ≡ Ok t
    → IsPosted s t c.rank (λ p p'. (memory : Memory) × IsAnswered s.limits c.rank p memory c.thread call reply p')
call_posts s t c call reply plain is =
    let b = called_back s t c call reply plain is in
    record {
      p = b.p;
      p' = b.after.posts;
      there = b.there;
      is = ap nonempty_lanes (sym b.posts) ∙ registered_nonempty (call_footprint s.limits c.rank call) c.rank b.p call reply (slice_set s.posts c.rank b.after.posts);
      by = (b.memory, called_by s.limits c.rank b.p (call_message s c.rank call) b.memory c.thread call reply b.after b.steps);
    }

-- a lane of an event that is a call
some_lane : (idle : Bool) (o : Option LaneId) (id : LaneId) → (if idle then None else o) ≡ Some id → (idle ≡ false) × (o ≡ Some id)
some_lane true o id is = absurd (let no : ⊥ = cc in no)
some_lane false o id is = (refl, is)

lane_of_post : (b : Bool) (x id : LaneId) → (if b then Some x else None) ≡ Some id → x ≡ id
lane_of_post true x id is = cc
lane_of_post false x id is = absurd (let no : ⊥ = cc in no)

-- a post that is done
pub posting : (s t : State) (e : Event) (id : LaneId) → IsSound s → event_lane e ≡ Some id → is_put e ≡ false → step s e ≡ Ok t
    → IsParted id (nonempty_lanes s.posts) (nonempty_lanes t.posts) (lane_if_nonempty id.origin id.queue (id.target, lane_entries s.posts id)) (id ∷ [])
posting s t (Called c call reply) id sound lane puts is =
    let l = some_lane (is_idle reply) (call_lane c.rank call) id lane in of_posting (row_of call).posting refl l.0 l.1
  where
    of_posting : (posting : Option Posting) → (row_of call).posting ≡ posting → is_idle reply ≡ false → posting_lane c.rank posting ≡ Some id
        → IsParted id (nonempty_lanes s.posts) (nonempty_lanes t.posts) (lane_if_nonempty id.origin id.queue (id.target, lane_entries s.posts id)) (id ∷ [])
    of_posting None row busy lane = absurd (let no : ⊥ = cc in no)
    of_posting (Some posting) row busy lane =
        let done = call_posts s t c call reply (posts_plain call posting row) is in
        let p = posting_of s.limits c.rank done.p call posting row in
        let f = found_by s.limits c.rank done.p done.by.0 c.thread call reply done.by.1.replied busy in
        let post = posted s.limits c.rank done.p done.by.0 c.thread call reply posting p f in
        let after : counted (with_post done.p posting.queue posting.rank (requested_kinds s.limits c.rank done.p call)) ≡ done.p' = ap counted (sym (p.leaves c.thread)) ∙ (rw busy at done.by.1.after_is) in
        rw (← lane_of_post (nat_lt posting.rank 16 && nat_lt posting.queue 8) (lane_id c.rank posting.queue posting.rank) id lane, done.is, ← after)
        (post_names s.posts c.rank s.limits done.p posting.queue posting.rank (requested_kinds s.limits c.rank done.p call) f.reply_found posting.entries done.there (sound.posts c.rank done.p done.there) post p.long (p.some post.kinds post.made))
posting s t transfer id sound lane puts is = absurd (let no : ⊥ = cc in no)

-- a put
pub leaving : (s t : State) (e : Event) (id : LaneId) → event_lane e ≡ Some id → is_put e ≡ true → step s e ≡ Ok t
    → IsParted id (nonempty_lanes s.posts) (nonempty_lanes t.posts) (id ∷ []) (lane_if_nonempty id.origin id.queue (id.target, lane_entries t.posts id))
leaving s t (Put origin queue target number outcome) id lane puts is =
    let b = put_back s t origin queue target number outcome is in
    let at : lane_id origin queue target ≡ id = cc in
    rw (← at, ← b.posts) (put_names s.posts origin b.p b.memory queue target number outcome b.after b.there b.steps)
leaving s t other id lane puts is = absurd (let no : ⊥ = cc in no)

-- an event on a group keeps the names
on_group_names : (s t : State) (rank : ℕ) (p p' : Posts) → IsMet s t rank p p' → nonempty_lanes t.posts ≡ nonempty_lanes s.posts
on_group_names s t rank p p' met =
    rw met.leaves (same_in rank_nonempty_lanes 0 rank s.posts p p' met.there (λ j. ap (λ (qs : List Queue). flat_map (queue_nonempty_lanes j) (enumerate_from 0 qs)) met.keeps.queues))

-- any other event keeps the names
pub quiet : (s t : State) (e : Event) → IsSound s → HasBoundedNumbers s → event_lane e ≡ None → event_purge e ≡ None → step s e ≡ Ok t → nonempty_lanes t.posts ≡ nonempty_lanes s.posts
quiet s t (Called c call reply) sound fits lane purge is = by_group (row_of call).group refl
  where
    by_idle : IsPosted s t c.rank (λ p p'. (memory : Memory) × IsAnswered s.limits c.rank p memory c.thread call reply p') → (idle : Bool) → is_idle reply ≡ idle → nonempty_lanes t.posts ≡ nonempty_lanes s.posts
    by_idle done true idle =
        let after : counted done.p ≡ done.p' = rw idle at done.by.1.after_is in
        rw (done.is, ← after) (same_in rank_nonempty_lanes 0 c.rank s.posts done.p (counted done.p) done.there (λ j. refl))
    by_idle done false busy =
        let after : counted (posts_effect s.limits c.rank done.p c.thread call) ≡ done.p' = rw busy at done.by.1.after_is in
        let none : call_lane c.rank call ≡ None = rw busy at lane in
        let kept : purged_queue call ≡ None = rw busy at purge in
        rw (done.is, ← after) (same_in rank_nonempty_lanes 0 c.rank s.posts done.p (counted (posts_effect s.limits c.rank done.p c.thread call)) done.there
        (λ j. quiet_call s.limits c.rank done.p done.by.0 c.thread call reply j sound.limits (fits.queues c.rank done.p done.there) done.by.1.replied busy none kept))

    by_group : (o : Option ℕ) → (row_of call).group ≡ o → nonempty_lanes t.posts ≡ nonempty_lanes s.posts
    by_group None plain = by_idle (call_posts s t c call reply plain is) (is_idle reply) refl
    by_group (Some id) named = let met = on_group-called s t c id call reply named is in on_group_names s t c.rank met.0 met.1 met.2
quiet s t (Joined c id args) sound fits lane purge is = let met = on_group-joined s t c id args is in on_group_names s t c.rank met.0 met.1 met.2
quiet s t (Take origin queue target number outcome) sound fits lane purge is =
    let b = used_back s t origin queue target number outcome is in
    rw (← b.is) (take_names s.posts origin s.limits b.p b.memory queue target number outcome b.after b.there b.steps)
quiet s t (Put origin queue target number outcome) sound fits lane purge is = absurd (let no : ⊥ = cc in no)

-- The names after the step of a function that steps.

-- a step that was not made has changed no posts
pub same_posts : (s t : State) (fault : StepFault) (outcome : Result State Why) → Steps (Err fault) s t outcome → t.posts ≡ s.posts
same_posts s t (faults.Illegal why) outcome steps = ap (λ (x : State). x.posts) steps.1
same_posts s t faults.NoMemory outcome steps = ap (λ (x : State). x.posts) steps

pub quiet_steps : (s t : State) (e : Event) (result : Result (Unit {0}) StepFault) → IsSound s → HasBoundedNumbers s → event_lane e ≡ None → event_purge e ≡ None → Steps result s t (step s e) → nonempty_lanes t.posts ≡ nonempty_lanes s.posts
quiet_steps s t e (Ok done) sound fits lane purge steps = quiet s t e sound fits lane purge steps
quiet_steps s t e (Err fault) sound fits lane purge steps = ap nonempty_lanes (same_posts s t fault (step s e) steps)

-- a lane that has an entry, or has none
pub named_some : (o queue target : ℕ) (lane : List Entry) → (lane ≡ [] → ⊥) → lane_if_nonempty o queue (target, lane) ≡ lane_id o queue target ∷ []
named_some o queue target [] some = absurd (some refl)
named_some o queue target (e ∷ lane) some = refl

-- a post to a lane that has an entry
pub posting_more : (s t : State) (e : Event) (id : LaneId) (result : Result (Unit {0}) StepFault) → IsSound s → event_lane e ≡ Some id → is_put e ≡ false → (lane_entries s.posts id ≡ [] → ⊥)
    → Steps result s t (step s e) → nonempty_lanes t.posts ≡ nonempty_lanes s.posts
posting_more s t e id (Ok done) sound lane puts some steps =
    kept_by id _ _ (id ∷ []) (rw (named_some id.origin id.queue id.target (lane_entries s.posts id) some) at (posting s t e id sound lane puts steps))
posting_more s t e id (Err fault) sound lane puts some steps = ap nonempty_lanes (same_posts s t fault (step s e) steps)

-- a post to a lane that has none
pub posting_first : (s t : State) (e : Event) (id : LaneId) → IsSound s → event_lane e ≡ Some id → is_put e ≡ false → lane_entries s.posts id ≡ []
    → step s e ≡ Ok t → insert (nonempty_lanes s.posts) (prefix_len (λ x. is_before x id) (nonempty_lanes s.posts)) id ≡ nonempty_lanes t.posts
posting_first s t e id sound lane puts none steps =
    named_by id (nonempty_lanes s.posts) (nonempty_lanes t.posts) (rw none at (posting s t e id sound lane puts steps))

-- the names stand in the order in which that one is sought
pub posting_parted : (s t : State) (e : Event) (id : LaneId) → IsSound s → event_lane e ≡ Some id → is_put e ≡ false → lane_entries s.posts id ≡ []
    → step s e ≡ Ok t → IsPartitionedBy (λ x. is_before x id) (nonempty_lanes s.posts)
posting_parted s t e id sound lane puts none steps =
    parted_names id (nonempty_lanes s.posts) (nonempty_lanes t.posts) [] (id ∷ []) tt (rw none at (posting s t e id sound lane puts steps))

-- a put that leaves an entry in its lane
pub leaving_some : (s t : State) (e : Event) (id : LaneId) → event_lane e ≡ Some id → is_put e ≡ true → (lane_entries t.posts id ≡ [] → ⊥) → step s e ≡ Ok t
    → nonempty_lanes t.posts ≡ nonempty_lanes s.posts
leaving_some s t e id lane puts some steps =
    kept_by id _ _ (id ∷ []) (rw (named_some id.origin id.queue id.target (lane_entries t.posts id) some) at (leaving s t e id lane puts steps))

-- a put that leaves none
pub leaving_none : (s t : State) (e : Event) (id : LaneId) → event_lane e ≡ Some id → is_put e ≡ true → lane_entries t.posts id ≡ [] → step s e ≡ Ok t
    → (prefix_len (λ x. is_before x id) (nonempty_lanes s.posts) < length (nonempty_lanes s.posts))
    × (remove (nonempty_lanes s.posts) (prefix_len (λ x. is_before x id) (nonempty_lanes s.posts)) ≡ nonempty_lanes t.posts)
leaving_none s t e id lane puts none steps =
    unnamed_by id (nonempty_lanes s.posts) (nonempty_lanes t.posts) (rw none at (leaving s t e id lane puts steps))

-- the names stand in the order in which that one is sought
pub leaving_parted : (s t : State) (e : Event) (id : LaneId) → event_lane e ≡ Some id → is_put e ≡ true → step s e ≡ Ok t → IsPartitionedBy (λ x. is_before x id) (nonempty_lanes s.posts)
leaving_parted s t e id lane puts steps =
    parted_names id (nonempty_lanes s.posts) (nonempty_lanes t.posts) (id ∷ []) (lane_if_nonempty id.origin id.queue (id.target, lane_entries t.posts id))
    (behind_target id.origin id.queue id.target id.target (omega arith), tt) (leaving s t e id lane puts steps)
