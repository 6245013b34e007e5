-- The opening state is sound, and every step keeps a state sound.
use Rattle.std.proofs.Common.{◌-◌, subst, ◌≡◌, ℕ, ◌+◌, ◌≤◌, Bool, true, false, List, ◌++◌, length, Option, None, Some, Result, Ok, Err, refl, sym, ap, ◌∙◌, arith, if◌then◌else◌, ◌⊎◌, inl, inr, remove, is_none, nat_le}
use Rattle.std.specs.List.{slice_get, slice_set}
use Rattle.std.proofs.lemmas.Bool.{leb-true}
use Rattle.std.proofs.lemmas.List.{length-set, length-map}
use Rattle.gaspi_types.specs.Lanes.{posted_entries, is_posted, is_carried, is_failed}
use Rattle.gaspi_types.specs.Ranges.{is_between}
use Rattle.gaspi_types.specs.World.{are_limits}
use Rattle.gaspi_types.specs.Replies.{is_idle}
use Rattle.gaspi_types.specs.declared.entries.Entry.{Entry}
use Rattle.gaspi_types.specs.declared.entries.Kind.{Kind}
use Rattle.gaspi_types.specs.declared.entries.Phase.TheVariants as phases
use Rattle.gaspi_types.specs.declared.shapes.Limits.{Limits}
use Rattle.gaspi_types.specs.declared.calls.Call.{Call}
use Rattle.gaspi_types.specs.declared.calls.Call.TheVariants.{Alloc, Delete, Wait, Purge, GroupCreate, GroupAdd, GroupDelete, End}
use Rattle.gaspi_types.specs.CallRows.{row_of}
use Rattle.gaspi_types.specs.declared.call_rows.Posting.{Posting}
use Rattle.gaspi_types.specs.declared.replies.Reply.{Reply}
use Rattle.gaspi_types.specs.declared.replies.Refusal.{Refusal}
use Rattle.gaspi_types.specs.declared.events.Outcome.{Outcome}
use Rattle.gaspi_types.specs.declared.events.Outcome.TheVariants.{Applied, Failed}
use Rattle.gaspi_types.specs.declared.events.Event.{Event}
use Rattle.gaspi_types.specs.declared.events.Event.TheVariants.{Called, Joined, Take, Put}
use Rattle.gaspi_model.specs.State.{owed}
use Rattle.gaspi_types.specs.SegmentTables.{next_generation, with_generation}
use Rattle.gaspi_types.specs.declared.segments.Extent.{Extent}
use Rattle.gaspi_model.specs.Posting.{with_post, counted}
use Rattle.gaspi_types.specs.Tables.{changed_at}
use Rattle.gaspi_types.specs.Queues.{with_entries}
use Rattle.gaspi_model.specs.QueueCalls.{emptied, without_entries}
use Rattle.gaspi_model.specs.PostCalls.{post_request_result}
use Rattle.gaspi_model.specs.Calls.{posts_effect, plain_effect, requested_kinds, call_result}
use Rattle.gaspi_model.specs.Transfers.{EntryPosition, source_bytes, PostsAndMemory}
use Rattle.gaspi_types.specs.Groups.{with_group, with_added, without_group}
use Rattle.gaspi_types.specs.declared.groups.Handles.{Handles}
use Rattle.gaspi_types.specs.declared.inboxes.Message.{Message}
use Rattle.gaspi_model.specs.Step.{step, call_message}
use Rattle.gaspi_model.proofs.Sound.GroupTables.{called-groups}
use Rattle.gaspi_model.proofs.Sound.Inboxes.{inboxes-set, called-inbox, put-inbox}
use Rattle.gaspi_model.specs.Coherence.{AgreesOnSegments}
use Rattle.gaspi_model.specs.Sound.{failures, HasTables, IsSoundPosts, IsSound, AreRising, events_left}
use Rattle.gaspi_model.proofs.Sound.Rising.{AreRising-more, AreRising-phase, AreRising-remove, AreRising-post}
use Rattle.gaspi_types.specs.declared.entries.Queue.{Queue}
use Rattle.gaspi_model.specs.declared.states.Posts.{Posts}
use Rattle.gaspi_model.specs.declared.states.Memory.{Memory}
use Rattle.gaspi_model.specs.declared.states.State.{State}
use Rattle.gaspi_types.proofs.Items.{slice_get-set, length-changed_at}
use Rattle.gaspi_model.proofs.OnPostsAndMemory.{memory_rank, sound-called, sound-take, sound-put}
use Rattle.gaspi_model.proofs.Sound.Registered.{registering, registered-length, registered-from, registered-sum}
use Rattle.gaspi_model.proofs.Sound.TableLengths.{after-tables, take-tables, put-tables, registered-tables}
use Rattle.gaspi_types.proofs.Extents.{generation-within}
use Rattle.gaspi_model.proofs.Same.{same_reply-same}
use Rattle.gaspi_model.proofs.Made.{IsTake, IsPut, IsCalled, step-called, step-take, step-put}
use Rattle.gaspi_model.proofs.Sound.Accounts.{take-owed, put-owed, post-ok}
use Rattle.gaspi_model.proofs.FoundReplies.{found-reply}
use Rattle.gaspi_model.proofs.Sound.CallAccounts.{HasLanes, with_post-events, call-grows}
use Rattle.gaspi_types.proofs.Chains.{both, same_Ok}
use Rattle.gaspi_model.proofs.Sound.OpenCounts.{emptied-lane, posted-unfailed, carried-unfailed, queue-phase, queue-remove, carried-more, carried-failed}
use Rattle.gaspi_types.specs.declared.shapes.CallerId.{CallerId}
use Rattle.gaspi_model.specs.Contributions.{AreSoundCollectives}
use Rattle.gaspi_model.proofs.CollectivePosts.{on_group-called, on_group-joined}
use Rattle.gaspi_model.proofs.Sound.GroupEvents.{posts-sound, left-set, steps-completed, steps-joined, counts-on_group}
use Rattle.gaspi_model.proofs.Sound.KeptGroups.{called-collectives, take-collectives, put-collectives}
use Rattle.gaspi_model.proofs.Sound.CoherentSteps.{keeps-coherent, called-from, take-from, put-from}
use Rattle.gaspi_model.proofs.Sound.CallQueues.{queues-changed, called-queues}
use Rattle.gaspi_model.specs.Changes.{put_rank}
use Rattle.gaspi_model.proofs.FoundEntries.{IsFound, with_lane, with_phase, queue_with_failed, failed_with}

-- queues keep their lanes when one is changed and keeps its own
pub lanes-changed : (ranks : ℕ) (queues : List Queue) (queue : ℕ) (change : Queue → Queue) → ((q : Queue) → length (change q).lanes ≡ length q.lanes)
    → ((k : ℕ) (q : Queue) → slice_get queues k ≡ Some q → length q.lanes ≡ ranks)
    → (k : ℕ) (q : Queue) → slice_get (changed_at queues queue change) k ≡ Some q → length q.lanes ≡ ranks
lanes-changed ranks queues queue change keeps all k q h = go (slice_get queues queue) refl
  where
    parts : (x : Queue) → slice_get queues queue ≡ Some x → ((k ≡ queue) × (q ≡ change x)) ⊎ (slice_get queues k ≡ Some q) → length q.lanes ≡ ranks
    parts x at (inl here) = rw here.1 (keeps x ∙ all queue x at)
    parts x at (inr there) = all k q there

    go : (o : Option Queue) → slice_get queues queue ≡ o → length q.lanes ≡ ranks
    go None at = all k q (rw at at h)
    go (Some x) at = parts x at (slice_get-set queues queue k (change x) q (rw at at h))

-- each lane of the queues rises below a number
abbrev RiseBelow : ℕ → List Queue → Type 0
RiseBelow next queues = (k : ℕ) (q : Queue) → slice_get queues k ≡ Some q → (target : ℕ) (lane : List Entry) → slice_get q.lanes target ≡ Some lane → AreRising next lane

rise-changed : (next : ℕ) (queues : List Queue) (queue : ℕ) (change : Queue → Queue)
    → ((q : Queue) → slice_get queues queue ≡ Some q → (target : ℕ) (lane : List Entry) → slice_get (change q).lanes target ≡ Some lane → AreRising next lane)
    → RiseBelow next queues → RiseBelow next (changed_at queues queue change)
rise-changed next queues queue change keeps all k q h = go (slice_get queues queue) refl
  where
    parts : (x : Queue) → slice_get queues queue ≡ Some x → ((k ≡ queue) × (q ≡ change x)) ⊎ (slice_get queues k ≡ Some q) → (target : ℕ) (lane : List Entry) → slice_get q.lanes target ≡ Some lane → AreRising next lane
    parts x at (inl here) target lane is = keeps x at target lane (subst (λ (y : Queue). slice_get y.lanes target ≡ Some lane) here.1 is)
    parts x at (inr there) target lane is = all k q there target lane is

    go : (o : Option Queue) → slice_get queues queue ≡ o → (target : ℕ) (lane : List Entry) → slice_get q.lanes target ≡ Some lane → AreRising next lane
    go None at = all k q (rw at at h)
    go (Some x) at = parts x at (slice_get-set queues queue k (change x) q (rw at at h))

-- one lane of a queue replaced by one that rises
rise-lane : (next : ℕ) (lanes : List (List Entry)) (target : ℕ) (lane' : List Entry) → AreRising next lane'
    → ((t : ℕ) (lane : List Entry) → slice_get lanes t ≡ Some lane → AreRising next lane)
    → (t : ℕ) (lane : List Entry) → slice_get (slice_set lanes target lane') t ≡ Some lane → AreRising next lane
rise-lane next lanes target lane' rising all t lane h = parts (slice_get-set lanes target t lane' lane h)
  where
    parts : ((t ≡ target) × (lane ≡ lane')) ⊎ (slice_get lanes t ≡ Some lane) → AreRising next lane
    parts (inl here) = rw here.1 rising
    parts (inr there) = all t lane there

rise-more : (m n : ℕ) (queues : List Queue) → m ≤ n → RiseBelow m queues → RiseBelow n queues
rise-more m n queues less all k q at target lane is = AreRising-more m n lane less (all k q at target lane is)

-- the lanes of a queue with entries of a post added to one of them
rise-entries : (number next : ℕ) (q : Queue) (target : ℕ) (kinds : List Kind) → number + length kinds ≤ next
    → ((t : ℕ) (lane : List Entry) → slice_get q.lanes t ≡ Some lane → AreRising number lane)
    → (t : ℕ) (lane : List Entry) → slice_get (with_entries target (posted_entries number kinds) q).lanes t ≡ Some lane → AreRising next lane
rise-entries number next q target kinds fits all t lane h = go (slice_get q.lanes target) refl
  where
    parts : (x : List Entry) → slice_get q.lanes target ≡ Some x → ((t ≡ target) × (lane ≡ x ++ posted_entries number kinds)) ⊎ (slice_get q.lanes t ≡ Some lane) → AreRising next lane
    parts x at (inl here) = rw here.1 (AreRising-post number next x kinds fits (all target x at))
    parts x at (inr there) = AreRising-more number next lane (omega arith) (all t lane there)

    go : (o : Option (List Entry)) → slice_get q.lanes target ≡ o → AreRising next lane
    go None at = AreRising-more number next lane (omega arith) (all t lane (rw at at h))
    go (Some x) at = parts x at (slice_get-set q.lanes target t (x ++ posted_entries number kinds) lane (rw at at h))

rise-post : (posts : Posts) (queue target : ℕ) (asked : Result (List Kind) Refusal) → RiseBelow posts.next posts.queues
    → RiseBelow (with_post posts queue target asked).next (with_post posts queue target asked).queues
rise-post posts queue target (Err refusal) all = all
rise-post posts queue target (Ok kinds) all =
    rise-changed (posts.next + length kinds) posts.queues queue (with_entries target (posted_entries posts.next kinds))
    (λ q at. rise-entries posts.next (posts.next + length kinds) q target kinds (omega arith) (all queue q at))
    (rise-more posts.next (posts.next + length kinds) posts.queues (omega arith) all)

-- the next number after a post
numbers-post : (posts : Posts) (queue target : ℕ) (asked : Result (List Kind) Refusal) → ((kinds : List Kind) → asked ≡ Ok kinds → length kinds ≤ 256) → (with_post posts queue target asked).next ≤ posts.next + 256
numbers-post posts queue target (Ok kinds) counts = let few = counts kinds refl in omega arith
numbers-post posts queue target (Err refusal) counts = omega arith

lanes-post : (ranks : ℕ) (posts : Posts) (queue target : ℕ) (asked : Result (List Kind) Refusal) → HasLanes ranks posts → HasLanes ranks (with_post posts queue target asked)
lanes-post ranks posts queue target (Err refusal) all = all
lanes-post ranks posts queue target (Ok kinds) all =
    lanes-changed ranks posts.queues queue (with_entries target (posted_entries posts.next kinds)) (λ q. length-changed_at q.lanes target (λ lane. lane ++ posted_entries posts.next kinds)) all

-- no number of a segment has had more than so many generations
abbrev HasFewGenerations : ℕ → Posts → Type 0
HasFewGenerations bound posts = (segment n : ℕ) → slice_get posts.segments.next_generations segment ≡ Some n → n ≤ bound

generations-more : (posts : Posts) → HasFewGenerations (posts.events + 1) posts → HasFewGenerations (posts.events + 2) posts
generations-more posts few segment n at = let less = few segment n at in omega arith

-- a new segment takes one generation of its number
generations-alloc : (posts : Posts) (seg : ℕ) → HasFewGenerations (posts.events + 1) posts
    → (k n : ℕ) → slice_get (with_generation posts.segments.next_generations seg) k ≡ Some n → n ≤ posts.events + 2
generations-alloc posts seg few k n at =
    parts (slice_get-set posts.segments.next_generations seg k (next_generation posts.segments.next_generations seg + 1) n at)
  where
    parts : ((k ≡ seg) × (n ≡ next_generation posts.segments.next_generations seg + 1)) ⊎ (slice_get posts.segments.next_generations k ≡ Some n) → n ≤ posts.events + 2
    parts (inl is) = let here = is.1 in let next = generation-within posts.segments.next_generations (posts.events + 1) seg few in omega arith
    parts (inr was) = let less = few k n was in omega arith

with_post-generations : (posts : Posts) (queue target : ℕ) (asked : Result (List Kind) Refusal) → (with_post posts queue target asked).segments.next_generations ≡ posts.segments.next_generations
with_post-generations posts queue target (Ok kinds) = refl
with_post-generations posts queue target (Err refusal) = refl

-- what a call that is done keeps of a rank's posts
record Keeps (ranks : ℕ) (before after : Posts) : Type 0 where
  lanes : HasLanes ranks after
  events : after.events ≡ before.events
  numbers : after.next ≤ before.next + 256
  numbered : length after.segments.next_generations ≡ length before.segments.next_generations
  generations : HasFewGenerations (before.events + 2) after
  rising : RiseBelow after.next after.queues

-- a call that leaves the posts as they are
same-keeps : (ranks : ℕ) (posts : Posts) → HasLanes ranks posts → RiseBelow posts.next posts.queues → HasFewGenerations (posts.events + 1) posts → Keeps ranks posts posts
same-keeps ranks posts all rise few = record { lanes = all; events = refl; numbers = omega arith; numbered = refl; generations = generations-more posts few; rising = rise }

post-keeps : (ranks : ℕ) (posts : Posts) (queue target : ℕ) (asked : Result (List Kind) Refusal) → ((kinds : List Kind) → asked ≡ Ok kinds → length kinds ≤ 256)
    → HasLanes ranks posts → RiseBelow posts.next posts.queues → HasFewGenerations (posts.events + 1) posts → Keeps ranks posts (with_post posts queue target asked)
post-keeps ranks posts queue target asked counts all rise few = record {
  lanes = lanes-post ranks posts queue target asked all;
  events = with_post-events posts queue target asked;
  numbers = numbers-post posts queue target asked counts;
  numbered = ap length (with_post-generations posts queue target asked);
  generations = λ segment n at.
      generations-more posts few segment n (subst (λ (generations : List ℕ). slice_get generations segment ≡ Some n) (with_post-generations posts queue target asked) at);
  rising = rise-post posts queue target asked rise;
}

-- one that changes the groups alone
regrouped-keeps : (ranks : ℕ) (posts : Posts) (groups : Handles) → HasLanes ranks posts → RiseBelow posts.next posts.queues → HasFewGenerations (posts.events + 1) posts
    → Keeps ranks posts (record posts { groups = groups })
regrouped-keeps ranks posts groups all rise few = record { lanes = all; events = refl; numbers = omega arith; numbered = refl; generations = generations-more posts few; rising = rise }

plain-keeps : (ranks : ℕ) (posts : Posts) (thread : ℕ) (call : Call) → HasLanes ranks posts → RiseBelow posts.next posts.queues → HasFewGenerations (posts.events + 1) posts
    → Keeps ranks posts (plain_effect posts thread call)
plain-keeps ranks posts thread (Alloc call) all rise few = record {
  lanes = all;
  events = refl;
  numbers = omega arith;
  numbered = length-set posts.segments.next_generations call.seg (next_generation posts.segments.next_generations call.seg + 1);
  generations = generations-alloc posts call.seg few;
  rising = rise;
}
plain-keeps ranks posts thread (Delete call) all rise few = record { lanes = all; events = refl; numbers = omega arith; numbered = refl; generations = generations-more posts few; rising = rise }
plain-keeps ranks posts thread (Wait call) all rise few = record {
  lanes = lanes-changed ranks posts.queues call.queue (λ (q : Queue). record q { open_count = 0 }) (λ q. refl) all;
  events = refl;
  numbers = omega arith;
  numbered = refl;
  generations = generations-more posts few;
  rising = rise-changed posts.next posts.queues call.queue (λ (q : Queue). record q { open_count = 0 }) (λ q at. rise call.queue q at) rise;
}
plain-keeps ranks posts thread (Purge call) all rise few = record {
  lanes = lanes-changed ranks posts.queues call.queue emptied (λ q. length-map q.lanes without_entries) all;
  events = refl;
  numbers = omega arith;
  numbered = refl;
  generations = generations-more posts few;
  rising = rise-changed posts.next posts.queues call.queue emptied
      (λ q at target lane is. subst (λ (l : List Entry). AreRising posts.next l) (sym (emptied-lane q.lanes target lane is)) tt) rise;
}
plain-keeps ranks posts thread GroupCreate all rise few = regrouped-keeps ranks posts (with_group posts.groups) all rise few
plain-keeps ranks posts thread (GroupAdd call) all rise few = regrouped-keeps ranks posts (with_added posts.groups call.group call.rank) all rise few
plain-keeps ranks posts thread (GroupDelete call) all rise few = regrouped-keeps ranks posts (without_group posts.groups call.group) all rise few
plain-keeps ranks posts thread End all rise few = record { lanes = all; events = refl; numbers = omega arith; numbered = refl; generations = generations-more posts few; rising = rise }
plain-keeps ranks posts thread other all rise few = same-keeps ranks posts all rise few

done-keeps : (ranks : ℕ) (limits : Limits) (me : ℕ) (posts : Posts) (thread : ℕ) (call : Call) → HasLanes ranks posts → RiseBelow posts.next posts.queues → HasFewGenerations (posts.events + 1) posts
    → ((to : Posting) (kinds : List Kind) → (row_of call).posting ≡ Some to → requested_kinds limits me posts call ≡ Ok kinds → length kinds ≤ 256)
    → Keeps ranks posts (posts_effect limits me posts thread call)
done-keeps ranks limits me posts thread call all rise few counts = go (row_of call).posting refl
  where
    go : (o : Option Posting) → (row_of call).posting ≡ o → Keeps ranks posts (posts_effect limits me posts thread call)
    go None none = rw none (plain-keeps ranks posts thread call all rise few)
    go (Some to) post = rw post (post-keeps ranks posts to.queue to.rank (requested_kinds limits me posts call) (λ kinds asks. counts to kinds post asks) all rise few)

-- a queue is not deeper than that
pub depth-few : (limits : Limits) → are_limits limits ≡ true → limits.depth ≤ 256
depth-few limits h =
    let depth = (both (is_between 1 256 limits.depth) _ (both (is_between 1 8 limits.queues) _ (both (is_between 1 16 limits.ranks) _ h).1).1).0 in
    leb-true limits.depth 256 (both (nat_le 1 limits.depth) (nat_le limits.depth 256) depth).1

-- a post that is done has as many entries as its queue has room for
accepted-few : (limits : Limits) (me : ℕ) (posts : Posts) (memory : Memory) (call : Call) (reply : Reply) (to : Posting) (kinds : List Kind) → limits.depth ≤ 256
    → call_result limits me posts memory call ≡ Ok (Some reply) → (row_of call).posting ≡ Some to → requested_kinds limits me posts call ≡ Ok kinds → length kinds ≤ 256
accepted-few limits me posts memory call reply to kinds depth found post asks =
    let finds : post_request_result limits posts to.rank to.queue (requested_kinds limits me posts call) ≡ Ok (Some reply) = rw post at found in
    let posted = post-ok limits posts to.rank to.queue (requested_kinds limits me posts call) (Some reply) finds in
    let same : posted.1 ≡ kinds = same_Ok _ _ (sym posted.2.asks ∙ asks) in
    let room = leb-true _ _ posted.2.room in
    let count = ap length same in
    omega arith

-- the posts after a call, idle or not
after-keeps : (ranks : ℕ) (b : Bool) (before done : Posts) → HasLanes ranks before → RiseBelow before.next before.queues → HasFewGenerations (before.events + 1) before
    → (b ≡ false → Keeps ranks before done) → Keeps ranks before (if b then before else done)
after-keeps ranks true before done all rise few keeps = same-keeps ranks before all rise few
after-keeps ranks false before done all rise few keeps = keeps refl

call-keeps : (limits : Limits) (me : ℕ) (posts : Posts) (brought : Option Message) (memory : Memory) (thread : ℕ) (call : Call) (reply : Reply) (after : PostsAndMemory) → limits.depth ≤ 256
    → IsSoundPosts limits posts → IsCalled limits me posts brought memory thread call reply after → Keeps limits.ranks posts (if is_idle reply then posts else posts_effect limits me posts thread call)
call-keeps limits me posts brought memory thread call reply after depth sound h =
    after-keeps limits.ranks (is_idle reply) posts (posts_effect limits me posts thread call) sound.lanes sound.rising sound.generations
    (λ busy. done-keeps limits.ranks limits me posts thread call sound.lanes sound.rising sound.generations
    (λ to kinds post asks. accepted-few limits me posts memory call reply to kinds depth
    (found-reply limits me posts memory thread call reply (same_reply-same _ _ h.answered) busy) post asks))

called-sound : (limits : Limits) (me : ℕ) (posts : Posts) (brought : Option Message) (memory : Memory) (thread : ℕ) (call : Call) (reply : Reply) (after : PostsAndMemory) → limits.depth ≤ 256
    → IsSoundPosts limits posts → IsCalled limits me posts brought memory thread call reply after → IsSoundPosts limits after.posts
called-sound limits me posts brought memory thread call reply after depth sound h =
    let keeps = call-keeps limits me posts brought memory thread call reply after depth sound h in
    let grows = call-grows limits me posts memory thread call reply sound.lanes (same_reply-same _ _ h.answered) in
    let room = leb-true _ _ h.room in
    let numbers = sound.numbers in
    rw h.leaves (record {
      tables = after-tables limits me (is_idle reply) posts thread call sound.tables;
      lanes = keeps.lanes;
      room = omega arith;
      numbers = (let events = keeps.events in let next = keeps.numbers in omega arith);
      numbered = keeps.numbered ∙ sound.numbered;
      generations = λ segment n at. (let events = keeps.events in let less = keeps.generations segment n at in omega arith);
      rising = keeps.rising;
      queues = called-queues limits me posts memory thread call reply (same_reply-same _ _ h.answered) sound.queues sound.rising;
      groups = called-groups limits me posts memory thread call reply (same_reply-same _ _ h.answered) sound.groups;
    })

lanes-with_lane : (ranks : ℕ) (posts : Posts) (queue target : ℕ) (lane : List Entry) → HasLanes ranks posts → HasLanes ranks (with_lane posts queue target lane)
lanes-with_lane ranks posts queue target lane all =
    lanes-changed ranks posts.queues queue (λ (q : Queue). record q { lanes = slice_set q.lanes target lane }) (λ q. length-set q.lanes target lane) all

-- the posts with a lane replaced by one that rises
rise-with_lane : (posts : Posts) (queue target number : ℕ) (at : EntryPosition) (lane : List Entry) → IsFound posts queue target number at → AreRising posts.next lane
    → RiseBelow posts.next posts.queues → RiseBelow posts.next (with_lane posts queue target lane).queues
rise-with_lane posts queue target number at lane is rising all =
    rise-changed posts.next posts.queues queue (λ (q : Queue). record q { lanes = slice_set q.lanes target lane })
    (λ q here. rise-lane posts.next q.lanes target lane rising (all queue q here)) all

whole-unmarked : (broken : Option ℕ) → is_none broken ≡ true → failures broken ≡ 0
whole-unmarked None h = refl
whole-unmarked (Some target) h = absurd (let no : ⊥ = cc in no)

-- the posts of an origin after a transfer that failed
failed-sound : (limits : Limits) (posts : Posts) (queue target number : ℕ) (at : EntryPosition) → IsSoundPosts limits posts → IsFound posts queue target number at → is_none at.queue.broken ≡ true
    → is_failed at.entry ≡ false → HasTables limits (counted (failed_with posts queue target at))
    → (counted (failed_with posts queue target at)).events + owed (counted (failed_with posts queue target at)) ≤ limits.events → IsSoundPosts limits (counted (failed_with posts queue target at))
failed-sound limits posts queue target number at sound is whole stood tables room =
    let numbers = sound.numbers in
    let rises = sound.rising queue at.queue is.in_posts target at.lane is.in_queue in
    let lane = with_phase at.lane at.position at.entry phases.Failed in
    let change = queue_with_failed target at in
    record {
      tables = tables;
      lanes = lanes-changed limits.ranks posts.queues queue change (λ q. length-set q.lanes target lane) sound.lanes;
      room = room;
      numbers = omega arith;
      numbered = sound.numbered;
      generations = λ segment n at. (let few = sound.generations segment n at in omega arith);
      rising = rise-changed posts.next posts.queues queue change
          (λ q here. rise-lane posts.next q.lanes target lane (AreRising-phase posts.next at.lane at.position at.entry phases.Failed is.in_lane rises) (sound.rising queue q here)) sound.rising;
      queues = queues-changed limits.depth posts.queues queue change sound.queues
          (λ q here.
          let same : at.queue ≡ q = (let some : ◌≡◌ {A = Option Queue} (Some at.queue) (Some q) = sym is.in_posts ∙ here in cc) in
          let s0 = sound.queues queue at.queue is.in_posts in
          rw (sym same) (queue-phase limits.depth at.queue (change at.queue) target at.lane at.position at.entry phases.Failed s0 is.in_queue is.in_lane refl refl refl
          (carried-failed limits.depth at.lane at.position at.entry is.in_lane (s0.carried target at.lane is.in_queue))
          (rw (stood, whole-unmarked at.queue.broken whole) refl)));
      groups = sound.groups;
    }

take-sound : (limits : Limits) (posts : Posts) (memory : Memory) (queue target number : ℕ) (outcome : Outcome) (after : Posts) (at : EntryPosition)
    → IsSoundPosts limits posts → IsTake limits posts memory queue target number outcome after at → IsSoundPosts limits after
take-sound limits posts memory queue target number Applied after at sound h =
    let owes = take-owed limits posts memory queue target number Applied after at h in
    let room = sound.room in
    let numbers = sound.numbers in
    let rises = sound.rising queue at.queue h.is.in_posts target at.lane h.is.in_queue in
    let lane = with_phase at.lane at.position at.entry (phases.Carried (source_bytes memory at.entry.kind)) in
    let made : IsSoundPosts limits (counted (with_lane posts queue target lane)) = record {
      tables = subst (HasTables limits) h.leaves (take-tables limits posts memory queue target number Applied after at h sound.tables);
      lanes = lanes-with_lane limits.ranks posts queue target lane sound.lanes;
      room = (let same = ap (λ (p : Posts). p.events + owed p) h.leaves in omega arith);
      numbers = omega arith;
      numbered = sound.numbered;
      generations = λ segment n at. (let few = sound.generations segment n at in omega arith);
      rising = rise-with_lane posts queue target number at lane h.is (AreRising-phase posts.next at.lane at.position at.entry (phases.Carried (source_bytes memory at.entry.kind)) h.is.in_lane rises) sound.rising;
      queues = queues-changed limits.depth posts.queues queue (λ (q : Queue). record q { lanes = slice_set q.lanes target lane }) sound.queues
          (λ q here.
          let same : at.queue ≡ q = (let some : ◌≡◌ {A = Option Queue} (Some at.queue) (Some q) = sym h.is.in_posts ∙ here in cc) in
          rw (sym same) (queue-phase limits.depth at.queue (record at.queue { lanes = slice_set at.queue.lanes target lane }) target at.lane at.position at.entry
          (phases.Carried (source_bytes memory at.entry.kind)) (sound.queues queue at.queue h.is.in_posts) h.is.in_queue h.is.in_lane refl refl refl
          (carried-more limits.depth at.lane at.position at.entry (phases.Carried (source_bytes memory at.entry.kind)) h.is.in_lane (both (is_posted at.entry) _ h.permitted).1)
          (rw (posted-unfailed at.entry.phase (both (is_posted at.entry) _ h.permitted).0) refl)));
      groups = sound.groups;
    } in
    rw h.leaves made
take-sound limits posts memory queue target number Failed after at sound h =
    let owes = take-owed limits posts memory queue target number Failed after at h in
    let room = sound.room in
    let tables = subst (HasTables limits) h.leaves (take-tables limits posts memory queue target number Failed after at h sound.tables) in
    let spared : (counted (failed_with posts queue target at)).events + owed (counted (failed_with posts queue target at)) ≤ limits.events =
    (let same = ap (λ (p : Posts). p.events + owed p) h.leaves in omega arith) in
    rw h.leaves (failed-sound limits posts queue target number at sound h.is h.whole (posted-unfailed at.entry.phase (both (is_posted at.entry) _ h.permitted).0) tables spared)

put-sound : (limits : Limits) (posts : Posts) (memory : Memory) (queue target number : ℕ) (outcome : Outcome) (after : PostsAndMemory) (at : EntryPosition)
    → IsSoundPosts limits posts → IsPut posts memory queue target number outcome after at → IsSoundPosts limits after.posts
put-sound limits posts memory queue target number Applied after at sound h =
    let owes = put-owed posts memory queue target number Applied after at h in
    let room = sound.room in
    let numbers = sound.numbers in
    let rises = sound.rising queue at.queue h.is.in_posts target at.lane h.is.in_queue in
    let lane = remove at.lane at.position in
    let made : IsSoundPosts limits (counted (with_lane posts queue target lane)) = record {
      tables = subst (λ (w : PostsAndMemory). HasTables limits w.posts) h.leaves (put-tables limits posts memory queue target number Applied after at h sound.tables);
      lanes = lanes-with_lane limits.ranks posts queue target lane sound.lanes;
      room = (let same = ap (λ (p : PostsAndMemory). p.posts.events + owed p.posts) h.leaves in omega arith);
      numbers = omega arith;
      numbered = sound.numbered;
      generations = λ segment n at. (let few = sound.generations segment n at in omega arith);
      rising = rise-with_lane posts queue target number at lane h.is (AreRising-remove posts.next at.lane at.position rises) sound.rising;
      queues = queues-changed limits.depth posts.queues queue (λ (q : Queue). record q { lanes = slice_set q.lanes target lane }) sound.queues
          (λ q here.
          let same : at.queue ≡ q = (let some : ◌≡◌ {A = Option Queue} (Some at.queue) (Some q) = sym h.is.in_posts ∙ here in cc) in
          rw (sym same) (queue-remove limits.depth at.queue (record at.queue { lanes = slice_set at.queue.lanes target lane }) target at.lane at.position at.entry
          (sound.queues queue at.queue h.is.in_posts) h.is.in_queue h.is.in_lane refl refl refl (carried-unfailed at.entry.phase (both (is_carried at.entry) _ h.permitted).0)));
      groups = sound.groups;
    } in
    rw h.leaves made
put-sound limits posts memory queue target number Failed after at sound h =
    let owes = put-owed posts memory queue target number Failed after at h in
    let room = sound.room in
    let tables = subst (λ (w : PostsAndMemory). HasTables limits w.posts) h.leaves (put-tables limits posts memory queue target number Failed after at h sound.tables) in
    let spared : (counted (failed_with posts queue target at)).events + owed (counted (failed_with posts queue target at)) ≤ limits.events =
    (let same = ap (λ (p : PostsAndMemory). p.posts.events + owed p.posts) h.leaves in omega arith) in
    rw h.leaves (failed-sound limits posts queue target number at sound h.is h.whole (carried-unfailed at.entry.phase (both (is_carried at.entry) _ h.permitted).0) tables spared)

-- posts that are told a segment
at_completion-sound : (limits : Limits) (ranks me : ℕ) (p : Posts) (call : Call) (reply : Reply) (all : List Posts) → ((r : ℕ) (x : Posts) → slice_get all r ≡ Some x → IsSoundPosts limits x)
    → (r : ℕ) (x : Posts) → slice_get (registering ranks me p call reply all) r ≡ Some x → IsSoundPosts limits x
at_completion-sound limits ranks me p call reply all sound r x h =
    let from = registered-from ranks me p call reply all r x h in
    let tables = registered-tables limits ranks me p call reply all (λ k y at. (sound k y at).tables) r x h in
    rw from.3 (known-sound from.0 from.1 (subst (HasTables limits) from.3 tables) (sound r from.0 from.2))
  where
    known-sound : (before : Posts) (known : List (List (Option Extent))) → HasTables limits (record before { segments = record before.segments { known = known } }) → IsSoundPosts limits before → IsSoundPosts limits (record before { segments = record before.segments { known = known } })
    known-sound before known tables is = record {
      tables = tables;
      lanes = is.lanes;
      room = is.room;
      numbers = is.numbers;
      numbered = is.numbered;
      generations = is.generations;
      rising = is.rising;
      queues = is.queues;
      groups = is.groups;
    }

steps-called : (s t : State) (c : CallerId) (call : Call) (reply : Reply) → (row_of call).group ≡ None → IsSound s → step s (Called c call reply) ≡ Ok t → IsSound t
steps-called s t c call reply plain sound h =
    let made = sound-called s t c call reply plain sound h in
    let m = made.3 in
    let after = called-sound s.limits c.rank made.0 (call_message s c.rank call) made.1 c.thread call reply made.2 (depth-few s.limits sound.limits) (sound.posts c.rank made.0 m.posts_there) m.is in
    let coherent = keeps-coherent s t sound.coherent (called-from s t c call reply plain sound h) in
    let collectives = called-collectives s t c call reply plain sound h in
    rw m.leaves (record {
      limits = sound.limits;
      ranks = registered-length s.limits.ranks c.rank made.0 call reply (slice_set s.posts c.rank made.2.posts) ∙ length-set s.posts c.rank made.2.posts ∙ sound.ranks;
      memories = length-set s.memories (memory_rank s.limits c.rank call) made.2.memory ∙ sound.memories;
      posts = at_completion-sound s.limits s.limits.ranks c.rank made.0 call reply (slice_set s.posts c.rank made.2.posts) (posts-sound s.limits s.posts c.rank made.2.posts after sound.posts);
      inboxes = inboxes-set s.limits s.memories (memory_rank s.limits c.rank call) made.2.memory sound.inboxes (called-inbox s t c call reply made.0 made.1 made.2 sound m);
      coherent = subst AgreesOnSegments m.leaves coherent;
      collectives = subst AreSoundCollectives m.leaves collectives;
    })

pub steps : (s t : State) (e : Event) → IsSound s → step s e ≡ Ok t → IsSound t
steps s t (Joined c id args) sound h = steps-joined s t c id args sound h
steps s t (Called c call reply) sound h = by-group (row_of call).group refl
  where
    by-group : (o : Option ℕ) → (row_of call).group ≡ o → IsSound t
    by-group (Some id) named = steps-completed s t c id call reply named sound h
    by-group None plain = steps-called s t c call reply plain sound h
steps s t (Take origin queue target number outcome) sound h =
    let made = sound-take s t origin queue target number outcome sound h in
    let m = made.4 in
    let after = take-sound s.limits made.0 made.1 queue target number outcome made.2 made.3 (sound.posts origin made.0 m.posts_there) m.is in
    let coherent = keeps-coherent s t sound.coherent (take-from s t origin queue target number outcome sound h) in
    let collectives = take-collectives s t origin queue target number outcome sound h in
    rw m.leaves (record {
      limits = sound.limits;
      ranks = length-set s.posts origin made.2 ∙ sound.ranks;
      memories = sound.memories;
      posts = posts-sound s.limits s.posts origin made.2 after sound.posts;
      inboxes = sound.inboxes;
      coherent = subst AgreesOnSegments m.leaves coherent;
      collectives = subst AreSoundCollectives m.leaves collectives;
    })
steps s t (Put origin queue target number outcome) sound h =
    let made = sound-put s t origin queue target number outcome sound h in
    let m = made.4 in
    let after = put-sound s.limits made.0 made.1 queue target number outcome made.2 made.3 (sound.posts origin made.0 m.posts_there) m.is in
    let coherent = keeps-coherent s t sound.coherent (put-from s t origin queue target number outcome sound h) in
    let collectives = put-collectives s t origin queue target number outcome sound h in
    rw m.leaves (record {
      limits = sound.limits;
      ranks = length-set s.posts origin made.2.posts ∙ sound.ranks;
      memories = length-set s.memories (put_rank origin target made.3.entry.kind) made.2.memory ∙ sound.memories;
      posts = posts-sound s.limits s.posts origin made.2.posts after sound.posts;
      inboxes = inboxes-set s.limits s.memories (put_rank origin target made.3.entry.kind) made.2.memory sound.inboxes
          (put-inbox s.limits made.0 made.1 queue target number outcome made.2 made.3 m.is (sound.inboxes (put_rank origin target made.3.entry.kind) made.1 m.memory_there));
      coherent = subst AgreesOnSegments m.leaves coherent;
      collectives = subst AreSoundCollectives m.leaves collectives;
    })

-- each event adds one to the events of its owner

pub called-events : (limits : Limits) (me : ℕ) (posts : Posts) (brought : Option Message) (memory : Memory) (thread : ℕ) (call : Call) (reply : Reply) (after : PostsAndMemory) → limits.depth ≤ 256
    → IsSoundPosts limits posts → IsCalled limits me posts brought memory thread call reply after → after.posts.events ≡ posts.events + 1
called-events limits me posts brought memory thread call reply after depth sound h =
    let keeps = call-keeps limits me posts brought memory thread call reply after depth sound h in
    rw h.leaves (ap (λ (n : ℕ). n + 1) keeps.events)

pub take-events : (limits : Limits) (posts : Posts) (memory : Memory) (queue target number : ℕ) (outcome : Outcome) (after : Posts) (at : EntryPosition)
    → IsTake limits posts memory queue target number outcome after at → after.events ≡ posts.events + 1
take-events limits posts memory queue target number Applied after at h = rw h.leaves refl
take-events limits posts memory queue target number Failed after at h = rw h.leaves refl

pub put-events : (posts : Posts) (memory : Memory) (queue target number : ℕ) (outcome : Outcome) (after : PostsAndMemory) (at : EntryPosition)
    → IsPut posts memory queue target number outcome after at → after.posts.events ≡ posts.events + 1
put-events posts memory queue target number Applied after at h = rw h.leaves refl
put-events posts memory queue target number Failed after at h = rw h.leaves refl

counts-called : (s t : State) (c : CallerId) (call : Call) (reply : Reply) → (row_of call).group ≡ None → IsSound s → step s (Called c call reply) ≡ Ok t → events_left t + 1 ≡ events_left s
counts-called s t c call reply plain sound h =
    let made = sound-called s t c call reply plain sound h in
    let m = made.3 in
    let before = sound.posts c.rank made.0 m.posts_there in
    let after = called-sound s.limits c.rank made.0 (call_message s c.rank call) made.1 c.thread call reply made.2 (depth-few s.limits sound.limits) before m.is in
    let more = called-events s.limits c.rank made.0 (call_message s c.rank call) made.1 c.thread call reply made.2 (depth-few s.limits sound.limits) before m.is in
    let left = left-set s.limits s.posts c.rank made.0 made.2.posts m.posts_there more (let room = after.room in omega arith) in
    let told_left = registered-sum (λ (p : Posts). s.limits.events - p.events) (λ x known. refl) s.limits.ranks c.rank made.0 call reply (slice_set s.posts c.rank made.2.posts) in
    rw m.leaves (ap (λ (n : ℕ). n + 1) told_left ∙ left)

pub counts : (s t : State) (e : Event) → IsSound s → step s e ≡ Ok t → events_left t + 1 ≡ events_left s
counts s t (Joined c id args) sound h = let met = on_group-joined s t c id args h in counts-on_group s t c.rank met.0 met.1 sound (steps-joined s t c id args sound h) met.2
counts s t (Called c call reply) sound h = by-group (row_of call).group refl
  where
    by-group : (o : Option ℕ) → (row_of call).group ≡ o → events_left t + 1 ≡ events_left s
    by-group (Some id) named = let met = on_group-called s t c id call reply named h in counts-on_group s t c.rank met.0 met.1 sound (steps-completed s t c id call reply named sound h) met.2
    by-group None plain = counts-called s t c call reply plain sound h
counts s t (Take origin queue target number outcome) sound h =
    let made = sound-take s t origin queue target number outcome sound h in
    let m = made.4 in
    let before = sound.posts origin made.0 m.posts_there in
    let after = take-sound s.limits made.0 made.1 queue target number outcome made.2 made.3 before m.is in
    let more = take-events s.limits made.0 made.1 queue target number outcome made.2 made.3 m.is in
    rw m.leaves (left-set s.limits s.posts origin made.0 made.2 m.posts_there more (let room = after.room in omega arith))
counts s t (Put origin queue target number outcome) sound h =
    let made = sound-put s t origin queue target number outcome sound h in
    let m = made.4 in
    let before = sound.posts origin made.0 m.posts_there in
    let after = put-sound s.limits made.0 made.1 queue target number outcome made.2 made.3 before m.is in
    let more = put-events made.0 made.1 queue target number outcome made.2 made.3 m.is in
    rw m.leaves (left-set s.limits s.posts origin made.0 made.2.posts m.posts_there more (let room = after.room in omega arith))

pub limits-stay : (s t : State) (e : Event) → step s e ≡ Ok t → t.limits ≡ s.limits
limits-stay s t (Joined c id args) h = (on_group-joined s t c id args h).2.limits
limits-stay s t (Called c call reply) h = by-group (row_of call).group refl
  where
    by-group : (o : Option ℕ) → (row_of call).group ≡ o → t.limits ≡ s.limits
    by-group (Some id) named = (on_group-called s t c id call reply named h).2.limits
    by-group None plain = ap (λ (x : State). x.limits) (step-called s t c call reply plain h).3.leaves
limits-stay s t (Take origin queue target number outcome) h = ap (λ (x : State). x.limits) (step-take s t origin queue target number outcome h).4.leaves
limits-stay s t (Put origin queue target number outcome) h = ap (λ (x : State). x.limits) (step-put s t origin queue target number outcome h).4.leaves
