-- Every step keeps the lengths of all tables.
use Rattle.std.proofs.Common.{◌≡◌, ℕ, Bool, true, false, ◌==◌, List, length, Option, None, Some, Result, Ok, Err, refl, sym, ap, ◌∙◌, arith, remove, if◌then◌else◌}
use Rattle.std.specs.List.{slice_get, slice_set}
use Rattle.std.specs.Option.{option_map}
use Rattle.std.proofs.lemmas.List.{length-set, length-map}
use Rattle.std.proofs.lemmas.Option.{slice_get_within}
use Rattle.gaspi_types.specs.CallRows.{row_of}
use Rattle.gaspi_types.specs.SegmentTables.{extent_in}
use Rattle.gaspi_types.specs.declared.call_rows.Posting.{Posting}
use Rattle.gaspi_types.specs.declared.calls.Call.{Call}
use Rattle.gaspi_types.specs.declared.calls.Call.TheVariants.{Alloc, Delete, Wait, Purge, GroupCreate, GroupAdd, GroupDelete, End}
use Rattle.gaspi_types.specs.Groups.{with_group, with_added, without_group}
use Rattle.gaspi_types.specs.declared.groups.Handles.{Handles}
use Rattle.gaspi_types.specs.declared.entries.Entry.{Entry}
use Rattle.gaspi_types.specs.declared.segments.Extent.{Extent}
use Rattle.gaspi_types.specs.declared.entries.Kind.{Kind}
use Rattle.gaspi_types.specs.declared.events.Outcome.{Outcome}
use Rattle.gaspi_types.specs.declared.events.Outcome.TheVariants.{Applied, Failed}
use Rattle.gaspi_types.specs.declared.replies.Reply.{Reply}
use Rattle.gaspi_types.specs.declared.replies.Refusal.{Refusal}
use Rattle.gaspi_types.specs.declared.shapes.Limits.{Limits}
use Rattle.gaspi_model.specs.Posting.{with_post, counted}
use Rattle.gaspi_model.specs.SegmentCalls.{with_known}
use Rattle.gaspi_model.specs.Calls.{plain_effect, posts_effect, requested_kinds}
use Rattle.gaspi_model.specs.Transfers.{EntryPosition, PostsAndMemory}
use Rattle.gaspi_types.specs.Segments.{extent_of, extents_of}
use Rattle.gaspi_model.specs.Sound.{HasTables, IsSound}
use Rattle.gaspi_model.specs.declared.states.State.{State}
use Rattle.gaspi_types.specs.declared.entries.Queue.{Queue}
use Rattle.gaspi_model.specs.declared.states.Posts.{Posts}
use Rattle.gaspi_model.specs.declared.states.Memory.{Memory}
use Rattle.gaspi_model.proofs.Made.{IsTake, IsPut}
use Rattle.gaspi_types.proofs.Items.{length-changed_at, there-within}
use Rattle.gaspi_model.proofs.Sound.Registered.{changed_at-get, registering, registered-cases}
use Rattle.gaspi_model.proofs.FoundEntries.{with_lane, failed_with}

-- the same tables with the queues, or with the known segments, replaced
requeued-tables : (limits : Limits) (posts : Posts) (queues : List Queue) (next : ℕ) → length queues ≡ length posts.queues → HasTables limits posts → HasTables limits (record posts { queues = queues; next = next })
requeued-tables limits posts queues next same has = record {
  queues = same ∙ has.queues;
  corrupt = has.corrupt;
  own = has.own;
  known = has.known;
  known_segments = has.known_segments;
  threads = has.threads;
  pending = has.pending;
}

-- or with the groups
pub regrouped-tables : (limits : Limits) (posts : Posts) (groups : Handles) → HasTables limits posts → HasTables limits (record posts { groups = groups })
regrouped-tables limits posts groups has = record {
  queues = has.queues;
  corrupt = has.corrupt;
  own = has.own;
  known = has.known;
  known_segments = has.known_segments;
  threads = has.threads;
  pending = has.pending;
}

post-tables : (limits : Limits) (posts : Posts) (queue target : ℕ) (asked : Result (List Kind) Refusal) → HasTables limits posts → HasTables limits (with_post posts queue target asked)
post-tables limits posts queue target (Err refusal) has = has
post-tables limits posts queue target (Ok kinds) has = requeued-tables limits posts _ _ (length-changed_at posts.queues queue _) has

plain-tables : (limits : Limits) (posts : Posts) (thread : ℕ) (call : Call) → HasTables limits posts → HasTables limits (plain_effect posts thread call)
plain-tables limits posts thread (Alloc call) has = record {
  queues = has.queues;
  corrupt = has.corrupt;
  own = length-set posts.segments.own call.seg _ ∙ has.own;
  known = has.known;
  known_segments = has.known_segments;
  threads = has.threads;
  pending = has.pending;
}
plain-tables limits posts thread (Delete call) has = record {
  queues = has.queues;
  corrupt = has.corrupt;
  own = length-set posts.segments.own call.seg None ∙ has.own;
  known = has.known;
  known_segments = has.known_segments;
  threads = has.threads;
  pending = has.pending;
}
plain-tables limits posts thread (Wait call) has = requeued-tables limits posts _ posts.next (length-changed_at posts.queues call.queue _) has
plain-tables limits posts thread (Purge call) has = requeued-tables limits posts _ posts.next (length-changed_at posts.queues call.queue _) has
plain-tables limits posts thread GroupCreate has = regrouped-tables limits posts (with_group posts.groups) has
plain-tables limits posts thread (GroupAdd call) has = regrouped-tables limits posts (with_added posts.groups call.group call.rank) has
plain-tables limits posts thread (GroupDelete call) has = regrouped-tables limits posts (without_group posts.groups call.group) has
plain-tables limits posts thread End has = record {
  queues = has.queues;
  corrupt = has.corrupt;
  own = has.own;
  known = has.known;
  known_segments = has.known_segments;
  threads = length-set posts.threads thread _ ∙ has.threads;
  pending = has.pending;
}
plain-tables limits posts thread other has = has

done-tables : (limits : Limits) (me : ℕ) (posts : Posts) (thread : ℕ) (call : Call) → HasTables limits posts → HasTables limits (posts_effect limits me posts thread call)
done-tables limits me posts thread call has = go (row_of call).posting refl
  where
    go : (o : Option Posting) → (row_of call).posting ≡ o → HasTables limits (posts_effect limits me posts thread call)
    go None none = rw none (plain-tables limits posts thread call has)
    go (Some to) post = rw post (post-tables limits posts to.queue to.rank (requested_kinds limits me posts call) has)

pub counted-tables : (limits : Limits) (posts : Posts) → HasTables limits posts → HasTables limits (counted posts)
counted-tables limits posts has = record {
  queues = has.queues;
  corrupt = has.corrupt;
  own = has.own;
  known = has.known;
  known_segments = has.known_segments;
  threads = has.threads;
  pending = has.pending;
}

-- after a call, idle or not
pub after-tables : (limits : Limits) (me : ℕ) (idle : Bool) (posts : Posts) (thread : ℕ) (call : Call) → HasTables limits posts
    → HasTables limits (counted (if idle then posts else posts_effect limits me posts thread call))
after-tables limits me true posts thread call has = counted-tables limits posts has
after-tables limits me false posts thread call has = counted-tables limits _ (done-tables limits me posts thread call has)

-- after a transfer
lane-tables : (limits : Limits) (posts : Posts) (queue target : ℕ) (lane : List Entry) → HasTables limits posts → HasTables limits (counted (with_lane posts queue target lane))
lane-tables limits posts queue target lane has =
    counted-tables limits _ (requeued-tables limits posts _ posts.next (length-changed_at posts.queues queue (λ (q : Queue). record q { lanes = slice_set q.lanes target lane })) has)

failed-tables : (limits : Limits) (posts : Posts) (queue target : ℕ) (at : EntryPosition) → HasTables limits posts → HasTables limits (counted (failed_with posts queue target at))
failed-tables limits posts queue target at has = record {
  queues = length-changed_at posts.queues queue _ ∙ has.queues;
  corrupt = length-set posts.corrupt target true ∙ has.corrupt;
  own = has.own;
  known = has.known;
  known_segments = has.known_segments;
  threads = has.threads;
  pending = has.pending;
}

pub take-tables : (limits : Limits) (posts : Posts) (memory : Memory) (queue target number : ℕ) (outcome : Outcome) (after : Posts) (at : EntryPosition)
    → IsTake limits posts memory queue target number outcome after at → HasTables limits posts → HasTables limits after
take-tables limits posts memory queue target number Applied after at h has = rw h.leaves (lane-tables limits posts queue target _ has)
take-tables limits posts memory queue target number Failed after at h has = rw h.leaves (failed-tables limits posts queue target at has)

pub put-tables : (limits : Limits) (posts : Posts) (memory : Memory) (queue target number : ℕ) (outcome : Outcome) (after : PostsAndMemory) (at : EntryPosition)
    → IsPut posts memory queue target number outcome after at → HasTables limits posts → HasTables limits after.posts
put-tables limits posts memory queue target number Applied after at h has = rw h.leaves (lane-tables limits posts queue target (remove at.lane at.position) has)
put-tables limits posts memory queue target number Failed after at h has = rw h.leaves (failed-tables limits posts queue target at has)

-- a segment told
pub known-tables : (limits : Limits) (owner seg : ℕ) (extent : Option Extent) (posts : Posts) → HasTables limits posts → HasTables limits (with_known owner seg extent posts)
known-tables limits owner seg extent posts has = record {
  queues = has.queues;
  corrupt = has.corrupt;
  own = has.own;
  known = length-changed_at posts.segments.known owner _ ∙ has.known;
  known_segments = λ rank table at.
      by-rank rank table (owner == rank) refl (slice_get posts.segments.known rank) refl (sym (changed_at-get posts.segments.known owner rank (λ t. slice_set t seg extent)) ∙ at);
  threads = has.threads;
  pending = has.pending;
}
  where
    by-rank : (rank : ℕ) (table : List (Option Extent)) (b : Bool) → (owner == rank) ≡ b → (o : Option (List (Option Extent))) → slice_get posts.segments.known rank ≡ o
        → (if owner == rank then option_map (λ (t : List (Option Extent)). slice_set t seg extent) (slice_get posts.segments.known rank) else slice_get posts.segments.known rank) ≡ Some table → length table ≡ 32
    by-rank rank table false is o kt h = has.known_segments rank table (rw is at h)
    by-rank rank table true is None kt h = absurd (let none : ◌≡◌ {A = Option (List (Option Extent))} None (Some table) = rw (is, kt) at h in let no : ⊥ = cc in no)
    by-rank rank table true is (Some t) kt h =
        let some : ◌≡◌ {A = Option (List (Option Extent))} (Some (slice_set t seg extent)) (Some table) = rw (is, kt) at h in
        let new : slice_set t seg extent ≡ table = cc in
        ap length (sym new) ∙ length-set t seg extent ∙ has.known_segments rank t kt

pub registered-tables : (limits : Limits) (ranks me : ℕ) (p : Posts) (call : Call) (reply : Reply) (all : List Posts) → ((r : ℕ) (x : Posts) → slice_get all r ≡ Some x → HasTables limits x)
    → (r : ℕ) (x : Posts) → slice_get (registering ranks me p call reply all) r ≡ Some x → HasTables limits x
registered-tables limits ranks me p call reply all have r x h =
    registered-cases ranks me p call reply
    (λ same. have r x (rw (same all) at h))
    (λ x' is awake other same.
    by-rank x'.seg x'.rank (x'.rank == r) refl (slice_get all r) refl (sym (ap (λ (xs : List Posts). slice_get xs r) (same all) ∙ changed_at-get all x'.rank r (with_known me x'.seg (extent_in p.segments.own x'.seg))) ∙ h))
  where
    by-rank : (seg rank : ℕ) (b : Bool) → (rank == r) ≡ b → (o : Option Posts) → slice_get all r ≡ o
        → (if rank == r then option_map (with_known me seg (extent_in p.segments.own seg)) (slice_get all r) else slice_get all r) ≡ Some x → HasTables limits x
    by-rank seg rank false is o at h = have r x (rw is at h)
    by-rank seg rank true is None at h = absurd (let none : ◌≡◌ {A = Option Posts} None (Some x) = rw (is, at) at h in let no : ⊥ = cc in no)
    by-rank seg rank true is (Some y) at h =
        let some : ◌≡◌ {A = Option Posts} (Some (with_known me seg (extent_in p.segments.own seg) y)) (Some x) = rw (is, at) at h in
        let new : with_known me seg (extent_in p.segments.own seg) y ≡ x = cc in
        rw (sym new) (known-tables limits me seg (extent_in p.segments.own seg) y (have r y at))

-- a memory has a place for each number of a segment
pub segment-places : (s : State) (rank : ℕ) (memory : Memory) → IsSound s → slice_get s.memories rank ≡ Some memory → length memory.segments ≡ 32
segment-places s rank memory sound at =
    let within = slice_get_within s.memories rank memory at in
    let there = there-within s.posts rank (let ranks = sound.ranks in let memories = sound.memories in omega arith) in
    let own = sound.coherent.own rank there.0 memory there.1 at in
    sym (length-map memory.segments (option_map extent_of)) ∙ sym (ap length own) ∙ (sound.posts rank there.0 there.1).tables.own

-- and so have its slots
pub slot-places : (s : State) (rank : ℕ) (memory : Memory) → IsSound s → slice_get s.memories rank ≡ Some memory → length memory.slots ≡ 32
slot-places s rank memory sound at =
    sym (length-map memory.slots (option_map length))
    ∙ ap length (sound.coherent.slots rank memory at)
    ∙ length-map (extents_of memory.segments) (option_map (λ (x : Extent). s.limits.notes))
    ∙ length-map memory.segments (option_map extent_of)
    ∙ segment-places s rank memory sound at
