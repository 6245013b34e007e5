-- What joins, takes and puts do in the ring.
use Rattle.std.proofs.Common.{◌≡◌, ℕ, zero, suc, ◌+◌, ◌≤◌, false, cond, List, [], Option, None, Some, Ok, refl, sym, ap, ◌∙◌, subst, arith, remove, ◌⊎◌, inl, inr, replicate}
use Rattle.std.specs.List.{slice_get, slice_set}
use Rattle.std.specs.Option.{unwrap_or}
use Rattle.gaspi_types.specs.Kinds.{is_read_kind, is_notify_kind, destination_of}
use Rattle.gaspi_types.specs.Lanes.{lane_owed, is_posted, is_carried, is_notify, may_put_kind}
use Rattle.gaspi_types.specs.SegmentBytes.{range_of}
use Rattle.gaspi_types.specs.SegmentTables.{extent_in}
use Rattle.gaspi_types.specs.Segments.{bytes_in}
use Rattle.gaspi_types.specs.Tables.{item_at}
use Rattle.gaspi_types.specs.declared.collectives.Coll.{Coll}
use Rattle.gaspi_types.specs.declared.collectives.Coll.TheVariants as colls
use Rattle.gaspi_types.specs.declared.entries.Entry.{Entry}
use Rattle.gaspi_types.specs.declared.entries.Kind.{Kind}
use Rattle.gaspi_types.specs.declared.entries.Kind.TheVariants.{Write, Read, Notify, ReadNote}
use Rattle.gaspi_types.specs.declared.entries.Phase.{Phase}
use Rattle.gaspi_types.specs.declared.entries.Phase.TheVariants as phases
use Rattle.gaspi_types.specs.declared.entries.Queue.{Queue}
use Rattle.gaspi_types.specs.declared.events.Event.TheVariants.{Joined, Take, Put}
use Rattle.gaspi_types.specs.declared.events.Outcome.{Outcome}
use Rattle.gaspi_types.specs.declared.events.Outcome.TheVariants.{Applied, Failed}
use Rattle.gaspi_types.specs.declared.groups.Args.{Args}
use Rattle.gaspi_types.specs.declared.segments.Extent.{Extent}
use Rattle.gaspi_types.specs.declared.segments.Segment.{Segment}
use Rattle.gaspi_types.specs.declared.segments.SegmentTable.{SegmentTable}
use Rattle.gaspi_types.specs.declared.shapes.CallerId.{CallerId}
use Rattle.gaspi_types.proofs.Chains.{both}
use Rattle.gaspi_types.proofs.Extents.{extent-set}
use Rattle.gaspi_types.proofs.Items.{changed_at-found, set-there, same-or-not, slice_get-set_other}
use Rattle.gaspi_model.specs.Changes.{IsTargetGone, put_rank}
use Rattle.gaspi_model.specs.Memories.{slots_of}
use Rattle.gaspi_model.specs.Posting.{counted}
use Rattle.gaspi_model.specs.Shards.{is_create}
use Rattle.gaspi_model.specs.State.{segment_at}
use Rattle.gaspi_model.specs.Step.{step}
use Rattle.gaspi_model.specs.Transfers.{PostsAndMemory, memory_with_put, memory_put, carried_bytes}
use Rattle.gaspi_model.specs.declared.states.Posts.{Posts}
use Rattle.gaspi_model.specs.declared.states.Memory.{Memory}
use Rattle.gaspi_model.specs.declared.states.State.{State}
use Rattle.gaspi_model.proofs.Changed.Joins.{join-done, create-joined}
use Rattle.gaspi_model.proofs.Changed.Transfers.{take-failed, put-failed, take-done}
use Rattle.gaspi_model.proofs.FoundEntries.{with_phase}
use Rattle.gaspi_model.proofs.Sound.Accounts.{lane_owed-phase, lane_owed-remove, posted_owes, carried_owes}
use Rattle.gaspi_model.proofs.OnPostsAndMemory.{sound-put}
use Rattle.rank_script.specs.Bench.{right_of}
use Rattle.call_journal.proofs.RingCalls.{own-memory, own-change, kept-change}
use Rattle.call_journal.proofs.RingLanes.{IsRingKind, lane_notes, IsClosed, IsRingLane, closed-empty, kind-at, kinds-phase, notes-phase, closed-phase, kinds-remove, notes-remove, closed-remove, put-first}
use Rattle.call_journal.proofs.RingMemories.{zero-kept, first-one}
use Rattle.call_journal.proofs.RingState.{HasZero, IsRingPosts, IsRing, total-changed, is_first_set, slot_of, word_of, IsLocal, queue-lane, posts-queue}

-- Joins.

plain-join : (ranks : ℕ) (s t : State) (c : CallerId) (id : ℕ) (args : Args) → IsRing ranks s → is_create args.coll ≡ false → step s (Joined c id args) ≡ Ok t → IsLocal ranks s t (Joined c id args)
plain-join ranks s t c id args ring plain h =
    let d = join-done s t c id args ring.sound plain h in
    let m = own-memory ranks s c.rank d.posts ring d.posts_there in
    kept-change ranks s t (Joined c id args) d.posts (record (counted d.posts) { pending = slice_set d.posts.pending id (Some (record { thread = c.thread; args = args })) }) m.0 m.0 ring d.posts_there m.1
    (ap (λ (x : State). x.posts) d.after)
    (ap (λ (x : State). x.memories) d.after ∙ sym (set-there s.memories c.rank m.0 m.1))
    refl refl (ring.memories c.rank m.0 m.1) refl refl (omega arith) refl

-- a table changed at another number than 0
zero-other : {A : Type 0} (table : List (Option A)) (segment : ℕ) (x : Option A) → (segment ≡ 0 → ⊥) → item_at (slice_set table segment x) 0 ≡ item_at table 0
zero-other {A} table segment x apart = rw (slice_get-set_other table segment 0 x apart) refl

create-join : (ranks : ℕ) (s t : State) (c : CallerId) (id : ℕ) (args : Args) (segment size : ℕ) → IsRing ranks s → args.coll ≡ colls.Create segment size → step s (Joined c id args) ≡ Ok t
    → IsLocal ranks s t (Joined c id args)
create-join ranks s t c id args segment size ring is h =
    let d = create-joined s t c id args segment size ring.sound is h in
    let has = ring.memories c.rank d.memory d.memory_there in
    let here = ring.posts c.rank d.posts d.posts_there in
    let apart : segment ≡ 0 → ⊥ = λ same. (let none : segment_at d.memory 0 ≡ None = subst (λ (k : ℕ). segment_at d.memory k ≡ None) same d.free in let some = has.1 in cc) in
    let new : Memory = record d.memory {
      segments = slice_set d.memory.segments segment (Some (record { generation = d.generation; bytes = replicate size 0 }));
      slots = slice_set d.memory.slots segment (Some (replicate s.limits.notes 0));
    } in
    let extent : Extent = record { generation = d.generation; size = size } in
    let table : SegmentTable = record d.posts.segments {
      own = slice_set d.posts.segments.own segment (Some extent);
      next_generations = slice_set d.posts.segments.next_generations segment (d.generation + 1);
    } in
    let segments_same : item_at new.segments 0 ≡ item_at d.memory.segments 0 = zero-other d.memory.segments segment (Some (record { generation = d.generation; bytes = replicate size 0 })) apart in
    let slots_same : item_at new.slots 0 ≡ item_at d.memory.slots 0 = zero-other d.memory.slots segment (Some (replicate s.limits.notes 0)) apart in
    let slot : slot_of new ≡ slot_of d.memory = ap (λ (o : Option (List ℕ)). is_first_set (unwrap_or o [])) slots_same in
    let word : word_of new ≡ word_of d.memory = ap (λ (o : Option Segment). range_of (bytes_in o) 8 8) segments_same in
    own-change ranks s t (Joined c id args) d.posts (record (counted d.posts) { segments = table; pending = slice_set d.posts.pending id (Some (record { thread = c.thread; args = args })) }) d.memory new
    d.posts_there d.memory_there
    (ap (λ (x : State). x.posts) d.after)
    (ap (λ (x : State). x.memories) d.after)
    (record { own = λ x there. knows d.posts apart extent here x (extent-set d.posts.segments.own segment (Some extent) 0 x there); known = here.known; queues = here.queues })
    (has.0, segments_same ∙ has.1, has.2)
    (omega arith) (omega (arith, slot)) (omega arith) word
  where
    knows : (posts : Posts) → (segment ≡ 0 → ⊥) → (extent : Extent) → IsRingPosts ranks c.rank posts.queues posts.segments → (x : Extent)
        → ((0 ≡ segment) × (◌≡◌ {A = Option Extent} (Some extent) (Some x))) ⊎ (extent_in posts.segments.own 0 ≡ Some x) → x.generation ≡ 0
    knows posts apart extent here x (inl same) = absurd (apart (sym same.0))
    knows posts apart extent here x (inr was) = here.own x was

pub join-local : (ranks : ℕ) (s t : State) (c : CallerId) (id : ℕ) (args : Args) → IsRing ranks s → step s (Joined c id args) ≡ Ok t → IsLocal ranks s t (Joined c id args)
join-local ranks s t c id args ring h = go args.coll refl
  where
    go : (coll : Coll) → args.coll ≡ coll → IsLocal ranks s t (Joined c id args)
    go (colls.Create segment size) is = create-join ranks s t c id args segment size ring is h
    go colls.Barrier is = plain-join ranks s t c id args ring (rw is refl) h
    go (colls.Allreduce op num_type count) is = plain-join ranks s t c id args ring (rw is refl) h
    go (colls.Commit mask) is = plain-join ranks s t c id args ring (rw is refl) h

-- Where an entry stands.

pub there-right : (ranks me target : ℕ) (lane : List Entry) (place : ℕ) (e : Entry) → IsRingLane ranks me target lane → slice_get lane place ≡ Some e → target ≡ right_of ranks me
there-right ranks me target lane place e ring at =
    same-or-not target (right_of ranks me) (λ same. same)
    (λ apart. absurd (let none : slice_get {X = Entry} [] place ≡ Some e = subst (λ (l : List Entry). slice_get l place ≡ Some e) (ring.apart apart) at in let no : ⊥ = cc in no))

-- a lane with an entry has a notification
pub some-notes : (lane : List Entry) (place : ℕ) (e : Entry) → IsClosed lane → slice_get lane place ≡ Some e → 1 ≤ lane_notes lane
some-notes lane place e closed at = go (lane_notes lane) refl
  where
    go : (n : ℕ) → lane_notes lane ≡ n → 1 ≤ n
    go zero none = absurd (let gone : slice_get {X = Entry} [] place ≡ Some e = subst (λ (l : List Entry). slice_get l place ≡ Some e) (closed-empty lane closed none) at in let no : ⊥ = cc in no)
    go (suc n) some = omega arith

-- Takes.

unread : (kind : Kind) → IsRingKind kind → is_read_kind kind ≡ false
unread (Write own target) ring = refl
unread (Read own target) ring = absurd ring
unread (Notify target value) ring = refl
unread (ReadNote own) ring = absurd ring

take-applied : (ranks : ℕ) (s t : State) (origin queue target number : ℕ) → IsRing ranks s → step s (Take origin queue target number Applied) ≡ Ok t
    → IsLocal ranks s t (Take origin queue target number Applied)
take-applied ranks s t origin queue target number ring h =
    let d = take-done s t origin queue target number ring.sound h in
    let here = ring.posts origin d.posts d.posts_there in
    let was = here.queues queue d.q d.queue_there in
    let lane_was = was.lanes target d.lane d.lane_there in
    let phase : Phase = phases.Carried d.bytes in
    let lane = with_phase d.lane d.place d.entry phase in
    let q : Queue = record d.q { lanes = slice_set d.q.lanes target lane } in
    let m = own-memory ranks s origin d.posts ring d.posts_there in
    let new : IsRingLane ranks origin target lane = record {
      apart = λ other. absurd (other (there-right ranks origin target d.lane d.place d.entry lane_was d.entry_there));
      kinds = kinds-phase d.lane d.place d.entry phase d.entry_there lane_was.kinds;
      closed = closed-phase d.lane d.place d.entry phase d.entry_there lane_was.closed;
    } in
    let notes = notes-phase d.lane d.place d.entry phase d.entry_there in
    let owed = lane_owed-phase d.lane d.place d.entry phase d.entry_there in
    let two = posted_owes d.entry.phase d.posted in
    let all_notes = total-changed lane_notes d.posts.queues queue d.q q target d.lane lane d.queue_there d.lane_there refl in
    let all_owed = total-changed lane_owed d.posts.queues queue d.q q target d.lane lane d.queue_there d.lane_there refl in
    own-change ranks s t (Take origin queue target number Applied) d.posts (record (counted d.posts) { queues = slice_set d.posts.queues queue q }) m.0 m.0 d.posts_there m.1
    (ap (λ (x : State). x.posts) d.after)
    (ap (λ (x : State). x.memories) d.after ∙ sym (set-there s.memories origin m.0 m.1))
    (posts-queue ranks origin d.posts.queues (slice_set d.posts.queues queue q) d.posts.segments queue q here refl (queue-lane ranks origin d.q q target lane was refl refl new))
    (ring.memories origin m.0 m.1) (omega (arith, owed, two, all_owed)) (omega arith) (omega (arith, notes, all_notes)) refl

pub take-local : (ranks : ℕ) (s t : State) (origin queue target number : ℕ) (outcome : Outcome) → IsRing ranks s → step s (Take origin queue target number outcome) ≡ Ok t
    → IsLocal ranks s t (Take origin queue target number outcome)
take-local ranks s t origin queue target number Applied ring h = take-applied ranks s t origin queue target number ring h
take-local ranks s t origin queue target number Failed ring h =
    let d = take-failed s t origin queue target number ring.sound h in
    let lane = ((ring.posts origin d.posts d.posts_there).queues queue d.q d.queue_there).lanes target d.lane d.lane_there in
    let read = (both (is_posted d.entry) (is_read_kind d.entry.kind) d.fails).1 in
    let not_read = unread d.entry.kind (kind-at d.lane d.place d.entry lane.kinds d.entry_there) in
    absurd (let no : ⊥ = cc in no)

-- Puts.

never-gone : (memory : Memory) (kind : Kind) → HasZero memory → IsRingKind kind → IsTargetGone memory kind → ⊥
never-gone memory (Write own target) has ring gone =
    gone has.0 (subst (λ (k : ℕ). segment_at memory k ≡ Some has.0) (sym ring.0) has.1) (has.2 ∙ sym ring.1)
never-gone memory (Read own target) has ring gone = absurd ring
never-gone memory (Notify target value) has ring gone =
    gone has.0 (subst (λ (k : ℕ). segment_at memory k ≡ Some has.0) (sym ring.0) has.1) (has.2 ∙ sym ring.1)
never-gone memory (ReadNote own) has ring gone = absurd ring

-- what the put of an entry of the ring leaves
record LeavesMemory (memory new : Memory) (notes : ℕ) : Type 0 where
  has : HasZero new
  slot : slot_of new ≤ slot_of memory + notes

put-memory : (memory : Memory) (e : Entry) → HasZero memory → IsRingKind e.kind → LeavesMemory memory (memory_put memory e) (cond (is_notify e) 1 0)
put-memory memory e has ring = go e.kind ring (carried_bytes e.phase)
  where
    go : (kind : Kind) → IsRingKind kind → (bytes : List ℕ) → LeavesMemory memory (memory_with_put memory (destination_of kind) bytes) (cond (is_notify_kind kind) 1 0)
    go (Write own target) is bytes = record { has = zero-kept memory target.segment _ is.0 has; slot = omega arith }
    go (Read own target) is bytes = absurd is
    go (Notify target value) is bytes = record { has = has; slot = (let few = first-one (slots_of (memory_with_put memory (destination_of (Notify target value)) bytes) 0) in omega (arith, few)) }
    go (ReadNote own) is bytes = absurd is

outward : (kind : Kind) → IsRingKind kind → (origin target : ℕ) → put_rank origin target kind ≡ target
outward (Write own to) ring origin target = refl
outward (Read own to) ring origin target = absurd ring
outward (Notify to value) ring origin target = refl
outward (ReadNote own) ring origin target = absurd ring

put-applied : (ranks : ℕ) (s t : State) (origin queue target number : ℕ) → IsRing ranks s → step s (Put origin queue target number Applied) ≡ Ok t
    → IsLocal ranks s t (Put origin queue target number Applied)
put-applied ranks s t origin queue target number ring h =
    let made = sound-put s t origin queue target number Applied ring.sound h in
    let p = made.0 in
    let m = made.1 in
    let at = made.3 in
    let w = made.4 in
    let found = w.is.is in
    let e = at.entry in
    let here = ring.posts origin p w.posts_there in
    let was = here.queues queue at.queue found.in_posts in
    let lane_was = was.lanes target at.lane found.in_queue in
    let kind = kind-at at.lane at.position e lane_was.kinds found.in_lane in
    let place = outward e.kind kind origin target in
    let memory_there = subst (λ (k : ℕ). slice_get s.memories k ≡ Some m) place w.memory_there in
    let has = ring.memories target m memory_there in
    let left = put-memory m e has kind in
    let may = both (is_carried e) (may_put_kind at.lane e.number e.kind) w.is.permitted in
    let rising = (ring.sound.posts origin p w.posts_there).rising queue at.queue found.in_posts target at.lane found.in_queue in
    let lane = remove at.lane at.position in
    let q : Queue = record at.queue { lanes = slice_set at.queue.lanes target lane } in
    let right = there-right ranks origin target at.lane at.position e lane_was found.in_lane in
    let new : IsRingLane ranks origin target lane = record {
      apart = λ other. absurd (other right);
      kinds = kinds-remove at.lane at.position lane_was.kinds;
      closed = closed-remove p.next at.lane at.position e found.in_lane lane_was.kinds rising lane_was.closed (λ notified. put-first at.lane e.number e.kind notified may.1);
    } in
    let notes = notes-remove at.lane at.position e found.in_lane in
    let owed = lane_owed-remove at.lane at.position e found.in_lane in
    let one = carried_owes e.phase may.0 in
    let some = some-notes at.lane at.position e lane_was.closed found.in_lane in
    let all_notes = total-changed lane_notes p.queues queue at.queue q target at.lane lane found.in_posts found.in_queue refl in
    let all_owed = total-changed lane_owed p.queues queue at.queue q target at.lane lane found.in_posts found.in_queue refl in
    let none = total-changed lane_notes p.queues queue at.queue (record at.queue { lanes = slice_set at.queue.lanes target [] }) target at.lane [] found.in_posts found.in_queue refl in
    let slot = left.slot in
    record {
      x = target;
      p = p;
      p' = record (counted p) { queues = slice_set p.queues queue q };
      m = m;
      m' = memory_put m e;
      moved = record {
        posts_there = w.posts_there;
        memory_there = memory_there;
        posts = ap (λ (x : State). x.posts) w.leaves ∙ ap (λ (x : PostsAndMemory). slice_set s.posts origin x.posts) w.is.leaves
            ∙ ap (λ (xs : List Queue). slice_set s.posts origin (record (counted p) { queues = xs })) (changed_at-found p.queues queue at.queue (λ (x : Queue). record x { lanes = slice_set x.lanes target lane }) found.in_posts);
        memories = ap (λ (x : State). x.memories) w.leaves ∙ ap (λ (x : PostsAndMemory). slice_set s.memories (put_rank origin target e.kind) x.memory) w.is.leaves
            ∙ ap (λ (k : ℕ). slice_set s.memories k (memory_put m e)) place;
      };
      ring_posts = posts-queue ranks origin p.queues (slice_set p.queues queue q) p.segments queue q here refl (queue-lane ranks origin at.queue q target lane was refl refl new);
      ring_memory = left.has;
      owed = omega (arith, owed, one, all_owed);
      effect = inr (record {
        place = right;
        reset = refl;
        post = refl;
        slot = omega (arith, slot, notes, all_notes);
        some = omega (arith, some, none);
      });
    }

pub put-local : (ranks : ℕ) (s t : State) (origin queue target number : ℕ) (outcome : Outcome) → IsRing ranks s → step s (Put origin queue target number outcome) ≡ Ok t
    → IsLocal ranks s t (Put origin queue target number outcome)
put-local ranks s t origin queue target number Applied ring h = put-applied ranks s t origin queue target number ring h
put-local ranks s t origin queue target number Failed ring h =
    let d = put-failed s t origin queue target number ring.sound h in
    let lane = ((ring.posts origin d.posts d.posts_there).queues queue d.q d.queue_there).lanes target d.lane d.lane_there in
    absurd (never-gone d.memory d.entry.kind (ring.memories target d.memory d.memory_there) (kind-at d.lane d.place d.entry lane.kinds d.entry_there) d.gone)
