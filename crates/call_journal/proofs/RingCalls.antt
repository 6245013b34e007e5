-- What the calls of the ring do.
use Rattle.std.proofs.Common.{◌≡◌, ℕ, ◌+◌, ◌*◌, ◌≤◌, Bool, true, false, ◌==◌, List, [], ◌∷◌, ◌++◌, length, Option, None, Some, Ok, refl, sym, ap, ◌∙◌, subst, arith, inl, inr}
use Rattle.std.specs.List.{slice_get, slice_set}
use Rattle.std.specs.Option.{option_and_then}
use Rattle.std.proofs.lemmas.List.Sums.{sum_by-append}
use Rattle.std.proofs.lemmas.Option.{slice_get_within}
use Rattle.gaspi_types.specs.Lanes.{lane_owed, entry_owed, posted_entries}
use Rattle.gaspi_types.specs.Posts.{slot_in, writes_with_notification}
use Rattle.gaspi_types.specs.Replies.{is_idle, is_done}
use Rattle.gaspi_types.specs.SegmentBytes.{with_range}
use Rattle.gaspi_types.specs.SegmentTables.{extent_in, known_extent}
use Rattle.gaspi_types.specs.Tables.{changed_at}
use Rattle.gaspi_types.specs.declared.calls.Call.{Call}
use Rattle.gaspi_types.specs.declared.calls.Call.TheVariants as calls
use Rattle.gaspi_types.specs.declared.calls.posts.Item.{Item}
use Rattle.gaspi_types.specs.declared.entries.ByteRange.{ByteRange}
use Rattle.gaspi_types.specs.declared.entries.Direction.TheVariants.{Outward}
use Rattle.gaspi_types.specs.declared.entries.Endpoints.{Endpoints}
use Rattle.gaspi_types.specs.declared.entries.NoteSlot.{NoteSlot}
use Rattle.gaspi_types.specs.declared.entries.Entry.{Entry}
use Rattle.gaspi_types.specs.declared.entries.Kind.{Kind}
use Rattle.gaspi_types.specs.declared.entries.Kind.TheVariants.{Write, Notify}
use Rattle.gaspi_types.specs.declared.entries.Queue.{Queue}
use Rattle.gaspi_types.specs.declared.events.Event.{Event}
use Rattle.gaspi_types.specs.declared.events.Event.TheVariants.{Called}
use Rattle.gaspi_types.specs.declared.replies.Reply.{Reply}
use Rattle.gaspi_types.specs.declared.replies.Reply.TheVariants as replies
use Rattle.gaspi_types.specs.declared.segments.Extent.{Extent}
use Rattle.gaspi_types.specs.declared.segments.SegmentTable.{SegmentTable}
use Rattle.gaspi_types.specs.declared.shapes.CallerId.{CallerId}
use Rattle.gaspi_types.proofs.Items.{changed_at-found, set-there, there-within}
use Rattle.gaspi_model.specs.Calls.{requested_kinds}
use Rattle.gaspi_model.specs.Memories.{bytes_of, slots_of, with_bytes, with_slots}
use Rattle.gaspi_model.specs.Posting.{counted}
use Rattle.gaspi_model.specs.Step.{step, owner_of}
use Rattle.gaspi_model.specs.declared.states.Posts.{Posts}
use Rattle.gaspi_model.specs.declared.states.Memory.{Memory}
use Rattle.gaspi_model.specs.declared.states.State.{State}
use Rattle.gaspi_model.proofs.Asked.{IsTransfer, AreTransfers, near_in, far_in, noted_writes-ok}
use Rattle.gaspi_model.proofs.Changed.OwnCalls.{own-on_memory, slot-reset}
use Rattle.gaspi_model.proofs.Changed.Posted.{post-done}
use Rattle.gaspi_model.proofs.Changed.QueueCalls.{posts-on_memory}
use Rattle.gaspi_model.proofs.GroupSteps.{step-completed}
use Rattle.gaspi_model.proofs.IdleSteps.{only-counted}
use Rattle.gaspi_model.proofs.Sound.Accounts.{lane_owed-posted, post-ok}
use Rattle.rank_script.specs.Bench.{right_of, ring_call}
use Rattle.call_journal.specs.Numbers.{is_set_value}
use Rattle.call_journal.proofs.RingLanes.{lane_notes, IsRingLane, kinds-append, closed-append, notes-append}
use Rattle.call_journal.proofs.RingMemories.{zero-kept, word-stored, slot-cleared, first-answered}
use Rattle.call_journal.proofs.RingState.{HasZero, IsRingPosts, IsRing, total, total-changed, total-kept, owed_of, notes_of, slot_of, word_of, is_post, one_if, resets, posts_made, moves, IsLocal, queue-lane, queue-kept, posts-queue}
use Rattle.call_journal.proofs.Totals.{is_found}

-- the calls of a script
pub data RingCall : Type 0 where
  Storing : (bytes : List ℕ) → length bytes ≡ 8 → RingCall
  Posting : RingCall
  Waiting : RingCall
  Watching : RingCall
  Resetting : RingCall
  Loading : RingCall
  Meeting : RingCall
  Ending : RingCall

abbrev pub call_of : ℕ → ℕ → RingCall → Call
call_of ranks rank (Storing bytes eight) = calls.Store (record { seg = 0; offset = 0; bytes = bytes })
call_of ranks rank Posting = ring_call (right_of ranks rank)
call_of ranks rank Waiting = calls.Wait (record { queue = 0 })
call_of ranks rank Watching = calls.Waitsome (record { seg = 0; begin = 0; num = 1 })
call_of ranks rank Resetting = calls.Reset (record { seg = 0; note = 0 })
call_of ranks rank Loading = calls.Load (record { seg = 0; offset = 8; size = 8 })
call_of ranks rank Meeting = calls.Barrier (record { group = 0 })
call_of ranks rank Ending = calls.End

-- a rank has a memory
pub own-memory : (ranks : ℕ) (s : State) (rank : ℕ) (p : Posts) → IsRing ranks s → slice_get s.posts rank ≡ Some p → (m : Memory) × (slice_get s.memories rank ≡ Some m)
own-memory ranks s rank p ring at =
    let within = slice_get_within s.posts rank p at in
    let posts = ring.sound.ranks in
    let memories = ring.sound.memories in
    there-within s.memories rank (omega arith)

-- an event that changes the posts and the memory of its rank at most
pub own-change : (ranks : ℕ) (s t : State) (e : Event) (p p' : Posts) (m m' : Memory) → slice_get s.posts (owner_of e) ≡ Some p → slice_get s.memories (owner_of e) ≡ Some m
    → t.posts ≡ slice_set s.posts (owner_of e) p' → t.memories ≡ slice_set s.memories (owner_of e) m' → IsRingPosts ranks (owner_of e) p'.queues p'.segments → HasZero m'
    → moves e + owed_of p' ≡ owed_of p + 4 * posts_made e → slot_of m' + resets e ≤ slot_of m → notes_of p' ≤ notes_of p + posts_made e → word_of m' ≡ word_of m → IsLocal ranks s t e
own-change ranks s t e p p' m m' hp hm posts memories ring zero_there owed slot notes word = record {
  x = owner_of e;
  p = p;
  p' = p';
  m = m;
  m' = m';
  moved = record { posts_there = hp; memory_there = hm; posts = posts; memories = memories };
  ring_posts = ring;
  ring_memory = zero_there;
  owed = owed;
  effect = inl (record { place = refl; slot = slot; notes = notes; word = word });
}

-- one that leaves the queues, and the segments that are known
pub kept-change : (ranks : ℕ) (s t : State) (e : Event) (p p' : Posts) (m m' : Memory) → IsRing ranks s → slice_get s.posts (owner_of e) ≡ Some p → slice_get s.memories (owner_of e) ≡ Some m
    → t.posts ≡ slice_set s.posts (owner_of e) p' → t.memories ≡ slice_set s.memories (owner_of e) m' → p'.queues ≡ p.queues → p'.segments ≡ p.segments → HasZero m'
    → moves e ≡ 0 → posts_made e ≡ 0 → slot_of m' + resets e ≤ slot_of m → word_of m' ≡ word_of m → IsLocal ranks s t e
kept-change ranks s t e p p' m m' ring hp hm posts memories queues segments zero_there still none slot word =
    let owed : owed_of p' ≡ owed_of p = ap (total lane_owed) queues in
    let notes : notes_of p' ≡ notes_of p = ap (total lane_notes) queues in
    own-change ranks s t e p p' m m' hp hm posts memories
    (subst (λ (xs : List Queue). IsRingPosts ranks (owner_of e) xs p'.segments) (sym queues)
    (subst (λ (x : SegmentTable). IsRingPosts ranks (owner_of e) p.queues x) (sym segments) (ring.posts (owner_of e) p hp)))
    zero_there (omega (arith, owed, still, none)) slot (omega (arith, notes)) word

-- a refusal or a timeout

idle-unset : (reply : Reply) → is_idle reply ≡ true → is_set_value reply ≡ false
idle-unset (replies.Value n) idle = absurd (let no : ⊥ = cc in no)
idle-unset other idle = refl

idle-undone : (reply : Reply) → is_idle reply ≡ true → is_done reply ≡ false
idle-undone replies.Done idle = absurd (let no : ⊥ = cc in no)
idle-undone other idle = refl

idle-unfound : (call : Call) (reply : Reply) → is_idle reply ≡ true → is_found call reply ≡ false
idle-unfound (calls.Reset call) reply idle = idle-unset reply idle
idle-unfound other reply idle = refl

idle-unposted : (call : Call) (reply : Reply) → is_idle reply ≡ true → is_post call reply ≡ false
idle-unposted (calls.WriteNotify call) reply idle = idle-undone reply idle
idle-unposted other reply idle = refl

none-if : (b : Bool) → b ≡ false → one_if b ≡ 0
none-if true h = absurd (let no : ⊥ = cc in no)
none-if false h = refl

idle-local : (ranks : ℕ) (s t : State) (c : CallerId) (call : Call) (reply : Reply) → IsRing ranks s → is_idle reply ≡ true → step s (Called c call reply) ≡ Ok t → IsLocal ranks s t (Called c call reply)
idle-local ranks s t c call reply ring idle h =
    let only = only-counted s t c call reply idle h in
    let m = own-memory ranks s c.rank only.posts ring only.there in
    let none = none-if (is_found call reply) (idle-unfound call reply idle) in
    kept-change ranks s t (Called c call reply) only.posts (counted only.posts) m.0 m.0 ring only.there m.1
    (ap (λ (x : State). x.posts) only.after)
    (ap (λ (x : State). x.memories) only.after ∙ sym (set-there s.memories c.rank m.0 m.1))
    refl refl (ring.memories c.rank m.0 m.1) refl (none-if (is_post call reply) (idle-unposted call reply idle)) (omega (arith, none)) refl

-- a call that only reads its own memory
read-local : (ranks : ℕ) (s t : State) (c : CallerId) (call : Call) (reply : Reply) (p p' : Posts) (m m' : Memory) → IsRing ranks s → slice_get s.posts c.rank ≡ Some p → slice_get s.memories c.rank ≡ Some m
    → t.posts ≡ slice_set s.posts c.rank p' → t.memories ≡ slice_set s.memories c.rank m' → p'.queues ≡ p.queues → p'.segments ≡ p.segments → m' ≡ m
    → is_post call reply ≡ false → is_found call reply ≡ false → IsLocal ranks s t (Called c call reply)
read-local ranks s t c call reply p p' m m' ring hp hm posts memories queues segments same unposted unfound =
    let none = none-if (is_found call reply) unfound in
    let slot : slot_of m' ≡ slot_of m = ap slot_of same in
    kept-change ranks s t (Called c call reply) p p' m m' ring hp hm posts memories queues segments (subst HasZero (sym same) (ring.memories c.rank m hm)) refl
    (none-if (is_post call reply) unposted) (omega (arith, none, slot)) (ap word_of same)

store-local : (ranks : ℕ) (s t : State) (c : CallerId) (bytes : List ℕ) (reply : Reply) → length bytes ≡ 8 → IsRing ranks s → is_idle reply ≡ false
    → step s (Called c (calls.Store (record { seg = 0; offset = 0; bytes = bytes })) reply) ≡ Ok t → IsLocal ranks s t (Called c (calls.Store (record { seg = 0; offset = 0; bytes = bytes })) reply)
store-local ranks s t c bytes reply eight ring awake h =
    let call : Call = calls.Store (record { seg = 0; offset = 0; bytes = bytes }) in
    let made = own-on_memory s t c (calls.Store (record { seg = 0; offset = 0; bytes = bytes })) reply refl refl awake ring.sound h in
    let w = made.2 in
    let p = made.0 in
    let m = made.1 in
    let has = ring.memories c.rank m w.memory_there in
    kept-change ranks s t (Called c (calls.Store (record { seg = 0; offset = 0; bytes = bytes })) reply) p (counted p) m
    (with_bytes m 0 (with_range (bytes_of m 0) 0 bytes)) ring w.posts_there w.memory_there
    (ap (λ (x : State). x.posts) w.leaves ∙ rw awake refl)
    (ap (λ (x : State). x.memories) w.leaves ∙ rw awake refl)
    refl refl (zero-kept m 0 _ refl has) refl refl (omega arith) (word-stored m bytes has eight)

reset-local : (ranks : ℕ) (s t : State) (c : CallerId) (reply : Reply) → IsRing ranks s → is_idle reply ≡ false
    → step s (Called c (calls.Reset (record { seg = 0; note = 0 })) reply) ≡ Ok t → IsLocal ranks s t (Called c (calls.Reset (record { seg = 0; note = 0 })) reply)
reset-local ranks s t c reply ring awake h =
    let made = own-on_memory s t c (calls.Reset (record { seg = 0; note = 0 })) reply refl refl awake ring.sound h in
    let w = made.2 in
    let p = made.0 in
    let m = made.1 in
    let cleared = slot-cleared m in
    let found = answered reply m h w.memory_there in
    kept-change ranks s t (Called c (calls.Reset (record { seg = 0; note = 0 })) reply) p (counted p) m
    (with_slots m 0 (slice_set (slots_of m 0) 0 0)) ring w.posts_there w.memory_there
    (ap (λ (x : State). x.posts) w.leaves ∙ rw awake refl)
    (ap (λ (x : State). x.memories) w.leaves ∙ rw awake refl)
    refl refl (ring.memories c.rank m w.memory_there) refl refl (omega (arith, cleared, found)) refl
  where
    answered : (reply : Reply) (m : Memory) → step s (Called c (calls.Reset (record { seg = 0; note = 0 })) reply) ≡ Ok t → slice_get s.memories c.rank ≡ Some m → one_if (is_set_value reply) ≤ slot_of m
    answered (replies.Value value) m h there =
        let is = slot-reset s t c (record { seg = 0; note = 0 }) value ring.sound h in
        let same : is.old ≡ m = (let both = sym is.old_there ∙ there in cc) in
        first-answered (slots_of m 0) value (subst (λ (x : Memory). slice_get (slots_of x 0) 0 ≡ Some value) same is.answered)
    answered other m h there = omega arith

-- a wait leaves the lanes

wait-posts : (ranks me : ℕ) (queues : List Queue) (segments : SegmentTable) → IsRingPosts ranks me queues segments
    → IsRingPosts ranks me (changed_at queues 0 (λ (q : Queue). record q { open_count = 0 })) segments
wait-posts ranks me queues segments ring = go (slice_get queues 0) refl
  where
    go : (o : Option Queue) → slice_get queues 0 ≡ o → IsRingPosts ranks me (changed_at queues 0 (λ (q : Queue). record q { open_count = 0 })) segments
    go None at = rw at ring
    go (Some q) at =
        posts-queue ranks me queues (changed_at queues 0 (λ (x : Queue). record x { open_count = 0 })) segments 0 (record q { open_count = 0 }) ring
        (changed_at-found queues 0 q (λ (x : Queue). record x { open_count = 0 }) at) (queue-kept ranks me q (record q { open_count = 0 }) (ring.queues 0 q at) refl refl)

wait-total : (f : List Entry → ℕ) (queues : List Queue) → total f (changed_at queues 0 (λ (q : Queue). record q { open_count = 0 })) ≡ total f queues
wait-total f queues = go (slice_get queues 0) refl
  where
    go : (o : Option Queue) → slice_get queues 0 ≡ o → total f (changed_at queues 0 (λ (q : Queue). record q { open_count = 0 })) ≡ total f queues
    go None at = rw at refl
    go (Some q) at = ap (total f) (changed_at-found queues 0 q (λ (x : Queue). record x { open_count = 0 }) at) ∙ total-kept f queues 0 q (record q { open_count = 0 }) at refl

wait-local : (ranks : ℕ) (s t : State) (c : CallerId) (reply : Reply) → IsRing ranks s → is_idle reply ≡ false
    → step s (Called c (calls.Wait (record { queue = 0 })) reply) ≡ Ok t → IsLocal ranks s t (Called c (calls.Wait (record { queue = 0 })) reply)
wait-local ranks s t c reply ring awake h =
    let made = posts-on_memory s t c (calls.Wait (record { queue = 0 })) reply refl refl awake (λ posts brought memory. refl) ring.sound h in
    let w = made.2 in
    let p = made.0 in
    let m = own-memory ranks s c.rank p ring w.posts_there in
    let owed = wait-total lane_owed p.queues in
    let notes = wait-total lane_notes p.queues in
    own-change ranks s t (Called c (calls.Wait (record { queue = 0 })) reply) p (counted (record p { queues = changed_at p.queues 0 (λ (q : Queue). record q { open_count = 0 }) })) m.0 m.0 w.posts_there m.1
    (ap (λ (x : State). x.posts) w.leaves ∙ rw awake refl)
    (ap (λ (x : State). x.memories) w.leaves ∙ sym (set-there s.memories c.rank m.0 m.1))
    (wait-posts ranks c.rank p.queues p.segments (ring.posts c.rank p w.posts_there))
    (ring.memories c.rank m.0 m.1) (omega (arith, owed)) (omega arith) (omega (arith, notes)) refl

end-local : (ranks : ℕ) (s t : State) (c : CallerId) (reply : Reply) → IsRing ranks s → is_idle reply ≡ false → step s (Called c calls.End reply) ≡ Ok t → IsLocal ranks s t (Called c calls.End reply)
end-local ranks s t c reply ring awake h =
    let made = posts-on_memory s t c calls.End reply refl refl awake (λ posts brought memory. refl) ring.sound h in
    let w = made.2 in
    let m = own-memory ranks s c.rank made.0 ring w.posts_there in
    read-local ranks s t c calls.End reply made.0 _ m.0 m.0 ring w.posts_there m.1
    (ap (λ (x : State). x.posts) w.leaves)
    (ap (λ (x : State). x.memories) w.leaves ∙ sym (set-there s.memories c.rank m.0 m.1))
    (rw awake refl) (rw awake refl) refl refl refl

look-local : (ranks : ℕ) (s t : State) (c : CallerId) (reply : Reply) → IsRing ranks s → is_idle reply ≡ false
    → step s (Called c (calls.Waitsome (record { seg = 0; begin = 0; num = 1 })) reply) ≡ Ok t → IsLocal ranks s t (Called c (calls.Waitsome (record { seg = 0; begin = 0; num = 1 })) reply)
look-local ranks s t c reply ring awake h =
    let made = own-on_memory s t c (calls.Waitsome (record { seg = 0; begin = 0; num = 1 })) reply refl refl awake ring.sound h in
    let w = made.2 in
    read-local ranks s t c (calls.Waitsome (record { seg = 0; begin = 0; num = 1 })) reply made.0 _ made.1 _ ring w.posts_there w.memory_there
    (ap (λ (x : State). x.posts) w.leaves) (ap (λ (x : State). x.memories) w.leaves) (rw awake refl) (rw awake refl) (rw awake refl) refl refl

load-local : (ranks : ℕ) (s t : State) (c : CallerId) (reply : Reply) → IsRing ranks s → is_idle reply ≡ false
    → step s (Called c (calls.Load (record { seg = 0; offset = 8; size = 8 })) reply) ≡ Ok t → IsLocal ranks s t (Called c (calls.Load (record { seg = 0; offset = 8; size = 8 })) reply)
load-local ranks s t c reply ring awake h =
    let made = own-on_memory s t c (calls.Load (record { seg = 0; offset = 8; size = 8 })) reply refl refl awake ring.sound h in
    let w = made.2 in
    read-local ranks s t c (calls.Load (record { seg = 0; offset = 8; size = 8 })) reply made.0 _ made.1 _ ring w.posts_there w.memory_there
    (ap (λ (x : State). x.posts) w.leaves) (ap (λ (x : State). x.memories) w.leaves) (rw awake refl) (rw awake refl) (rw awake refl) refl refl

meet-local : (ranks : ℕ) (s t : State) (c : CallerId) (reply : Reply) → IsRing ranks s → is_idle reply ≡ false
    → step s (Called c (calls.Barrier (record { group = 0 })) reply) ≡ Ok t → IsLocal ranks s t (Called c (calls.Barrier (record { group = 0 })) reply)
meet-local ranks s t c reply ring awake h =
    let made = step-completed s t c 0 (calls.Barrier (record { group = 0 })) reply refl h in
    let w = made.2 in
    let m = own-memory ranks s c.rank made.0 ring w.posts_there in
    read-local ranks s t c (calls.Barrier (record { group = 0 })) reply made.0 made.1.posts m.0 m.0 ring w.posts_there m.1
    (ap (λ (x : State). x.posts) w.leaves)
    (ap (λ (x : State). x.memories) w.leaves ∙ sym (set-there s.memories c.rank m.0 m.1))
    (rw (w.is.leaves, awake) refl) (rw (w.is.leaves, awake) refl) refl refl refl

-- A post that is done.

one-transfer : (near far : ℕ → Option Extent) (item : Item) (kinds : List Kind) → AreTransfers Outward near far (item ∷ []) kinds → (kind : Kind) × (kinds ≡ kind ∷ []) × IsTransfer Outward near far item kind
one-transfer near far item [] are = absurd are
one-transfer near far item (kind ∷ []) are = (kind, refl, are.0)
one-transfer near far item (kind ∷ other ∷ kinds) are = absurd are.1

-- what is known of a segment 0 of any rank
far-zero : (ranks me : ℕ) (queues : List Queue) (table : SegmentTable) (rank : ℕ) (x : Extent) → IsRingPosts ranks me queues table → known_extent me table rank 0 ≡ Some x → x.generation ≡ 0
far-zero ranks me queues table rank x ring is = go (rank == me) refl
  where
    by-table : (o : Option (List (Option Extent))) → slice_get table.known rank ≡ o → option_and_then (λ (known : List (Option Extent)). extent_in known 0) o ≡ Some x → x.generation ≡ 0
    by-table None at none = absurd (let no : ⊥ = cc in no)
    by-table (Some known) at there = ring.known rank known at x there

    go : (b : Bool) → (rank == me) ≡ b → x.generation ≡ 0
    go true same = ring.own x (rw same at is)
    go false other = by-table (slice_get table.known rank) refl (rw other at is)

-- what the call of the ring asks for: a write and a notification of segment 0
record IsRingAsked (kinds : List Kind) : Type 0 where
  own : ByteRange
  target : ByteRange
  slot : NoteSlot
  are : kinds ≡ Write own target ∷ Notify slot 1 ∷ []
  first : (target.segment ≡ 0) × (target.generation ≡ 0)
  second : (slot.segment ≡ 0) × (slot.generation ≡ 0)

ring-asked : (ranks me notes : ℕ) (queues : List Queue) (table : SegmentTable) (rank : ℕ) (item : Item) (kinds : List Kind) → item.rseg ≡ 0 → IsRingPosts ranks me queues table
    → writes_with_notification notes me table rank (item ∷ []) 0 0 1 ≡ Ok kinds → IsRingAsked kinds
ring-asked ranks me notes queues table rank item kinds zero_there ring h =
    let notified = noted_writes-ok notes me table rank (item ∷ []) 0 0 1 kinds h in
    let one = one-transfer (near_in table) (far_in me table rank) item notified.transfers notified.are in
    let ends = one.2.ends in
    let are = one.2.are in
    let theirs = far-zero ranks me queues table rank are.theirs ring (subst (λ (k : ℕ). known_extent me table rank k ≡ Some are.theirs) zero_there are.theirs_there) in
    let known = far-zero ranks me queues table rank notified.theirs ring notified.theirs_there in
    record {
      own = ends.own;
      target = ends.target;
      slot = slot_in notified.theirs 0 0;
      are = notified.is ∙ ap (λ (xs : List Kind). xs ++ Notify (slot_in notified.theirs 0 0) 1 ∷ []) one.1 ∙ ap (λ (k : Kind). k ∷ Notify (slot_in notified.theirs 0 0) 1 ∷ []) one.2.is;
      first = (ap (λ (x : Endpoints). x.target.segment) are.are ∙ zero_there, ap (λ (x : Endpoints). x.target.generation) are.are ∙ theirs);
      second = (refl, known);
    }

-- the lane with both appended
asked-lane : (ranks me number : ℕ) (lane : List Entry) (kinds : List Kind) → IsRingLane ranks me (right_of ranks me) lane → IsRingAsked kinds
    → IsRingLane ranks me (right_of ranks me) (lane ++ posted_entries number kinds)
asked-lane ranks me number lane kinds ring asked =
    subst (λ (ks : List Kind). IsRingLane ranks me (right_of ranks me) (lane ++ posted_entries number ks)) (sym asked.are) (record {
      apart = λ other. absurd (other refl);
      kinds = kinds-append lane (posted_entries number (Write asked.own asked.target ∷ Notify asked.slot 1 ∷ [])) ring.kinds (asked.first, (asked.second, tt));
      closed = closed-append lane (posted_entries number (Write asked.own asked.target ∷ Notify asked.slot 1 ∷ [])) ring.closed (inr (omega arith), (inl refl, tt));
    })

asked-notes : (number : ℕ) (lane : List Entry) (kinds : List Kind) → IsRingAsked kinds → lane_notes (lane ++ posted_entries number kinds) ≡ lane_notes lane + 1
asked-notes number lane kinds asked =
    subst (λ (ks : List Kind). lane_notes (lane ++ posted_entries number ks) ≡ lane_notes lane + 1) (sym asked.are)
    (notes-append lane (posted_entries number (Write asked.own asked.target ∷ Notify asked.slot 1 ∷ [])))

asked-owed : (number : ℕ) (lane : List Entry) (kinds : List Kind) → IsRingAsked kinds → lane_owed (lane ++ posted_entries number kinds) ≡ lane_owed lane + 4
asked-owed number lane kinds asked =
    let two : length kinds ≡ 2 = ap length asked.are in
    let sum = sum_by-append entry_owed lane (posted_entries number kinds) in
    let four = lane_owed-posted number kinds in
    omega (arith, sum, four, two)

posted-local : (ranks : ℕ) (s t : State) (c : CallerId) → IsRing ranks s → step s (Called c (ring_call (right_of ranks c.rank)) replies.Done) ≡ Ok t → IsLocal ranks s t (Called c (ring_call (right_of ranks c.rank)) replies.Done)
posted-local ranks s t c ring h =
    let d = post-done s t c (ring_call (right_of ranks c.rank)) (record { entries = 2; rank = right_of ranks c.rank; queue = 0 }) ring.sound refl h in
    let p = d.posts in
    let here = ring.posts c.rank p d.posts_there in
    let asked = ring-asked ranks c.rank s.limits.notes p.queues p.segments (right_of ranks c.rank) (record { seg = 0; offset = 0; rseg = 0; roffset = 8; size = 8 }) d.kinds refl here d.asks in
    let lane = d.lane ++ posted_entries p.next d.kinds in
    let was = here.queues 0 d.q d.queue_there in
    let q : Queue = record d.q { open_count = d.q.open_count + length d.kinds; lanes = slice_set d.q.lanes (right_of ranks c.rank) lane } in
    let m = own-memory ranks s c.rank p ring d.posts_there in
    let new = asked-lane ranks c.rank p.next d.lane d.kinds (was.lanes (right_of ranks c.rank) d.lane d.lane_there) asked in
    let notes = asked-notes p.next d.lane d.kinds asked in
    let owed = asked-owed p.next d.lane d.kinds asked in
    let all_notes = total-changed lane_notes p.queues 0 d.q q (right_of ranks c.rank) d.lane lane d.queue_there d.lane_there refl in
    let all_owed = total-changed lane_owed p.queues 0 d.q q (right_of ranks c.rank) d.lane lane d.queue_there d.lane_there refl in
    own-change ranks s t (Called c (ring_call (right_of ranks c.rank)) replies.Done) p (record (counted p) { queues = slice_set p.queues 0 q; next = p.next + length d.kinds }) m.0 m.0 d.posts_there m.1
    (ap (λ (x : State). x.posts) d.after)
    (ap (λ (x : State). x.memories) d.after ∙ sym (set-there s.memories c.rank m.0 m.1))
    (posts-queue ranks c.rank p.queues (slice_set p.queues 0 q) p.segments 0 q here refl (queue-lane ranks c.rank d.q q (right_of ranks c.rank) lane was refl refl new))
    (ring.memories c.rank m.0 m.1) (omega (arith, owed, all_owed)) (omega arith) (omega (arith, notes, all_notes)) refl

done-some : (reply : Reply) → ◌≡◌ {A = Option Reply} (Some reply) (Some replies.Done) → reply ≡ replies.Done
done-some reply h = cc

post-local : (ranks : ℕ) (s t : State) (c : CallerId) (reply : Reply) → IsRing ranks s → is_idle reply ≡ false → step s (Called c (ring_call (right_of ranks c.rank)) reply) ≡ Ok t
    → IsLocal ranks s t (Called c (ring_call (right_of ranks c.rank)) reply)
post-local ranks s t c reply ring awake h =
    let made = posts-on_memory s t c (ring_call (right_of ranks c.rank)) reply refl refl awake (λ posts brought memory. refl) ring.sound h in
    let w = made.2 in
    let found = post-ok s.limits made.0 (right_of ranks c.rank) 0 (requested_kinds s.limits c.rank made.0 (ring_call (right_of ranks c.rank))) (Some reply) w.finds in
    let done = done-some reply found.2.done in
    subst (λ (r : Reply). IsLocal ranks s t (Called c (ring_call (right_of ranks c.rank)) r)) (sym done)
    (posted-local ranks s t c ring (subst (λ (r : Reply). step s (Called c (ring_call (right_of ranks c.rank)) r) ≡ Ok t) done h))

-- any call of the ring
pub call-local : (ranks : ℕ) (s t : State) (c : CallerId) (r : RingCall) (reply : Reply) → IsRing ranks s → step s (Called c (call_of ranks c.rank r) reply) ≡ Ok t
    → IsLocal ranks s t (Called c (call_of ranks c.rank r) reply)
call-local ranks s t c r reply ring h = by-idle (is_idle reply) refl
  where
    awake : (r : RingCall) → is_idle reply ≡ false → step s (Called c (call_of ranks c.rank r) reply) ≡ Ok t → IsLocal ranks s t (Called c (call_of ranks c.rank r) reply)
    awake (Storing bytes eight) is h = store-local ranks s t c bytes reply eight ring is h
    awake Posting is h = post-local ranks s t c reply ring is h
    awake Waiting is h = wait-local ranks s t c reply ring is h
    awake Watching is h = look-local ranks s t c reply ring is h
    awake Resetting is h = reset-local ranks s t c reply ring is h
    awake Loading is h = load-local ranks s t c reply ring is h
    awake Meeting is h = meet-local ranks s t c reply ring is h
    awake Ending is h = end-local ranks s t c reply ring is h

    by-idle : (b : Bool) → is_idle reply ≡ b → IsLocal ranks s t (Called c (call_of ranks c.rank r) reply)
    by-idle true is = idle-local ranks s t c (call_of ranks c.rank r) reply ring is h
    by-idle false is = awake r is h
