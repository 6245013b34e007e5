-- What a call leaves of the tables of segments, of what its rank knows, and of the entries that stand.
use Rattle.std.proofs.Common.{◌≡◌, ℕ, ◌+◌, ◌%◌, ◌^◌, ◌<◌, ◌≤◌, not, Bool, true, false, ◌==◌, nat_lt, List, [], ◌∷◌, length, Option, None, Some, Result, Ok, Err, refl, sym, ap, ◌∙◌, arith, ◌⊎◌, inl, inr, if◌then◌else◌, position, zero, suc}
use Rattle.std.specs.List.{slice_get, slice_set, list_any, prefix_len}
use Rattle.std.specs.Option.{option_map}
use Rattle.std.proofs.lemmas.Bool.{ltb-true, ltb-false, eqb-true}
use Rattle.std.proofs.lemmas.List.{length-replicate, map-set}
use Rattle.byteorder.specs.Endian.{little_bytes}
use Rattle.gaspi_types.specs.Lanes.{has_user, is_user, uses}
use Rattle.gaspi_types.specs.Replies.{is_idle}
use Rattle.gaspi_types.specs.SegmentTables.{extent_in, alloc_checks, next_generation}
use Rattle.gaspi_types.specs.SegmentWords.{word_at, with_sum, with_swap}
use Rattle.gaspi_types.specs.declared.entries.Entry.{Entry}
use Rattle.gaspi_types.specs.declared.segments.Extent.{Extent}
use Rattle.gaspi_types.specs.declared.entries.Kind.{Kind}
use Rattle.gaspi_types.specs.declared.shapes.Limits.{Limits}
use Rattle.gaspi_types.specs.declared.calls.Call.{Call}
use Rattle.gaspi_types.specs.declared.calls.Call.TheVariants.{Alloc, Delete, Store, Wait, Purge, Reset, PassiveSend, PassiveReceive, FetchAdd, CompareSwap, GroupCreate, GroupAdd, GroupDelete, End}
use Rattle.gaspi_types.specs.declared.calls.segments.Alloc as alloc
use Rattle.gaspi_types.specs.declared.calls.segments.Delete as delete
use Rattle.gaspi_types.specs.CallRows.{row_of}
use Rattle.gaspi_types.specs.declared.call_rows.Posting.{Posting}
use Rattle.gaspi_types.specs.declared.replies.Refusal.{Refusal}
use Rattle.gaspi_types.specs.declared.replies.Reply.{Reply}
use Rattle.gaspi_types.specs.Tables.{changed_at}
use Rattle.gaspi_types.specs.Segments.{new_segment, extent_of, extents_of}
use Rattle.gaspi_model.specs.State.{new_slots}
use Rattle.gaspi_model.specs.Memories.{bytes_of}
use Rattle.gaspi_model.specs.Posting.{with_post, counted}
use Rattle.gaspi_model.specs.SegmentCalls.{alloc_result, delete_result, with_known}
use Rattle.gaspi_types.specs.Queues.{user_of}
use Rattle.gaspi_types.specs.Groups.{with_group, with_added, without_group}
use Rattle.gaspi_types.specs.declared.groups.Handles.{Handles}
use Rattle.gaspi_types.specs.declared.inboxes.Message.{Message}
use Rattle.gaspi_model.specs.QueueCalls.{emptied}
use Rattle.gaspi_model.specs.Calls.{posts_effect, plain_effect, posts_after, memory_effect, memory_after, call_result, plain_result, requested_kinds, answer, recorded_reply}
use Rattle.gaspi_model.specs.Coherence.{counts_of, HasSlots, Tables, tables_of, AreMade, AreWithinSegments, Knows}
use Rattle.gaspi_types.specs.declared.entries.Queue.{Queue}
use Rattle.gaspi_model.specs.declared.states.Posts.{Posts}
use Rattle.gaspi_types.specs.declared.segments.Segment.{Segment}
use Rattle.gaspi_model.specs.declared.states.Memory.{Memory}
use Rattle.gaspi_types.proofs.Chains.{bind_then, check_then, found_then, absent_then}
use Rattle.gaspi_model.proofs.Sound.Layouts.{HaveSameLayout, same-layout, bytes-layout, slots-layout, replaced-layout, send-layout, receive-layout}
use Rattle.gaspi_types.proofs.Written.{with_range-length, with_swap-length, set-extents}
use Rattle.gaspi_model.proofs.Sound.Registered.{changed_at-get, registering, registered-cases}
use Rattle.gaspi_model.proofs.OnPostsAndMemory.{memory_rank}
use Rattle.gaspi_model.proofs.Sound.Successors.{Succeeds, succeeds-itself, OwnsStay, own-other, free-unused, alloc-succeeds, delete-succeeds}
use Rattle.gaspi_types.proofs.Extents.{extent-set}
use Rattle.gaspi_model.proofs.Sound.FittingEntries.{MayPost, KindsFit, fits-post, fits-queue, fits-emptied, asks-fit}
use Rattle.gaspi_model.proofs.FoundReplies.{found-reply}

-- What a call finds where it makes a segment or deletes one.

pub record IsAllocated (posts : Posts) (seg size : ℕ) : Type 0 where
  pub numbered : nat_lt seg 32 ≡ true
  pub free : extent_in posts.segments.own seg ≡ None

pub alloc-found : (posts : Posts) (call : alloc.Alloc) (reply : Reply) → alloc_result posts call ≡ Ok (Some reply) → IsAllocated posts call.seg call.size
alloc-found posts call reply h =
    bind_then (alloc_checks posts.segments.own call.seg call.size) _ (Some reply) h (λ fits hc h1.
    check_then (nat_lt call.seg 32) _ _ fits hc (λ numbered h2.
    absent_then (extent_in posts.segments.own call.seg) _ _ fits h2 (λ free h3. record { numbered = numbered; free = free })))

-- a test that no item passes
not-any : {A : Type 0} (p : A → Bool) (xs : List A) (k : ℕ) (x : A) → list_any p xs ≡ false → slice_get xs k ≡ Some x → p x ≡ false
not-any p [] k x none at = absurd (let no : ⊥ = cc in no)
not-any {A} p (y ∷ xs) k x none at = go (p y) refl k at (λ n rest h. not-any p xs n x rest h)
  where
    go : (b : Bool) → p y ≡ b → (k : ℕ) → slice_get (y ∷ xs) k ≡ Some x → ((n : ℕ) → list_any p xs ≡ false → slice_get xs n ≡ Some x → p x ≡ false) → p x ≡ false
    go true is k at rest = absurd (let yes : true ≡ false = rw is at none in let no : ⊥ = cc in no)
    go false is zero at rest = let same : y ≡ x = cc in rw (sym same) is
    go false is (suc k) at rest = rest k (rw is at none) at

-- where a test passes a whole list, it passes each item
prefix-whole : {A : Type 0} (p : A → Bool) (xs : List A) (k : ℕ) (x : A) → length xs ≤ prefix_len (λ y. not (p y)) xs → slice_get xs k ≡ Some x → p x ≡ false
prefix-whole p [] k x whole at = absurd (let no : ⊥ = cc in no)
prefix-whole {A} p (y ∷ xs) k x whole at = go (p y) refl k at (λ n less h. prefix-whole p xs n x less h)
  where
    go : (b : Bool) → p y ≡ b → (k : ℕ) → slice_get (y ∷ xs) k ≡ Some x → ((n : ℕ) → length xs ≤ prefix_len (λ z. not (p z)) xs → slice_get xs n ≡ Some x → p x ≡ false) → p x ≡ false
    go true is k at rest = absurd (let none : suc (length xs) ≤ 0 = rw is at whole in let no : ⊥ = omega arith in no)
    go false is zero at rest = let same : y ≡ x = cc in rw (sym same) is
    go false is (suc k) at rest = rest k (let more : suc (length xs) ≤ 1 + prefix_len (λ z. not (p z)) xs = rw is at whole in omega arith) at

no-position : {A : Type 0} (p : A → Bool) (xs : List A) (k : ℕ) (x : A) → position p xs ≡ None → slice_get xs k ≡ Some x → p x ≡ false
no-position p xs k x none at = go (nat_lt (prefix_len (λ y. not (p y)) xs) (length xs)) refl
  where
    go : (b : Bool) → nat_lt (prefix_len (λ y. not (p y)) xs) (length xs) ≡ b → p x ≡ false
    go true is = absurd (let some : ◌≡◌ {A = Option ℕ} (Some (prefix_len (λ y. not (p y)) xs)) None = rw is at none in let no : ⊥ = cc in no)
    go false is = prefix-whole p xs k x (ltb-false (prefix_len (λ y. not (p y)) xs) (length xs) is) at

pub delete-found : (posts : Posts) (call : delete.Delete) (reply : Reply) → delete_result posts call ≡ Ok (Some reply) → user_of posts.queues call.seg ≡ None
delete-found posts call reply h =
    found_then (extent_in posts.segments.own call.seg) _ _ (Some reply) h (λ mine hm h1.
    absent_then (user_of posts.queues call.seg) _ _ (Some reply) h1 (λ unused h2. unused))

-- where no entry uses a segment, each does not
unused-entry : (queues : List Queue) (seg : ℕ) → user_of queues seg ≡ None → (queue : ℕ) (q : Queue) → slice_get queues queue ≡ Some q → (target : ℕ) (lane : List Entry) → slice_get q.lanes target ≡ Some lane
    → (place : ℕ) (e : Entry) → slice_get lane place ≡ Some e → uses seg e.phase e.kind ≡ false
unused-entry queues seg none queue q hq target lane hl place e he =
    let in_queue = no-position (λ (x : Queue). list_any (has_user seg) x.lanes) queues queue q none hq in
    let in_lane = not-any (has_user seg) q.lanes target lane in_queue hl in
    not-any (is_user seg) lane place e in_lane he

-- What a call that is done keeps of the posts of its rank: the tables come after the old ones, what is known is true, the
-- entries fit in the old tables, and what they have to do with their own segments stays.
pub record KeepsFit (notes : ℕ) (tables : List Tables) (me : ℕ) (before after : Posts) : Type 0 where
  pub succeeds : Succeeds (tables_of before) (tables_of after)
  pub known : Knows tables after.segments.known
  pub entries : AreWithinSegments notes tables me after.queues
  pub owns : OwnsStay before.segments.own after.segments.own after.queues

pub fits-itself : (notes : ℕ) (tables : List Tables) (me : ℕ) (posts : Posts) → Knows tables posts.segments.known → AreWithinSegments notes tables me posts.queues → KeepsFit notes tables me posts posts
fits-itself notes tables me posts knows all = record {
  succeeds = succeeds-itself (tables_of posts);
  known = knows;
  entries = all;
  owns = λ queue q hq target lane hl place e he owns. owns;
}

-- posts whose queues are other ones
pub fits-requeued : (notes : ℕ) (tables : List Tables) (me : ℕ) (posts : Posts) (queues : List Queue) → Knows tables posts.segments.known → AreWithinSegments notes tables me queues → KeepsFit notes tables me posts (record posts { queues = queues })
fits-requeued notes tables me posts queues knows all = record {
  succeeds = succeeds-itself (tables_of posts);
  known = knows;
  entries = all;
  owns = λ queue q hq target lane hl place e he owns. owns;
}

post-fits : (notes : ℕ) (tables : List Tables) (me : ℕ) (posts : Posts) (queue rank : ℕ) (asked : Result (List Kind) Refusal) → MayPost tables me (tables_of posts) posts.segments.known
    → ((kinds : List Kind) (theirs : Tables) → asked ≡ Ok kinds → slice_get tables rank ≡ Some theirs → KindsFit notes (tables_of posts) theirs kinds)
    → AreWithinSegments notes tables me posts.queues → KeepsFit notes tables me posts (with_post posts queue rank asked)
post-fits notes tables me posts queue rank (Err refusal) may fit all = fits-itself notes tables me posts may.knows all
post-fits notes tables me posts queue rank (Ok kinds) may fit all = record {
  succeeds = succeeds-itself (tables_of posts);
  known = may.knows;
  entries = fits-post notes tables me posts queue rank (tables_of posts) (Ok kinds) may.here fit all;
  owns = λ queue q hq target lane hl place e he owns. owns;
}

-- the groups are no matter of the entries
regrouped-fits : (notes : ℕ) (tables : List Tables) (me : ℕ) (posts : Posts) (groups : Handles) → MayPost tables me (tables_of posts) posts.segments.known → AreWithinSegments notes tables me posts.queues
    → KeepsFit notes tables me posts (record posts { groups = groups })
regrouped-fits notes tables me posts groups may all = record {
  succeeds = succeeds-itself (tables_of posts);
  known = may.knows;
  entries = all;
  owns = λ queue q hq target lane hl place e he owns. owns;
}

pub plain-fits : (limits : Limits) (tables : List Tables) (me : ℕ) (posts : Posts) (memory : Memory) (thread : ℕ) (call : Call) (reply : Reply) → MayPost tables me (tables_of posts) posts.segments.known
    → length posts.segments.next_generations ≡ 32 → AreWithinSegments limits.notes tables me posts.queues → plain_result limits me posts memory call ≡ Ok (Some reply)
    → KeepsFit limits.notes tables me posts (plain_effect posts thread call)
plain-fits limits tables me posts memory thread (Alloc call) reply may many all finds =
    let found = alloc-found posts call reply finds in
    record {
      succeeds = alloc-succeeds posts.segments.own posts.segments.next_generations call.seg call.size found.free (let less = ltb-true call.seg 32 found.numbered in omega arith);
      known = may.knows;
      entries = all;
      owns = λ queue q hq target lane hl place e he owns.
          own-other posts.segments.own call.seg (Some (record { generation = next_generation posts.segments.next_generations call.seg; size = call.size })) e.kind e.phase
          (free-unused posts.segments.own call.seg e.kind e.phase found.free owns) owns;
    }
plain-fits limits tables me posts memory thread (Delete call) reply may many all finds =
    let unused = delete-found posts call reply finds in
    record {
      succeeds = delete-succeeds posts.segments.own posts.segments.next_generations call.seg;
      known = may.knows;
      entries = all;
      owns = λ queue q hq target lane hl place e he owns.
          own-other posts.segments.own call.seg None e.kind e.phase (unused-entry posts.queues call.seg unused queue q hq target lane hl place e he) owns;
    }
plain-fits limits tables me posts memory thread (Wait call) reply may many all finds =
    fits-requeued limits.notes tables me posts (changed_at posts.queues call.queue (λ (q : Queue). record q { open_count = 0 })) may.knows
    (fits-queue limits.notes tables me posts.queues call.queue (λ (q : Queue). record q { open_count = 0 }) (λ q. refl) all)
plain-fits limits tables me posts memory thread (Purge call) reply may many all finds =
    fits-requeued limits.notes tables me posts (changed_at posts.queues call.queue emptied) may.knows (fits-emptied limits.notes tables me posts.queues call.queue all)
plain-fits limits tables me posts memory thread GroupCreate reply may many all finds = regrouped-fits limits.notes tables me posts (with_group posts.groups) may all
plain-fits limits tables me posts memory thread (GroupAdd call) reply may many all finds = regrouped-fits limits.notes tables me posts (with_added posts.groups call.group call.rank) may all
plain-fits limits tables me posts memory thread (GroupDelete call) reply may many all finds = regrouped-fits limits.notes tables me posts (without_group posts.groups call.group) may all
plain-fits limits tables me posts memory thread End reply may many all finds = record {
  succeeds = succeeds-itself (tables_of posts);
  known = may.knows;
  entries = all;
  owns = λ queue q hq target lane hl place e he owns. owns;
}
plain-fits limits tables me posts memory thread other reply may many all finds = fits-itself limits.notes tables me posts may.knows all

done-fits : (limits : Limits) (tables : List Tables) (me : ℕ) (posts : Posts) (memory : Memory) (thread : ℕ) (call : Call) (reply : Reply) → MayPost tables me (tables_of posts) posts.segments.known
    → length posts.segments.next_generations ≡ 32 → AreWithinSegments limits.notes tables me posts.queues → call_result limits me posts memory call ≡ Ok (Some reply)
    → KeepsFit limits.notes tables me posts (posts_effect limits me posts thread call)
done-fits limits tables me posts memory thread call reply may many all finds = go (row_of call).posting refl
  where
    go : (o : Option Posting) → (row_of call).posting ≡ o → KeepsFit limits.notes tables me posts (posts_effect limits me posts thread call)
    go None none = rw none (plain-fits limits tables me posts memory thread call reply may many all (rw none at finds))
    go (Some to) post =
        rw post (post-fits limits.notes tables me posts to.queue to.rank (requested_kinds limits me posts call) may
        (λ kinds theirs asks ht. asks-fit limits me posts tables (tables_of posts) call to kinds theirs refl may post ht asks) all)

pub counted-fits : (notes : ℕ) (tables : List Tables) (me : ℕ) (before after : Posts) → KeepsFit notes tables me before after → KeepsFit notes tables me before (counted after)
counted-fits notes tables me before after keeps = record { succeeds = keeps.succeeds; known = keeps.known; entries = keeps.entries; owns = keeps.owns }

pub called-fits : (limits : Limits) (tables : List Tables) (me : ℕ) (posts : Posts) (memory : Memory) (thread : ℕ) (call : Call) (reply : Reply) → MayPost tables me (tables_of posts) posts.segments.known
    → length posts.segments.next_generations ≡ 32 → AreWithinSegments limits.notes tables me posts.queues → reply ≡ recorded_reply (answer limits me posts memory thread call)
    → KeepsFit limits.notes tables me posts (posts_after limits me posts thread call reply)
called-fits limits tables me posts memory thread call reply may many all is = go (is_idle reply) refl
  where
    go : (b : Bool) → is_idle reply ≡ b → KeepsFit limits.notes tables me posts (posts_after limits me posts thread call reply)
    go true idle = rw idle (counted-fits limits.notes tables me posts posts (fits-itself limits.notes tables me posts may.knows all))
    go false awake =
        rw awake (counted-fits limits.notes tables me posts (posts_effect limits me posts thread call)
        (done-fits limits tables me posts memory thread call reply may many all (found-reply limits me posts memory thread call reply is awake)))

-- The own table of a rank and the memory that a call works on.

-- both keep their segments, or they are of one rank and change together
abbrev pub KeepsTables : ℕ → ℕ → ℕ → Posts → Posts → Memory → Memory → Type 0
KeepsTables notes me worked posts posts' memory memory' =
    ((posts'.segments.own ≡ posts.segments.own) × HaveSameLayout memory memory')
    ⊎ ((worked ≡ me) × (posts.segments.own ≡ extents_of memory.segments → posts'.segments.own ≡ extents_of memory'.segments) × (HasSlots notes memory → HasSlots notes memory'))

with_post-own : (posts : Posts) (queue target : ℕ) (asked : Result (List Kind) Refusal) → (with_post posts queue target asked).segments.own ≡ posts.segments.own
with_post-own posts queue target (Ok kinds) = refl
with_post-own posts queue target (Err refusal) = refl

-- a segment set in a memory, with its slots
set-slots : (notes : ℕ) (memory : Memory) (seg : ℕ) (o : Option Segment) (slots : Option (List ℕ)) → option_map length slots ≡ option_map (λ (x : Extent). notes) (option_map extent_of o)
    → HasSlots notes memory → HasSlots notes (record memory { segments = slice_set memory.segments seg o; slots = slice_set memory.slots seg slots })
set-slots notes memory seg o slots fresh all =
    let count = option_map (λ (x : Extent). notes) in
    map-set (option_map length) memory.slots seg slots
    ∙ ap (λ (t : List (Option ℕ)). slice_set t seg (option_map length slots)) all
    ∙ ap (slice_set (counts_of notes (extents_of memory.segments)) seg) fresh
    ∙ sym (map-set count (extents_of memory.segments) seg (option_map extent_of o))
    ∙ ap (counts_of notes) (sym (map-set (option_map extent_of) memory.segments seg o))

pub plain-tables : (limits : Limits) (me : ℕ) (posts : Posts) (brought : Option Message) (memory : Memory) (thread : ℕ) (call : Call)
    → KeepsTables limits.notes me (memory_rank limits me call) posts (plain_effect posts thread call) memory (memory_effect limits posts brought memory call)
plain-tables limits me posts brought memory thread (Alloc call) =
    let generation = next_generation posts.segments.next_generations call.seg in
    let new = new_segment generation call.size in
    let extent : ◌≡◌ {A = Extent} (extent_of new) (record { generation = generation; size = call.size }) = (let many = length-replicate {A = ℕ} call.size 0 in rw many refl) in
    inr (
      refl,
      (λ agrees.
          ap (λ (e : Extent). slice_set posts.segments.own call.seg (Some e)) (sym extent) ∙ set-extents memory.segments call.seg (Some new) posts.segments.own agrees),
      set-slots limits.notes memory call.seg (Some new) (Some (new_slots limits.notes)) (ap (λ (n : ℕ). Some n) (length-replicate limits.notes 0)),
    )
plain-tables limits me posts brought memory thread (Delete call) =
    inr (refl, (λ agrees. set-extents memory.segments call.seg None posts.segments.own agrees), set-slots limits.notes memory call.seg None None refl)
plain-tables limits me posts brought memory thread (Store call) = inl (refl, bytes-layout memory call.seg call.offset call.bytes)
plain-tables limits me posts brought memory thread (Reset call) = inl (refl, slots-layout memory call.seg call.note 0)
plain-tables limits me posts brought memory thread (PassiveSend call) = inl (refl, send-layout brought memory)
plain-tables limits me posts brought memory thread (PassiveReceive call) = inl (refl, receive-layout memory call)
plain-tables limits me posts brought memory thread (FetchAdd call) =
    inl (refl, replaced-layout memory call.seg (with_sum (bytes_of memory call.seg) call.offset call.value) (with_range-length (bytes_of memory call.seg) call.offset (little_bytes 8 ((word_at (bytes_of memory call.seg) call.offset + call.value) % 2 ^ 64))))
plain-tables limits me posts brought memory thread (CompareSwap call) =
    inl (refl, replaced-layout memory call.seg (with_swap (bytes_of memory call.seg) call.offset call.comparator call.new) (with_swap-length (bytes_of memory call.seg) call.offset call.comparator call.new))
plain-tables limits me posts brought memory thread other = inl (refl, same-layout memory)

-- a post leaves the memory
pub post-leaves : (limits : Limits) (posts : Posts) (brought : Option Message) (memory : Memory) (call : Call) (to : Posting) → (row_of call).posting ≡ Some to → memory_effect limits posts brought memory call ≡ memory
post-leaves limits posts brought memory (Alloc call) to is = absurd (let no : ⊥ = cc in no)
post-leaves limits posts brought memory (Delete call) to is = absurd (let no : ⊥ = cc in no)
post-leaves limits posts brought memory (Store call) to is = absurd (let no : ⊥ = cc in no)
post-leaves limits posts brought memory (Reset call) to is = absurd (let no : ⊥ = cc in no)
post-leaves limits posts brought memory (PassiveSend call) to is = absurd (let no : ⊥ = cc in no)
post-leaves limits posts brought memory (PassiveReceive call) to is = absurd (let no : ⊥ = cc in no)
post-leaves limits posts brought memory (FetchAdd call) to is = absurd (let no : ⊥ = cc in no)
post-leaves limits posts brought memory (CompareSwap call) to is = absurd (let no : ⊥ = cc in no)
post-leaves limits posts brought memory other to is = refl

done-tables : (limits : Limits) (me : ℕ) (posts : Posts) (brought : Option Message) (memory : Memory) (thread : ℕ) (call : Call)
    → KeepsTables limits.notes me (memory_rank limits me call) posts (posts_effect limits me posts thread call) memory (memory_effect limits posts brought memory call)
done-tables limits me posts brought memory thread call = go (row_of call).posting refl
  where
    go : (o : Option Posting) → (row_of call).posting ≡ o → KeepsTables limits.notes me (memory_rank limits me call) posts (posts_effect limits me posts thread call) memory (memory_effect limits posts brought memory call)
    go None none = rw none (plain-tables limits me posts brought memory thread call)
    go (Some to) post = rw (post, post-leaves limits posts brought memory call to post) (inl (with_post-own posts to.queue to.rank (requested_kinds limits me posts call), same-layout memory))

pub called-tables : (limits : Limits) (me : ℕ) (posts : Posts) (brought : Option Message) (memory : Memory) (thread : ℕ) (call : Call) (reply : Reply)
    → KeepsTables limits.notes me (memory_rank limits me call) posts (posts_after limits me posts thread call reply) memory (memory_after limits posts brought memory call reply)
called-tables limits me posts brought memory thread call reply = go (is_idle reply) refl (done-tables limits me posts brought memory thread call)
  where
    go : (b : Bool) → is_idle reply ≡ b → KeepsTables limits.notes me (memory_rank limits me call) posts (posts_effect limits me posts thread call) memory (memory_effect limits posts brought memory call)
        → KeepsTables limits.notes me (memory_rank limits me call) posts (posts_after limits me posts thread call reply) memory (memory_after limits posts brought memory call reply)
    go true idle done = rw idle (inl (refl, same-layout memory))
    go false awake done = rw awake done

-- What a rank knows when it is told a segment.

known-registered : (tables : List Tables) (known : List (List (Option Extent))) (me : ℕ) (mine : Tables) (seg : ℕ) → slice_get tables me ≡ Some mine → AreMade mine → Knows tables known
    → Knows tables (changed_at known me (λ table. slice_set table seg (extent_in mine.own seg)))
known-registered tables known me mine seg here made knows rank table theirs hk ht segment x at =
    by-rank (me == rank) refl (slice_get known rank) refl (sym (changed_at-get known me rank (λ t. slice_set t seg (extent_in mine.own seg))) ∙ hk)
  where
    in-table : (t : List (Option Extent)) → slice_get known rank ≡ Some t → me ≡ rank → ((segment ≡ seg) × (extent_in mine.own seg ≡ Some x)) ⊎ (extent_in t segment ≡ Some x)
        → (x.generation < next_generation theirs.next segment) × ((y : Extent) → extent_in theirs.own segment ≡ Some y → y.generation ≡ x.generation → y.size ≡ x.size)
    in-table t kt same (inr was) = knows rank t theirs kt ht segment x was
    in-table t kt same (inl is) =
        let owner : mine ≡ theirs = (let some : ◌≡◌ {A = Option Tables} (Some mine) (Some theirs) = sym here ∙ rw same ht in cc) in
        let own : extent_in theirs.own segment ≡ Some x = rw (sym owner, is.0) is.1 in (
          rw (sym owner) (made segment x (rw is.0 is.1)),
          λ y there generation. (let some : ◌≡◌ {A = Option Extent} (Some y) (Some x) = sym there ∙ own in ap (λ (e : Extent). e.size) (let one : y ≡ x = cc in one)),
        )

    by-rank : (b : Bool) → (me == rank) ≡ b → (o : Option (List (Option Extent))) → slice_get known rank ≡ o
        → (if me == rank then option_map (λ (t : List (Option Extent)). slice_set t seg (extent_in mine.own seg)) (slice_get known rank) else slice_get known rank) ≡ Some table
        → (x.generation < next_generation theirs.next segment) × ((y : Extent) → extent_in theirs.own segment ≡ Some y → y.generation ≡ x.generation → y.size ≡ x.size)
    by-rank false is o kt h = knows rank table theirs (rw is at h) ht segment x at
    by-rank true is None kt h = absurd (let none : ◌≡◌ {A = Option (List (Option Extent))} None (Some table) = rw (is, kt) at h in let no : ⊥ = cc in no)
    by-rank true is (Some t) kt h =
        let some : ◌≡◌ {A = Option (List (Option Extent))} (Some (slice_set t seg (extent_in mine.own seg))) (Some table) = rw (is, kt) at h in
        let new : slice_set t seg (extent_in mine.own seg) ≡ table = cc in
        in-table t kt (eqb-true me rank is) (extent-set t seg (extent_in mine.own seg) segment x (rw new at))

-- what ranks know when one of them is told a segment
pub registered-knows : (tables : List Tables) (ranks me : ℕ) (p : Posts) (call : Call) (reply : Reply) (all : List Posts) → slice_get tables me ≡ Some (tables_of p) → AreMade (tables_of p)
    → ((r : ℕ) (x : Posts) → slice_get all r ≡ Some x → Knows tables x.segments.known) → (r : ℕ) (x : Posts) → slice_get (registering ranks me p call reply all) r ≡ Some x → Knows tables x.segments.known
registered-knows tables ranks me p call reply all here made know r x h =
    registered-cases ranks me p call reply
    (λ same. know r x (rw (same all) at h))
    (λ x' is awake other same.
    by-rank x'.seg x'.rank (x'.rank == r) refl (slice_get all r) refl (sym (ap (λ (xs : List Posts). slice_get xs r) (same all) ∙ changed_at-get all x'.rank r (with_known me x'.seg (extent_in p.segments.own x'.seg))) ∙ h))
  where
    by-rank : (seg rank : ℕ) (b : Bool) → (rank == r) ≡ b → (o : Option Posts) → slice_get all r ≡ o
        → (if rank == r then option_map (with_known me seg (extent_in p.segments.own seg)) (slice_get all r) else slice_get all r) ≡ Some x → Knows tables x.segments.known
    by-rank seg rank false is o at h = know r x (rw is at h)
    by-rank seg rank true is None at h = absurd (let none : ◌≡◌ {A = Option Posts} None (Some x) = rw (is, at) at h in let no : ⊥ = cc in no)
    by-rank seg rank true is (Some y) at h =
        let some : ◌≡◌ {A = Option Posts} (Some (with_known me seg (extent_in p.segments.own seg) y)) (Some x) = rw (is, at) at h in
        let new : with_known me seg (extent_in p.segments.own seg) y ≡ x = cc in
        rw (sym new) (known-registered tables y.segments.known me (tables_of p) seg here made (know r y at))
