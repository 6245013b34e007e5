-- What the calls of a rank on its own memory, and a wait, answer and leave.
use Rattle.std.proofs.Common.{◌≡◌, ℕ, zero, suc, ◌+◌, Bool, true, false, nat_lt, List, [], ◌∷◌, replicate, Option, None, Some, Ok, refl, sym, ap, ◌∙◌, subst, arith, if◌then◌else◌}
use Rattle.std.specs.List.{slice_get, slice_set, slice_index, list_any}
use Rattle.std.specs.Option.{option_map, unwrap_or}
use Rattle.std.proofs.lemmas.Bool.{ltb-true}
use Rattle.gaspi_types.specs.CallRows.{row_of}
use Rattle.gaspi_types.specs.Lanes.{has_awaited}
use Rattle.gaspi_types.specs.Replies.{is_idle}
use Rattle.gaspi_types.specs.SegmentBytes.{range_of}
use Rattle.gaspi_types.specs.SegmentTables.{extent_in, own_range_checks, alloc_checks}
use Rattle.gaspi_types.specs.Slots.{is_slot_range, first_set}
use Rattle.gaspi_types.specs.Footprints.{footprint_of}
use Rattle.gaspi_types.specs.declared.calls.Call.{Call}
use Rattle.gaspi_types.specs.declared.calls.Call.TheVariants as calls
use Rattle.gaspi_types.specs.declared.calls.segments.Alloc as alloc
use Rattle.gaspi_types.specs.declared.calls.segments.Delete as delete
use Rattle.gaspi_types.specs.declared.calls.memory.Load as load
use Rattle.gaspi_types.specs.declared.calls.queues.Wait as wait
use Rattle.gaspi_types.specs.declared.calls.notifications.Waitsome as waitsome
use Rattle.gaspi_types.specs.declared.calls.notifications.Reset as reset
use Rattle.gaspi_types.specs.declared.segments.Extent.{Extent}
use Rattle.gaspi_types.specs.declared.events.Event.TheVariants.{Called}
use Rattle.gaspi_types.specs.declared.replies.Reply.{Reply}
use Rattle.gaspi_types.specs.declared.replies.Reply.TheVariants as replies
use Rattle.gaspi_types.specs.declared.shapes.CallerId.{CallerId}
use Rattle.gaspi_types.specs.declared.shapes.Limits.{Limits}
use Rattle.gaspi_types.specs.declared.footprints.DeclaredFootprint.{DeclaredFootprint}
use Rattle.gaspi_types.specs.declared.footprints.DeclaredFootprint.TheVariants as touches
use Rattle.gaspi_model.specs.State.{segment_at}
use Rattle.gaspi_model.specs.Memories.{bytes_of, slots_of, with_slots}
use Rattle.gaspi_types.specs.Segments.{bytes_in, extent_of}
use Rattle.gaspi_model.specs.Posting.{counted}
use Rattle.gaspi_model.specs.Calls.{call_result, posts_after, memory_after}
use Rattle.gaspi_model.specs.MemoryCalls.{load_result}
use Rattle.gaspi_model.specs.NotificationCalls.{waitsome_result, reset_result}
use Rattle.gaspi_model.specs.QueueCalls.{wait_result}
use Rattle.gaspi_model.specs.SegmentCalls.{alloc_result, delete_result}
use Rattle.gaspi_types.specs.Queues.{user_of}
use Rattle.gaspi_model.specs.Step.{step, call_message}
use Rattle.gaspi_model.specs.Sound.{IsSound}
use Rattle.gaspi_model.specs.Changes.{IsOnlyCounted, IsRead, IsReset, IsWaitDone, IsAllocDone, IsDeleteDone, AreSlotsRead}
use Rattle.gaspi_model.specs.declared.states.Posts.{Posts}
use Rattle.gaspi_types.specs.declared.entries.Queue.{Queue}
use Rattle.gaspi_types.specs.declared.segments.Segment.{Segment}
use Rattle.gaspi_model.specs.declared.states.Memory.{Memory}
use Rattle.gaspi_model.specs.declared.states.State.{State}
use Rattle.gaspi_model.specs.Transfers.{PostsAndMemory}
use Rattle.gaspi_types.proofs.Chains.{bind_then, check_then, found_then, absent_then, same_Ok}
use Rattle.gaspi_types.proofs.Written.{segment-behind, extent-there, slot-written}
use Rattle.gaspi_model.proofs.FoundReplies.{found-reply}
use Rattle.gaspi_model.proofs.Changed.Puts.{slots-there}
use Rattle.gaspi_model.proofs.Same.{same_reply-same}
use Rattle.gaspi_types.proofs.Items.{set-there, there-within, changed_at-found}
use Rattle.gaspi_model.proofs.Sound.Registered.{registering, registered_at}
use Rattle.gaspi_model.proofs.OnPostsAndMemory.{memory_place, memory_rank, sound-called}

-- a call on the own memory that was answered neither with a refusal nor with a timeout
pub record IsOwnWorked (s t : State) (c : CallerId) (call : Call) (reply : Reply) (posts : Posts) (memory : Memory) : Type 0 where
  pub posts_there : slice_get s.posts c.rank ≡ Some posts
  pub memory_there : slice_get s.memories c.rank ≡ Some memory
  pub finds : call_result s.limits c.rank posts memory call ≡ Ok (Some reply)
  pub leaves : t ≡ record s {
    posts = slice_set s.posts c.rank (posts_after s.limits c.rank posts c.thread call reply);
    memories = slice_set s.memories c.rank (memory_after s.limits posts (call_message s c.rank call) memory call reply);
  }

pub own-on_memory : (s t : State) (c : CallerId) (call : Call) (reply : Reply) → (row_of call).group ≡ None → (row_of call).footprint ≡ touches.OwnMemory → is_idle reply ≡ false → IsSound s → step s (Called c call reply) ≡ Ok t
    → (posts : Posts) × (memory : Memory) × IsOwnWorked s t c call reply posts memory
own-on_memory s t c call reply plain own awake sound h =
    let made = sound-called s t c call reply plain sound h in
    let m = made.3 in
    let worked : memory_rank s.limits c.rank call ≡ c.rank = ap (λ (declaration : DeclaredFootprint). memory_place (footprint_of s.limits.ranks c.rank declaration) c.rank) own in
    let same : registering s.limits.ranks c.rank made.0 call reply (slice_set s.posts c.rank made.2.posts) ≡ slice_set s.posts c.rank made.2.posts =
    ap (λ (declaration : DeclaredFootprint). registered_at (footprint_of s.limits.ranks c.rank declaration) c.rank made.0 call reply (slice_set s.posts c.rank made.2.posts)) own in (
      made.0,
      made.1,
      record {
        posts_there = m.posts_there;
        memory_there = ap (slice_get s.memories) (sym worked) ∙ m.memory_there;
        finds = found-reply s.limits c.rank made.0 made.1 c.thread call reply (same_reply-same _ _ m.is.answered) awake;
        leaves = m.leaves
            ∙ ap (λ (x : List Posts). record s { posts = x; memories = slice_set s.memories (memory_rank s.limits c.rank call) made.2.memory }) same
            ∙ ap (λ (k : ℕ). record s { posts = slice_set s.posts c.rank made.2.posts; memories = slice_set s.memories k made.2.memory }) worked
            ∙ ap (λ (w : PostsAndMemory). record s { posts = slice_set s.posts c.rank w.posts; memories = slice_set s.memories c.rank w.memory }) m.is.leaves;
      },
    )

-- where the memory is as it was
only-read : (s t : State) (me : ℕ) (posts : Posts) (memory : Memory) → slice_get s.posts me ≡ Some posts → slice_get s.memories me ≡ Some memory
    → t ≡ record s { posts = slice_set s.posts me (counted posts); memories = slice_set s.memories me memory } → IsOnlyCounted s t me
only-read s t me posts memory hp hm leaves = record {
  posts = posts;
  there = hp;
  after = leaves ∙ ap (λ (x : List Memory). record s { posts = slice_set s.posts me (counted posts); memories = x }) (set-there s.memories me memory hm);
}

-- an own segment is there
pub own-there : (s : State) (me : ℕ) (posts : Posts) (memory : Memory) (seg : ℕ) (mine : Extent) → IsSound s → slice_get s.posts me ≡ Some posts → slice_get s.memories me ≡ Some memory
    → extent_in posts.segments.own seg ≡ Some mine → (x : Segment) × (segment_at memory seg ≡ Some x) × (extent_of x ≡ mine)
own-there s me posts memory seg mine sound hp hm there =
    segment-behind memory.segments seg mine (subst (λ (own : List (Option Extent)). extent_in own seg ≡ Some mine) (sound.coherent.own me posts memory hp hm) there)

same-bytes : (a b : List ℕ) → ◌≡◌ {A = Option Reply} (Some (replies.Bytes a)) (Some (replies.Bytes b)) → b ≡ a
same-bytes a b h = cc

pub same-value : (a b : ℕ) → ◌≡◌ {A = Option Reply} (Some (replies.Value a)) (Some (replies.Value b)) → a ≡ b
same-value a b h = cc

load-found : (posts : Posts) (memory : Memory) (call : load.Load) (bytes : List ℕ) → load_result posts memory call ≡ Ok (Some (replies.Bytes bytes))
    → (mine : Extent) × (extent_in posts.segments.own call.seg ≡ Some mine) × (bytes ≡ range_of (bytes_of memory call.seg) call.offset call.size)
load-found posts memory call bytes h =
    bind_then (own_range_checks posts.segments.own call.seg call.offset call.size) _ (Some (replies.Bytes bytes)) h (λ fits hc h1.
    found_then (extent_in posts.segments.own call.seg) _ _ fits hc (λ mine hm h2. (mine, hm, same-bytes _ bytes (same_Ok _ _ h1))))

pub load-read : (s t : State) (c : CallerId) (call : load.Load) (bytes : List ℕ) → IsSound s → step s (Called c (calls.Load call) (replies.Bytes bytes)) ≡ Ok t
    → IsRead s t c.rank call.seg (λ x. bytes ≡ range_of x.bytes call.offset call.size)
load-read s t c call bytes sound h =
    let made = own-on_memory s t c (calls.Load call) (replies.Bytes bytes) refl refl refl sound h in
    let m = made.2 in
    let found = load-found made.0 made.1 call bytes m.finds in
    let item = own-there s c.rank made.0 made.1 call.seg found.0 sound m.posts_there m.memory_there found.1 in (
      record {
        memory = made.1;
        memory_there = m.memory_there;
        item = item.0;
        item_there = item.1;
        answers = found.2 ∙ ap (λ (b : List ℕ). range_of b call.offset call.size) (ap bytes_in item.1);
      },
      only-read s t c.rank made.0 made.1 m.posts_there m.memory_there m.leaves,
    )

some-id : (o : Option ℕ) (n : ℕ) → ◌≡◌ {A = Option Reply} (option_map replies.Id o) (Some (replies.Id n)) → o ≡ Some n
some-id None n h = absurd (let no : ⊥ = cc in no)
some-id (Some k) n h = (let is : k ≡ n = cc in ap (λ (x : ℕ). Some x) is)

waitsome-found : (limits : Limits) (posts : Posts) (memory : Memory) (call : waitsome.Waitsome) (n : ℕ) → waitsome_result limits posts memory call ≡ Ok (Some (replies.Id n))
    → (mine : Extent) × (extent_in posts.segments.own call.seg ≡ Some mine) × (first_set (slots_of memory call.seg) call.begin call.num ≡ Some n)
waitsome-found limits posts memory call n h =
    found_then (extent_in posts.segments.own call.seg) _ _ (Some (replies.Id n)) h (λ mine hm h1.
    check_then (is_slot_range call.begin call.num limits.notes) _ _ (Some (replies.Id n)) h1 (λ noted h2.
    (mine, hm, some-id (first_set (slots_of memory call.seg) call.begin call.num) n (same_Ok _ _ h2))))

pub slot-read : (s t : State) (c : CallerId) (call : waitsome.Waitsome) (n : ℕ) → IsSound s → step s (Called c (calls.Waitsome call) (replies.Id n)) ≡ Ok t
    → AreSlotsRead s t c.rank call.seg (λ slots. first_set slots call.begin call.num ≡ Some n)
slot-read s t c call n sound h =
    let made = own-on_memory s t c (calls.Waitsome call) (replies.Id n) refl refl refl sound h in
    let m = made.2 in
    let found = waitsome-found s.limits made.0 made.1 call n m.finds in
    let item = own-there s c.rank made.0 made.1 call.seg found.0 sound m.posts_there m.memory_there found.1 in
    let slots = slots-there made.1 call.seg s.limits.notes item.0 (sound.coherent.slots c.rank made.1 m.memory_there) item.1 in (
      record {
        memory = made.1;
        memory_there = m.memory_there;
        slots = slots.0;
        slots_there = slots.1;
        answers = ap (λ (o : Option (List ℕ)). first_set (unwrap_or o []) call.begin call.num) (sym slots.1) ∙ found.2;
      },
      only-read s t c.rank made.0 made.1 m.posts_there m.memory_there m.leaves,
    )

record IsSlotFound (limits : Limits) (posts : Posts) (memory : Memory) (call : reset.Reset) (value : ℕ) : Type 0 where
  mine : Extent
  there : extent_in posts.segments.own call.seg ≡ Some mine
  noted : nat_lt call.note limits.notes ≡ true
  value_is : slice_index (slots_of memory call.seg) call.note ≡ value

reset-found : (limits : Limits) (posts : Posts) (memory : Memory) (call : reset.Reset) (value : ℕ) → reset_result limits posts memory call ≡ Ok (Some (replies.Value value))
    → IsSlotFound limits posts memory call value
reset-found limits posts memory call value h =
    found_then (extent_in posts.segments.own call.seg) _ _ (Some (replies.Value value)) h (λ mine hm h1.
    check_then (nat_lt call.note limits.notes) _ _ (Some (replies.Value value)) h1 (λ noted h2.
    record { mine = mine; there = hm; noted = noted; value_is = same-value _ value (same_Ok _ _ h2) }))

pub index-there : (xs : List ℕ) (i x : ℕ) → slice_get xs i ≡ Some x → slice_index xs i ≡ x
index-there [] i x h = absurd (let no : ⊥ = cc in no)
index-there (y ∷ ys) zero x h = (let is : y ≡ x = cc in is)
index-there (y ∷ ys) (suc i) x h = index-there ys i x h

pub slot-reset : (s t : State) (c : CallerId) (call : reset.Reset) (value : ℕ) → IsSound s → step s (Called c (calls.Reset call) (replies.Value value)) ≡ Ok t
    → IsReset s t c.rank call.seg call.note value
slot-reset s t c call value sound h =
    let made = own-on_memory s t c (calls.Reset call) (replies.Value value) refl refl refl sound h in
    let m = made.2 in
    let found = reset-found s.limits made.0 made.1 call value m.finds in
    let item = own-there s c.rank made.0 made.1 call.seg found.mine sound m.posts_there m.memory_there found.there in
    let slots = slots-there made.1 call.seg s.limits.notes item.0 (sound.coherent.slots c.rank made.1 m.memory_there) item.1 in
    let are : slots_of made.1 call.seg ≡ slots.0 = ap (λ (o : Option (List ℕ)). unwrap_or o []) slots.1 in
    let within = ltb-true call.note s.limits.notes found.noted in
    let at = there-within slots.0 call.note (let many = slots.2 in omega arith) in
    record {
      posts = made.0;
      posts_there = m.posts_there;
      old = made.1;
      new = with_slots made.1 call.seg (slice_set (slots_of made.1 call.seg) call.note 0);
      old_there = m.memory_there;
      after = m.leaves;
      kept = refl;
      answered = ap (λ (o : Option (List ℕ)). slice_get (unwrap_or o []) call.note) slots.1
          ∙ at.1
          ∙ ap (λ (x : ℕ). Some x) (sym (index-there slots.0 call.note at.0 at.1) ∙ ap (λ (x : List ℕ). slice_index x call.note) (sym are) ∙ found.value_is);
      slots = slot-written made.1.slots call.seg call.note 0 slots.0 slots.1 (let many = slots.2 in omega arith);
    }

record IsWaitFound (posts : Posts) (call : wait.Wait) : Type 0 where
  q : Queue
  there : slice_get posts.queues call.queue ≡ Some q
  whole : q.broken ≡ None
  taken : list_any has_awaited q.lanes ≡ false

none-posted : (b : Bool) → ◌≡◌ {A = Option Reply} (if b then None else Some replies.Done) (Some replies.Done) → b ≡ false
none-posted true h = absurd (let no : ⊥ = cc in no)
none-posted false h = refl

wait-found : (posts : Posts) (call : wait.Wait) → wait_result posts call ≡ Ok (Some replies.Done) → IsWaitFound posts call
wait-found posts call h =
    found_then (slice_get posts.queues call.queue) _ _ (Some replies.Done) h (λ q there h1.
    absent_then q.broken _ _ (Some replies.Done) h1 (λ whole h2.
    record { q = q; there = there; whole = whole; taken = none-posted (list_any has_awaited q.lanes) (same_Ok _ _ h2) }))

pub waited : (s t : State) (c : CallerId) (call : wait.Wait) → IsSound s → step s (Called c (calls.Wait call) replies.Done) ≡ Ok t → IsWaitDone s t c.rank call.queue
waited s t c call sound h =
    let made = sound-called s t c (calls.Wait call) replies.Done refl sound h in
    let m = made.3 in
    let found = wait-found made.0 call (found-reply s.limits c.rank made.0 made.1 c.thread (calls.Wait call) replies.Done (same_reply-same _ _ m.is.answered) refl) in
    let kept : made.2.memory ≡ made.1 = rw m.is.leaves refl in
    let after : made.2.posts ≡ record (counted made.0) { queues = slice_set made.0.queues call.queue (record found.q { open_count = 0 }) } =
    ap (λ (w : PostsAndMemory). w.posts) m.is.leaves
    ∙ ap (λ (x : List Queue). record (counted made.0) { queues = x }) (changed_at-found made.0.queues call.queue found.q (λ (q : Queue). record q { open_count = 0 }) found.there) in
    let place = memory_rank s.limits c.rank (calls.Wait call) in
    let memories : slice_set s.memories place made.2.memory ≡ s.memories = ap (slice_set s.memories place) kept ∙ set-there s.memories place made.1 m.memory_there in
    record {
      posts = made.0;
      q = found.q;
      posts_there = m.posts_there;
      queue_there = found.there;
      whole = found.whole;
      taken = found.taken;
      after = m.leaves
          ∙ ap (λ (x : List Memory). record s { posts = slice_set s.posts c.rank made.2.posts; memories = x }) memories
          ∙ ap (λ (p : Posts). record s { posts = slice_set s.posts c.rank p }) after;
    }

pub alloc-found : (posts : Posts) (call : alloc.Alloc) → alloc_result posts call ≡ Ok (Some replies.Done) → (nat_lt call.seg 32 ≡ true) × (extent_in posts.segments.own call.seg ≡ None)
alloc-found posts call h =
    bind_then (alloc_checks posts.segments.own call.seg call.size) _ (Some replies.Done) h (λ fits hc h1.
    check_then (nat_lt call.seg 32) _ _ fits hc (λ numbered h2.
    absent_then (extent_in posts.segments.own call.seg) _ _ fits h2 (λ free h3. (numbered, free))))

-- a segment that a rank has not is not in its memory
pub segment-absent : (s : State) (me : ℕ) (posts : Posts) (memory : Memory) (seg : ℕ) → IsSound s → slice_get s.posts me ≡ Some posts → slice_get s.memories me ≡ Some memory → nat_lt seg 32 ≡ true
    → extent_in posts.segments.own seg ≡ None → segment_at memory seg ≡ None
segment-absent s me posts memory seg sound hp hm numbered absent = go (segment_at memory seg) refl
  where
    go : (o : Option Segment) → segment_at memory seg ≡ o → segment_at memory seg ≡ None
    go None at = at
    go (Some x) at =
        let here : extent_in posts.segments.own seg ≡ Some (extent_of x) = rw (sound.coherent.own me posts memory hp hm) (extent-there memory.segments seg x numbered at) in
        absurd (let both : ◌≡◌ {A = Option Extent} None (Some (extent_of x)) = sym absent ∙ here in let no : ⊥ = cc in no)

pub segment-made : (s t : State) (c : CallerId) (call : alloc.Alloc) → IsSound s → step s (Called c (calls.Alloc call) replies.Done) ≡ Ok t → IsAllocDone s t c.rank call.seg call.size
segment-made s t c call sound h =
    let made = own-on_memory s t c (calls.Alloc call) replies.Done refl refl refl sound h in
    let m = made.2 in
    let found = alloc-found made.0 call m.finds in
    let less = ltb-true call.seg 32 found.0 in
    let next = there-within made.0.segments.next_generations call.seg (let many = (sound.posts c.rank made.0 m.posts_there).numbered in omega arith) in
    record {
      posts = made.0;
      memory = made.1;
      generation = next.0;
      posts_there = m.posts_there;
      memory_there = m.memory_there;
      next = next.1;
      free = segment-absent s c.rank made.0 made.1 call.seg sound m.posts_there m.memory_there found.0 found.1;
      after = m.leaves ∙ ap (λ (n : ℕ). record s {
        posts = slice_set s.posts c.rank (record (counted made.0) {
          segments = record made.0.segments {
            own = slice_set made.0.segments.own call.seg (Some (record { generation = n; size = call.size }));
            next_generations = slice_set made.0.segments.next_generations call.seg (n + 1);
          };
        });
        memories = slice_set s.memories c.rank (record made.1 {
          segments = slice_set made.1.segments call.seg (Some (record { generation = n; bytes = replicate call.size 0 }));
          slots = slice_set made.1.slots call.seg (Some (replicate s.limits.notes 0));
        });
      }) (index-there made.0.segments.next_generations call.seg next.0 next.1);
    }

delete-found : (posts : Posts) (call : delete.Delete) → delete_result posts call ≡ Ok (Some replies.Done)
    → (mine : Extent) × (extent_in posts.segments.own call.seg ≡ Some mine) × (user_of posts.queues call.seg ≡ None)
delete-found posts call h =
    found_then (extent_in posts.segments.own call.seg) _ _ (Some replies.Done) h (λ mine there h1.
    absent_then (user_of posts.queues call.seg) _ _ (Some replies.Done) h1 (λ unused h2. (mine, there, unused)))

pub segment-gone : (s t : State) (c : CallerId) (call : delete.Delete) → IsSound s → step s (Called c (calls.Delete call) replies.Done) ≡ Ok t → IsDeleteDone s t c.rank call.seg
segment-gone s t c call sound h =
    let made = own-on_memory s t c (calls.Delete call) replies.Done refl refl refl sound h in
    let m = made.2 in
    let found = delete-found made.0 call m.finds in
    let item = own-there s c.rank made.0 made.1 call.seg found.0 sound m.posts_there m.memory_there found.1 in
    record {
      posts = made.0;
      memory = made.1;
      old = item.0;
      posts_there = m.posts_there;
      memory_there = m.memory_there;
      old_there = item.1;
      unused = found.2;
      after = m.leaves;
    }
