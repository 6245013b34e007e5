-- What a store and an atomic change.
use Rattle.std.proofs.Common.{◌≡◌, ◌≢◌, ℕ, ◌+◌, ◌%◌, ◌^◌, ◌<◌, ◌≤◌, Bool, true, false, ◌==◌, nat_lt, List, length, Option, None, Some, Ok, refl, sym, ap, ◌∙◌, subst, arith, if◌then◌else◌}
use Rattle.std.specs.List.{slice_get, slice_set}
use Rattle.std.specs.Option.{option_map}
use Rattle.std.proofs.lemmas.Bool.{leb-true, ltb-true, eq-eqb, eqb-true}
use Rattle.byteorder.specs.Endian.{little_bytes}
use Rattle.byteorder.specs.Numbers.{length-bytes_low_first}
use Rattle.gaspi_types.specs.Checks.{check}
use Rattle.gaspi_types.specs.SegmentBytes.{is_transfer_size, is_within, with_range}
use Rattle.gaspi_types.specs.SegmentTables.{extent_in, known_extent, own_range_checks}
use Rattle.gaspi_types.specs.SegmentWords.{word_checks, word_at, with_swap}
use Rattle.gaspi_types.specs.declared.segments.Extent.{Extent}
use Rattle.gaspi_types.specs.declared.shapes.Limits.{Limits}
use Rattle.gaspi_types.specs.declared.shapes.CallerId.{CallerId}
use Rattle.gaspi_types.specs.declared.calls.Call.{Call}
use Rattle.gaspi_types.specs.declared.calls.Call.TheVariants.{Store, FetchAdd, CompareSwap}
use Rattle.gaspi_types.specs.declared.calls.memory.Store as store
use Rattle.gaspi_types.specs.declared.calls.atomics.FetchAdd as fetch_add
use Rattle.gaspi_types.specs.declared.calls.atomics.CompareSwap as compare_swap
use Rattle.gaspi_types.specs.CallRows.{row_of}
use Rattle.gaspi_types.specs.Footprints.{footprint_of}
use Rattle.gaspi_types.specs.declared.footprints.DeclaredFootprint.{DeclaredFootprint}
use Rattle.gaspi_types.specs.declared.footprints.DeclaredFootprint.TheVariants as touches
use Rattle.gaspi_types.specs.declared.footprints.Footprint.TheVariants.{Alone, OwnMemory, PeerMemory}
use Rattle.gaspi_types.specs.declared.replies.Reply.{Reply}
use Rattle.gaspi_types.specs.declared.replies.Reply.TheVariants as replies
use Rattle.gaspi_types.specs.declared.events.Event.TheVariants.{Called}
use Rattle.gaspi_model.specs.State.{segment_at}
use Rattle.gaspi_model.specs.Memories.{bytes_of, with_bytes}
use Rattle.gaspi_types.specs.Segments.{IsSegmentWritten, is_generation, bytes_in, extent_of}
use Rattle.gaspi_model.specs.Posting.{counted}
use Rattle.gaspi_model.specs.MemoryCalls.{store_result}
use Rattle.gaspi_model.specs.AtomicCalls.{word_result}
use Rattle.gaspi_model.specs.Step.{step}
use Rattle.gaspi_model.specs.Transfers.{PostsAndMemory}
use Rattle.gaspi_model.specs.Coherence.{tables_of}
use Rattle.gaspi_model.specs.Sound.{IsSound}
use Rattle.gaspi_model.specs.Changes.{IsOnlyCounted, IsWritten, IsAnswered}
use Rattle.gaspi_model.specs.declared.states.Posts.{Posts}
use Rattle.gaspi_types.specs.declared.segments.Segment.{Segment}
use Rattle.gaspi_model.specs.declared.states.Memory.{Memory}
use Rattle.gaspi_model.specs.declared.states.State.{State}
use Rattle.gaspi_types.proofs.Chains.{bind_then, check_then, found_then, same_Ok}
use Rattle.gaspi_model.proofs.Same.{same_reply-same}
use Rattle.gaspi_model.proofs.Made.{memories_at, memories-same, call-footprint, step-called}
use Rattle.gaspi_model.proofs.OnPostsAndMemory.{IsCalledThere, memory_place, memory_rank, sound-called}
use Rattle.gaspi_model.proofs.Sound.Registered.{registering, registered_at}
use Rattle.gaspi_types.proofs.Items.{past-none, joined, set-there}
use Rattle.gaspi_types.proofs.Extents.{extent-at}
use Rattle.gaspi_model.proofs.Sound.FittingEntries.{known-cases}
use Rattle.gaspi_types.proofs.Written.{segment-behind, extent-there, segment-written, there-in-generation}
use Rattle.gaspi_model.proofs.Sound.CoherentSteps.{mine-there}
use Rattle.gaspi_model.proofs.FoundReplies.{found-reply}

-- a call that replaces a range of a segment's bytes
written : (s t : State) (c : CallerId) (call : Call) (reply : Reply) (rank seg offset : ℕ) (new : List ℕ) (posts : Posts) (memory memory' : Memory) (old : Segment)
    → IsCalledThere s t c call reply posts memory (record { posts = counted posts; memory = memory' }) → memory_rank s.limits c.rank call ≡ rank → ((all : List Posts) → registering s.limits.ranks c.rank posts call reply all ≡ all)
    → memory' ≡ with_bytes memory seg (with_range (bytes_of memory seg) offset new) → segment_at memory seg ≡ Some old → offset + length new ≤ length old.bytes → IsWritten s t c.rank rank seg offset new
written s t c call reply rank seg offset new posts memory memory' old m worked same leaves there within =
    record {
      posts = posts;
      posts_there = m.posts_there;
      old = memory;
      new = memory';
      old_there = ap (slice_get s.memories) (sym worked) ∙ m.memory_there;
      after = m.leaves
          ∙ ap (λ (x : List Posts). record s { posts = x; memories = slice_set s.memories (memory_rank s.limits c.rank call) memory' }) (same (slice_set s.posts c.rank (counted posts)))
          ∙ ap (λ (k : ℕ). record s { posts = slice_set s.posts c.rank (counted posts); memories = slice_set s.memories k memory' }) worked;
      kept = subst (λ (x : Memory). x ≡ record memory { segments = x.segments }) (sym leaves) refl;
      segments = subst (λ (x : Memory). IsSegmentWritten memory.segments x.segments seg offset new) (sym leaves) (segment-written memory.segments seg offset new old there within);
    }

passed : {E : Type 0} (b : Bool) (e : E) (y : Unit {0}) → check b e ≡ Ok y → b ≡ true
passed true e y h = refl
passed false e y h = absurd (let no : ⊥ = cc in no)

-- a store that is done lies within a segment of its caller
record IsOwnRange (own : List (Option Extent)) (seg offset size : ℕ) : Type 0 where
  mine : Extent
  there : extent_in own seg ≡ Some mine
  within : is_within offset size mine.size ≡ true

store-found : (posts : Posts) (call : store.Store) (reply : Reply) → store_result posts call ≡ Ok (Some reply) → IsOwnRange posts.segments.own call.seg call.offset (length call.bytes)
store-found posts call reply h =
    bind_then (own_range_checks posts.segments.own call.seg call.offset (length call.bytes)) _ (Some reply) h (λ fits hc h1.
    found_then (extent_in posts.segments.own call.seg) _ _ fits hc (λ mine hm h2.
    check_then (is_transfer_size (length call.bytes)) _ _ fits h2 (λ sized h3.
    record { mine = mine; there = hm; within = passed (is_within call.offset (length call.bytes) mine.size) _ fits h3 })))

pub store-written : (s t : State) (c : CallerId) (call : store.Store) → IsSound s → step s (Called c (Store call) replies.Done) ≡ Ok t → IsWritten s t c.rank c.rank call.seg call.offset call.bytes
store-written s t c call sound h =
    let made = sound-called s t c (Store call) replies.Done refl sound h in
    let m = made.3 in
    let posts = made.0 in
    let memory = made.1 in
    let finds = found-reply s.limits c.rank posts memory c.thread (Store call) replies.Done (same_reply-same _ _ m.is.answered) refl in
    let found = store-found posts call replies.Done finds in
    let agrees = sound.coherent.own c.rank posts memory m.posts_there m.memory_there in
    let behind = segment-behind memory.segments call.seg found.mine (subst (λ (own : List (Option Extent)). extent_in own call.seg ≡ Some found.mine) agrees found.there) in
    let size : found.mine.size ≡ length behind.0.bytes = ap (λ (x : Extent). x.size) (sym behind.2) in
    let less = leb-true (call.offset + length call.bytes) found.mine.size found.within in
    written s t c (Store call) replies.Done c.rank call.seg call.offset call.bytes posts memory (with_bytes memory call.seg (with_range (bytes_of memory call.seg) call.offset call.bytes)) behind.0
    (rw (← m.is.leaves) m) refl (λ all. refl) refl behind.1 (omega arith)

-- an atomic that is done
record IsWordFound (limits : Limits) (me : ℕ) (posts : Posts) (memory : Memory) (seg offset rank old : ℕ) : Type 0 where
  ranked : nat_lt rank limits.ranks ≡ true
  theirs : Extent
  known : known_extent me posts.segments rank seg ≡ Some theirs
  there : is_generation theirs.generation (segment_at memory seg) ≡ true
  within : is_within offset 8 theirs.size ≡ true
  value : word_at (bytes_of memory seg) offset ≡ old

word-found : (limits : Limits) (me : ℕ) (posts : Posts) (memory : Memory) (seg offset rank old : ℕ) → word_result limits me posts memory seg offset rank ≡ Ok (Some (replies.Value old))
    → IsWordFound limits me posts memory seg offset rank old
word-found limits me posts memory seg offset rank old h =
    check_then (nat_lt rank limits.ranks) _ _ (Some (replies.Value old)) h (λ ranked h1.
    found_then (known_extent me posts.segments rank seg) _ _ (Some (replies.Value old)) h1 (λ theirs known h2.
    check_then (is_generation theirs.generation (segment_at memory seg)) _ _ (Some (replies.Value old)) h2 (λ there h3.
    bind_then (word_checks theirs.size offset) _ (Some (replies.Value old)) h3 (λ fits hc h4.
    check_then (is_within offset 8 theirs.size) _ _ fits hc (λ within h5.
    record { ranked = ranked; theirs = theirs; known = known; there = there; within = within; value = same-value (word_at (bytes_of memory seg) offset) (same_Ok _ _ h4) })))))
  where
    same-value : (n : ℕ) → ◌≡◌ {A = Option Reply} (Some (replies.Value n)) (Some (replies.Value old)) → n ≡ old
    same-value n h = cc

-- the memory that it works on is that of the rank that it names
on_memory-there : (ranks rank me : ℕ) → nat_lt rank ranks ≡ true → memory_place (footprint_of ranks me (touches.MemoryOf rank)) me ≡ rank
on_memory-there ranks rank me less = go (rank == me) refl
  where
    go : (b : Bool) → (rank == me) ≡ b → memory_place (footprint_of ranks me (touches.MemoryOf rank)) me ≡ rank
    go true is = rw is (sym (eqb-true rank me is))
    go false is = rw (is, less) refl

-- and it tells nothing
tells-none : (ranks rank me : ℕ) (p : Posts) (call : Call) (reply : Reply) (all : List Posts) → registered_at (footprint_of ranks me (touches.MemoryOf rank)) me p call reply all ≡ all
tells-none ranks rank me p call reply all = go (rank == me) (nat_lt rank ranks)
  where
    go : (b c : Bool) → registered_at (if b then OwnMemory else (if c then PeerMemory rank else Alone)) me p call reply all ≡ all
    go true c = refl
    go false true = refl
    go false false = refl

-- the size with which the caller knows the segment is its own
word-size : (s : State) (me : ℕ) (posts : Posts) (memory : Memory) (seg rank : ℕ) (theirs : Extent) (old : Segment) → IsSound s → slice_get s.posts me ≡ Some posts → slice_get s.memories rank ≡ Some memory
    → rank < s.limits.ranks → known_extent me posts.segments rank seg ≡ Some theirs → segment_at memory seg ≡ Some old → old.generation ≡ theirs.generation → length old.bytes ≡ theirs.size
word-size s me posts memory seg rank theirs old sound hp hm within known there generation =
    known-cases me posts.segments rank seg theirs known
    (λ same at.
    let agrees = sound.coherent.own me posts memory hp (subst (λ (k : ℕ). slice_get s.memories k ≡ Some memory) same hm) in
    let here : extent_in posts.segments.own seg ≡ Some (extent_of old) = rw agrees (extent-there memory.segments seg old (extent-at posts.segments.own seg theirs at).0 there) in
    let some : ◌≡◌ {A = Option Extent} (Some (extent_of old)) (Some theirs) = sym here ∙ at in
    ap (λ (x : Extent). x.size) (let is : extent_of old ≡ theirs = cc in is))
    (λ table at is. others table at is (slice_get s.posts rank) refl)
  where
    others : (table : List (Option Extent)) → slice_get posts.segments.known rank ≡ Some table → extent_in table seg ≡ Some theirs → (o : Option Posts) → slice_get s.posts rank ≡ o → length old.bytes ≡ theirs.size
    others table at is None hq = absurd (past-none s.posts rank (let ranks = sound.ranks in omega arith) hq)
    others table at is (Some q) hq =
        let agrees = sound.coherent.own rank q memory hq hm in
        let here : extent_in q.segments.own seg ≡ Some (extent_of old) = rw agrees (extent-there memory.segments seg old (extent-at table seg theirs is).0 there) in
        (sound.coherent.known me posts hp rank table (tables_of q) at (mine-there s.posts rank q hq) seg theirs is).1 (extent_of old) here generation

-- an atomic that replaces its word
word-written : (s t : State) (c : CallerId) (call : Call) (seg offset rank old new : ℕ) (posts : Posts) (memory memory' : Memory) → IsSound s
    → IsCalledThere s t c call (replies.Value old) posts memory (record { posts = counted posts; memory = memory' }) → (row_of call).footprint ≡ touches.MemoryOf rank
    → IsWordFound s.limits c.rank posts memory seg offset rank old
    → memory' ≡ with_bytes memory seg (with_range (bytes_of memory seg) offset (little_bytes 8 new)) → IsWritten s t c.rank rank seg offset (little_bytes 8 new)
word-written s t c call seg offset rank old new posts memory memory' sound m touches_rank found leaves =
    let worked : memory_rank s.limits c.rank call ≡ rank =
    ap (λ (declaration : DeclaredFootprint). memory_place (footprint_of s.limits.ranks c.rank declaration) c.rank) touches_rank ∙ on_memory-there s.limits.ranks rank c.rank found.ranked in
    let same : (all : List Posts) → registering s.limits.ranks c.rank posts call (replies.Value old) all ≡ all = (λ all.
    ap (λ (declaration : DeclaredFootprint). registered_at (footprint_of s.limits.ranks c.rank declaration) c.rank posts call (replies.Value old) all) touches_rank
    ∙ tells-none s.limits.ranks rank c.rank posts call (replies.Value old) all) in
    let less = ltb-true rank s.limits.ranks found.ranked in
    let there = there-in-generation memory.segments seg found.theirs.generation found.there in
    let memory_there = ap (slice_get s.memories) (sym worked) ∙ m.memory_there in
    let size = word-size s c.rank posts memory seg rank found.theirs there.0 sound m.posts_there memory_there less found.known there.1 there.2 in
    let within = leb-true (offset + 8) found.theirs.size found.within in
    let eight = length-bytes_low_first 0 8 new in
    written s t c call (replies.Value old) rank seg offset (little_bytes 8 new) posts memory memory' there.0 m worked same leaves there.1 (omega arith)

-- what an atomic answers stands in the word
word-answered : (s t : State) (c : CallerId) (call : Call) (reply : Reply) (seg offset rank old : ℕ) (posts : Posts) (memory : Memory) (after : PostsAndMemory)
    → IsCalledThere s t c call reply posts memory after → (row_of call).footprint ≡ touches.MemoryOf rank → IsWordFound s.limits c.rank posts memory seg offset rank old
    → IsAnswered s rank seg (λ x. word_at x.bytes offset ≡ old)
word-answered s t c call reply seg offset rank old posts memory after m touches_rank found =
    let worked : memory_rank s.limits c.rank call ≡ rank =
    ap (λ (declaration : DeclaredFootprint). memory_place (footprint_of s.limits.ranks c.rank declaration) c.rank) touches_rank ∙ on_memory-there s.limits.ranks rank c.rank found.ranked in
    let there = there-in-generation memory.segments seg found.theirs.generation found.there in
    record {
      memory = memory;
      memory_there = ap (slice_get s.memories) (sym worked) ∙ m.memory_there;
      item = there.0;
      item_there = there.1;
      answers = ap (λ (b : List ℕ). word_at b offset) (sym (ap bytes_in there.1)) ∙ found.value;
    }

pub sum-answered : (s t : State) (c : CallerId) (call : fetch_add.FetchAdd) (old : ℕ) → IsSound s → step s (Called c (FetchAdd call) (replies.Value old)) ≡ Ok t
    → IsAnswered s call.rank call.seg (λ x. word_at x.bytes call.offset ≡ old)
sum-answered s t c call old sound h =
    let made = sound-called s t c (FetchAdd call) (replies.Value old) refl sound h in
    let m = made.3 in
    let found = word-found s.limits c.rank made.0 made.1 call.seg call.offset call.rank old (found-reply s.limits c.rank made.0 made.1 c.thread (FetchAdd call) (replies.Value old) (same_reply-same _ _ m.is.answered) refl) in
    word-answered s t c (FetchAdd call) (replies.Value old) call.seg call.offset call.rank old made.0 made.1 made.2 m refl found

pub swap-answered : (s t : State) (c : CallerId) (call : compare_swap.CompareSwap) (old : ℕ) → IsSound s → step s (Called c (CompareSwap call) (replies.Value old)) ≡ Ok t
    → IsAnswered s call.rank call.seg (λ x. word_at x.bytes call.offset ≡ old)
swap-answered s t c call old sound h =
    let made = sound-called s t c (CompareSwap call) (replies.Value old) refl sound h in
    let m = made.3 in
    let found = word-found s.limits c.rank made.0 made.1 call.seg call.offset call.rank old (found-reply s.limits c.rank made.0 made.1 c.thread (CompareSwap call) (replies.Value old) (same_reply-same _ _ m.is.answered) refl) in
    word-answered s t c (CompareSwap call) (replies.Value old) call.seg call.offset call.rank old made.0 made.1 made.2 m refl found

pub sum-written : (s t : State) (c : CallerId) (call : fetch_add.FetchAdd) (old : ℕ) → IsSound s → step s (Called c (FetchAdd call) (replies.Value old)) ≡ Ok t
    → IsWritten s t c.rank call.rank call.seg call.offset (little_bytes 8 ((old + call.value) % 2 ^ 64))
sum-written s t c call old sound h =
    let made = sound-called s t c (FetchAdd call) (replies.Value old) refl sound h in
    let m = made.3 in
    let posts = made.0 in
    let memory = made.1 in
    let found = word-found s.limits c.rank posts memory call.seg call.offset call.rank old (found-reply s.limits c.rank posts memory c.thread (FetchAdd call) (replies.Value old) (same_reply-same _ _ m.is.answered) refl) in
    let sum = λ (n : ℕ). with_bytes memory call.seg (with_range (bytes_of memory call.seg) call.offset (little_bytes 8 ((n + call.value) % 2 ^ 64))) in
    word-written s t c (FetchAdd call) call.seg call.offset call.rank old ((old + call.value) % 2 ^ 64) posts memory (sum (word_at (bytes_of memory call.seg) call.offset)) sound (rw (← m.is.leaves) m) refl found
    (ap sum found.value)

pub swap-written : (s t : State) (c : CallerId) (call : compare_swap.CompareSwap) → IsSound s → step s (Called c (CompareSwap call) (replies.Value call.comparator)) ≡ Ok t
    → IsWritten s t c.rank call.rank call.seg call.offset (little_bytes 8 call.new)
swap-written s t c call sound h =
    let made = sound-called s t c (CompareSwap call) (replies.Value call.comparator) refl sound h in
    let m = made.3 in
    let posts = made.0 in
    let memory = made.1 in
    let found = word-found s.limits c.rank posts memory call.seg call.offset call.rank call.comparator
    (found-reply s.limits c.rank posts memory c.thread (CompareSwap call) (replies.Value call.comparator) (same_reply-same _ _ m.is.answered) refl) in
    let stands = eq-eqb (word_at (bytes_of memory call.seg) call.offset) call.comparator found.value in
    word-written s t c (CompareSwap call) call.seg call.offset call.rank call.comparator call.new posts memory (with_bytes memory call.seg (with_swap (bytes_of memory call.seg) call.offset call.comparator call.new))
    sound (rw (← m.is.leaves) m) refl found (rw stands refl)

pub swap-kept : (s t : State) (c : CallerId) (call : compare_swap.CompareSwap) (old : ℕ) → old ≢ call.comparator → step s (Called c (CompareSwap call) (replies.Value old)) ≡ Ok t → IsOnlyCounted s t c.rank
swap-kept s t c call old apart h =
    let made = step-called s t c (CompareSwap call) (replies.Value old) refl h in
    let m = made.3 in
    let posts = made.0 in
    let memory = made.1 in
    let found = word-found s.limits c.rank posts memory call.seg call.offset call.rank old
    (found-reply s.limits c.rank posts memory c.thread (CompareSwap call) (replies.Value old) (same_reply-same _ _ m.is.answered) refl) in
    let there = there-in-generation memory.segments call.seg found.theirs.generation found.there in
    let kept : made.2.memory ≡ memory = rw m.is.leaves (rw (differs (word_at (bytes_of memory call.seg) call.offset) found.value) (same-memory memory there.0 there.1)) in
    let after : made.2.posts ≡ counted posts = rw m.is.leaves refl in
    let footprint = call-footprint s.limits.ranks c.rank (CompareSwap call) in
    record {
      posts = posts;
      there = m.posts_there;
      after = m.leaves
          ∙ ap (λ (x : List Posts). record s { posts = x; memories = memories_at footprint c.rank made.2.memory s.memories })
          (tells-none s.limits.ranks call.rank c.rank posts (CompareSwap call) (replies.Value old) (slice_set s.posts c.rank made.2.posts) ∙ ap (slice_set s.posts c.rank) after)
          ∙ ap (λ (x : List Memory). record s { posts = slice_set s.posts c.rank (counted posts); memories = x })
          (ap (λ (m' : Memory). memories_at footprint c.rank m' s.memories) (kept ∙ m.worked) ∙ memories-same footprint c.rank s.memories);
    }
  where
    differs : (n : ℕ) → n ≡ old → (n == call.comparator) ≡ false
    differs n is = go (n == call.comparator) refl
      where
        go : (b : Bool) → (n == call.comparator) ≡ b → (n == call.comparator) ≡ false
        go true same = absurd (apart (sym is ∙ eqb-true n call.comparator same))
        go false same = same

    same-memory : (memory : Memory) (x : Segment) → segment_at memory call.seg ≡ Some x → with_bytes memory call.seg (bytes_of memory call.seg) ≡ memory
    same-memory memory x there =
        let set = set-there memory.segments call.seg (Some x) (joined memory.segments call.seg x there) in
        let item : option_map (λ (y : Segment). record y { bytes = bytes_of memory call.seg }) (segment_at memory call.seg) ≡ Some x = rw there refl in
        ap (λ (segments : List (Option Segment)). (let m : Memory = record memory { segments = segments } in m)) (ap (λ (o : Option Segment). slice_set memory.segments call.seg o) item ∙ set)
