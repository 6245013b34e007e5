-- Every step keeps a state coherent.
use Rattle.std.proofs.Common.{◌≡◌, ℕ, Bool, true, false, List, remove, Option, None, Some, Ok, refl, sym, ap, ◌∙◌, subst, ◌⊎◌, inl, inr}
use Rattle.std.specs.List.{slice_get, slice_set}
use Rattle.std.specs.Option.{option_map}
use Rattle.std.proofs.lemmas.Option.{slice_get-map}
use Rattle.gaspi_types.specs.Lanes.{is_posted, is_posted_phase}
use Rattle.gaspi_types.specs.declared.entries.Kind.{Kind}
use Rattle.gaspi_types.specs.declared.entries.Kind.TheVariants.{Write, Read, Notify, ReadNote}
use Rattle.gaspi_types.specs.declared.entries.Phase.{Phase}
use Rattle.gaspi_types.specs.declared.segments.Extent.{Extent}
use Rattle.gaspi_types.specs.declared.entries.Phase.TheVariants as phases
use Rattle.gaspi_types.specs.CallRows.{row_of}
use Rattle.gaspi_types.specs.declared.calls.Call.{Call}
use Rattle.gaspi_types.specs.declared.shapes.CallerId.{CallerId}
use Rattle.gaspi_types.specs.declared.shapes.Limits.{Limits}
use Rattle.gaspi_types.specs.declared.replies.Reply.{Reply}
use Rattle.gaspi_types.specs.declared.events.Outcome.{Outcome}
use Rattle.gaspi_types.specs.declared.events.Outcome.TheVariants.{Applied, Failed}
use Rattle.gaspi_types.specs.declared.events.Event.TheVariants.{Called, Take, Put}
use Rattle.gaspi_types.specs.Tables.{changed_at}
use Rattle.gaspi_model.specs.State.{segment_at}
use Rattle.gaspi_model.specs.Posting.{counted}
use Rattle.gaspi_model.specs.Changes.{IsOnlyCounted, take_rank, put_rank}
use Rattle.gaspi_model.specs.Transfers.{EntryPosition, PostsAndMemory, source_bytes, outcome_at, take_outcome, same_outcome}
use Rattle.gaspi_model.specs.Step.{step, call_message}
use Rattle.gaspi_model.specs.Coherence.{counts_of, HasSlots, Tables, tables_of, all_tables, LiesIn, LiesInIfThere, HasOwn, IsWithinTarget, AreMade, AreWithinSegments, Knows, AgreesOnSegments}
use Rattle.gaspi_types.specs.Segments.{extents_of, is_generation}
use Rattle.gaspi_model.specs.Sound.{IsSound}
use Rattle.gaspi_types.specs.declared.entries.Queue.{Queue}
use Rattle.gaspi_model.specs.declared.states.Posts.{Posts}
use Rattle.gaspi_model.specs.declared.states.Memory.{Memory}
use Rattle.gaspi_model.specs.declared.states.State.{State}
use Rattle.gaspi_types.proofs.Chains.{both}
use Rattle.gaspi_model.proofs.Same.{same_reply-same}
use Rattle.gaspi_model.proofs.Made.{IsTake, IsPut}
use Rattle.gaspi_model.proofs.OnPostsAndMemory.{memory_rank, sound-called, sound-take, sound-put}
use Rattle.gaspi_types.proofs.Items.{slice_get-set, slice_get-set_same, slice_get-set_other, map-at, same-or-not}
use Rattle.gaspi_model.proofs.Sound.Registered.{registering, registered-from}
use Rattle.gaspi_model.proofs.Sound.Layouts.{HaveSameLayout, same-layout, put-layout}
use Rattle.gaspi_model.proofs.Sound.Successors.{Succeeds, Follow, made-stays, knows-follows, all-fit-follows}
use Rattle.gaspi_model.proofs.Sound.FittingEntries.{MayPost, fits-lane, lane-phase, lane-remove, taken-whole, lies-there, failed-own}
use Rattle.gaspi_model.proofs.Sound.CallTables.{KeepsFit, KeepsTables, fits-itself, fits-requeued, counted-fits, called-fits, called-tables, registered-knows}
use Rattle.gaspi_model.proofs.FoundEntries.{IsFound, with_phase, queue_with_failed, failed_with}

-- what a state has of each rank was there before it, with tables that come after the old ones
pub record ComesFrom (s t : State) : Type 0 where
  pub limits : t.limits ≡ s.limits
  pub posts : (rank : ℕ) (after : Posts) → slice_get t.posts rank ≡ Some after
      → (before : Posts) × (slice_get s.posts rank ≡ Some before) × KeepsFit s.limits.notes (all_tables s.posts) rank before after
  pub own : (rank : ℕ) (posts : Posts) (memory : Memory) → slice_get t.posts rank ≡ Some posts → slice_get t.memories rank ≡ Some memory → posts.segments.own ≡ extents_of memory.segments
  pub slots : (rank : ℕ) (memory : Memory) → slice_get t.memories rank ≡ Some memory → HasSlots s.limits.notes memory

pub mine-there : (table : List Posts) (rank : ℕ) (posts : Posts) → slice_get table rank ≡ Some posts → slice_get (all_tables table) rank ≡ Some (tables_of posts)
mine-there table rank posts at = slice_get-map tables_of table rank ∙ ap (option_map tables_of) at

same-tables : (table : List Posts) (rank : ℕ) (posts : Posts) (tables : Tables) → slice_get table rank ≡ Some posts → slice_get (all_tables table) rank ≡ Some tables → tables ≡ tables_of posts
same-tables table rank posts tables at h = let some : ◌≡◌ {A = Option Tables} (Some tables) (Some (tables_of posts)) = sym h ∙ mine-there table rank posts at in cc

follows : (s t : State) → ComesFrom s t → Follow (all_tables s.posts) (all_tables t.posts)
follows s t from rank after h =
    let new = map-at tables_of t.posts rank after h in
    let p = from.posts rank new.0 new.1 in
    (tables_of p.0, mine-there s.posts rank p.0 p.1, subst (λ (x : Tables). Succeeds (tables_of p.0) x) (sym new.2) p.2.succeeds)

pub keeps-coherent : (s t : State) → AgreesOnSegments s → ComesFrom s t → AgreesOnSegments t
keeps-coherent s t coherent from =
    let follow = follows s t from in
    record {
      own = from.own;
      slots = λ rank memory hm. rw from.limits (from.slots rank memory hm);
      made = λ rank posts hp.
          let p = from.posts rank posts hp in
          made-stays (tables_of p.0) (tables_of posts) p.2.succeeds (coherent.made rank p.0 p.1);
      known = λ rank posts hp.
          let p = from.posts rank posts hp in
          knows-follows (all_tables s.posts) (all_tables t.posts) posts.segments.known follow p.2.known;
      entries = λ origin posts hp.
          let p = from.posts origin posts hp in
          rw from.limits (all-fit-follows s.limits.notes (all_tables s.posts) (all_tables t.posts) origin posts.queues follow
          (λ mine mine' hm hm'. rw (same-tables s.posts origin p.0 mine p.1 hm, same-tables t.posts origin posts mine' hp hm') p.2.owns) p.2.entries);
    }

-- the posts of a rank replaced
pub posts-from : (notes : ℕ) (table : List Posts) (place : ℕ) (old new : Posts) → slice_get table place ≡ Some old → KeepsFit notes (all_tables table) place old new
    → ((rank : ℕ) (p : Posts) → slice_get table rank ≡ Some p → KeepsFit notes (all_tables table) rank p p)
    → (rank : ℕ) (after : Posts) → slice_get (slice_set table place new) rank ≡ Some after
    → (before : Posts) × (slice_get table rank ≡ Some before) × KeepsFit notes (all_tables table) rank before after
posts-from notes table place old new at keeps all rank after here = go (slice_get-set table place rank new after here)
  where
    go : ((rank ≡ place) × (after ≡ new)) ⊎ (slice_get table rank ≡ Some after) → (before : Posts) × (slice_get table rank ≡ Some before) × KeepsFit notes (all_tables table) rank before after
    go (inl is) = (old, subst (λ (k : ℕ). slice_get table k ≡ Some old) (sym is.0) at, rw (is.0, is.1) keeps)
    go (inr was) = (after, was, all rank after was)

-- and one of them told a segment
registered-posts-from : (ranks notes : ℕ) (table : List Posts) (place : ℕ) (old new : Posts) (call : Call) (reply : Reply) → slice_get table place ≡ Some old → AreMade (tables_of old)
    → KeepsFit notes (all_tables table) place old new → ((rank : ℕ) (p : Posts) → slice_get table rank ≡ Some p → KeepsFit notes (all_tables table) rank p p)
    → (rank : ℕ) (after : Posts) → slice_get (registering ranks place old call reply (slice_set table place new)) rank ≡ Some after
    → (before : Posts) × (slice_get table rank ≡ Some before) × KeepsFit notes (all_tables table) rank before after
registered-posts-from ranks notes table place old new call reply at made keeps all rank after here =
    let replaced = posts-from notes table place old new at keeps all in
    let from = registered-from ranks place old call reply (slice_set table place new) rank after here in
    let before = replaced rank from.0 from.2 in
    let known : Knows (all_tables table) after.segments.known =
    registered-knows (all_tables table) ranks place old call reply (slice_set table place new) (mine-there table place old at) made (λ r x h. (replaced r x h).2.known) rank after here in
    (before.0, before.1, told-fits before.0 from.0 from.1 from.3 before.2 known)
  where
    told-fits : (before x : Posts) (known : List (List (Option Extent))) → after ≡ record x { segments = record x.segments { known = known } } → KeepsFit notes (all_tables table) rank before x → Knows (all_tables table) after.segments.known
        → KeepsFit notes (all_tables table) rank before after
    told-fits before x known is fits knows = record { succeeds = rw is fits.succeeds; known = knows; entries = rw is fits.entries; owns = rw is fits.owns }

pub keeps-itself : (s : State) → AgreesOnSegments s → (rank : ℕ) (p : Posts) → slice_get s.posts rank ≡ Some p → KeepsFit s.limits.notes (all_tables s.posts) rank p p
keeps-itself s coherent rank p at = fits-itself s.limits.notes (all_tables s.posts) rank p (coherent.known rank p at) (coherent.entries rank p at)

-- The own tables and the memories.

abbrev pub OwnAgrees : List Posts → List Memory → Type 0
OwnAgrees all memories = (rank : ℕ) (posts : Posts) (memory : Memory) → slice_get all rank ≡ Some posts → slice_get memories rank ≡ Some memory → posts.segments.own ≡ extents_of memory.segments

pub own-from : (table : List Posts) (place : ℕ) (old new : Posts) → slice_get table place ≡ Some old → new.segments.own ≡ old.segments.own → (rank : ℕ) (after : Posts) → slice_get (slice_set table place new) rank ≡ Some after
    → (before : Posts) × (slice_get table rank ≡ Some before) × (after.segments.own ≡ before.segments.own)
own-from table place old new at same rank after here = go (slice_get-set table place rank new after here)
  where
    go : ((rank ≡ place) × (after ≡ new)) ⊎ (slice_get table rank ≡ Some after) → (before : Posts) × (slice_get table rank ≡ Some before) × (after.segments.own ≡ before.segments.own)
    go (inl is) = (old, subst (λ (k : ℕ). slice_get table k ≡ Some old) (sym is.0) at, ap (λ (p : Posts). p.segments.own) is.1 ∙ same)
    go (inr was) = (after, was, refl)

memories-from : (table : List Memory) (place : ℕ) (old new : Memory) → slice_get table place ≡ Some old → HaveSameLayout old new
    → (rank : ℕ) (after : Memory) → slice_get (slice_set table place new) rank ≡ Some after → (before : Memory) × (slice_get table rank ≡ Some before) × HaveSameLayout before after
memories-from table place old new at layout rank after here = go (slice_get-set table place rank new after here)
  where
    go : ((rank ≡ place) × (after ≡ new)) ⊎ (slice_get table rank ≡ Some after) → (before : Memory) × (slice_get table rank ≡ Some before) × HaveSameLayout before after
    go (inl is) = (old, subst (λ (k : ℕ). slice_get table k ≡ Some old) (sym is.0) at, rw is.1 layout)
    go (inr was) = (after, was, same-layout after)

pub changed-own : (all : List Posts) (memories : List Memory) (notes me worked : ℕ) (posts posts' : Posts) (memory memory' : Memory) → OwnAgrees all memories → slice_get all me ≡ Some posts
    → slice_get memories worked ≡ Some memory → KeepsTables notes me worked posts posts' memory memory' → OwnAgrees (slice_set all me posts') (slice_set memories worked memory')
changed-own all memories notes me worked posts posts' memory memory' agrees hp hm (inl kept) rank p m at_p at_m =
    let before = own-from all me posts posts' hp kept.0 rank p at_p in
    let old = memories-from memories worked memory memory' hm kept.1 rank m at_m in
    before.2 ∙ agrees rank before.0 old.0 before.1 old.1 ∙ sym old.2.extents
changed-own all memories notes me worked posts posts' memory memory' agrees hp hm (inr both_change) rank p m at_p at_m =
    same-or-not me rank
    (λ same.
    let there : slice_get memories me ≡ Some memory = rw (sym both_change.0) hm in
    let is_p : p ≡ posts' = (let some : ◌≡◌ {A = Option Posts} (Some p) (Some posts') = sym at_p ∙ rw (sym same) (slice_get-set_same all me posts posts' hp) in cc) in
    let is_m : m ≡ memory' = (let some : ◌≡◌ {A = Option Memory} (Some m) (Some memory') = sym at_m ∙ rw (sym same, both_change.0) (slice_get-set_same memories me memory memory' there) in cc) in
    rw (is_p, is_m) (both_change.1 (agrees me posts memory hp there)))
    (λ apart.
    agrees rank p m (sym (slice_get-set_other all me rank posts' apart) ∙ at_p)
    (sym (slice_get-set_other memories worked rank memory' (λ is. apart (sym both_change.0 ∙ is))) ∙ at_m))

registered-own : (ranks : ℕ) (all : List Posts) (memories : List Memory) (me : ℕ) (p : Posts) (call : Call) (reply : Reply) → OwnAgrees all memories → OwnAgrees (registering ranks me p call reply all) memories
registered-own ranks all memories me p call reply agrees rank posts memory hp hm =
    let from = registered-from ranks me p call reply all rank posts hp in
    ap (λ (x : Posts). x.segments.own) from.3 ∙ agrees rank from.0 memory from.2 hm

pub changed-slots : (memories : List Memory) (notes worked : ℕ) (memory' : Memory) → ((rank : ℕ) (m : Memory) → slice_get memories rank ≡ Some m → HasSlots notes m) → HasSlots notes memory'
    → (rank : ℕ) (m : Memory) → slice_get (slice_set memories worked memory') rank ≡ Some m → HasSlots notes m
changed-slots memories notes worked memory' all new rank m at = go (slice_get-set memories worked rank memory' m at)
  where
    go : ((rank ≡ worked) × (m ≡ memory')) ⊎ (slice_get memories rank ≡ Some m) → HasSlots notes m
    go (inl is) = rw is.1 new
    go (inr was) = all rank m was

layout-slots : (notes : ℕ) (old new : Memory) → HaveSameLayout old new → HasSlots notes old → HasSlots notes new
layout-slots notes old new layout all = layout.counts ∙ all ∙ ap (counts_of notes) (sym layout.extents)

pub tables-slots : (notes me worked : ℕ) (posts posts' : Posts) (memory memory' : Memory) → KeepsTables notes me worked posts posts' memory memory' → HasSlots notes memory → HasSlots notes memory'
tables-slots notes me worked posts posts' memory memory' (inl kept) all = layout-slots notes memory memory' kept.1 all
tables-slots notes me worked posts posts' memory memory' (inr both_change) all = both_change.2 all

-- Transfers.

-- one that failed
failed-keeps : (notes : ℕ) (tables : List Tables) (posts : Posts) (origin queue target number : ℕ) (at : EntryPosition) → IsFound posts queue target number at
    → Knows tables posts.segments.known → AreWithinSegments notes tables origin posts.queues → KeepsFit notes tables origin posts (counted (failed_with posts queue target at))
failed-keeps notes tables posts origin queue target number at is knows all =
    let lane = with_phase at.lane at.position at.entry phases.Failed in
    let change = queue_with_failed target at in
    let fits = fits-lane notes tables origin posts.queues queue change at.queue target at.lane lane is.in_posts is.in_queue refl
    (λ mine theirs hm ht old. lane-phase notes mine theirs at.lane at.position at.entry phases.Failed is.in_lane (λ owns. failed-own mine.own at.entry.kind) old) all in
    let keeps = fits-requeued notes tables origin posts (changed_at posts.queues queue change) knows fits in
    record { succeeds = keeps.succeeds; known = keeps.known; entries = keeps.entries; owns = keeps.owns }

put-keeps : (notes : ℕ) (tables : List Tables) (posts : Posts) (memory : Memory) (origin queue target number : ℕ) (outcome : Outcome) (after : PostsAndMemory) (at : EntryPosition)
    → IsPut posts memory queue target number outcome after at → Knows tables posts.segments.known → AreWithinSegments notes tables origin posts.queues → KeepsFit notes tables origin posts after.posts
put-keeps notes tables posts memory origin queue target number Applied after at h knows all =
    let lane = remove at.lane at.position in
    let change = λ (q : Queue). record q { lanes = slice_set q.lanes target lane } in
    let fits = fits-lane notes tables origin posts.queues queue change at.queue target at.lane lane h.is.in_posts h.is.in_queue refl
    (λ mine theirs hm ht old. lane-remove notes mine theirs at.lane at.position old) all in
    let keeps = fits-requeued notes tables origin posts (changed_at posts.queues queue change) knows fits in
    rw h.leaves (counted-fits notes tables origin posts _ keeps)
put-keeps notes tables posts memory origin queue target number Failed after at h knows all = rw h.leaves (failed-keeps notes tables posts origin queue target number at h.is knows all)

put-tables : (notes origin target queue number worked : ℕ) (posts : Posts) (memory : Memory) (outcome : Outcome) (after : PostsAndMemory) (at : EntryPosition)
    → IsPut posts memory queue target number outcome after at → KeepsTables notes origin worked posts after.posts memory after.memory
put-tables notes origin target queue number worked posts memory Applied after at h = rw h.leaves (inl (refl, put-layout memory at.entry))
put-tables notes origin target queue number worked posts memory Failed after at h = rw h.leaves (inl (refl, same-layout memory))

-- what was posted and has taken its bytes has to do with its own segment what it had
pub applied-there : (memory : Memory) (segment generation : ℕ) → same_outcome Applied (outcome_at memory segment generation) ≡ true → is_generation generation (segment_at memory segment) ≡ true
applied-there memory segment generation h = go (is_generation generation (segment_at memory segment)) refl
  where
    go : (b : Bool) → is_generation generation (segment_at memory segment) ≡ b → is_generation generation (segment_at memory segment) ≡ true
    go true is = is
    go false is = absurd (let none = rw is at h in let no : ⊥ = cc in no)

taken-own : (s : State) (origin target : ℕ) (posts theirs : Posts) (memory : Memory) (kind : Kind) → AgreesOnSegments s → slice_get s.posts origin ≡ Some posts → slice_get s.posts target ≡ Some theirs
    → slice_get s.memories (take_rank origin target kind) ≡ Some memory → same_outcome Applied (take_outcome memory kind) ≡ true → IsWithinTarget s.limits.notes (tables_of theirs) kind
    → HasOwn posts.segments.own kind phases.Posted → HasOwn posts.segments.own kind (phases.Carried (source_bytes memory kind))
taken-own s origin target posts theirs memory (Write own to) coherent hp ht hm applied fits lies =
    taken-whole memory own (subst (λ (table : List (Option Extent)). LiesIn table own) (coherent.own origin posts memory hp hm) lies)
taken-own s origin target posts theirs memory (Read own to) coherent hp ht hm applied fits lies =
    let there = applied-there memory to.segment to.generation applied in
    let theirs_lie = subst (λ (table : List (Option Extent)). LiesInIfThere table to) (coherent.own target theirs memory ht hm) fits.3 in
    (lies, taken-whole memory to (lies-there memory to there fits.1 theirs_lie) ∙ sym fits.0)
taken-own s origin target posts theirs memory (Notify to value) coherent hp ht hm applied fits none = tt
taken-own s origin target posts theirs memory (ReadNote own) coherent hp ht hm applied fits is = is

pub posted-is : (phase : Phase) → is_posted_phase phase ≡ true → phase ≡ phases.Posted
posted-is phases.Posted h = refl
posted-is (phases.Carried bytes) h = absurd (let no : ⊥ = cc in no)
posted-is phases.Failed h = absurd (let no : ⊥ = cc in no)

-- a take
take-keeps : (s : State) (origin queue target number : ℕ) (outcome : Outcome) (posts after : Posts) (memory : Memory) (at : EntryPosition) → AgreesOnSegments s → slice_get s.posts origin ≡ Some posts
    → slice_get s.memories (take_rank origin target at.entry.kind) ≡ Some memory → IsTake s.limits posts memory queue target number outcome after at
    → KeepsFit s.limits.notes (all_tables s.posts) origin posts after
take-keeps s origin queue target number Applied posts after memory at coherent hp hm h =
    let tables = all_tables s.posts in
    let phase = phases.Carried (source_bytes memory at.entry.kind) in
    let lane = with_phase at.lane at.position at.entry phase in
    let change = λ (q : Queue). record q { lanes = slice_set q.lanes target lane } in
    let entries = coherent.entries origin posts hp in
    let fits = fits-lane s.limits.notes tables origin posts.queues queue change at.queue target at.lane lane h.is.in_posts h.is.in_queue refl
    (λ mine theirs hmine htheirs old.
    let same = same-tables s.posts origin posts mine hp hmine in
    let far = map-at tables_of s.posts target theirs htheirs in
    let fit = entries queue at.queue h.is.in_posts target at.lane h.is.in_queue at.position at.entry h.is.in_lane mine theirs hmine htheirs in
    let posted = posted-is at.entry.phase (both (is_posted at.entry) _ h.permitted).0 in
    lane-phase s.limits.notes mine theirs at.lane at.position at.entry phase h.is.in_lane
    (λ owns. subst (λ (t : Tables). HasOwn t.own at.entry.kind phase) (sym same)
    (taken-own s origin target posts far.0 memory at.entry.kind coherent hp far.1 hm h.fits (subst (λ (t : Tables). IsWithinTarget s.limits.notes t at.entry.kind) far.2 fit.0)
    (subst (λ (p : Phase). HasOwn posts.segments.own at.entry.kind p) posted (subst (λ (t : Tables). HasOwn t.own at.entry.kind at.entry.phase) same owns)))) old) entries in
    rw h.leaves (counted-fits s.limits.notes tables origin posts _ (fits-requeued s.limits.notes tables origin posts (changed_at posts.queues queue change) (coherent.known origin posts hp) fits))
take-keeps s origin queue target number Failed posts after memory at coherent hp hm h =
    rw h.leaves (failed-keeps s.limits.notes (all_tables s.posts) posts origin queue target number at h.is (coherent.known origin posts hp) (coherent.entries origin posts hp))

take-own-kept : (limits : Limits) (posts after : Posts) (memory : Memory) (queue target number : ℕ) (outcome : Outcome) (at : EntryPosition) → IsTake limits posts memory queue target number outcome after at
    → after.segments.own ≡ posts.segments.own
take-own-kept limits posts after memory queue target number Applied at h = rw h.leaves refl
take-own-kept limits posts after memory queue target number Failed at h = rw h.leaves refl

-- What each event that is on no group leaves comes from what was there.
pub called-from : (s t : State) (c : CallerId) (call : Call) (reply : Reply) → (row_of call).group ≡ None → IsSound s → step s (Called c call reply) ≡ Ok t → ComesFrom s t
called-from s t c call reply plain sound h =
    let coherent = sound.coherent in
    let made = sound-called s t c call reply plain sound h in
    let m = made.3 in
    let tables = all_tables s.posts in
    let worked = memory_rank s.limits c.rank call in
    let may : MayPost tables c.rank (tables_of made.0) made.0.segments.known = record {
      here = mine-there s.posts c.rank made.0 m.posts_there;
      knows = coherent.known c.rank made.0 m.posts_there;
      made = coherent.made c.rank made.0 m.posts_there;
    } in
    let keeps : KeepsFit s.limits.notes tables c.rank made.0 made.2.posts =
    rw m.is.leaves (called-fits s.limits tables c.rank made.0 made.1 c.thread call reply may (sound.posts c.rank made.0 m.posts_there).numbered (coherent.entries c.rank made.0 m.posts_there) (same_reply-same _ _ m.is.answered)) in
    let kept : KeepsTables s.limits.notes c.rank worked made.0 made.2.posts made.1 made.2.memory = rw m.is.leaves (called-tables s.limits c.rank made.0 (call_message s c.rank call) made.1 c.thread call reply) in
    let all = slice_set s.posts c.rank made.2.posts in
    let memories = slice_set s.memories worked made.2.memory in
    rw m.leaves (record {
      limits = refl;
      posts = registered-posts-from s.limits.ranks s.limits.notes s.posts c.rank made.0 made.2.posts call reply m.posts_there may.made keeps (keeps-itself s coherent);
      own = registered-own s.limits.ranks all memories c.rank made.0 call reply (changed-own s.posts s.memories s.limits.notes c.rank worked made.0 made.2.posts made.1 made.2.memory coherent.own m.posts_there m.memory_there kept);
      slots = changed-slots s.memories s.limits.notes worked made.2.memory coherent.slots
          (tables-slots s.limits.notes c.rank worked made.0 made.2.posts made.1 made.2.memory kept (coherent.slots worked made.1 m.memory_there));
    })

pub take-from : (s t : State) (origin queue target number : ℕ) (outcome : Outcome) → IsSound s → step s (Take origin queue target number outcome) ≡ Ok t → ComesFrom s t
take-from s t origin queue target number outcome sound h =
    let coherent = sound.coherent in
    let made = sound-take s t origin queue target number outcome sound h in
    let m = made.4 in
    let keeps = take-keeps s origin queue target number outcome made.0 made.2 made.1 made.3 coherent m.posts_there m.memory_there m.is in
    rw m.leaves (record {
      limits = refl;
      posts = posts-from s.limits.notes s.posts origin made.0 made.2 m.posts_there keeps (keeps-itself s coherent);
      own = λ rank posts memory hp hm.
          let before = own-from s.posts origin made.0 made.2 m.posts_there (take-own-kept s.limits made.0 made.2 made.1 queue target number outcome made.3 m.is) rank posts hp in
          before.2 ∙ coherent.own rank before.0 memory before.1 hm;
      slots = coherent.slots;
    })

pub put-from : (s t : State) (origin queue target number : ℕ) (outcome : Outcome) → IsSound s → step s (Put origin queue target number outcome) ≡ Ok t → ComesFrom s t
put-from s t origin queue target number outcome sound h =
    let coherent = sound.coherent in
    let made = sound-put s t origin queue target number outcome sound h in
    let m = made.4 in
    let tables = all_tables s.posts in
    let worked = put_rank origin target made.3.entry.kind in
    let keeps = put-keeps s.limits.notes tables made.0 made.1 origin queue target number outcome made.2 made.3 m.is (coherent.known origin made.0 m.posts_there) (coherent.entries origin made.0 m.posts_there) in
    let kept = put-tables s.limits.notes origin target queue number worked made.0 made.1 outcome made.2 made.3 m.is in
    rw m.leaves (record {
      limits = refl;
      posts = posts-from s.limits.notes s.posts origin made.0 made.2.posts m.posts_there keeps (keeps-itself s coherent);
      own = changed-own s.posts s.memories s.limits.notes origin worked made.0 made.2.posts made.1 made.2.memory coherent.own m.posts_there m.memory_there kept;
      slots = changed-slots s.memories s.limits.notes worked made.2.memory coherent.slots
          (tables-slots s.limits.notes origin worked made.0 made.2.posts made.1 made.2.memory kept (coherent.slots worked made.1 m.memory_there));
    })

-- a refusal or a timeout
pub idle-from : (s t : State) (rank : ℕ) → IsSound s → IsOnlyCounted s t rank → ComesFrom s t
idle-from s t rank sound only =
    let coherent = sound.coherent in
    let keeps = counted-fits s.limits.notes (all_tables s.posts) rank only.posts only.posts (keeps-itself s coherent rank only.posts only.there) in
    rw only.after (record {
      limits = refl;
      posts = posts-from s.limits.notes s.posts rank only.posts (counted only.posts) only.there keeps (keeps-itself s coherent);
      own = λ r posts memory hp hm.
          let before = own-from s.posts rank only.posts (counted only.posts) only.there refl r posts hp in
          before.2 ∙ coherent.own r before.0 memory before.1 hm;
      slots = coherent.slots;
    })
