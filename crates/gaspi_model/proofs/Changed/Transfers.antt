-- What a take leaves, and what a put that failed.
use Rattle.std.proofs.Common.{◌≡◌, ℕ, ◌+◌, Ok, true, List, Option, Some, refl, ap, ◌∙◌, subst}
use Rattle.std.specs.List.{slice_get, slice_set}
use Rattle.std.proofs.lemmas.Bool.{eq-eqb}
use Rattle.gaspi_types.specs.Lanes.{is_posted, is_carried}
use Rattle.gaspi_types.specs.SegmentBytes.{range_of}
use Rattle.gaspi_types.specs.declared.entries.ByteRange.{ByteRange}
use Rattle.gaspi_types.specs.declared.segments.Extent.{Extent}
use Rattle.gaspi_types.specs.declared.entries.Kind.{Kind}
use Rattle.gaspi_types.specs.declared.entries.Kind.TheVariants.{Write, Read, Notify, ReadNote}
use Rattle.gaspi_types.specs.Kinds.{is_outward, is_read_kind, source_of}
use Rattle.gaspi_types.specs.declared.entries.Phase.{Phase}
use Rattle.gaspi_types.specs.declared.entries.Phase.TheVariants as phases
use Rattle.gaspi_types.specs.declared.events.Outcome.TheVariants.{Applied, Failed}
use Rattle.gaspi_types.specs.declared.events.Outcome.{Outcome}
use Rattle.gaspi_types.specs.declared.events.Event.TheVariants.{Take, Put}
use Rattle.gaspi_model.specs.State.{segment_at}
use Rattle.gaspi_types.specs.Segments.{bytes_in, is_generation, extents_of}
use Rattle.gaspi_model.specs.Transfers.{outcome_at, take_outcome, put_outcome, same_outcome, bytes_from, source_bytes}
use Rattle.gaspi_model.specs.Step.{step}
use Rattle.gaspi_model.specs.Coherence.{LiesIn, LiesInIfThere, HasOwn, IsWithinTarget, AgreesOnSegments, tables_of}
use Rattle.gaspi_model.specs.Sound.{IsSound}
use Rattle.gaspi_model.specs.Changes.{NotIn, IsTargetGone, may_take_fail, may_put_fail, take_rank, put_rank, IsFailureDone, IsTakeDone, TakesBytesFrom}
use Rattle.gaspi_model.specs.declared.states.Posts.{Posts}
use Rattle.gaspi_model.specs.declared.states.Memory.{Memory}
use Rattle.gaspi_model.specs.declared.states.State.{State}
use Rattle.gaspi_types.proofs.Chains.{both}
use Rattle.gaspi_model.proofs.Changed.Puts.{none-broken, entry-fits, target-there}
use Rattle.gaspi_model.proofs.Sound.CoherentSteps.{applied-there, posted-is}
use Rattle.gaspi_model.proofs.Sound.FittingEntries.{lies-there}
use Rattle.gaspi_types.proofs.Written.{segment-behind}
use Rattle.gaspi_model.proofs.Ordered.Notifications.{found-number}
use Rattle.gaspi_types.proofs.Items.{set-there}
use Rattle.gaspi_model.proofs.OnPostsAndMemory.{sound-take, sound-put}

-- where a transfer fails, no segment of that generation is there
failed-gone : (memory : Memory) (segment generation : ℕ) → same_outcome Failed (outcome_at memory segment generation) ≡ true → NotIn memory segment generation
failed-gone memory segment generation fits item there same =
    let is : is_generation generation (segment_at memory segment) ≡ true = rw there (eq-eqb item.generation generation same) in
    let applied : outcome_at memory segment generation ≡ Applied = rw is refl in
    let never : same_outcome Failed Applied ≡ true = subst (λ (o : Outcome). same_outcome Failed o ≡ true) applied fits in
    let no : ⊥ = cc in no

-- of which entries it does, and from whose memory that is told
take-fails : (origin target : ℕ) (memory : Memory) (kind : Kind) → same_outcome Failed (take_outcome memory kind) ≡ true
    → (is_read_kind kind ≡ true) × (take_rank origin target kind ≡ target) × IsTargetGone memory kind
take-fails origin target memory (Write own to) fits = absurd (let no : ⊥ = cc in no)
take-fails origin target memory (Read own to) fits = (refl, refl, failed-gone memory to.segment to.generation fits)
take-fails origin target memory (Notify to value) fits = absurd (let no : ⊥ = cc in no)
take-fails origin target memory (ReadNote own) fits = absurd (let no : ⊥ = cc in no)

put-fails : (origin target : ℕ) (memory : Memory) (kind : Kind) → same_outcome Failed (put_outcome memory kind) ≡ true
    → (is_outward kind ≡ true) × (put_rank origin target kind ≡ target) × IsTargetGone memory kind
put-fails origin target memory (Write own to) fits = (refl, refl, failed-gone memory to.segment to.generation fits)
put-fails origin target memory (Read own to) fits = absurd (let no : ⊥ = cc in no)
put-fails origin target memory (Notify to value) fits = (refl, refl, failed-gone memory to.segment to.generation fits)
put-fails origin target memory (ReadNote own) fits = absurd (let no : ⊥ = cc in no)

pub take-failed : (s t : State) (origin queue target number : ℕ) → IsSound s → step s (Take origin queue target number Failed) ≡ Ok t → IsFailureDone s t origin queue target number may_take_fail
take-failed s t origin queue target number sound h =
    let made = sound-take s t origin queue target number Failed sound h in
    let m = made.4 in
    let at = made.3 in
    let fails = take-fails origin target made.1 at.entry.kind m.is.fits in
    record {
      posts = made.0;
      q = at.queue;
      lane = at.lane;
      place = at.position;
      entry = at.entry;
      memory = made.1;
      posts_there = m.posts_there;
      queue_there = m.is.is.in_posts;
      lane_there = m.is.is.in_queue;
      entry_there = m.is.is.in_lane;
      numbered = found-number at.lane number at.position at.entry m.is.is.numbered m.is.is.in_lane;
      fails = rw ((both (is_posted at.entry) _ m.is.permitted).0, fails.0) refl;
      whole = none-broken at.queue.broken m.is.whole;
      memory_there = subst (λ (r : ℕ). slice_get s.memories r ≡ Some made.1) fails.1 m.memory_there;
      gone = fails.2;
      after = m.leaves ∙ rw (m.is.leaves, m.is.is.in_posts) refl;
    }

pub put-failed : (s t : State) (origin queue target number : ℕ) → IsSound s → step s (Put origin queue target number Failed) ≡ Ok t → IsFailureDone s t origin queue target number may_put_fail
put-failed s t origin queue target number sound h =
    let made = sound-put s t origin queue target number Failed sound h in
    let m = made.4 in
    let at = made.3 in
    let fails = put-fails origin target made.1 at.entry.kind m.is.fits in
    let there = subst (λ (r : ℕ). slice_get s.memories r ≡ Some made.1) fails.1 m.memory_there in
    let state = subst (λ (r : ℕ). t ≡ record s { posts = slice_set s.posts origin made.2.posts; memories = slice_set s.memories r made.2.memory }) fails.1 m.leaves in
    record {
      posts = made.0;
      q = at.queue;
      lane = at.lane;
      place = at.position;
      entry = at.entry;
      memory = made.1;
      posts_there = m.posts_there;
      queue_there = m.is.is.in_posts;
      lane_there = m.is.is.in_queue;
      entry_there = m.is.is.in_lane;
      numbered = found-number at.lane number at.position at.entry m.is.is.numbered m.is.is.in_lane;
      fails = rw ((both (is_carried at.entry) _ m.is.permitted).0, fails.0) refl;
      whole = none-broken at.queue.broken m.is.whole;
      memory_there = there;
      gone = fails.2;
      after = state ∙ rw (m.is.leaves, m.is.is.in_posts) (ap (λ (memories : List Memory). record s {
        posts = slice_set s.posts origin (record made.0 {
          events = made.0.events + 1;
          queues = slice_set made.0.queues queue (record at.queue { broken = Some target; lanes = slice_set at.queue.lanes target (slice_set at.lane at.position (record at.entry { phase = phases.Failed })) });
          corrupt = slice_set made.0.corrupt target true;
        });
        memories = memories;
      }) (set-there s.memories target made.1 there));
    }

-- what is taken from a range that lies in its segment
range-taken : (memory : Memory) (range : ByteRange) → LiesIn (extents_of memory.segments) range → TakesBytesFrom (Some range) memory (bytes_from memory (Some range))
range-taken memory range lies =
    let behind = segment-behind memory.segments range.segment lies.extent lies.there in
    (behind.0, behind.1, ap (λ (x : Extent). x.generation) behind.2 ∙ lies.generation, ap (λ (b : List ℕ). range_of b range.offset range.size) (ap bytes_in behind.1))

-- what a posted entry takes
kind-takes : (s : State) (origin target : ℕ) (posts theirs : Posts) (memory : Memory) (kind : Kind) → AgreesOnSegments s → slice_get s.posts origin ≡ Some posts → slice_get s.posts target ≡ Some theirs
    → slice_get s.memories (take_rank origin target kind) ≡ Some memory → same_outcome Applied (take_outcome memory kind) ≡ true → IsWithinTarget s.limits.notes (tables_of theirs) kind
    → HasOwn posts.segments.own kind phases.Posted → TakesBytesFrom (source_of kind) memory (bytes_from memory (source_of kind))
kind-takes s origin target posts theirs memory (Write own to) coherent hp ht hm applied fits lies =
    range-taken memory own (subst (λ (table : List (Option Extent)). LiesIn table own) (coherent.own origin posts memory hp hm) lies)
kind-takes s origin target posts theirs memory (Read own to) coherent hp ht hm applied fits lies =
    let there = applied-there memory to.segment to.generation applied in
    range-taken memory to (lies-there memory to there fits.1 (subst (λ (table : List (Option Extent)). LiesInIfThere table to) (coherent.own target theirs memory ht hm) fits.3))
kind-takes s origin target posts theirs memory (Notify to value) coherent hp ht hm applied fits none = refl
kind-takes s origin target posts theirs memory (ReadNote own) coherent hp ht hm applied fits is = refl

pub take-done : (s t : State) (origin queue target number : ℕ) → IsSound s → step s (Take origin queue target number Applied) ≡ Ok t → IsTakeDone s t origin queue target number
take-done s t origin queue target number sound h =
    let made = sound-take s t origin queue target number Applied sound h in
    let m = made.4 in
    let at = made.3 in
    let theirs = target-there s origin queue target number made.0 at sound m.posts_there m.is.is in
    let fits = entry-fits s origin queue target number made.0 theirs.0 at sound m.posts_there theirs.1 m.is.is in
    let posted = (both (is_posted at.entry) _ m.is.permitted).0 in
    let owns = subst (λ (p : Phase). HasOwn made.0.segments.own at.entry.kind p) (posted-is at.entry.phase posted) fits.1 in
    record {
      posts = made.0;
      q = at.queue;
      lane = at.lane;
      place = at.position;
      entry = at.entry;
      memory = made.1;
      bytes = source_bytes made.1 at.entry.kind;
      posts_there = m.posts_there;
      queue_there = m.is.is.in_posts;
      lane_there = m.is.is.in_queue;
      entry_there = m.is.is.in_lane;
      numbered = found-number at.lane number at.position at.entry m.is.is.numbered m.is.is.in_lane;
      posted = posted;
      whole = none-broken at.queue.broken m.is.whole;
      memory_there = m.memory_there;
      takes = kind-takes s origin target made.0 theirs.0 made.1 at.entry.kind sound.coherent m.posts_there theirs.1 m.memory_there m.is.fits fits.0 owns;
      after = m.leaves ∙ rw (m.is.leaves, m.is.is.in_posts) refl;
    }
