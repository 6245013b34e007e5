-- What a put changes.
use Rattle.std.proofs.Common.{◌≡◌, ℕ, ◌+◌, ◌<◌, ◌≤◌, true, List, length, Option, None, Some, Ok, refl, sym, ap, ◌∙◌, subst, arith, is_none}
use Rattle.std.specs.List.{slice_get}
use Rattle.std.specs.Option.{option_map}
use Rattle.std.proofs.lemmas.Bool.{leb-true}
use Rattle.std.proofs.lemmas.Option.{slice_get-map, slice_get_within}
use Rattle.gaspi_types.specs.Lanes.{is_carried, is_carried_phase}
use Rattle.gaspi_types.specs.declared.segments.Extent.{Extent}
use Rattle.gaspi_types.specs.declared.entries.ByteRange.{ByteRange}
use Rattle.gaspi_types.specs.declared.entries.Kind.{Kind}
use Rattle.gaspi_types.specs.declared.entries.Kind.TheVariants.{Write, Read, Notify, ReadNote}
use Rattle.gaspi_types.specs.declared.entries.NoteSlot.{NoteSlot}
use Rattle.gaspi_types.specs.declared.entries.Destination.TheVariants.{Range, Slot}
use Rattle.gaspi_types.specs.Kinds.{destination_of}
use Rattle.gaspi_types.specs.declared.entries.Phase.{Phase}
use Rattle.gaspi_types.specs.declared.entries.Phase.TheVariants as phases
use Rattle.gaspi_types.specs.declared.events.Outcome.TheVariants.{Applied}
use Rattle.gaspi_types.specs.declared.events.Event.TheVariants.{Put}
use Rattle.gaspi_model.specs.State.{segment_at}
use Rattle.gaspi_types.specs.Tables.{item_at}
use Rattle.gaspi_types.specs.Segments.{extent_of, extents_of}
use Rattle.gaspi_model.specs.Transfers.{EntryPosition, put_outcome, same_outcome, carried_bytes, memory_put, memory_with_put}
use Rattle.gaspi_model.specs.Step.{step}
use Rattle.gaspi_model.specs.Coherence.{counts_of, HasSlots, tables_of, LiesIn, LiesInIfThere, IsIn, HasOwn, IsWithinTarget, IsWithinSegments, AgreesOnSegments}
use Rattle.gaspi_model.specs.Sound.{IsSound}
use Rattle.gaspi_model.specs.Changes.{PutsTo, put_rank, IsPutDone}
use Rattle.gaspi_model.specs.declared.states.Posts.{Posts}
use Rattle.gaspi_types.specs.declared.segments.Segment.{Segment}
use Rattle.gaspi_model.specs.declared.states.Memory.{Memory}
use Rattle.gaspi_model.specs.declared.states.State.{State}
use Rattle.gaspi_types.proofs.Chains.{both}
use Rattle.gaspi_model.proofs.FoundEntries.{IsFound}
use Rattle.gaspi_model.proofs.Sound.FittingEntries.{lies-there}
use Rattle.gaspi_model.proofs.OnPostsAndMemory.{sound-put}
use Rattle.gaspi_types.proofs.Items.{there-within, joined}
use Rattle.gaspi_types.proofs.Written.{segment-behind, there-in-generation, segment-written, slot-written}
use Rattle.gaspi_model.proofs.Sound.CoherentSteps.{mine-there, applied-there}
use Rattle.gaspi_model.proofs.Ordered.Notifications.{found-number}

-- how many slots a segment has
pub slots-there : (memory : Memory) (segment notes : ℕ) (s : Segment) → HasSlots notes memory → segment_at memory segment ≡ Some s
    → (slots : List ℕ) × (item_at memory.slots segment ≡ Some slots) × (length slots ≡ notes)
slots-there memory segment notes s counts h =
    let extents = slice_get-map (option_map extent_of) memory.segments segment ∙ ap (option_map (option_map extent_of)) (joined memory.segments segment s h) in
    let expected : slice_get (counts_of notes (extents_of memory.segments)) segment ≡ Some (Some notes) =
    slice_get-map (option_map (λ (e : Extent). notes)) (extents_of memory.segments) segment ∙ ap (option_map (option_map (λ (e : Extent). notes))) extents in
    let counted : option_map (option_map length) (slice_get memory.slots segment) ≡ Some (Some notes) =
    sym (slice_get-map (option_map length) memory.slots segment) ∙ ap (λ (l : List (Option ℕ)). slice_get l segment) counts ∙ expected in
    by-item (slice_get memory.slots segment) refl counted
  where
    by-item : (o : Option (Option (List ℕ))) → slice_get memory.slots segment ≡ o → option_map (option_map length) (slice_get memory.slots segment) ≡ Some (Some notes)
        → (slots : List ℕ) × (item_at memory.slots segment ≡ Some slots) × (length slots ≡ notes)
    by-item None at is = absurd (let none : ◌≡◌ {A = Option (Option ℕ)} None (Some (Some notes)) = rw at at is in let no : ⊥ = cc in no)
    by-item (Some None) at is = absurd (let none : ◌≡◌ {A = Option (Option ℕ)} (Some None) (Some (Some notes)) = rw at at is in let no : ⊥ = cc in no)
    by-item (Some (Some slots)) at is =
        let some : ◌≡◌ {A = Option (Option ℕ)} (Some (Some (length slots))) (Some (Some notes)) = rw at at is in
        (slots, rw at refl, (let same : length slots ≡ notes = cc in same))

-- bytes are put into a range that lies in its segment
range-put : (memory : Memory) (range : ByteRange) (bytes : List ℕ) → LiesIn (extents_of memory.segments) range → length bytes ≡ range.size
    → PutsTo (Range range) bytes memory (memory_with_put memory (Range range) bytes)
range-put memory range bytes lies whole =
    let behind = segment-behind memory.segments range.segment lies.extent lies.there in
    let size : lies.extent.size ≡ length behind.0.bytes = ap (λ (x : Extent). x.size) (sym behind.2) in
    let generation = ap (λ (x : Extent). x.generation) behind.2 ∙ lies.generation in
    let within : range.offset + length bytes ≤ length behind.0.bytes = (let less = leb-true (range.offset + range.size) lies.extent.size lies.within in omega arith) in
    (record { item = behind.0; there = behind.1; same = generation }, segment-written memory.segments range.segment range.offset bytes behind.0 behind.1 within, whole, refl)

-- a slot is set of a segment that is there
slot-put : (notes : ℕ) (memory : Memory) (slot : NoteSlot) (value : ℕ) (bytes : List ℕ) (old : Segment) → segment_at memory slot.segment ≡ Some old → old.generation ≡ slot.generation
    → HasSlots notes memory → slot.note < notes → PutsTo (Slot slot value) bytes memory (memory_with_put memory (Slot slot value) bytes)
slot-put notes memory slot value bytes old there generation counts less =
    let slots = slots-there memory slot.segment notes old counts there in
    let within : slot.note < length slots.0 = (let many = slots.2 in omega arith) in
    (record { item = old; there = there; same = generation }, slot-written memory.slots slot.segment slot.note value slots.0 slots.1 within, refl)

-- what an entry that has taken its bytes puts
kind-puts : (s : State) (origin target : ℕ) (posts theirs : Posts) (memory : Memory) (kind : Kind) (bytes : List ℕ) → AgreesOnSegments s → slice_get s.posts origin ≡ Some posts → slice_get s.posts target ≡ Some theirs
    → slice_get s.memories (put_rank origin target kind) ≡ Some memory → same_outcome Applied (put_outcome memory kind) ≡ true → IsWithinTarget s.limits.notes (tables_of theirs) kind
    → HasOwn posts.segments.own kind (phases.Carried bytes) → PutsTo (destination_of kind) bytes memory (memory_with_put memory (destination_of kind) bytes)
kind-puts s origin target posts theirs memory (Write own to) bytes coherent hp ht hm applied fits size =
    let there = applied-there memory to.segment to.generation applied in
    let theirs_lie = subst (λ (table : List (Option Extent)). LiesInIfThere table to) (coherent.own target theirs memory ht hm) fits.3 in
    range-put memory to bytes (lies-there memory to there fits.1 theirs_lie) (size ∙ fits.0)
kind-puts s origin target posts theirs memory (Read own to) bytes coherent hp ht hm applied fits has =
    range-put memory own bytes (subst (λ (table : List (Option Extent)). LiesIn table own) (coherent.own origin posts memory hp hm) has.0) has.1
kind-puts s origin target posts theirs memory (Notify to value) bytes coherent hp ht hm applied fits none =
    let old = there-in-generation memory.segments to.segment to.generation (applied-there memory to.segment to.generation applied) in
    slot-put s.limits.notes memory to value bytes old.0 old.1 old.2 (coherent.slots target memory hm) fits.0
kind-puts s origin target posts theirs memory (ReadNote own) bytes coherent hp ht hm applied fits is =
    let here = subst (λ (table : List (Option Extent)). IsIn table own.segment own.generation) (coherent.own origin posts memory hp hm) is in
    let old = segment-behind memory.segments own.segment here.extent here.there in
    slot-put s.limits.notes memory own 1 bytes old.0 old.1 (ap (λ (x : Extent). x.generation) old.2 ∙ here.same) (coherent.slots origin memory hm) fits

carried-is : (phase : Phase) → is_carried_phase phase ≡ true → phase ≡ phases.Carried (carried_bytes phase)
carried-is phases.Posted h = absurd (let no : ⊥ = cc in no)
carried-is (phases.Carried bytes) h = refl
carried-is phases.Failed h = absurd (let no : ⊥ = cc in no)

-- a queue that is not broken
pub none-broken : (o : Option ℕ) → is_none o ≡ true → o ≡ None
none-broken None h = refl
none-broken (Some x) h = absurd (let no : ⊥ = cc in no)

-- what an entry has to do with the segments of its rank and its target's
pub entry-fits : (s : State) (origin queue target number : ℕ) (posts theirs : Posts) (at : EntryPosition) → IsSound s → slice_get s.posts origin ≡ Some posts → slice_get s.posts target ≡ Some theirs
    → IsFound posts queue target number at → IsWithinSegments s.limits.notes (tables_of posts) (tables_of theirs) at.entry
entry-fits s origin queue target number posts theirs at sound hp ht is =
    sound.coherent.entries origin posts hp queue at.queue is.in_posts target at.lane is.in_queue at.position at.entry is.in_lane
    (tables_of posts) (tables_of theirs) (mine-there s.posts origin posts hp) (mine-there s.posts target theirs ht)

-- its target is a rank
pub target-there : (s : State) (origin queue target number : ℕ) (posts : Posts) (at : EntryPosition) → IsSound s → slice_get s.posts origin ≡ Some posts → IsFound posts queue target number at
    → (theirs : Posts) × (slice_get s.posts target ≡ Some theirs)
target-there s origin queue target number posts at sound hp is =
    let within = slice_get_within at.queue.lanes target at.lane is.in_queue in
    let lanes = (sound.posts origin posts hp).lanes queue at.queue is.in_posts in
    there-within s.posts target (let ranks = sound.ranks in omega arith)

pub put-done : (s t : State) (origin queue target number : ℕ) → IsSound s → step s (Put origin queue target number Applied) ≡ Ok t → IsPutDone s t origin queue target number
put-done s t origin queue target number sound h =
    let made = sound-put s t origin queue target number Applied sound h in
    let m = made.4 in
    let at = made.3 in
    let theirs = target-there s origin queue target number made.0 at sound m.posts_there m.is.is in
    let fits = entry-fits s origin queue target number made.0 theirs.0 at sound m.posts_there theirs.1 m.is.is in
    let carried = (both (is_carried at.entry) _ m.is.permitted).0 in
    let bytes = carried_bytes at.entry.phase in
    let owns = subst (λ (p : Phase). HasOwn made.0.segments.own at.entry.kind p) (carried-is at.entry.phase carried) fits.1 in
    record {
      posts = made.0;
      q = at.queue;
      lane = at.lane;
      place = at.position;
      entry = at.entry;
      posts_there = m.posts_there;
      queue_there = m.is.is.in_posts;
      lane_there = m.is.is.in_queue;
      entry_there = m.is.is.in_lane;
      numbered = found-number at.lane number at.position at.entry m.is.is.numbered m.is.is.in_lane;
      carried = carried;
      whole = none-broken at.queue.broken m.is.whole;
      old = made.1;
      new = memory_put made.1 at.entry;
      old_there = m.memory_there;
      puts = kind-puts s origin target made.0 theirs.0 made.1 at.entry.kind bytes sound.coherent m.posts_there theirs.1 m.memory_there m.is.fits fits.0 owns;
      after = m.leaves ∙ rw (m.is.leaves, m.is.is.in_posts) refl;
    }
