-- What a slot of a rank holds after an event, it held before it, or the event has set it.
use Rattle.std.proofs.Common.{◌≡◌, ◌≢◌, ℕ, Bool, true, false, ◌⊎◌, inl, inr, List, Option, None, Some, Ok, refl, sym, ap, ◌∙◌, subst}
use Rattle.std.specs.List.{slice_get, slice_set}
use Rattle.gaspi_types.specs.CallRows.{row_of}
use Rattle.gaspi_types.specs.Kinds.{destination_of}
use Rattle.gaspi_types.specs.Lanes.{is_carried, is_carried_phase}
use Rattle.gaspi_types.specs.Replies.{is_idle}
use Rattle.gaspi_types.specs.declared.calls.Call.{Call}
use Rattle.gaspi_types.specs.declared.calls.Call.TheVariants.{Reset}
use Rattle.gaspi_types.specs.declared.calls.notifications.Reset as reset
use Rattle.gaspi_types.specs.declared.collectives.Coll.{Coll}
use Rattle.gaspi_types.specs.declared.collectives.Coll.TheVariants as colls
use Rattle.gaspi_types.specs.declared.entries.Entry.{Entry}
use Rattle.gaspi_types.specs.declared.entries.Kind.{Kind}
use Rattle.gaspi_types.specs.declared.entries.Kind.TheVariants.{Write, Read, Notify, ReadNote}
use Rattle.gaspi_types.specs.declared.entries.NoteSlot.{NoteSlot}
use Rattle.gaspi_types.specs.declared.entries.Phase.{Phase}
use Rattle.gaspi_types.specs.declared.entries.Phase.TheVariants as phases
use Rattle.gaspi_types.specs.declared.events.Event.{Event}
use Rattle.gaspi_types.specs.declared.events.Event.TheVariants.{Called, Joined, Take, Put}
use Rattle.gaspi_types.specs.declared.events.Outcome.TheVariants.{Applied, Failed}
use Rattle.gaspi_types.specs.declared.groups.Args.{Args}
use Rattle.gaspi_types.specs.declared.replies.Reply.{Reply}
use Rattle.gaspi_types.specs.declared.replies.Reply.TheVariants as replies
use Rattle.gaspi_types.specs.declared.segments.Extent.{Extent}
use Rattle.gaspi_types.specs.declared.segments.Segment.{Segment}
use Rattle.gaspi_types.specs.declared.shapes.CallerId.{CallerId}
use Rattle.gaspi_types.proofs.Chains.{both}
use Rattle.gaspi_types.proofs.Items.{slice_get-set, slice_get-set_same, slice_get-set_other, same-or-not, joined}
use Rattle.gaspi_types.proofs.Written.{segment-behind, there-in-generation}
use Rattle.gaspi_model.specs.Calls.{memory_after}
use Rattle.gaspi_model.specs.Changes.{put_rank}
use Rattle.gaspi_model.specs.Coherence.{HasOwn, IsIn}
use Rattle.gaspi_model.specs.Shards.{entry_after, is_create}
use Rattle.gaspi_model.specs.Sound.{IsSound}
use Rattle.gaspi_model.specs.State.{segment_at}
use Rattle.gaspi_model.specs.Step.{step, call_message}
use Rattle.gaspi_model.specs.Transfers.{EntryPosition, PostsAndMemory, memory_with_put, carried_bytes, put_outcome, same_outcome}
use Rattle.gaspi_model.specs.declared.states.Memory.{Memory}
use Rattle.gaspi_model.specs.declared.states.Posts.{Posts}
use Rattle.gaspi_model.specs.declared.states.State.{State}
use Rattle.gaspi_model.proofs.Changed.Joins.{join-done, create-joined}
use Rattle.gaspi_model.proofs.Changed.OwnCalls.{slot-reset}
use Rattle.gaspi_model.proofs.Changed.Puts.{entry-fits, target-there}
use Rattle.gaspi_model.proofs.Changed.Transfers.{put-failed}
use Rattle.gaspi_model.proofs.GroupSteps.{step-completed}
use Rattle.gaspi_model.proofs.Made.{entry-found, step-take}
use Rattle.gaspi_model.proofs.Sound.CoherentSteps.{applied-there}
use Rattle.gaspi_model.proofs.OnPostsAndMemory.{memory_rank, IsPutThere, sound-called, sound-put}
use Rattle.gaspi_model.specs.Notifications.{Sets}
use Rattle.gaspi_model.proofs.HeldSlots.{HoldsIn, IsSetOrKept, with_slot, bytes-keep, slot-set, made-keep, call-keeps}

-- A slot of a segment of a rank holds a value.
pub record Holds (s : State) (rank : ℕ) (slot : NoteSlot) (value : ℕ) : Type 0 where
  pub memory : Memory
  pub memory_there : slice_get s.memories rank ≡ Some memory
  pub has : HoldsIn memory slot value

-- no memory is changed
unchanged-keeps : (s t : State) (rank : ℕ) (slot : NoteSlot) (value : ℕ) → t.memories ≡ s.memories → Holds t rank slot value → Holds s rank slot value
unchanged-keeps s t rank slot value same h = record { memory = h.memory; memory_there = ap (λ (all : List Memory). slice_get all rank) (sym same) ∙ h.memory_there; has = h.has }

-- a memory is changed, and holds nothing new
changed-keeps : (s t : State) (place : ℕ) (old new : Memory) (rank : ℕ) (slot : NoteSlot) (value : ℕ) → slice_get s.memories place ≡ Some old → t.memories ≡ slice_set s.memories place new
    → (HoldsIn new slot value → HoldsIn old slot value) → Holds t rank slot value → Holds s rank slot value
changed-keeps s t place old new rank slot value there sets keeps h = go (slice_get-set s.memories place rank new h.memory (ap (λ (all : List Memory). slice_get all rank) (sym sets) ∙ h.memory_there))
  where
    go : ((rank ≡ place) × (h.memory ≡ new)) ⊎ (slice_get s.memories rank ≡ Some h.memory) → Holds s rank slot value
    go (inl is) = record { memory = old; memory_there = ap (slice_get s.memories) is.0 ∙ there; has = keeps (subst (λ (m : Memory). HoldsIn m slot value) is.1 h.has) }
    go (inr was) = record { memory = h.memory; memory_there = was; has = h.has }

-- A call.
called-keeps : (s t : State) (c : CallerId) (call : Call) (reply : Reply) (rank : ℕ) (slot : NoteSlot) (value : ℕ) → IsSound s → step s (Called c call reply) ≡ Ok t → value ≢ 0
    → Holds t rank slot value → Holds s rank slot value
called-keeps s t c call reply rank slot value sound h some holds = by-group (row_of call).group refl
  where
    after-keeps : (posts : Posts) (memory : Memory) (idle : Bool) → is_idle reply ≡ idle → HoldsIn (memory_after s.limits posts (call_message s c.rank call) memory call reply) slot value → HoldsIn memory slot value
    after-keeps posts memory true is has = (let same : HoldsIn memory slot value = rw is at has in same)
    after-keeps posts memory false is has = call-keeps s.limits posts (call_message s c.rank call) memory call slot value some (rw is at has)

    by-group : (o : Option ℕ) → (row_of call).group ≡ o → Holds s rank slot value
    by-group (Some id) named = unchanged-keeps s t rank slot value (ap (λ (x : State). x.memories) (step-completed s t c id call reply named h).2.leaves) holds
    by-group None plain =
        let made = sound-called s t c call reply plain sound h in
        let m = made.3 in
        changed-keeps s t (memory_rank s.limits c.rank call) made.1 made.2.memory rank slot value m.memory_there (ap (λ (x : State). x.memories) m.leaves)
        (λ has. after-keeps made.0 made.1 (is_idle reply) refl (subst (λ (w : PostsAndMemory). HoldsIn w.memory slot value) m.is.leaves has)) holds

-- A join.
joined-keeps : (s t : State) (c : CallerId) (id : ℕ) (args : Args) (rank : ℕ) (slot : NoteSlot) (value : ℕ) → IsSound s → step s (Joined c id args) ≡ Ok t → value ≢ 0
    → Holds t rank slot value → Holds s rank slot value
joined-keeps s t c id args rank slot value sound h some holds = by-coll args.coll refl
  where
    plain : is_create args.coll ≡ false → Holds s rank slot value
    plain is = unchanged-keeps s t rank slot value (ap (λ (x : State). x.memories) (join-done s t c id args sound is h).after) holds

    by-coll : (coll : Coll) → args.coll ≡ coll → Holds s rank slot value
    by-coll (colls.Create segment size) is =
        let made = create-joined s t c id args segment size sound is h in
        changed-keeps s t c.rank made.memory _ rank slot value made.memory_there (ap (λ (x : State). x.memories) made.after) (λ has. made-keep made.memory segment _ s.limits.notes slot value some has) holds
    by-coll colls.Barrier is = plain (ap is_create is)
    by-coll (colls.Allreduce op t count) is = plain (ap is_create is)
    by-coll (colls.Commit mask) is = plain (ap is_create is)

-- A put.

-- the segment of a slot that is set is there in the slot's generation
abbrev IsSlotThere : Memory → NoteSlot → Type 0
IsSlotThere memory slot = (item : Segment) → slice_get memory.segments slot.segment ≡ Some (Some item) → item.generation ≡ slot.generation

abbrev IsSetThere : Memory → Kind → Type 0
IsSetThere memory (Write own to) = Unit {0}
IsSetThere memory (Read own to) = Unit {0}
IsSetThere memory (Notify to set) = IsSlotThere memory to
IsSetThere memory (ReadNote own) = IsSlotThere memory own

abbrev slot_with : ℕ → ℕ → ℕ → NoteSlot
slot_with segment generation note = record { segment = segment; generation = generation; note = note }

same-slot : (a b : NoteSlot) → a.segment ≡ b.segment → a.generation ≡ b.generation → a.note ≡ b.note → a ≡ b
same-slot a b segment generation note =
    ap (λ (n : ℕ). slot_with n a.generation a.note) segment ∙ ap (λ (n : ℕ). slot_with b.segment n a.note) generation ∙ ap (λ (n : ℕ). slot_with b.segment b.generation n) note

-- what a put has set in the memory that it works on, or what was kept there, where it has not set that slot
abbrev PutsOrKeeps : ℕ → ℕ → Memory → Kind → ℕ → NoteSlot → ℕ → Type 0
PutsOrKeeps origin target memory kind rank slot value =
    Sets origin target kind rank slot value ⊎ (HoldsIn memory slot value × ((other : ℕ) → Sets origin target kind rank slot other → ⊥))

slot-puts : (memory : Memory) (to : NoteSlot) (set : ℕ) (slot : NoteSlot) (value : ℕ) → IsSlotThere memory to → HoldsIn (with_slot memory to.segment to.note set) slot value
    → ((slot ≡ to) × (value ≡ set)) ⊎ (HoldsIn memory slot value × (slot ≡ to → ⊥))
slot-puts memory to set slot value there h = go (slot-set memory to.segment to.note set slot value h)
  where
    go : IsSetOrKept memory to.segment to.note set slot value → ((slot ≡ to) × (value ≡ set)) ⊎ (HoldsIn memory slot value × (slot ≡ to → ⊥))
    go (inl is) = inl (same-slot slot to is.0 (sym h.same ∙ there h.item (ap (slice_get memory.segments) (sym is.0) ∙ h.there)) is.1, is.2)
    go (inr kept) = inr (kept.0, λ same. kept.1 (ap (λ (x : NoteSlot). x.segment) same) (ap (λ (x : NoteSlot). x.note) same))

kind-puts : (origin target : ℕ) (memory : Memory) (kind : Kind) (bytes : List ℕ) (rank : ℕ) (slot : NoteSlot) (value : ℕ) → IsSetThere memory kind → rank ≡ put_rank origin target kind
    → HoldsIn (memory_with_put memory (destination_of kind) bytes) slot value → PutsOrKeeps origin target memory kind rank slot value
kind-puts origin target memory (Write own to) bytes rank slot value there here h = inr (bytes-keep memory to.segment _ slot value h, λ other sets. sets)
kind-puts origin target memory (Read own to) bytes rank slot value there here h = inr (bytes-keep memory own.segment _ slot value h, λ other sets. sets)
kind-puts origin target memory (Notify to set) bytes rank slot value there here h = go (slot-puts memory to set slot value there h)
  where
    go : ((slot ≡ to) × (value ≡ set)) ⊎ (HoldsIn memory slot value × (slot ≡ to → ⊥)) → PutsOrKeeps origin target memory (Notify to set) rank slot value
    go (inl is) = inl (here, is.0, is.1)
    go (inr kept) = inr (kept.0, λ other sets. kept.1 sets.1)
kind-puts origin target memory (ReadNote own) bytes rank slot value there here h = go (slot-puts memory own 1 slot value there h)
  where
    go : ((slot ≡ own) × (value ≡ 1)) ⊎ (HoldsIn memory slot value × (slot ≡ own → ⊥)) → PutsOrKeeps origin target memory (ReadNote own) rank slot value
    go (inl is) = inl (here, is.0, is.1)
    go (inr kept) = inr (kept.0, λ other sets. kept.1 sets.1)

-- what an entry sets is of the rank into whose memory it puts
sets-there : (origin target : ℕ) (kind : Kind) (rank : ℕ) (slot : NoteSlot) (value : ℕ) → Sets origin target kind rank slot value → rank ≡ put_rank origin target kind
sets-there origin target (Write own to) rank slot value sets = absurd sets
sets-there origin target (Read own to) rank slot value sets = absurd sets
sets-there origin target (Notify to set) rank slot value sets = sets.0
sets-there origin target (ReadNote own) rank slot value sets = sets.0

-- one entry sets one slot of one rank
pub sets-one : (origin target : ℕ) (kind : Kind) (rank rank' : ℕ) (slot slot' : NoteSlot) (value value' : ℕ) → Sets origin target kind rank slot value → Sets origin target kind rank' slot' value'
    → (rank ≡ rank') × (slot ≡ slot')
sets-one origin target (Write own to) rank rank' slot slot' value value' a b = absurd a
sets-one origin target (Read own to) rank rank' slot slot' value value' a b = absurd a
sets-one origin target (Notify to set) rank rank' slot slot' value value' a b = (a.0 ∙ sym b.0, a.1 ∙ sym b.1)
sets-one origin target (ReadNote own) rank rank' slot slot' value value' a b = (a.0 ∙ sym b.0, a.1 ∙ sym b.1)

slot-there : (memory : Memory) (slot : NoteSlot) (item : Segment) → segment_at memory slot.segment ≡ Some item → item.generation ≡ slot.generation → IsSlotThere memory slot
slot-there memory slot item there same other at =
    let some : ◌≡◌ {A = Option (Option Segment)} (Some (Some other)) (Some (Some item)) = sym at ∙ joined memory.segments slot.segment item there in
    let is : other ≡ item = cc in
    ap (λ (x : Segment). x.generation) is ∙ same

carried-owns : (table : List (Option Extent)) (own : NoteSlot) (phase : Phase) → is_carried_phase phase ≡ true → HasOwn table (ReadNote own) phase → IsIn table own.segment own.generation
carried-owns table own phases.Posted carried has = has
carried-owns table own (phases.Carried bytes) carried has = has
carried-owns table own phases.Failed carried has = absurd (let no : ⊥ = cc in no)

kind-there : (s : State) (origin target : ℕ) (posts : Posts) (memory : Memory) (kind : Kind) (phase : Phase) → IsSound s → slice_get s.posts origin ≡ Some posts
    → slice_get s.memories (put_rank origin target kind) ≡ Some memory → same_outcome Applied (put_outcome memory kind) ≡ true → HasOwn posts.segments.own kind phase → is_carried_phase phase ≡ true
    → IsSetThere memory kind
kind-there s origin target posts memory (Write own to) phase sound hp hm applied has carried = tt
kind-there s origin target posts memory (Read own to) phase sound hp hm applied has carried = tt
kind-there s origin target posts memory (Notify to set) phase sound hp hm applied has carried =
    let old = there-in-generation memory.segments to.segment to.generation (applied-there memory to.segment to.generation applied) in
    slot-there memory to old.0 old.1 old.2
kind-there s origin target posts memory (ReadNote own) phase sound hp hm applied has carried =
    let here = subst (λ (table : List (Option Extent)). IsIn table own.segment own.generation) (sound.coherent.own origin posts memory hp hm) (carried-owns posts.segments.own own phase carried has) in
    let old = segment-behind memory.segments own.segment here.extent here.there in
    slot-there memory own old.0 old.1 (ap (λ (x : Extent). x.generation) old.2 ∙ here.same)

-- What an event sets in the state in which it comes, and what it resets.
abbrev pub SetsBy : State → Event → ℕ → NoteSlot → ℕ → Type 0
SetsBy s (Put origin queue target number Applied) rank slot value =
    (entry : Entry) × (entry_after s origin queue target number ≡ Some entry) × Sets origin target entry.kind rank slot value
SetsBy s e rank slot value = ⊥

abbrev pub Resets : Event → ℕ → NoteSlot → Type 0
Resets (Called c (Reset call) (replies.Value answered)) rank slot = (c.rank ≡ rank) × (call.seg ≡ slot.segment) × (call.note ≡ slot.note)
Resets e rank slot = ⊥

-- An event has set a slot, or it neither has set nor reset it, and it held its value before.
abbrev pub IsSetOrHeld : State → Event → ℕ → NoteSlot → ℕ → Type 0
IsSetOrHeld s e rank slot value =
    SetsBy s e rank slot value ⊎ (Holds s rank slot value × ((other : ℕ) → SetsBy s e rank slot other → ⊥) × (Resets e rank slot → ⊥))

put-sets : (s t : State) (origin queue target number rank : ℕ) (slot : NoteSlot) (value : ℕ) → IsSound s → step s (Put origin queue target number Applied) ≡ Ok t → Holds t rank slot value
    → IsSetOrHeld s (Put origin queue target number Applied) rank slot value
put-sets s t origin queue target number rank slot value sound h holds =
    let made = sound-put s t origin queue target number Applied sound h in
    let m = made.4 in
    let at = made.3 in
    let theirs = target-there s origin queue target number made.0 at sound m.posts_there m.is.is in
    let fits = entry-fits s origin queue target number made.0 theirs.0 at sound m.posts_there theirs.1 m.is.is in
    let there = kind-there s origin target made.0 made.1 at.entry.kind at.entry.phase sound m.posts_there m.memory_there m.is.fits fits.1 (both (is_carried at.entry) _ m.is.permitted).0 in
    go made.0 made.1 made.2 at m there
  where
    go : (posts : Posts) (memory : Memory) (after : PostsAndMemory) (at : EntryPosition) → IsPutThere s t origin queue target number Applied posts memory after at → IsSetThere memory at.entry.kind
        → IsSetOrHeld s (Put origin queue target number Applied) rank slot value
    go posts memory after at m there = same-or-not place rank
        (λ same. by-kind (kind-puts origin target memory at.entry.kind (carried_bytes at.entry.phase) rank slot value there (sym same) (has same)) same)
        (λ apart. inr (elsewhere apart, λ other sets. apart (sym (sets-there origin target at.entry.kind rank slot other (entry-sets other sets))), λ resets. resets))
      where
        place : ℕ
        place = put_rank origin target at.entry.kind

        stands : entry_after s origin queue target number ≡ Some at.entry
        stands = rw m.posts_there (entry-found posts queue target number at m.is.is)

        -- the entry is the one that stands there
        entry-sets : (other : ℕ) → SetsBy s (Put origin queue target number Applied) rank slot other → Sets origin target at.entry.kind rank slot other
        entry-sets other sets =
            let some : ◌≡◌ {A = Option Entry} (Some sets.0) (Some at.entry) = sym sets.1 ∙ stands in
            let same : sets.0 ≡ at.entry = cc in
            subst (λ (e : Entry). Sets origin target e.kind rank slot other) same sets.2

        later : slice_get (slice_set s.memories place after.memory) rank ≡ Some holds.memory
        later = ap (λ (x : State). slice_get x.memories rank) (sym m.leaves) ∙ holds.memory_there

        elsewhere : (place ≡ rank → ⊥) → Holds s rank slot value
        elsewhere apart = record { memory = holds.memory; memory_there = sym (slice_get-set_other s.memories place rank after.memory apart) ∙ later; has = holds.has }

        has : place ≡ rank → HoldsIn (memory_with_put memory (destination_of at.entry.kind) (carried_bytes at.entry.phase)) slot value
        has same =
            let now = subst (λ (k : ℕ). slice_get (slice_set s.memories place after.memory) k ≡ Some after.memory) same (slice_get-set_same s.memories place memory after.memory m.memory_there) in
            let some : ◌≡◌ {A = Option Memory} (Some holds.memory) (Some after.memory) = sym later ∙ now in
            let is : holds.memory ≡ after.memory = cc in
            subst (λ (x : Memory). HoldsIn x slot value) (is ∙ ap (λ (x : PostsAndMemory). x.memory) m.is.leaves) holds.has

        by-kind : PutsOrKeeps origin target memory at.entry.kind rank slot value → place ≡ rank → IsSetOrHeld s (Put origin queue target number Applied) rank slot value
        by-kind (inl sets) same = inl (at.entry, stands, sets)
        by-kind (inr kept) same = inr (
          record { memory = memory; memory_there = ap (slice_get s.memories) (sym same) ∙ m.memory_there; has = kept.0 },
          λ other sets. kept.1 other (entry-sets other sets),
          λ resets. resets,
        )

-- a slot holds 0 after its reset
reset-clears : (s t : State) (c : CallerId) (call : reset.Reset) (answered rank : ℕ) (slot : NoteSlot) (value : ℕ) → IsSound s → step s (Called c (Reset call) (replies.Value answered)) ≡ Ok t
    → Holds t rank slot value → Resets (Called c (Reset call) (replies.Value answered)) rank slot → value ≡ 0
reset-clears s t c call answered rank slot value sound h holds resets =
    let got = slot-reset s t c call answered sound h in
    let now : slice_get t.memories rank ≡ Some got.new = ap (slice_get t.memories) (sym resets.0) ∙ ap (λ (x : State). slice_get x.memories c.rank) got.after ∙ slice_get-set_same s.memories c.rank got.old got.new got.old_there in
    let memories : ◌≡◌ {A = Option Memory} (Some got.new) (Some holds.memory) = sym now ∙ holds.memory_there in
    let memory : got.new ≡ holds.memory = cc in
    let slots : slice_get holds.memory.slots slot.segment ≡ Some (Some got.slots.after) =
    ap (λ (x : Memory). slice_get x.slots slot.segment) (sym memory) ∙ ap (slice_get got.new.slots) (sym resets.1) ∙ joined got.new.slots call.seg got.slots.after got.slots.after_there in
    let lists : ◌≡◌ {A = Option (Option (List ℕ))} (Some (Some got.slots.after)) (Some (Some holds.has.slots)) = sym slots ∙ holds.has.slots_there in
    let list : got.slots.after ≡ holds.has.slots = cc in
    let values : ◌≡◌ {A = Option ℕ} (Some value) (Some 0) =
    sym holds.has.holds ∙ ap (λ (xs : List ℕ). slice_get xs slot.note) (sym list) ∙ ap (slice_get got.slots.after) (sym resets.2) ∙ got.slots.set.there in
    let zero_is : value ≡ 0 = cc in
    zero_is

called-resets : (s t : State) (c : CallerId) (call : Call) (reply : Reply) (rank : ℕ) (slot : NoteSlot) (value : ℕ) → IsSound s → step s (Called c call reply) ≡ Ok t → value ≢ 0
    → Holds t rank slot value → Resets (Called c call reply) rank slot → ⊥
called-resets s t c (Reset call) (replies.Value answered) rank slot value sound h some holds resets = some (reset-clears s t c call answered rank slot value sound h holds resets)
called-resets s t c call reply rank slot value sound h some holds resets = resets

-- each event
pub step-holds : (s t : State) (e : Event) (rank : ℕ) (slot : NoteSlot) (value : ℕ) → IsSound s → step s e ≡ Ok t → value ≢ 0 → Holds t rank slot value → IsSetOrHeld s e rank slot value
step-holds s t (Called c call reply) rank slot value sound h some holds =
    inr (called-keeps s t c call reply rank slot value sound h some holds, λ other sets. sets, called-resets s t c call reply rank slot value sound h some holds)
step-holds s t (Joined c id args) rank slot value sound h some holds = inr (joined-keeps s t c id args rank slot value sound h some holds, λ other sets. sets, λ resets. resets)
step-holds s t (Take origin queue target number outcome) rank slot value sound h some holds =
    inr (unchanged-keeps s t rank slot value (ap (λ (x : State). x.memories) (step-take s t origin queue target number outcome h).4.leaves) holds, λ other sets. sets, λ resets. resets)
step-holds s t (Put origin queue target number Applied) rank slot value sound h some holds = put-sets s t origin queue target number rank slot value sound h holds
step-holds s t (Put origin queue target number Failed) rank slot value sound h some holds =
    inr (unchanged-keeps s t rank slot value (ap (λ (x : State). x.memories) (put-failed s t origin queue target number sound h).after) holds, λ other sets. sets, λ resets. resets)
