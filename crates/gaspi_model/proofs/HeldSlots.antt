-- What a slot of a memory holds, and that a memory which is changed holds nothing new but what is set.
use Rattle.std.proofs.Common.{◌≡◌, ◌≢◌, ℕ, ◌⊎◌, inl, inr, List, [], ◌∷◌, Option, None, Some, replicate, refl, sym, ap, ◌∙◌, subst}
use Rattle.std.specs.List.{slice_get, slice_set}
use Rattle.std.specs.Option.{option_map, unwrap_or}
use Rattle.gaspi_types.specs.SegmentBytes.{with_range}
use Rattle.gaspi_types.specs.Segments.{segment_in}
use Rattle.gaspi_types.specs.Tables.{item_at}
use Rattle.gaspi_types.specs.declared.calls.Call.{Call}
use Rattle.gaspi_types.specs.declared.calls.Call.TheVariants.{Alloc, Delete, Store, Reset, PassiveSend, PassiveReceive, FetchAdd, CompareSwap}
use Rattle.gaspi_types.specs.declared.calls.passive.PassiveReceive as receive
use Rattle.gaspi_types.specs.declared.entries.NoteSlot.{NoteSlot}
use Rattle.gaspi_types.specs.declared.inboxes.Message.{Message}
use Rattle.gaspi_types.specs.declared.segments.Segment.{Segment}
use Rattle.gaspi_types.specs.declared.shapes.Limits.{Limits}
use Rattle.gaspi_types.proofs.Items.{slice_get-set, slice_get-set_same, slice_get-set_other, slice_get-replicate, same-or-not, joined}
use Rattle.gaspi_model.specs.Calls.{memory_effect}
use Rattle.gaspi_model.specs.Memories.{bytes_of, slots_of, with_bytes, with_slots}
use Rattle.gaspi_model.specs.PassiveCalls.{send_effect, receive_effect}
use Rattle.gaspi_model.specs.declared.states.Memory.{Memory}
use Rattle.gaspi_model.specs.declared.states.Posts.{Posts}

-- A segment is there in a slot's generation, and the slot holds a value.
pub record HoldsIn (memory : Memory) (slot : NoteSlot) (value : ℕ) : Type 0 where
  pub item : Segment
  pub slots : List ℕ
  pub there : slice_get memory.segments slot.segment ≡ Some (Some item)
  pub same : item.generation ≡ slot.generation
  pub slots_there : slice_get memory.slots slot.segment ≡ Some (Some slots)
  pub holds : slice_get slots slot.note ≡ Some value

-- what was set in a table is what stands there
set-is : {A : Type 0} (xs : List A) (i : ℕ) (y z : A) → slice_get (slice_set xs i y) i ≡ Some z → z ≡ y
set-is {A} xs i y z h = go (slice_get-set xs i i y z h)
  where
    go : ((i ≡ i) × (z ≡ y)) ⊎ (slice_get xs i ≡ Some z) → z ≡ y
    go (inl both) = both.1
    go (inr there) = (let some : ◌≡◌ {A = Option A} (Some z) (Some y) = sym h ∙ slice_get-set_same xs i z y there in cc)

-- bytes of a segment that are replaced
pub bytes-keep : (memory : Memory) (segment : ℕ) (bytes : List ℕ) (slot : NoteSlot) (value : ℕ) → HoldsIn (with_bytes memory segment bytes) slot value → HoldsIn memory slot value
bytes-keep memory segment bytes slot value h = go (slice_get-set memory.segments segment slot.segment (option_map change (segment_in memory.segments segment)) (Some h.item) h.there)
  where
    change : Segment → Segment
    change s = record s { bytes = bytes }

    kept : (old : Segment) → slice_get memory.segments slot.segment ≡ Some (Some old) → old.generation ≡ h.item.generation → HoldsIn memory slot value
    kept old there same = record { item = old; slots = h.slots; there = there; same = same ∙ h.same; slots_there = h.slots_there; holds = h.holds }

    changed : (o : Option Segment) → segment_in memory.segments segment ≡ o → slot.segment ≡ segment → ◌≡◌ {A = Option Segment} (Some h.item) (option_map change o) → HoldsIn memory slot value
    changed None at same is = absurd (let no : ⊥ = cc in no)
    changed (Some old) at same is =
        let item : h.item ≡ change old = cc in
        kept old (ap (slice_get memory.segments) same ∙ joined memory.segments segment old at) (sym (ap (λ (x : Segment). x.generation) item))

    go : ((slot.segment ≡ segment) × (Some h.item ≡ option_map change (segment_in memory.segments segment))) ⊎ (slice_get memory.segments slot.segment ≡ Some (Some h.item)) → HoldsIn memory slot value
    go (inl both) = changed (segment_in memory.segments segment) refl both.0 both.1
    go (inr there) = kept h.item there refl

-- A slot of a segment that is set.
abbrev pub with_slot : Memory → ℕ → ℕ → ℕ → Memory
with_slot memory segment note set = with_slots memory segment (slice_set (slots_of memory segment) note set)

-- A slot holds what was set there, and another what it held.
abbrev pub IsSetOrKept : Memory → ℕ → ℕ → ℕ → NoteSlot → ℕ → Type 0
IsSetOrKept memory segment note set slot value =
    ((slot.segment ≡ segment) × (slot.note ≡ note) × (value ≡ set)) ⊎ (HoldsIn memory slot value × (slot.segment ≡ segment → slot.note ≡ note → ⊥))

pub slot-set : (memory : Memory) (segment note set : ℕ) (slot : NoteSlot) (value : ℕ) → HoldsIn (with_slot memory segment note set) slot value → IsSetOrKept memory segment note set slot value
slot-set memory segment note set slot value h = same-or-not segment slot.segment (λ same. here (sym same)) (λ apart. inr (kept h.slots (sym (slice_get-set_other memory.slots segment slot.segment new apart) ∙ h.slots_there) h.holds, λ same noted. apart (sym same)))
  where
    new : Option (List ℕ)
    new = option_map (λ (old : List ℕ). slice_set (slots_of memory segment) note set) (item_at memory.slots segment)

    kept : (slots : List ℕ) → slice_get memory.slots slot.segment ≡ Some (Some slots) → slice_get slots slot.note ≡ Some value → HoldsIn memory slot value
    kept slots there holds = record { item = h.item; slots = slots; there = h.there; same = h.same; slots_there = there; holds = holds }

    in-slots : (old : List ℕ) → slot.segment ≡ segment → slice_get memory.slots segment ≡ Some (Some old) → h.slots ≡ slice_set old note set → IsSetOrKept memory segment note set slot value
    in-slots old same there are =
        let holds : slice_get (slice_set old note set) slot.note ≡ Some value = ap (λ (xs : List ℕ). slice_get xs slot.note) (sym are) ∙ h.holds in
        same-or-not note slot.note
        (λ noted. inl (same, sym noted, set-is old note set value (subst (λ (k : ℕ). slice_get (slice_set old note set) k ≡ Some value) (sym noted) holds)))
        (λ apart. inr (kept old (ap (slice_get memory.slots) same ∙ there) (sym (slice_get-set_other old note slot.note set apart) ∙ holds), λ same noted. apart (sym noted)))

    by-entry : (o : Option (List ℕ)) → item_at memory.slots segment ≡ o → slot.segment ≡ segment → Some h.slots ≡ option_map (λ (old : List ℕ). slice_set (unwrap_or o []) note set) o → IsSetOrKept memory segment note set slot value
    by-entry None at same is = absurd (let no : ⊥ = cc in no)
    by-entry (Some old) at same is = in-slots old same (joined memory.slots segment old at) (let are : h.slots ≡ slice_set old note set = cc in are)

    here : slot.segment ≡ segment → IsSetOrKept memory segment note set slot value
    here same =
        by-entry (item_at memory.slots segment) refl same
        (set-is memory.slots segment new (Some h.slots) (subst (λ (k : ℕ). slice_get (slice_set memory.slots segment new) k ≡ Some (Some h.slots)) same h.slots_there))

-- A segment that is made: all its slots are 0.
abbrev pub with_made : Memory → ℕ → Segment → ℕ → Memory
with_made memory segment item notes = record memory { segments = slice_set memory.segments segment (Some item); slots = slice_set memory.slots segment (Some (replicate notes 0)) }

pub made-keep : (memory : Memory) (segment : ℕ) (item : Segment) (notes : ℕ) (slot : NoteSlot) (value : ℕ) → value ≢ 0 → HoldsIn (with_made memory segment item notes) slot value → HoldsIn memory slot value
made-keep memory segment item notes slot value some h = same-or-not segment slot.segment
    (λ same.
    let new : ◌≡◌ {A = Option (List ℕ)} (Some h.slots) (Some (replicate notes 0)) =
    set-is memory.slots segment (Some (replicate notes 0)) (Some h.slots) (subst (λ (k : ℕ). slice_get (slice_set memory.slots segment (Some (replicate notes 0))) k ≡ Some (Some h.slots)) (sym same) h.slots_there) in
    let are : h.slots ≡ replicate notes 0 = cc in
    absurd (some (slice_get-replicate notes 0 value slot.note (ap (λ (xs : List ℕ). slice_get xs slot.note) (sym are) ∙ h.holds))))
    (λ apart. record {
      item = h.item;
      slots = h.slots;
      there = sym (slice_get-set_other memory.segments segment slot.segment (Some item) apart) ∙ h.there;
      same = h.same;
      slots_there = sym (slice_get-set_other memory.slots segment slot.segment (Some (replicate notes 0)) apart) ∙ h.slots_there;
      holds = h.holds;
    })

-- a segment that goes
gone-keep : (memory : Memory) (segment : ℕ) (slot : NoteSlot) (value : ℕ)
    → HoldsIn (record memory { segments = slice_set memory.segments segment None; slots = slice_set memory.slots segment None }) slot value → HoldsIn memory slot value
gone-keep memory segment slot value h = same-or-not segment slot.segment
    (λ same.
    let none : ◌≡◌ {A = Option (List ℕ)} (Some h.slots) None =
    set-is memory.slots segment None (Some h.slots) (subst (λ (k : ℕ). slice_get (slice_set memory.slots segment None) k ≡ Some (Some h.slots)) (sym same) h.slots_there) in
    absurd (let no : ⊥ = cc in no))
    (λ apart. record {
      item = h.item;
      slots = h.slots;
      there = sym (slice_get-set_other memory.segments segment slot.segment None apart) ∙ h.there;
      same = h.same;
      slots_there = sym (slice_get-set_other memory.slots segment slot.segment None apart) ∙ h.slots_there;
      holds = h.holds;
    })

-- messages that come and go
inbox-keep : (memory : Memory) (inbox : List Message) (slot : NoteSlot) (value : ℕ) → HoldsIn (record memory { inbox = inbox }) slot value → HoldsIn memory slot value
inbox-keep memory inbox slot value h = record { item = h.item; slots = h.slots; there = h.there; same = h.same; slots_there = h.slots_there; holds = h.holds }

send-keep : (brought : Option Message) (memory : Memory) (slot : NoteSlot) (value : ℕ) → HoldsIn (send_effect brought memory) slot value → HoldsIn memory slot value
send-keep None memory slot value h = h
send-keep (Some message) memory slot value h = inbox-keep memory _ slot value h

receive-keep : (memory : Memory) (call : receive.PassiveReceive) (slot : NoteSlot) (value : ℕ) → HoldsIn (receive_effect memory call) slot value → HoldsIn memory slot value
receive-keep memory call slot value h = go memory.inbox refl
  where
    go : (inbox : List Message) → memory.inbox ≡ inbox → HoldsIn memory slot value
    go [] is = (let with_none : HoldsIn (record memory { inbox = [] }) slot value = rw is at h in inbox-keep memory [] slot value with_none)
    go (message ∷ rest) is =
        let with_message : HoldsIn (record (with_bytes memory call.seg (with_range (bytes_of memory call.seg) call.offset message.bytes)) { inbox = rest }) slot value = rw is at h in
        bytes-keep memory call.seg (with_range (bytes_of memory call.seg) call.offset message.bytes) slot value (inbox-keep _ rest slot value with_message)

-- no call makes a slot hold another value than 0
pub call-keeps : (limits : Limits) (posts : Posts) (brought : Option Message) (memory : Memory) (call : Call) (slot : NoteSlot) (value : ℕ) → value ≢ 0
    → HoldsIn (memory_effect limits posts brought memory call) slot value → HoldsIn memory slot value
call-keeps limits posts brought memory (Alloc call) slot value some h = made-keep memory call.seg _ limits.notes slot value some h
call-keeps limits posts brought memory (Delete call) slot value some h = gone-keep memory call.seg slot value h
call-keeps limits posts brought memory (Store call) slot value some h = bytes-keep memory call.seg _ slot value h
call-keeps limits posts brought memory (Reset call) slot value some h = go (slot-set memory call.seg call.note 0 slot value h)
  where
    go : IsSetOrKept memory call.seg call.note 0 slot value → HoldsIn memory slot value
    go (inl set) = absurd (some set.2)
    go (inr kept) = kept.0
call-keeps limits posts brought memory (PassiveSend call) slot value some h = send-keep brought memory slot value h
call-keeps limits posts brought memory (PassiveReceive call) slot value some h = receive-keep memory call slot value h
call-keeps limits posts brought memory (FetchAdd call) slot value some h = bytes-keep memory call.seg _ slot value h
call-keeps limits posts brought memory (CompareSwap call) slot value some h = bytes-keep memory call.seg _ slot value h
call-keeps limits posts brought memory other slot value some h = h
