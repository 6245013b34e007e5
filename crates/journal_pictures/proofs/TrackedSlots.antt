-- In a legal history the slots that a trace takes for set are so by the puts at their places, as far as the state has another value there
-- than 0.
use Rattle.std.proofs.Common.{◌≡◌, ◌≢◌, ℕ, zero, suc, ◌+◌, ◌<◌, ◌≤◌, arith, Bool, true, false, not, ◌==◌, List, [], ◌∷◌, ◌++◌, filter, find, length, take, Option, None, Some, Ok, refl, sym, ap, ◌∙◌, subst, ◌⊎◌, inl, inr}
use Rattle.std.specs.List.{slice_get}
use Rattle.std.specs.Option.{option_or}
use Rattle.std.proofs.lemmas.Bool.{cases_order, eq-eqb, eqb-true}
use Rattle.std.proofs.lemmas.List.{length-take-le}
use Rattle.std.proofs.lemmas.List.Folds.{find-append}
use Rattle.std.proofs.lemmas.Option.{slice_get_within}
use Rattle.gaspi_types.proofs.Chains.{both}
use Rattle.gaspi_types.proofs.Items.{joined, there-within}
use Rattle.gaspi_types.specs.World.{ShapeValue, IsShape}
use Rattle.gaspi_types.specs.declared.calls.Call.TheVariants.{Reset}
use Rattle.gaspi_types.specs.declared.entries.Entry.{Entry}
use Rattle.gaspi_types.specs.declared.entries.Kind.{Kind}
use Rattle.gaspi_types.specs.declared.entries.Kind.TheVariants.{Write, Read, Notify, ReadNote}
use Rattle.gaspi_types.specs.declared.entries.NoteSlot.{NoteSlot}
use Rattle.gaspi_types.specs.declared.events.Event.{Event}
use Rattle.gaspi_types.specs.declared.events.Event.TheVariants.{Called, Put}
use Rattle.gaspi_types.specs.declared.events.Outcome.TheVariants.{Applied}
use Rattle.gaspi_types.specs.declared.replies.Reply.TheVariants as replies
use Rattle.gaspi_types.specs.declared.segments.Segment.{Segment}
use Rattle.gaspi_types.specs.declared.shapes.CallerId.{CallerId}
use Rattle.gaspi_model.specs.Changes.{IsPutDone, IsThere}
use Rattle.gaspi_model.specs.Notifications.{Sets, SetsSlot}
use Rattle.gaspi_model.specs.Shards.{entry_after}
use Rattle.gaspi_model.specs.Sound.{IsSound}
use Rattle.gaspi_model.specs.Step.{step, reached, is_legal}
use Rattle.gaspi_model.specs.declared.states.Memory.{Memory}
use Rattle.gaspi_model.specs.declared.states.State.{State}
use Rattle.gaspi_model.proofs.Changed.Puts.{put-done}
use Rattle.gaspi_model.proofs.HeldSlots.{HoldsIn}
use Rattle.gaspi_model.proofs.HeldSteps.{Holds, IsSetOrHeld, SetsBy, Resets, step-holds}
use Rattle.gaspi_model.proofs.Histories.{reached-sound}
use Rattle.gaspi_model.proofs.LastSets.{set-by, set-still}
use Rattle.call_journal.proofs.Places.{is-standing, step-at, same-state}
use Rattle.call_journal.proofs.Standing.{InQueues}
use Rattle.journal_pictures.specs.Arrows.{IsSetBy, open_after, open_at, set_after, set_at, slot_in}
use Rattle.journal_pictures.specs.Deliveries.{delivery_of, posted}
use Rattle.journal_pictures.specs.OpenEntries.{entries_after, entry_of, is_numbered, is_slot, put_entry, slots_after, slots_put, with_slot, without_slot}
use Rattle.journal_pictures.specs.Trace.{nothing_open}
use Rattle.journal_pictures.specs.declared.deliveries.Delivery.{Delivery}
use Rattle.journal_pictures.specs.declared.open_entries.OpenEntry.{OpenEntry}
use Rattle.journal_pictures.specs.declared.open_entries.RankEntries.{RankEntries}
use Rattle.journal_pictures.specs.declared.set_slots.SetSlot.{SetSlot}
use Rattle.journal_pictures.proofs.Brought.{brought-at, shifted, taken-suc}
use Rattle.journal_pictures.proofs.TrackedEntries.{find-some, tracked-at}

-- What is found in a list of slots.

-- a filter loses nothing that is looked for
find-filter : {A : Type 0} (p q : A → Bool) → ((x : A) → p x ≡ true → q x ≡ true) → (xs : List A) → find p (filter q xs) ≡ find p xs
find-filter p q weaker [] = refl
find-filter {A} p q weaker (x ∷ xs) = go (p x) refl (q x) refl (find-filter p q weaker xs)
  where
    go : (a : Bool) → p x ≡ a → (b : Bool) → q x ≡ b → find p (filter q xs) ≡ find p xs → find p (filter q (x ∷ xs)) ≡ find p (x ∷ xs)
    go true pass true kept rest = rw kept (rw pass refl)
    go true pass false lost rest = absurd (let yes = weaker x pass in let no : ⊥ = cc in no)
    go false fail true kept rest = rw kept (rw fail rest)
    go false fail false lost rest = rw lost (rw fail rest)

-- or all of it
find-without : {A : Type 0} (p : A → Bool) (xs : List A) → find p (filter (λ x. not (p x)) xs) ≡ None
find-without p [] = refl
find-without {A} p (x ∷ xs) = go (p x) refl (find-without p xs)
  where
    go : (b : Bool) → p x ≡ b → find p (filter (λ y. not (p y)) xs) ≡ None → find p (filter (λ y. not (p y)) (x ∷ xs)) ≡ None
    go true pass rest = rw pass rest
    go false fail rest = rw fail (rw fail rest)

abbrev IsSlot : ℕ → ℕ → ℕ → SetSlot → Type 0
IsSlot rank segment note s = (s.rank ≡ rank) × (s.segment ≡ segment) × (s.note ≡ note)

slot-fields : (rank segment note : ℕ) (s : SetSlot) → is_slot rank segment note s ≡ true → IsSlot rank segment note s
slot-fields rank segment note s is =
    let parts = both (s.rank == rank) _ is in
    let rest = both (s.segment == segment) (s.note == note) parts.1 in
    (eqb-true s.rank rank parts.0, eqb-true s.segment segment rest.0, eqb-true s.note note rest.1)

slot-is : (rank segment note : ℕ) (s : SetSlot) → IsSlot rank segment note s → is_slot rank segment note s ≡ true
slot-is rank segment note s is = rw (eq-eqb s.rank rank is.0, eq-eqb s.segment segment is.1, eq-eqb s.note note is.2) refl

-- a slot is none of another rank, segment or number
other-slot : (rank segment note rank' segment' note' : ℕ) → ((rank' ≡ rank) × (segment' ≡ segment) × (note' ≡ note) → ⊥) → (s : SetSlot) → is_slot rank segment note s ≡ true → not (is_slot rank' segment' note' s) ≡ true
other-slot rank segment note rank' segment' note' apart s is = go (is_slot rank' segment' note' s) refl
  where
    go : (b : Bool) → is_slot rank' segment' note' s ≡ b → not b ≡ true
    go true too =
        let a = slot-fields rank segment note s is in
        let b = slot-fields rank' segment' note' s too in
        absurd (apart (sym b.0 ∙ a.0, sym b.1 ∙ a.1, sym b.2 ∙ a.2))
    go false other = refl

-- a slot that is set is found, and another is found as before
found-set : (s : SetSlot) (slots : List SetSlot) → find (is_slot s.rank s.segment s.note) (with_slot s slots) ≡ Some s
found-set s slots =
    find-append (is_slot s.rank s.segment s.note) (without_slot s.rank s.segment s.note slots) (s ∷ [])
    ∙ ap (λ (o : Option SetSlot). option_or o (find (is_slot s.rank s.segment s.note) (s ∷ []))) (find-without (is_slot s.rank s.segment s.note) slots)
    ∙ (rw (slot-is s.rank s.segment s.note s (refl, refl, refl)) refl)

found-other : (rank segment note : ℕ) (s x : SetSlot) (slots : List SetSlot) → ((s.rank ≡ rank) × (s.segment ≡ segment) × (s.note ≡ note) → ⊥) → find (is_slot rank segment note) slots ≡ Some x
    → find (is_slot rank segment note) (with_slot s slots) ≡ Some x
found-other rank segment note s x slots apart found =
    find-append (is_slot rank segment note) (without_slot s.rank s.segment s.note slots) (s ∷ [])
    ∙ ap (λ (o : Option SetSlot). option_or o (find (is_slot rank segment note) (s ∷ [])))
    (find-filter (is_slot rank segment note) (λ y. not (is_slot s.rank s.segment s.note y)) (other-slot rank segment note s.rank s.segment s.note apart) slots ∙ found)

-- What an entry sets is what it brings.

abbrev slot_by : ℕ → ℕ → ℕ → ℕ → NoteSlot → SetSlot
slot_by place origin queue rank slot = record { rank = rank; segment = slot.segment; note = slot.note; origin = origin; queue = queue; place = place }

kind-sets : (place origin queue target : ℕ) (x : OpenEntry) (kind : Kind) (rank : ℕ) (slot : NoteSlot) (value : ℕ) (slots : List SetSlot) → x.delivery ≡ delivery_of kind → Sets origin target kind rank slot value
    → slots_put place origin queue target (Some x) slots ≡ with_slot (slot_by place origin queue rank slot) slots
kind-sets place origin queue target x (Write own to) rank slot value slots brings sets = absurd sets
kind-sets place origin queue target x (Read own to) rank slot value slots brings sets = absurd sets
kind-sets place origin queue target x (Notify to set) rank slot value slots brings sets =
    rw brings (ap (λ (k : ℕ). with_slot (slot_by place origin queue k to) slots) (sym sets.0) ∙ ap (λ (k : NoteSlot). with_slot (slot_by place origin queue rank k) slots) (sym sets.1))
kind-sets place origin queue target x (ReadNote own) rank slot value slots brings sets =
    rw brings (ap (λ (k : ℕ). with_slot (slot_by place origin queue k own) slots) (sym sets.0) ∙ ap (λ (k : NoteSlot). with_slot (slot_by place origin queue rank k) slots) (sym sets.1))

-- another slot is found as before
put-found : (place origin queue target : ℕ) (y : OpenEntry) (kind : Kind) (rank segment note : ℕ) (x : SetSlot) (slots : List SetSlot) → y.delivery ≡ delivery_of kind
    → ((to : NoteSlot) (set : ℕ) → Sets origin target kind rank to set → to.segment ≡ segment → to.note ≡ note → ⊥) → find (is_slot rank segment note) slots ≡ Some x
    → find (is_slot rank segment note) (slots_put place origin queue target (Some y) slots) ≡ Some x
put-found place origin queue target y (Write own to) rank segment note x slots brings unset found = rw brings found
put-found place origin queue target y (Read own to) rank segment note x slots brings unset found = rw brings found
put-found place origin queue target y (Notify to set) rank segment note x slots brings unset found =
    rw brings (found-other rank segment note (slot_by place origin queue target to) x slots (λ same. unset to set (sym same.0, refl, refl) same.1 same.2) found)
put-found place origin queue target y (ReadNote own) rank segment note x slots brings unset found =
    rw brings (found-other rank segment note (slot_by place origin queue origin own) x slots (λ same. unset own 1 (sym same.0, refl, refl) same.1 same.2) found)

-- A put of a slot of which a value is held sets it in the same generation.

slot_with : ℕ → ℕ → ℕ → NoteSlot
slot_with segment generation note = record { segment = segment; generation = generation; note = note }

one-generation : (memory : Memory) (slot to : NoteSlot) (value : ℕ) → HoldsIn memory slot value → IsThere memory to.segment to.generation → to.segment ≡ slot.segment → to.note ≡ slot.note → slot ≡ to
unfolding slot_with
one-generation memory slot to value held there segment note =
    let at : slice_get memory.segments slot.segment ≡ Some (Some there.item) = ap (slice_get memory.segments) (sym segment) ∙ joined memory.segments to.segment there.item there.there in
    let some : ◌≡◌ {A = Option (Option Segment)} (Some (Some held.item)) (Some (Some there.item)) = sym held.there ∙ at in
    let item : held.item ≡ there.item = cc in
    let generation : slot.generation ≡ to.generation = sym held.same ∙ ap (λ (x : Segment). x.generation) item ∙ there.same in
    ap (λ (n : ℕ). slot_with n slot.generation slot.note) (sym segment) ∙ ap (λ (n : ℕ). slot_with to.segment n slot.note) generation ∙ ap (λ (n : ℕ). slot_with to.segment to.generation n) (sym note)

-- the memory that a put works on holds what the state does
held-there : (s : State) (rank rank' : ℕ) (slot : NoteSlot) (value : ℕ) (old : Memory) → Holds s rank slot value → slice_get s.memories rank' ≡ Some old → rank ≡ rank' → HoldsIn old slot value
held-there s rank rank' slot value old holds there same =
    let some : ◌≡◌ {A = Option Memory} (Some holds.memory) (Some old) = sym holds.memory_there ∙ ap (slice_get s.memories) same ∙ there in
    let is : holds.memory ≡ old = cc in
    subst (λ (m : Memory). HoldsIn m slot value) is holds.has

put-generation : (s t : State) (origin queue target number rank : ℕ) (slot to : NoteSlot) (value set : ℕ) (d : IsPutDone s t origin queue target number) → Holds s rank slot value → Sets origin target d.entry.kind rank to set
    → to.segment ≡ slot.segment → to.note ≡ slot.note → slot ≡ to
put-generation s t origin queue target number rank slot to value set d holds sets segment note = go d.entry.kind refl
  where
    go : (kind : Kind) → d.entry.kind ≡ kind → slot ≡ to
    go (Write own there) is = absurd (let no : ⊥ = rw is at sets in no)
    go (Read own there) is = absurd (let no : ⊥ = rw is at sets in no)
    go (Notify there v) is =
        let sets' = rw is at sets in
        let puts = rw is at d.puts in
        let old_there = rw is at d.old_there in
        let slot_is : to ≡ there = sets'.1 in
        one-generation d.old slot to value (held-there s rank target slot value d.old holds old_there sets'.0) (subst (λ (x : NoteSlot). IsThere d.old x.segment x.generation) (sym slot_is) puts.0) segment note
    go (ReadNote own) is =
        let sets' = rw is at sets in
        let puts = rw is at d.puts in
        let old_there = rw is at d.old_there in
        let slot_is : to ≡ own = sets'.1 in
        one-generation d.old slot to value (held-there s rank origin slot value d.old holds old_there sets'.0) (subst (λ (x : NoteSlot). IsThere d.old x.segment x.generation) (sym slot_is) puts.0) segment note

-- the entry that stands where a put found one
put-stands : (s t : State) (origin queue target number : ℕ) (d : IsPutDone s t origin queue target number) → InQueues d.posts.queues queue target number d.entry.kind
put-stands s t origin queue target number d = record {
  q = d.q;
  queue_there = d.queue_there;
  in_queue = record { lane = d.lane; lane_there = d.lane_there; has = record { place = d.place; entry = d.entry; there = d.entry_there; numbered = d.numbered; kind_is = refl } };
}

same-kind : (s t : State) (origin queue target number : ℕ) (d : IsPutDone s t origin queue target number) (entry : Entry) → IsSound s → entry_after s origin queue target number ≡ Some entry → entry.kind ≡ d.entry.kind
same-kind s t origin queue target number d entry sound stands =
    let found = is-standing s origin queue target number d.entry.kind d.posts sound d.posts_there (put-stands s t origin queue target number d) in
    let some : ◌≡◌ {A = Option Entry} (Some entry) (Some found.0) = sym stands ∙ found.1 in
    let same : entry ≡ found.0 = cc in
    ap (λ (x : Entry). x.kind) same ∙ found.2

-- whatever an event sets of a slot that holds a value, it sets in its generation
sets-same : (s t : State) (e : Event) (rank : ℕ) (slot to : NoteSlot) (value set : ℕ) → IsSound s → step s e ≡ Ok t → Holds s rank slot value → to.segment ≡ slot.segment → to.note ≡ slot.note
    → SetsBy s e rank to set → SetsBy s e rank slot set
sets-same s t (Put origin queue target number Applied) rank slot to value set sound h holds segment note sets =
    let d = put-done s t origin queue target number sound h in
    let kind = same-kind s t origin queue target number d sets.0 sound sets.1 in
    let same = put-generation s t origin queue target number rank slot to value set d holds (subst (λ (k : Kind). Sets origin target k rank to set) kind sets.2) segment note in
    (sets.0, sets.1, subst (λ (x : NoteSlot). Sets origin target sets.0.kind rank x set) (sym same) sets.2)
sets-same s t e rank slot to value set sound h holds segment note sets = absurd sets

set-append : (ranks : List RankEntries) (slots : List SetSlot) (place n : ℕ) (events : List Event) (e : Event) (ranks' : List RankEntries) → n ≡ place + length events → ranks' ≡ open_after ranks events
    → set_after ranks slots place (events ++ e ∷ []) ≡ slots_after (put_entry ranks' e) n e (set_after ranks slots place events)
set-append ranks slots place n [] e ranks' is are = let same : n ≡ place = omega arith in rw (same, are) refl
set-append ranks slots place n (x ∷ events) e ranks' is are =
    set-append (entries_after x ranks) (slots_after (put_entry ranks x) place x slots) (place + 1) n events e ranks' (omega arith) are

pub set-suc : (journal : List Event) (place : ℕ) (e : Event) → slice_get journal place ≡ Some e → set_at journal (suc place) ≡ slots_after (put_entry (open_at journal place) e) place e (set_at journal place)
set-suc journal place e at =
    let within = slice_get_within journal place e at in
    let long : length (take place journal) ≡ place = length-take-le place journal (omega arith) in
    ap (set_after nothing_open [] 0) (taken-suc journal place e at) ∙ set-append nothing_open [] 0 place (take place journal) e (open_at journal place) (omega arith) refl

-- A slot that holds a value is taken for set, by the put that has set it.
pub record IsTrackedSlot (w : ShapeValue) (journal : List Event) (place rank : ℕ) (slot : NoteSlot) (value : ℕ) : Type 0 where
  pub s : SetSlot
  pub found : find (is_slot rank slot.segment slot.note) (set_at journal place) ≡ Some s
  pub is : IsSlot rank slot.segment slot.note s
  pub set : IsSetBy w journal place s slot.generation value

module _ (w : ShapeValue) (world : IsShape w) (journal : List Event) (legal : is_legal w journal ≡ true) where
  -- an entry that is put is an open one
  put-tracked : (place origin queue target number : ℕ) (s t : State) → place ≤ length journal → reached w (take place journal) ≡ Ok s → (d : IsPutDone s t origin queue target number)
      → (x : OpenEntry) × (put_entry (open_at journal place) (Put origin queue target number Applied) ≡ Some x) × (x.delivery ≡ delivery_of d.entry.kind)
  unfolding put-stands
  put-tracked place origin queue target number s t within leads d =
      let opened = tracked-at w world journal legal origin place within s leads d.posts d.posts_there in
      let stands = put-stands s t origin queue target number d in
      let l = opened.are.listed queue target number d.entry.kind (record { stands = stands; whole = d.whole }) in
      let f = find-some (is_numbered number) opened.own.entries l.index l.entry l.there (eq-eqb l.entry.number number l.numbered) in
      let brought = (brought-at w world journal legal origin place within s leads d.posts d.posts_there).each queue target number d.entry.kind stands in
      let brings = opened.are.brings f.0 f.1 f.3 in
      let number_is = eqb-true f.1.number number f.4 in
      let some : ◌≡◌ {A = Option Delivery} (Some f.1.delivery) (Some (delivery_of d.entry.kind)) = sym brings ∙ ap (slice_get (posted origin (take place journal))) number_is ∙ brought in
      let same : f.1.delivery ≡ delivery_of d.entry.kind = cc in
      (f.1, ap (λ (o : Option RankEntries). entry_of o number) opened.there ∙ f.2, same)

  -- a slot that is set just now
  set-here : (place : ℕ) (e : Event) (s t : State) (rank : ℕ) (slot : NoteSlot) (value : ℕ) → slice_get journal place ≡ Some e → reached w (take place journal) ≡ Ok s → IsSound s → step s e ≡ Ok t
      → SetsBy s e rank slot value → IsTrackedSlot w journal (suc place) rank slot value
  set-here place (Put origin queue target number Applied) s t rank slot value at leads sound h sets =
      let within = slice_get_within journal place _ at in
      let d = put-done s t origin queue target number sound h in
      let x = put-tracked place origin queue target number s t (omega arith) leads d in
      let kind = same-kind s t origin queue target number d sets.0 sound sets.1 in
      let all = kind-sets place origin queue target x.0 sets.0.kind rank slot value (set_at journal place) (x.2 ∙ ap delivery_of (sym kind)) sets.2 in
      let put = slot_by place origin queue rank slot in
      let now : set_at journal (suc place) ≡ with_slot put (set_at journal place) =
      set-suc journal place (Put origin queue target number Applied) at ∙ ap (λ (o : Option OpenEntry). slots_after o place (Put origin queue target number Applied) (set_at journal place)) x.1 ∙ all in
      record {
        s = put;
        found = ap (find (is_slot rank slot.segment slot.note)) now ∙ found-set put (set_at journal place);
        is = (refl, refl, refl);
        set = record {
          sets = record { origin = origin; queue = queue; target = target; number = number; state = s; entry = sets.0; is = at; leads = leads; stands = sets.1; sets = sets.2 };
          origin = refl;
          queue = refl;
          earlier = omega arith;
          last = λ between other again after before later. omega arith;
          unread = λ between answered c after before mine resets. omega arith;
        };
      }
  set-here place e s t rank slot value at leads sound h sets = absurd sets

  -- what is found stays so where the event neither sets nor resets the slot
  found-on : (place : ℕ) (e : Event) (s t : State) (rank : ℕ) (slot : NoteSlot) (value : ℕ) (x : SetSlot) → slice_get journal place ≡ Some e → reached w (take place journal) ≡ Ok s → IsSound s → step s e ≡ Ok t
      → Holds s rank slot value → ((other : ℕ) → SetsBy s e rank slot other → ⊥) → (Resets e rank slot → ⊥) → find (is_slot rank slot.segment slot.note) (set_at journal place) ≡ Some x
      → find (is_slot rank slot.segment slot.note) (slots_after (put_entry (open_at journal place) e) place e (set_at journal place)) ≡ Some x
  found-on place (Put origin queue target number Applied) s t rank slot value x at leads sound h holds unset unreset found =
      let within = slice_get_within journal place _ at in
      let d = put-done s t origin queue target number sound h in
      let y = put-tracked place origin queue target number s t (omega arith) leads d in
      let stands = is-standing s origin queue target number d.entry.kind d.posts sound d.posts_there (put-stands s t origin queue target number d) in
      rw y.1
      (put-found place origin queue target y.0 d.entry.kind rank slot.segment slot.note x (set_at journal place) y.2
      (λ to set sets segment note.
      let same = put-generation s t origin queue target number rank slot to value set d holds sets segment note in
      unset set (
        stands.0,
        stands.1,
        subst (λ (k : Kind). Sets origin target k rank slot set) (sym stands.2) (subst (λ (n : NoteSlot). Sets origin target d.entry.kind rank n set) (sym same) sets),
      ))
      found)
  found-on place (Called c (Reset call) (replies.Value answered)) s t rank slot value x at leads sound h holds unset unreset found =
      find-filter (is_slot rank slot.segment slot.note) (λ y. not (is_slot c.rank call.seg call.note y)) (other-slot rank slot.segment slot.note c.rank call.seg call.note unreset) (set_at journal place) ∙ found
  found-on place e s t rank slot value x at leads sound h holds unset unreset found = found

  tracked-on : (place : ℕ) (e : Event) (s t : State) (rank : ℕ) (slot : NoteSlot) (value : ℕ) → slice_get journal place ≡ Some e → reached w (take place journal) ≡ Ok s → IsSound s → step s e ≡ Ok t
      → Holds s rank slot value → ((other : ℕ) → SetsBy s e rank slot other → ⊥) → (Resets e rank slot → ⊥) → IsTrackedSlot w journal place rank slot value → IsTrackedSlot w journal (suc place) rank slot value
  tracked-on place e s t rank slot value at leads sound h holds unset unreset k = record {
    s = k.s;
    found = ap (find (is_slot rank slot.segment slot.note)) (set-suc journal place e at) ∙ found-on place e s t rank slot value k.s at leads sound h holds unset unreset k.found;
    is = k.is;
    set = record {
      sets = k.set.sets;
      origin = k.set.origin;
      queue = k.set.queue;
      earlier = (let before = k.set.earlier in omega arith);
      last = λ between other again after before sets. no-set between other again after before sets (cases_order between place);
      unread = λ between answered c after before mine resets. no-reset between answered c after before mine resets (cases_order between place);
    };
  }
    where
      no-set : (between other again : ℕ) → k.s.place < between → between < suc place → SetsSlot w journal between k.s.rank (slot_in other k.s) again → (between ≡ place) ⊎ ((between < place) ⊎ (place < between)) → ⊥
      no-set between other again after before sets (inl same) =
          let sets' : SetsSlot w journal place k.s.rank (slot_in other k.s) again = subst (λ (n : ℕ). SetsSlot w journal n k.s.rank (slot_in other k.s) again) same sets in
          let by = set-by w journal place e s k.s.rank (slot_in other k.s) again at leads sets' in
          unset again (sets-same s t e rank slot (slot_in other k.s) value again sound h holds k.is.1 k.is.2 (subst (λ (n : ℕ). SetsBy s e n (slot_in other k.s) again) k.is.0 by))
      no-set between other again after before sets (inr (inl less)) = k.set.last between other again after less sets
      no-set between other again after before sets (inr (inr more)) = omega arith

      no-reset : (between answered : ℕ) (c : CallerId) → k.s.place < between → between < suc place → c.rank ≡ k.s.rank
          → slice_get journal between ≡ Some (Called c (Reset (record { seg = k.s.segment; note = k.s.note })) (replies.Value answered)) → (between ≡ place) ⊎ ((between < place) ⊎ (place < between)) → ⊥
      no-reset between answered c after before mine resets (inl same) =
          let some : ◌≡◌ {A = Option Event} (Some (Called c (Reset (record { seg = k.s.segment; note = k.s.note })) (replies.Value answered))) (Some e) =
          sym resets ∙ ap (slice_get journal) same ∙ at in
          let is : Called c (Reset (record { seg = k.s.segment; note = k.s.note })) (replies.Value answered) ≡ e = cc in
          let mine' : Resets (Called c (Reset (record { seg = k.s.segment; note = k.s.note })) (replies.Value answered)) rank slot = (mine ∙ k.is.0, k.is.1, k.is.2) in
          unreset (subst (λ (y : Event). Resets y rank slot) is mine')
      no-reset between answered c after before mine resets (inr (inl less)) = k.set.unread between answered c after less mine resets
      no-reset between answered c after before mine resets (inr (inr more)) = omega arith

  pub slots-tracked : (place : ℕ) → place ≤ length journal → (s : State) → reached w (take place journal) ≡ Ok s → (rank : ℕ) (slot : NoteSlot) (value : ℕ) → value ≢ 0 → Holds s rank slot value
      → IsTrackedSlot w journal place rank slot value
  slots-tracked zero within s leads rank slot value some holds =
      let still = set-still w journal zero s rank slot value world within leads some holds in
      absurd (let before = still.last.earlier in let no : ⊥ = omega arith in no)
  slots-tracked (suc place) within s leads rank slot value some holds =
      let x = there-within journal place (omega arith) in
      let here = step-at w journal place x.0 legal x.1 in
      let later : reached w (take (suc place) journal) ≡ Ok here.t = subst (λ (n : ℕ). reached w (take n journal) ≡ Ok here.t) (shifted place) here.later in
      let same = same-state (reached w (take (suc place) journal)) s here.t leads later in
      let sound = reached-sound w (take place journal) here.s world here.before in
      by-event x.0 here.s here.t x.1 here.before sound here.step_is
      (step-holds here.s here.t x.0 rank slot value sound here.step_is some (subst (λ (y : State). Holds y rank slot value) same holds))
      (λ held. slots-tracked place (omega arith) here.s here.before rank slot value some held)
    where
      by-event : (e : Event) (s t : State) → slice_get journal place ≡ Some e → reached w (take place journal) ≡ Ok s → IsSound s → step s e ≡ Ok t → IsSetOrHeld s e rank slot value
          → (Holds s rank slot value → IsTrackedSlot w journal place rank slot value) → IsTrackedSlot w journal (suc place) rank slot value
      by-event e s t at leads sound h (inl sets) before = set-here place e s t rank slot value at leads sound h sets
      by-event e s t at leads sound h (inr held) before = tracked-on place e s t rank slot value at leads sound h held.0 held.1 held.2 (before held.0)
