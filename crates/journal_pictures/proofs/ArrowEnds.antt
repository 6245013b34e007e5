-- In a legal history each arrow of the trace joins the put that has set a slot with a call that gets its notification.
use Rattle.std.proofs.Common.{◌≡◌, ◌≢◌, ℕ, ◌+◌, arith, Bool, true, false, ◌==◌, List, [], ◌∷◌, ◌++◌, append_assoc, append-nil, drop, find, get_or, length, position, take, Option, None, Some, Ok, refl, sym, ap, ◌∙◌, subst}
use Rattle.std.specs.List.{slice_get}
use Rattle.std.specs.Option.{option_and_then, option_map, unwrap_or}
use Rattle.std.proofs.lemmas.Bool.{eqb-false, ne_eqb}
use Rattle.std.proofs.lemmas.List.{length-take-le}
use Rattle.std.proofs.lemmas.List.Quantifiers.{position-Some}
use Rattle.std.proofs.lemmas.Option.{get_or_from_slice_get, slice_get-map, slice_get_within}
use Rattle.gaspi_types.proofs.Items.{joined, rest-of-dropped, there-within}
use Rattle.gaspi_types.specs.Segments.{extent_of, extents_of}
use Rattle.gaspi_types.specs.Slots.{first_set, is_set}
use Rattle.gaspi_types.specs.Tables.{item_at}
use Rattle.gaspi_types.specs.World.{ShapeValue, IsShape}
use Rattle.gaspi_types.specs.declared.calls.Call.{Call}
use Rattle.gaspi_types.specs.declared.calls.Call.TheVariants.{Reset, Waitsome}
use Rattle.gaspi_types.specs.declared.calls.notifications.Reset as reset
use Rattle.gaspi_types.specs.declared.calls.notifications.Waitsome as waitsome
use Rattle.gaspi_types.specs.declared.entries.NoteSlot.{NoteSlot}
use Rattle.gaspi_types.specs.declared.events.Event.{Event}
use Rattle.gaspi_types.specs.declared.events.Event.TheVariants.{Called}
use Rattle.gaspi_types.specs.declared.replies.Reply.{Reply}
use Rattle.gaspi_types.specs.declared.replies.Reply.TheVariants as replies
use Rattle.gaspi_types.specs.declared.segments.Extent.{Extent}
use Rattle.gaspi_types.specs.declared.segments.Segment.{Segment}
use Rattle.gaspi_types.specs.declared.shapes.CallerId.{CallerId}
use Rattle.gaspi_model.specs.Coherence.{HasSlots, counts_of}
use Rattle.gaspi_model.specs.Sound.{IsSound}
use Rattle.gaspi_model.specs.Step.{reached, is_legal}
use Rattle.gaspi_model.specs.declared.states.Memory.{Memory}
use Rattle.gaspi_model.specs.declared.states.State.{State}
use Rattle.gaspi_model.proofs.Changed.OwnCalls.{slot-read, slot-reset}
use Rattle.gaspi_model.proofs.HeldSteps.{Holds}
use Rattle.gaspi_model.proofs.Histories.{reached-sound}
use Rattle.call_journal.proofs.Places.{step-at, taken-from, taken-more}
use Rattle.journal_pictures.specs.Arrows.{Gets, IsArrow, JoinsArrows, open_after, open_at, set_after, set_at}
use Rattle.journal_pictures.specs.OpenEntries.{entries_after, is_slot, put_entry, slots_after}
use Rattle.journal_pictures.specs.Trace.{event_objects, got_slot, nothing_open, objects_from}
use Rattle.journal_pictures.specs.declared.open_entries.RankEntries.{RankEntries}
use Rattle.journal_pictures.specs.declared.set_slots.SetSlot.{SetSlot}
use Rattle.journal_pictures.proofs.TrackedSlots.{slots-tracked}

-- What a call finds in a slot, the state holds there.

-- where there are slots, there is their segment
slots-segment : (notes segment : ℕ) (memory : Memory) (slots : List ℕ) → HasSlots notes memory → item_at memory.slots segment ≡ Some slots
    → (item : Segment) × (slice_get memory.segments segment ≡ Some (Some item))
slots-segment notes segment memory slots has at = go (slice_get memory.segments segment) refl
  where
    counted : slice_get (counts_of notes (extents_of memory.segments)) segment ≡ Some (Some (length slots))
    counted =
        ap (λ (xs : List (Option ℕ)). slice_get xs segment) (sym has) ∙ slice_get-map (option_map length) memory.slots segment ∙ ap (option_map (option_map length)) (joined memory.slots segment slots at)

    extents : slice_get (counts_of notes (extents_of memory.segments)) segment ≡ option_map (option_map (λ (x : Extent). notes)) (option_map (option_map extent_of) (slice_get memory.segments segment))
    extents =
        slice_get-map (option_map (λ (x : Extent). notes)) (extents_of memory.segments) segment
        ∙ ap (option_map (option_map (λ (x : Extent). notes))) (slice_get-map (option_map extent_of) memory.segments segment)

    go : (o : Option (Option Segment)) → slice_get memory.segments segment ≡ o → (item : Segment) × (slice_get memory.segments segment ≡ Some (Some item))
    go (Some (Some item)) is = (item, is)
    go (Some None) is =
        let none : ◌≡◌ {A = Option (Option ℕ)} (Some None) (Some (Some (length slots))) = ap (λ (o : Option (Option Segment)). option_map (option_map (λ (x : Extent). notes)) (option_map (option_map extent_of) o)) (sym is) ∙ sym extents ∙ counted in
        absurd (let no : ⊥ = cc in no)
    go None is =
        let none : ◌≡◌ {A = Option (Option ℕ)} None (Some (Some (length slots))) = ap (λ (o : Option (Option Segment)). option_map (option_map (λ (x : Extent). notes)) (option_map (option_map extent_of) o)) (sym is) ∙ sym extents ∙ counted in
        absurd (let no : ⊥ = cc in no)

abbrev slot_with : ℕ → ℕ → ℕ → NoteSlot
slot_with segment generation note = record { segment = segment; generation = generation; note = note }

record HoldsThere (s : State) (rank segment note value : ℕ) : Type 0 where
  generation : ℕ
  holds : Holds s rank (slot_with segment generation note) value

holds-there : (s : State) (rank segment note value : ℕ) (memory : Memory) (slots : List ℕ) → IsSound s → slice_get s.memories rank ≡ Some memory → item_at memory.slots segment ≡ Some slots → slice_get slots note ≡ Some value
    → HoldsThere s rank segment note value
holds-there s rank segment note value memory slots sound there slots_there at =
    let item = slots-segment s.limits.notes segment memory slots (sound.coherent.slots rank memory there) slots_there in
    record {
      generation = item.0.generation;
      holds = record {
        memory = memory;
        memory_there = there;
        has = record { item = item.0; slots = slots; there = item.1; same = refl; slots_there = joined memory.slots segment slots slots_there; holds = at };
      };
    }

-- the first slot of a range that is set has another value than 0
set-value : (slots : List ℕ) (begin num note : ℕ) → first_set slots begin num ≡ Some note → (value : ℕ) × (slice_get slots note ≡ Some value) × (value ≢ 0)
set-value slots begin num note found = go (position is_set (take num (drop begin slots))) refl
  where
    set-apart : (value : ℕ) → is_set value ≡ true → value ≢ 0
    set-apart value set zero_is = (let none : is_set 0 ≡ true = ap is_set (sym zero_is) ∙ set in let no : ⊥ = cc in no)

    go : (o : Option ℕ) → position is_set (take num (drop begin slots)) ≡ o → (value : ℕ) × (slice_get slots note ≡ Some value) × (value ≢ 0)
    go None is = absurd (let none : ◌≡◌ {A = Option ℕ} None (Some note) = rw is at found in let no : ⊥ = cc in no)
    go (Some k) is =
        let some : ◌≡◌ {A = Option ℕ} (Some (begin + k)) (Some note) = rw is at found in
        let same : begin + k ≡ note = cc in
        let first = position-Some is_set (take num (drop begin slots)) k 0 is in
        let at = there-within (take num (drop begin slots)) k first.0 in
        let value_is : get_or (take num (drop begin slots)) k 0 ≡ at.0 = get_or_from_slice_get (take num (drop begin slots)) k at.0 0 at.1 in
        let there = (taken-from num (drop begin slots) k at.0 at.1).1 in
        (at.0, sym (rest-of-dropped begin slots k note (sym same)) ∙ there, set-apart at.0 (ap is_set (sym value_is) ∙ first.1))

-- A call that gets a notification has an arrow.

record HasArrow (w : ShapeValue) (history : List Event) (place : ℕ) (c : CallerId) (call : Call) (reply : Reply) (segment note : ℕ) : Type 0 where
  s : SetSlot
  got : got_slot (set_at history place) c call reply ≡ Some s
  segment_is : s.segment ≡ segment
  note_is : s.note ≡ note
  arrow : IsArrow w history place c call reply s

module _ (w : ShapeValue) (world : IsShape w) (history : List Event) (legal : is_legal w history ≡ true) (place : ℕ) (c : CallerId) where
  held-arrow : (call : Call) (reply : Reply) (segment note value : ℕ) (s : State) → slice_get history place ≡ Some (Called c call reply) → reached w (take place history) ≡ Ok s → value ≢ 0
      → (held : HoldsThere s c.rank segment note value)
      → ((x : SetSlot) → find (is_slot c.rank segment note) (set_at history place) ≡ Some x → got_slot (set_at history place) c call reply ≡ Some x)
      → ((x : SetSlot) → x.segment ≡ segment → x.note ≡ note → Gets call reply x.segment x.note) → ((answer : ℕ) → reply ≡ replies.Value answer → answer ≡ value)
      → HasArrow w history place c call reply segment note
  held-arrow call reply segment note value s at leads some held got gets answered =
      let within = slice_get_within history place _ at in
      let slot = slot_with segment held.generation note in
      let tracked = slots-tracked w world history legal place (omega arith) s leads c.rank slot value some held.holds in
      let x = tracked.s in
      let has = held.holds.has in
      let here : slice_get held.holds.memory.segments x.segment ≡ Some (Some has.item) = ap (slice_get held.holds.memory.segments) tracked.is.1 ∙ has.there in
      record {
        s = x;
        got = got x tracked.found;
        segment_is = tracked.is.1;
        note_is = tracked.is.2;
        arrow = record {
          generation = held.generation;
          value = value;
          own = tracked.is.0;
          gets = gets x tracked.is.1 tracked.is.2;
          set = tracked.set;
          some = some;
          answered = answered;
          state = s;
          memory = held.holds.memory;
          leads = leads;
          memory_there = held.holds.memory_there;
          there = record { item = has.item; there = ap (λ (o : Option (Option Segment)). option_and_then (λ (y : Option Segment). y) o) here; same = has.same };
        };
      }

  waitsome-arrow : (call : waitsome.Waitsome) (note : ℕ) → slice_get history place ≡ Some (Called c (Waitsome call) (replies.Id note)) → HasArrow w history place c (Waitsome call) (replies.Id note) call.seg note
  waitsome-arrow call note at =
      let here = step-at w history place _ legal at in
      let sound = reached-sound w (take place history) here.s world here.before in
      let read = (slot-read here.s here.t c call note sound here.step_is).0 in
      let value = set-value read.slots call.begin call.num note read.answers in
      held-arrow (Waitsome call) (replies.Id note) call.seg note value.0 here.s at here.before value.2
      (holds-there here.s c.rank call.seg note value.0 read.memory read.slots sound read.memory_there read.slots_there value.1)
      (λ x found. found)
      (λ x segment_is note_is. (segment_is, note_is))
      (λ answer is. absurd (let no : ⊥ = cc in no))

  reset-arrow : (call : reset.Reset) (value : ℕ) → slice_get history place ≡ Some (Called c (Reset call) (replies.Value value)) → value ≢ 0 → HasArrow w history place c (Reset call) (replies.Value value) call.seg call.note
  reset-arrow call value at some =
      let here = step-at w history place _ legal at in
      let sound = reached-sound w (take place history) here.s world here.before in
      let r = slot-reset here.s here.t c call value sound here.step_is in
      let there : slice_get r.slots.before call.note ≡ Some value = ap (λ (o : Option (List ℕ)). slice_get (unwrap_or o []) call.note) (sym r.slots.before_there) ∙ r.answered in
      held-arrow (Reset call) (replies.Value value) call.seg call.note value here.s at here.before some
      (holds-there here.s c.rank call.seg call.note value r.old r.slots.before sound r.old_there r.slots.before_there there)
      (λ x found. rw (ne_eqb value 0 some) found)
      (λ x segment_is note_is. (segment_is, note_is, some))
      (λ answer is. let same : answer ≡ value = cc in same)

  has-arrow : (call : Call) (reply : Reply) (segment note : ℕ) → slice_get history place ≡ Some (Called c call reply) → Gets call reply segment note → HasArrow w history place c call reply segment note
  has-arrow (Waitsome call) (replies.Id found) segment note at gets =
      rw (gets.0, gets.1) (waitsome-arrow call found at)
  has-arrow (Reset call) (replies.Value value) segment note at gets =
      rw (gets.0, gets.1) (reset-arrow call value at gets.2)
  has-arrow call reply segment note at gets = absurd gets

  same-arrow : (call : Call) (reply : Reply) (segment note : ℕ) (s : SetSlot) → HasArrow w history place c call reply segment note → got_slot (set_at history place) c call reply ≡ Some s → IsArrow w history place c call reply s
  same-arrow call reply segment note s a got =
      let some : ◌≡◌ {A = Option SetSlot} (Some a.s) (Some s) = sym a.got ∙ got in
      let same : a.s ≡ s = cc in
      subst (λ (x : SetSlot). IsArrow w history place c call reply x) same a.arrow

  -- an arrow is one
  right-arrow : (call : Call) (reply : Reply) (s : SetSlot) → slice_get history place ≡ Some (Called c call reply) → got_slot (set_at history place) c call reply ≡ Some s → IsArrow w history place c call reply s
  right-arrow (Waitsome call) (replies.Id found) s at got = same-arrow (Waitsome call) (replies.Id found) call.seg found s (waitsome-arrow call found at) got
  right-arrow (Reset call) (replies.Value value) s at got = go (value == 0) refl
    where
      go : (b : Bool) → (value == 0) ≡ b → IsArrow w history place c (Reset call) (replies.Value value) s
      go true is = absurd (let none : ◌≡◌ {A = Option SetSlot} None (Some s) = rw is at got in let no : ⊥ = cc in no)
      go false is = same-arrow (Reset call) (replies.Value value) call.seg call.note s (reset-arrow call value at (λ e. eqb-false value 0 is e)) got
  right-arrow call reply s at got = absurd (let no : ⊥ = cc in no)

-- the objects of one event more
objects-append : (ranks ranks' : List RankEntries) (slots slots' : List SetSlot) (place n : ℕ) (events : List Event) (e : Event) → n ≡ place + length events → ranks' ≡ open_after ranks events → slots' ≡ set_after ranks slots place events
    → objects_from ranks slots place (events ++ e ∷ []) ≡ objects_from ranks slots place events ++ event_objects ranks' slots' n e
objects-append ranks ranks' slots slots' place n [] e is are set = let same : n ≡ place = omega arith in rw (same, are, set) (append-nil (event_objects ranks slots place e))
objects-append ranks ranks' slots slots' place n (x ∷ events) e is are set =
    let next = slots_after (put_entry ranks x) place x slots in
    ap (λ (ds : List _). event_objects ranks slots place x ++ ds) (objects-append (entries_after x ranks) ranks' next slots' (place + 1) n events e (omega arith) are set)
    ∙ sym (append_assoc (event_objects ranks slots place x) (objects_from (entries_after x ranks) next (place + 1) events) (event_objects ranks' slots' n e))

drawn-more : (history : List Event) (place : ℕ) (e : Event) → slice_get history place ≡ Some e
    → objects_from nothing_open [] 0 (take (place + 1) history) ≡ objects_from nothing_open [] 0 (take place history) ++ event_objects (open_at history place) (set_at history place) place e
drawn-more history place e at =
    let within = slice_get_within history place e at in
    let long : length (take place history) ≡ place = length-take-le place history (omega arith) in
    ap (objects_from nothing_open [] 0) (taken-more history place e at)
    ∙ objects-append nothing_open (open_at history place) [] (set_at history place) 0 place (take place history) e (omega arith) refl refl

pub joins-arrows : (w : ShapeValue) (history : List Event) → IsShape w → is_legal w history ≡ true → JoinsArrows w history
joins-arrows w history world legal = record {
  drawn = drawn-more history;
  right = λ place c call reply s at got. right-arrow w world history legal place c call reply s at got;
  all = λ place c call reply segment note at gets.
      let a = has-arrow w world history legal place c call reply segment note at gets in
      (a.s, a.got, a.segment_is, a.note_is);
}
