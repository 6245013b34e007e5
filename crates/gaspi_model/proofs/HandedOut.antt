-- Resets hand out each value once.
use Rattle.std.proofs.Common.{◌≡◌, ◌≢◌, ℕ, ◌+◌, ◌<◌, true, ◌⊎◌, inl, inr, List, [], ◌++◌, take, drop, Option, Some, Ok, refl, sym, ap, ◌∙◌, subst, arith}
use Rattle.std.specs.List.{slice_get}
use Rattle.std.specs.Option.{unwrap_or}
use Rattle.std.proofs.lemmas.Bool.{cases_order}
use Rattle.std.proofs.lemmas.List.{take-append-drop}
use Rattle.std.proofs.lemmas.Option.{slice_get_within}
use Rattle.gaspi_types.specs.SegmentTables.{extent_in}
use Rattle.gaspi_types.specs.World.{ShapeValue, IsShape}
use Rattle.gaspi_types.specs.declared.calls.Call.TheVariants.{Reset}
use Rattle.gaspi_types.specs.declared.calls.notifications.Reset as reset
use Rattle.gaspi_types.specs.declared.entries.Entry.{Entry}
use Rattle.gaspi_types.specs.declared.entries.NoteSlot.{NoteSlot}
use Rattle.gaspi_types.specs.declared.events.Event.{Event}
use Rattle.gaspi_types.specs.declared.events.Event.TheVariants.{Called}
use Rattle.gaspi_types.specs.declared.replies.Reply.TheVariants as replies
use Rattle.gaspi_types.specs.declared.segments.Segment.{Segment}
use Rattle.gaspi_types.specs.declared.shapes.CallerId.{CallerId}
use Rattle.gaspi_types.proofs.Chains.{found_then, same_Ok}
use Rattle.gaspi_types.proofs.Items.{joined}
use Rattle.gaspi_model.specs.Sound.{IsSound}
use Rattle.gaspi_model.specs.State.{segment_at}
use Rattle.gaspi_model.specs.Step.{step, reached, is_legal}
use Rattle.gaspi_model.specs.declared.states.Memory.{Memory}
use Rattle.gaspi_model.specs.declared.states.State.{State}
use Rattle.gaspi_model.proofs.Changed.OwnCalls.{own-there, own-on_memory, slot-reset}
use Rattle.gaspi_model.proofs.Histories.{leads, prefix, reached-sound}
use Rattle.gaspi_model.specs.Notifications.{Sets, SetsSlot, IsResetOf, IsHandedOut, HandsOutOnce}
use Rattle.gaspi_model.proofs.HeldSteps.{Holds, sets-one}
use Rattle.gaspi_model.proofs.LastSets.{IsSetStill, last-step, set-by, set-still}

-- each event of a legal history is a step from the state that the events before it lead to
record IsStepAt (w : ShapeValue) (history : List Event) (place : ℕ) (e : Event) : Type 0 where
  before : State
  after : State
  leads_there : reached w (take place history) ≡ Ok before
  steps : step before e ≡ Ok after

step-at : (w : ShapeValue) (history : List Event) (place : ℕ) (e : Event) → is_legal w history ≡ true → slice_get history place ≡ Some e → IsStepAt w history place e
step-at w history place e legal at =
    let whole : is_legal w (take (place + 1) history ++ drop (place + 1) history) ≡ true = ap (is_legal w) (take-append-drop (place + 1) history) ∙ legal in
    let end = leads (reached w (take (place + 1) history)) (prefix w (take (place + 1) history) (drop (place + 1) history) whole) in
    let last = last-step w history place e end.0 at end.1 in
    record { before = last.0; after = end.0; leads_there = last.1; steps = last.2 }

-- a reset that is answered with a value finds its segment
reset-there : (s t : State) (c : CallerId) (call : reset.Reset) (value : ℕ) → IsSound s → step s (Called c (Reset call) (replies.Value value)) ≡ Ok t
    → (memory : Memory) × (item : Segment) × (slice_get s.memories c.rank ≡ Some memory) × (segment_at memory call.seg ≡ Some item)
reset-there s t c call value sound h =
    let made = own-on_memory s t c (Reset call) (replies.Value value) refl refl refl sound h in
    let m = made.2 in
    found_then (extent_in made.0.segments.own call.seg) _ _ (Some (replies.Value value)) m.finds (λ mine hm rest.
    let item = own-there s c.rank made.0 made.1 call.seg mine sound m.posts_there m.memory_there hm in
    (made.1, item.0, m.memory_there, item.1))

-- a slot holds what its reset answers
reset-holds : (s t : State) (c : CallerId) (call : reset.Reset) (value : ℕ) (memory : Memory) (item : Segment) (slot : NoteSlot) → IsSound s → step s (Called c (Reset call) (replies.Value value)) ≡ Ok t
    → slice_get s.memories c.rank ≡ Some memory → segment_at memory call.seg ≡ Some item → call.seg ≡ slot.segment → call.note ≡ slot.note → item.generation ≡ slot.generation
    → Holds s c.rank slot value
reset-holds s t c call value memory item slot sound h memory_there there segment note generation =
    let got = slot-reset s t c call value sound h in
    let memories : ◌≡◌ {A = Option Memory} (Some got.old) (Some memory) = sym got.old_there ∙ memory_there in
    let same : got.old ≡ memory = cc in
    let before : slice_get got.old.slots call.seg ≡ Some (Some got.slots.before) = joined got.old.slots call.seg got.slots.before got.slots.before_there in
    let answered : slice_get got.slots.before call.note ≡ Some value = ap (λ (o : Option (List ℕ)). slice_get (unwrap_or o []) call.note) (sym got.slots.before_there) ∙ got.answered in
    record {
      memory = memory;
      memory_there = memory_there;
      has = record {
        item = item;
        slots = got.slots.before;
        there = ap (slice_get memory.segments) (sym segment) ∙ joined memory.segments call.seg item there;
        same = generation;
        slots_there = ap (λ (m : Memory). slice_get m.slots slot.segment) (sym same) ∙ ap (slice_get got.old.slots) (sym segment) ∙ before;
        holds = ap (slice_get got.slots.before) (sym note) ∙ answered;
      };
    }

-- The reset at a place answers what was set last.
still-set : (w : ShapeValue) (history : List Event) (place rank : ℕ) (slot : NoteSlot) (value : ℕ) → IsShape w → is_legal w history ≡ true → value ≢ 0 → IsResetOf w history place rank slot value
    → IsSetStill w history place rank slot value
still-set w history place rank slot value world legal some r =
    let at = step-at w history place _ legal r.is in
    let same : r.state ≡ at.before = same_Ok _ _ (sym r.leads ∙ at.leads_there) in
    let sound = reached-sound w (take place history) at.before world at.leads_there in
    let memory_there : slice_get at.before.memories r.caller.rank ≡ Some r.memory = ap (λ (x : State). slice_get x.memories r.caller.rank) (sym same) ∙ ap (slice_get r.state.memories) r.own ∙ r.memory_there in
    let holds = reset-holds at.before at.after r.caller _ value r.memory r.there.item slot sound at.steps memory_there r.there.there refl refl r.there.same in
    let within = slice_get_within history place _ r.is in
    set-still w history place at.before rank slot value world (omega arith) at.leads_there some (subst (λ (k : ℕ). Holds at.before k slot value) r.own holds)

each-set : (w : ShapeValue) (history : List Event) → IsShape w → is_legal w history ≡ true → (place : ℕ) (c : CallerId) (call : reset.Reset) (value : ℕ)
    → slice_get history place ≡ Some (Called c (Reset call) (replies.Value value)) → value ≢ 0 → (put : ℕ) × IsHandedOut w history put place value value
each-set w history world legal place c call value is some =
    let at = step-at w history place _ legal is in
    let sound = reached-sound w (take place history) at.before world at.leads_there in
    let there = reset-there at.before at.after c call value sound at.steps in
    let slot : NoteSlot = record { segment = call.seg; generation = there.1.generation; note = call.note } in
    let resets : IsResetOf w history place c.rank slot value =
    record { caller = c; state = at.before; memory = there.0; is = is; own = refl; leads = at.leads_there; memory_there = there.2; there = record { item = there.1; there = there.3; same = refl } } in
    let still = still-set w history place c.rank slot value world legal some resets in
    (still.put, record { rank = c.rank; slot = slot; resets = resets; some = some; last = still.last })

-- one put sets one slot
pub one-slot : (w : ShapeValue) (history : List Event) (place rank rank' : ℕ) (slot slot' : NoteSlot) (value value' : ℕ) → SetsSlot w history place rank slot value → SetsSlot w history place rank' slot' value'
    → (rank ≡ rank') × (slot ≡ slot')
one-slot w history place rank rank' slot slot' value value' a b =
    let by = set-by w history place _ a.state rank' slot' value' a.is a.leads b in
    let some : ◌≡◌ {A = Option Entry} (Some by.0) (Some a.entry) = sym by.1 ∙ a.stands in
    let same : by.0 ≡ a.entry = cc in
    sets-one a.origin a.target a.entry.kind rank rank' slot slot' value value' a.sets (subst (λ (e : Entry). Sets a.origin a.target e.kind rank' slot' value') same by.2)

-- no earlier reset has taken what a put has set last
not-before : (w : ShapeValue) (history : List Event) → IsShape w → is_legal w history ≡ true → (put place other set later answered again : ℕ)
    → IsHandedOut w history put place set answered → IsHandedOut w history put other later again → place < other → ⊥
not-before w history world legal put place other set later answered again first second less =
    let still = still-set w history other second.rank second.slot again world legal second.some second.resets in
    by-order still (cases_order still.put put)
  where
    unreset : (still : IsSetStill w history other second.rank second.slot again) → still.put ≡ put → ⊥
    unreset still same =
        let one = one-slot w history put first.rank second.rank first.slot second.slot set later first.last.sets second.last.sets in
        still.unreset place (let before = first.last.earlier in omega arith) less first.resets.caller _ answered first.resets.is
        (first.resets.own ∙ one.0, ap (λ (x : NoteSlot). x.segment) one.1, ap (λ (x : NoteSlot). x.note) one.1)

    by-order : (still : IsSetStill w history other second.rank second.slot again) → (still.put ≡ put) ⊎ ((still.put < put) ⊎ (put < still.put)) → ⊥
    by-order still (inl same) = unreset still same
    by-order still (inr (inl before)) = still.last.last put later before second.last.earlier second.last.sets
    by-order still (inr (inr behind)) = second.last.last still.put again behind still.last.earlier still.last.sets

pub hands-out-once : (w : ShapeValue) (history : List Event) → IsShape w → is_legal w history ≡ true → HandsOutOnce w history
hands-out-once w history world legal = record {
  each = each-set w history world legal;
  once = λ put place other set later answered again first second. by-order put place other set later answered again first second (cases_order place other);
}
  where
    by-order : (put place other set later answered again : ℕ) → IsHandedOut w history put place set answered → IsHandedOut w history put other later again
        → (place ≡ other) ⊎ ((place < other) ⊎ (other < place)) → place ≡ other
    by-order put place other set later answered again first second (inl same) = same
    by-order put place other set later answered again first second (inr (inl less)) = absurd (not-before w history world legal put place other set later answered again first second less)
    by-order put place other set later answered again first second (inr (inr more)) = absurd (not-before w history world legal put other place later set again answered second first more)
