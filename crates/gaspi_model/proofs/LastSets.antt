-- In a legal history each slot that holds another value than 0 was set to it by the last put that has set it, and no reset of it came
-- since.
use Rattle.std.proofs.Common.{◌≡◌, ◌≢◌, ℕ, zero, suc, ◌+◌, ◌<◌, ◌≤◌, ◌⊎◌, inl, inr, List, [], ◌∷◌, ◌++◌, length, take, Option, None, Some, Ok, replicate, sym, ap, ◌∙◌, subst, arith}
use Rattle.std.specs.List.{slice_get, range_with_len}
use Rattle.std.specs.Option.{option_map}
use Rattle.std.proofs.lemmas.Bool.{cases_order}
use Rattle.std.proofs.lemmas.List.{take_more}
use Rattle.std.proofs.lemmas.Option.{get_or_from_slice_get, slice_get_within}
use Rattle.gaspi_types.specs.World.{ShapeValue, IsShape}
use Rattle.gaspi_types.specs.declared.calls.Call.TheVariants.{Reset}
use Rattle.gaspi_types.specs.declared.calls.notifications.Reset as reset
use Rattle.gaspi_types.specs.declared.entries.NoteSlot.{NoteSlot}
use Rattle.gaspi_types.specs.declared.events.Event.{Event}
use Rattle.gaspi_types.specs.declared.events.Event.TheVariants.{Called, Put}
use Rattle.gaspi_types.specs.declared.events.Outcome.TheVariants.{Applied}
use Rattle.gaspi_types.specs.declared.replies.Reply.TheVariants as replies
use Rattle.gaspi_types.specs.declared.shapes.CallerId.{CallerId}
use Rattle.gaspi_types.proofs.Chains.{same_Ok}
use Rattle.gaspi_types.proofs.Items.{map-at, slice_get-replicate, there-within}
use Rattle.gaspi_model.specs.Shards.{entry_after}
use Rattle.gaspi_model.specs.State.{declared_size, new_slots, opening, opening_memory}
use Rattle.gaspi_model.specs.Step.{step, reached}
use Rattle.gaspi_model.specs.declared.states.Memory.{Memory}
use Rattle.gaspi_model.specs.declared.states.State.{State}
use Rattle.gaspi_model.proofs.Histories.{after-first, after-both, reached-sound}
use Rattle.gaspi_model.specs.Notifications.{SetsSlot, IsLastSet}
use Rattle.gaspi_model.proofs.HeldSteps.{Holds, SetsBy, Resets, IsSetOrHeld, step-holds}

-- A reset of a slot stands at a place of a history.
abbrev pub NoResetAt : List Event → ℕ → ℕ → NoteSlot → Type 0
NoResetAt history place rank slot =
    (c : CallerId) (call : reset.Reset) (answered : ℕ) → slice_get history place ≡ Some (Called c (Reset call) (replies.Value answered)) → Resets (Called c (Reset call) (replies.Value answered)) rank slot → ⊥

-- A slot was set to a value by its last put before a place, and not reset since.
pub record IsSetStill (w : ShapeValue) (history : List Event) (place rank : ℕ) (slot : NoteSlot) (value : ℕ) : Type 0 where
  pub put : ℕ
  pub last : IsLastSet w history put place rank slot value
  pub unreset : (between : ℕ) → put < between → between < place → NoResetAt history between rank slot

same-event : (history : List Event) (place : ℕ) (d e : Event) → slice_get history place ≡ Some d → slice_get history place ≡ Some e → d ≡ e
same-event history place d e there here = (let some : ◌≡◌ {A = Option Event} (Some d) (Some e) = sym there ∙ here in cc)

-- what the event at a place sets, it sets in the state that the events before it lead to
pub set-at : (w : ShapeValue) (history : List Event) (place : ℕ) (e : Event) (s : State) (rank : ℕ) (slot : NoteSlot) (value : ℕ) → slice_get history place ≡ Some e → reached w (take place history) ≡ Ok s
    → SetsBy s e rank slot value → SetsSlot w history place rank slot value
set-at w history place (Put origin queue target number Applied) s rank slot value at leads sets = record {
  origin = origin;
  queue = queue;
  target = target;
  number = number;
  state = s;
  entry = sets.0;
  is = at;
  leads = leads;
  stands = sets.1;
  sets = sets.2;
}
set-at w history place other s rank slot value at leads sets = absurd sets

pub set-by : (w : ShapeValue) (history : List Event) (place : ℕ) (e : Event) (s : State) (rank : ℕ) (slot : NoteSlot) (value : ℕ) → slice_get history place ≡ Some e → reached w (take place history) ≡ Ok s
    → SetsSlot w history place rank slot value → SetsBy s e rank slot value
set-by w history place e s rank slot value at leads x =
    let event = same-event history place _ e x.is at in
    let state : x.state ≡ s = same_Ok _ _ (sym x.leads ∙ leads) in
    subst (λ (k : Event). SetsBy s k rank slot value) event (x.entry, ap (λ (k : State). entry_after k x.origin x.queue x.target x.number) (sym state) ∙ x.stands, x.sets)

-- the last of the first events of a history is a step
pub last-step : (w : ShapeValue) (history : List Event) (place : ℕ) (e : Event) (t : State) → slice_get history place ≡ Some e → reached w (take (place + 1) history) ≡ Ok t
    → (s : State) × (reached w (take place history) ≡ Ok s) × (step s e ≡ Ok t)
last-step w history place e t at h =
    let more : take (place + 1) history ≡ take place history ++ e ∷ [] =
    take_more history place e (slice_get_within history place e at) ∙ ap (λ (x : Event). take place history ++ x ∷ []) (get_or_from_slice_get history place e e at) in
    let parts = after-both (opening w) t (take place history) (e ∷ []) (ap (reached w) (sym more) ∙ h) in
    let first = after-first parts.0 t e [] parts.2 in
    let same : first.0 ≡ t = same_Ok _ _ first.2 in
    (parts.0, parts.1, first.1 ∙ ap (λ (x : State). Ok x) same)

-- no slot holds another value than 0 at the start
opening-slots : (notes : ℕ) (size : Option ℕ) (slots : List ℕ) (note value : ℕ) → ◌≡◌ {A = Option (List ℕ)} (Some slots) (option_map (λ (n : ℕ). new_slots notes) size) → slice_get slots note ≡ Some value → value ≡ 0
opening-slots notes None slots note value is at = absurd (let no : ⊥ = cc in no)
opening-slots notes (Some size) slots note value is at =
    let are : slots ≡ replicate notes 0 = cc in
    slice_get-replicate notes 0 value note (ap (λ (xs : List ℕ). slice_get xs note) (sym are) ∙ at)

opening-holds : (w : ShapeValue) (rank : ℕ) (slot : NoteSlot) (value : ℕ) → Holds (opening w) rank slot value → value ≡ 0
opening-holds w rank slot value h =
    let from = map-at (opening_memory w) (range_with_len 0 w.limits.ranks) rank h.memory h.memory_there in
    let there = ap (λ (m : Memory). slice_get m.slots slot.segment) (sym from.2) ∙ h.has.slots_there in
    let slots = map-at (λ (segment : ℕ). option_map (λ (size : ℕ). new_slots w.limits.notes) (declared_size w from.0 segment)) (range_with_len 0 32) slot.segment (Some h.has.slots) there in
    opening-slots w.limits.notes (declared_size w from.0 slots.0) h.has.slots slot.note value slots.2 h.has.holds

-- the last put stays so where the next event neither sets nor resets the slot
set-on : (w : ShapeValue) (history : List Event) (place rank : ℕ) (slot : NoteSlot) (value : ℕ) → IsSetStill w history place rank slot value
    → ((other : ℕ) → SetsSlot w history place rank slot other → ⊥) → NoResetAt history place rank slot → IsSetStill w history (suc place) rank slot value
set-on w history place rank slot value x unset unreset = record {
  put = x.put;
  last = record {
    sets = x.last.sets;
    earlier = (let before = x.last.earlier in omega arith);
    last = λ between other after before sets. no-set between other after before sets (cases_order between place);
  };
  unreset = λ between after before. no-reset between after before (cases_order between place);
}
  where
    no-set : (between other : ℕ) → x.put < between → between < suc place → SetsSlot w history between rank slot other → (between ≡ place) ⊎ ((between < place) ⊎ (place < between)) → ⊥
    no-set between other after before sets (inl same) = unset other (subst (λ (k : ℕ). SetsSlot w history k rank slot other) same sets)
    no-set between other after before sets (inr (inl less)) = x.last.last between other after less sets
    no-set between other after before sets (inr (inr more)) = omega arith

    no-reset : (between : ℕ) → x.put < between → between < suc place → (between ≡ place) ⊎ ((between < place) ⊎ (place < between)) → NoResetAt history between rank slot
    no-reset between after before (inl same) = subst (λ (k : ℕ). NoResetAt history k rank slot) (sym same) unreset
    no-reset between after before (inr (inl less)) = x.unreset between after less
    no-reset between after before (inr (inr more)) = absurd (let no : ⊥ = omega arith in no)

-- a slot that was set just now
set-now : (w : ShapeValue) (history : List Event) (place rank : ℕ) (slot : NoteSlot) (value : ℕ) → SetsSlot w history place rank slot value → IsSetStill w history (suc place) rank slot value
set-now w history place rank slot value sets = record {
  put = place;
  last = record { sets = sets; earlier = omega arith; last = λ between other after before later. omega arith };
  unreset = λ between after before c call answered at resets. omega arith;
}

pub set-still : (w : ShapeValue) (history : List Event) (place : ℕ) (s : State) (rank : ℕ) (slot : NoteSlot) (value : ℕ) → IsShape w → place ≤ length history → reached w (take place history) ≡ Ok s → value ≢ 0
    → Holds s rank slot value → IsSetStill w history place rank slot value
set-still w history zero s rank slot value world within leads some h =
    let start : opening w ≡ s = same_Ok _ _ leads in
    absurd (some (opening-holds w rank slot value (subst (λ (x : State). Holds x rank slot value) (sym start) h)))
set-still w history (suc place) t rank slot value world within leads some h =
    let there = there-within history place (omega arith) in
    let one : place + 1 ≡ suc place = omega arith in
    let last = last-step w history place there.0 t there.1 (ap (λ (n : ℕ). reached w (take n history)) one ∙ leads) in
    go there.0 there.1 last.0 last.1
    (step-holds last.0 t there.0 rank slot value (reached-sound w (take place history) last.0 world last.1) last.2 some h)
    (λ before. set-still w history place last.0 rank slot value world (omega arith) last.1 some before)
  where
    go : (e : Event) → slice_get history place ≡ Some e → (s : State) → reached w (take place history) ≡ Ok s → IsSetOrHeld s e rank slot value
        → (Holds s rank slot value → IsSetStill w history place rank slot value) → IsSetStill w history (suc place) rank slot value
    go e at s leads (inl sets) before = set-now w history place rank slot value (set-at w history place e s rank slot value at leads sets)
    go e at s leads (inr held) before = set-on w history place rank slot value (before held.0)
        (λ other sets. held.1 other (set-by w history place e s rank slot other at leads sets))
        (λ c call answered is resets. held.2 (subst (λ (k : Event). Resets k rank slot) (same-event history place _ e is at) resets))
