-- Histories worked by hand: which put has set a slot last, by computing.
use Rattle.std.proofs.Common.{◌≡◌, ℕ, true, List, [], ◌∷◌, take, Option, Some, Result, Ok, Err, refl, sym, subst, arith}
use Rattle.gaspi_types.specs.declared.calls.Call.TheVariants.{Alloc, Delete, Notify, ReadNotify, Reset}
use Rattle.gaspi_types.specs.declared.entries.NoteSlot.{NoteSlot}
use Rattle.gaspi_types.specs.declared.events.Event.{Event}
use Rattle.gaspi_types.specs.declared.events.Event.TheVariants.{Called, Take, Put}
use Rattle.gaspi_types.specs.declared.events.Outcome.TheVariants.{Applied, Failed}
use Rattle.gaspi_types.specs.declared.replies.Reply.TheVariants as replies
use Rattle.gaspi_model.specs.State.{opening}
use Rattle.gaspi_model.specs.Step.{is_legal, reached}
use Rattle.gaspi_model.specs.declared.states.State.{State}
use Rattle.gaspi_model.specs.declared.states.Why.{Why}
use Rattle.gaspi_model.proofs.HistoriesOnPosts.{two_ranks}
use Rattle.gaspi_model.specs.Notifications.{SetsSlot, IsHandedOut}
use Rattle.gaspi_model.proofs.HandedOut.{one-slot}

-- the state that a history leads to
abbrev state_or_opening : Result State Why → State
state_or_opening (Ok s) = s
state_or_opening (Err why) = opening two_ranks

abbrev state_before : List Event → ℕ → State
state_before history place = state_or_opening (reached two_ranks (take place history))

-- slot 3 of the declared segment 0
abbrev slot_three : NoteSlot
slot_three = record { segment = 0; generation = 0; note = 3 }

-- one value that is set twice, before a reset takes it: the next answers 0
abbrev notified_twice : List Event
notified_twice =
    Called (record { rank = 0; thread = 0 }) (Notify (record { rank = 1; rseg = 0; note = 3; value = 7; queue = 0 })) replies.Done
    ∷ Called (record { rank = 0; thread = 0 }) (Notify (record { rank = 1; rseg = 0; note = 3; value = 7; queue = 0 })) replies.Done
    ∷ Take 0 0 1 0 Applied ∷ Take 0 0 1 1 Applied ∷ Put 0 0 1 0 Applied ∷ Put 0 0 1 1 Applied
    ∷ Called (record { rank = 1; thread = 0 }) (Reset (record { seg = 0; note = 3 })) (replies.Value 7)
    ∷ Called (record { rank = 1; thread = 0 }) (Reset (record { seg = 0; note = 3 })) (replies.Value 0) ∷ []

notified_twice-is_legal : is_legal two_ranks notified_twice ≡ true
notified_twice-is_legal = refl

second-sets : SetsSlot two_ranks notified_twice 5 1 slot_three 7
second-sets = record {
  origin = 0;
  queue = 0;
  target = 1;
  number = 1;
  state = state_before notified_twice 5;
  entry = record { number = 1; kind = _; phase = _ };
  is = refl;
  leads = refl;
  stands = refl;
  sets = (refl, refl, refl);
}

first-sets : SetsSlot two_ranks notified_twice 4 1 slot_three 7
first-sets = record {
  origin = 0;
  queue = 0;
  target = 1;
  number = 0;
  state = state_before notified_twice 4;
  entry = record { number = 0; kind = _; phase = _ };
  is = refl;
  leads = refl;
  stands = refl;
  sets = (refl, refl, refl);
}

-- the second put is the last
second-handed_out : IsHandedOut two_ranks notified_twice 5 6 7 7
second-handed_out = record {
  rank = 1;
  slot = slot_three;
  resets = record { caller = record { rank = 1; thread = 0 }; state = state_before notified_twice 6; memory = _; is = refl; own = refl; leads = refl; memory_there = refl; there = record { item = _; there = refl; same = refl } };
  some = λ is. let no : ⊥ = cc in no;
  last = record { sets = second-sets; earlier = omega arith; last = λ between other after before sets. omega arith };
}

-- the first is not, and a reset that answers 0 hands out nothing
first-not_last : (set answered : ℕ) → IsHandedOut two_ranks notified_twice 4 6 set answered → ⊥
first-not_last set answered h =
    let one = one-slot two_ranks notified_twice 4 h.rank 1 h.slot slot_three set 7 h.last.sets first-sets in
    h.last.last 5 7 (omega arith) (omega arith) (subst (λ (rank : ℕ). SetsSlot two_ranks notified_twice 5 rank h.slot 7) (sym one.0) (subst (λ (slot : NoteSlot). SetsSlot two_ranks notified_twice 5 1 slot 7) (sym one.1) second-sets))

zero-hands_out_nothing : (put set answered : ℕ) → IsHandedOut two_ranks notified_twice put 7 set answered → ⊥
zero-hands_out_nothing put set answered h =
    let is : ◌≡◌ {A = Option Event} (Some (Called (record { rank = 1; thread = 0 }) (Reset (record { seg = 0; note = 3 })) (replies.Value 0))) (Some (Called h.resets.caller (Reset (record { seg = h.slot.segment; note = h.slot.note })) (replies.Value answered))) = h.resets.is in
    h.some (let zero_is : answered ≡ 0 = cc in zero_is)

-- the notification of a read sets a slot of its origin, to 1
abbrev notified_read : List Event
notified_read =
    Called (record { rank = 0; thread = 0 }) (ReadNotify (record { seg = 0; offset = 0; rank = 1; rseg = 0; roffset = 4; size = 2; note = 3; queue = 0 })) replies.Done
    ∷ Take 0 0 1 0 Applied ∷ Take 0 0 1 1 Applied ∷ Put 0 0 1 0 Applied ∷ Put 0 0 1 1 Applied
    ∷ Called (record { rank = 0; thread = 0 }) (Reset (record { seg = 0; note = 3 })) (replies.Value 1) ∷ []

read-handed_out : IsHandedOut two_ranks notified_read 4 5 1 1
read-handed_out = record {
  rank = 0;
  slot = slot_three;
  resets = record { caller = record { rank = 0; thread = 0 }; state = state_before notified_read 5; memory = _; is = refl; own = refl; leads = refl; memory_there = refl; there = record { item = _; there = refl; same = refl } };
  some = λ is. let no : ⊥ = cc in no;
  last = record {
    sets = record {
      origin = 0;
      queue = 0;
      target = 1;
      number = 1;
      state = state_before notified_read 4;
      entry = record { number = 1; kind = _; phase = _ };
      is = refl;
      leads = refl;
      stands = refl;
      sets = (refl, refl, refl);
    };
    earlier = omega arith;
    last = λ between other after before sets. omega arith;
  };
}

-- What was set goes with its segment: the next of its number has slots of its own, and a put that comes late fails.
set_before_delete-is_legal : is_legal two_ranks (
    Called (record { rank = 0; thread = 0 }) (Notify (record { rank = 1; rseg = 0; note = 3; value = 7; queue = 0 })) replies.Done
    ∷ Called (record { rank = 0; thread = 0 }) (Notify (record { rank = 1; rseg = 0; note = 3; value = 8; queue = 0 })) replies.Done
    ∷ Take 0 0 1 0 Applied ∷ Take 0 0 1 1 Applied ∷ Put 0 0 1 0 Applied
    ∷ Called (record { rank = 1; thread = 0 }) (Delete (record { seg = 0 })) replies.Done
    ∷ Called (record { rank = 1; thread = 0 }) (Alloc (record { seg = 0; size = 16 })) replies.Done
    ∷ Put 0 0 1 1 Failed
    ∷ Called (record { rank = 1; thread = 0 }) (Reset (record { seg = 0; note = 3 })) (replies.Value 0) ∷ []) ≡ true
set_before_delete-is_legal = refl
