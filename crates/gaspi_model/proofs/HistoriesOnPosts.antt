-- Histories worked by hand: what the definitions say of them, by computing.
use Rattle.std.proofs.Common.{◌≡◌, true, List, [], ◌∷◌, Err, refl}
use Rattle.gaspi_types.specs.World.{ShapeValue}
use Rattle.gaspi_types.specs.declared.events.Event.{Event}
use Rattle.gaspi_types.specs.declared.events.Event.TheVariants.{Called, Take, Put}
use Rattle.gaspi_types.specs.declared.events.Outcome.TheVariants.{Applied, Failed}
use Rattle.gaspi_types.specs.declared.calls.Call.TheVariants.{Alloc, Register, Delete, Store, Load, Write, WriteNotify, Wait, Waitsome, Reset, FetchAdd, CompareSwap, End}
use Rattle.gaspi_types.specs.declared.replies.Reply.TheVariants as replies
use Rattle.gaspi_types.specs.declared.replies.Refusal.TheVariants.{Unregistered, QueueBroken, BadAlign, SegmentBusy, CallerEnded}
use Rattle.gaspi_model.specs.Step.{is_legal, reached}
use Rattle.gaspi_model.specs.declared.states.Why.TheVariants as whys

-- two ranks with a segment of 16 bytes and eight slots each
abbrev pub two_ranks : ShapeValue
two_ranks = record {
  limits = record { ranks = 2; queues = 1; depth = 4; notes = 8; inbox = 4; events = 1000 };
  segments = record { rank = 0; segment = 0; size = 16 } ∷ record { rank = 1; segment = 0; size = 16 } ∷ [];
  callers = record { rank = 0; thread = 0 } ∷ record { rank = 1; thread = 0 } ∷ [];
}

abbrev pub notified_write : List Event
notified_write =
    Called (record { rank = 0; thread = 0 }) (Store (record { seg = 0; offset = 0; bytes = 1 ∷ 2 ∷ [] })) replies.Done
    ∷ Called (record { rank = 0; thread = 0 }) (WriteNotify (record { seg = 0; offset = 0; rank = 1; rseg = 0; roffset = 4; size = 2; note = 3; value = 7; queue = 0 })) replies.Done
    ∷ Take 0 0 1 0 Applied ∷ Take 0 0 1 1 Applied ∷ Put 0 0 1 0 Applied ∷ Put 0 0 1 1 Applied
    ∷ Called (record { rank = 0; thread = 0 }) (Wait (record { queue = 0 })) replies.Done
    ∷ Called (record { rank = 0; thread = 0 }) End replies.Done
    ∷ Called (record { rank = 1; thread = 0 }) (Waitsome (record { seg = 0; begin = 0; num = 8 })) (replies.Id 3)
    ∷ Called (record { rank = 1; thread = 0 }) (Reset (record { seg = 0; note = 3 })) (replies.Value 7)
    ∷ Called (record { rank = 1; thread = 0 }) (Load (record { seg = 0; offset = 4; size = 2 })) (replies.Bytes (1 ∷ 2 ∷ []))
    ∷ Called (record { rank = 1; thread = 0 }) End replies.Done ∷ []

notified_write-is_legal : is_legal two_ranks notified_write ≡ true
notified_write-is_legal = refl

-- the notification is put before the write of its lane
notification_first-is_refused : reached two_ranks (
    Called (record { rank = 0; thread = 0 }) (WriteNotify (record { seg = 0; offset = 0; rank = 1; rseg = 0; roffset = 4; size = 2; note = 3; value = 7; queue = 0 })) replies.Done
    ∷ Take 0 0 1 0 Applied ∷ Take 0 0 1 1 Applied ∷ Put 0 0 1 1 Applied ∷ []) ≡ Err whys.Put
notification_first-is_refused = refl

-- a caller that has ended is refused, its end too
ended_caller-is_refused : is_legal two_ranks (
    Called (record { rank = 0; thread = 0 }) End replies.Done
    ∷ Called (record { rank = 0; thread = 0 }) (Reset (record { seg = 0; note = 3 })) (replies.Refused CallerEnded)
    ∷ Called (record { rank = 0; thread = 0 }) End (replies.Refused CallerEnded) ∷ []) ≡ true
ended_caller-is_refused = refl

-- a segment is made and told to a rank that writes to it; it goes before the put, which fails and breaks the queue; and
-- the next segment of its number is another, which that rank does not know
segment_in_between-is_legal : is_legal two_ranks (
    Called (record { rank = 1; thread = 0 }) (Alloc (record { seg = 5; size = 16 })) replies.Done
    ∷ Called (record { rank = 0; thread = 0 }) (Write (record { seg = 0; offset = 0; rank = 1; rseg = 5; roffset = 0; size = 4; queue = 0 })) (replies.Refused Unregistered)
    ∷ Called (record { rank = 1; thread = 0 }) (Register (record { seg = 5; rank = 0 })) replies.Done
    ∷ Called (record { rank = 0; thread = 0 }) (Write (record { seg = 0; offset = 0; rank = 1; rseg = 5; roffset = 0; size = 4; queue = 0 })) replies.Done
    ∷ Called (record { rank = 0; thread = 0 }) (Delete (record { seg = 0 })) (replies.Refused (SegmentBusy 0))
    ∷ Take 0 0 1 0 Applied
    ∷ Called (record { rank = 0; thread = 0 }) (Delete (record { seg = 0 })) replies.Done
    ∷ Called (record { rank = 1; thread = 0 }) (Delete (record { seg = 5 })) replies.Done
    ∷ Put 0 0 1 0 Failed
    ∷ Called (record { rank = 0; thread = 0 }) (Wait (record { queue = 0 })) (replies.Refused (QueueBroken 1))
    ∷ Called (record { rank = 1; thread = 0 }) (Alloc (record { seg = 5; size = 8 })) replies.Done
    ∷ Called (record { rank = 0; thread = 0 }) (FetchAdd (record { seg = 5; offset = 0; rank = 1; value = 1 })) (replies.Refused Unregistered) ∷ []) ≡ true
segment_in_between-is_legal = refl

-- atomics of another rank's word, and of an own one: each answers what stood there
atomics-are_legal : is_legal two_ranks (
    Called (record { rank = 0; thread = 0 }) (FetchAdd (record { seg = 0; offset = 8; rank = 1; value = 5 })) (replies.Value 0)
    ∷ Called (record { rank = 0; thread = 0 }) (CompareSwap (record { seg = 0; offset = 8; rank = 1; comparator = 4; new = 9 })) (replies.Value 5)
    ∷ Called (record { rank = 0; thread = 0 }) (CompareSwap (record { seg = 0; offset = 8; rank = 1; comparator = 5; new = 258 })) (replies.Value 5)
    ∷ Called (record { rank = 1; thread = 0 }) (Load (record { seg = 0; offset = 8; size = 2 })) (replies.Bytes (2 ∷ 1 ∷ []))
    ∷ Called (record { rank = 1; thread = 0 }) (FetchAdd (record { seg = 0; offset = 8; rank = 1; value = 18446744073709551615 })) (replies.Value 258)
    ∷ Called (record { rank = 1; thread = 0 }) (FetchAdd (record { seg = 0; offset = 8; rank = 1; value = 0 })) (replies.Value 257)
    ∷ Called (record { rank = 1; thread = 0 }) (FetchAdd (record { seg = 0; offset = 4; rank = 1; value = 0 })) (replies.Refused BadAlign) ∷ []) ≡ true
atomics-are_legal = refl
