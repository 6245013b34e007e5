-- Which segments a memory has, their generations, and how many bytes and slots they have: no event changes it but the calls
-- that make a segment and delete one.
use Rattle.std.proofs.Common.{◌≡◌, ℕ, List, [], ◌∷◌, Option, None, Some, length, refl}
use Rattle.std.specs.List.{slice_set}
use Rattle.std.proofs.lemmas.List.{length-set}
use Rattle.gaspi_types.specs.SegmentBytes.{with_range}
use Rattle.gaspi_types.specs.Segments.{extents_of}
use Rattle.gaspi_types.specs.declared.entries.Entry.{Entry}
use Rattle.gaspi_types.specs.Kinds.{destination_of}
use Rattle.gaspi_types.specs.declared.entries.Destination.{Destination}
use Rattle.gaspi_types.specs.declared.entries.Destination.TheVariants.{Range, Slot}
use Rattle.gaspi_types.proofs.Written.{with_range-length, extents_of-with_bytes, counts-with_slots}
use Rattle.gaspi_model.specs.Memories.{bytes_of, slots_of, with_bytes, with_slots}
use Rattle.gaspi_model.specs.Transfers.{memory_put, memory_with_put, carried_bytes}
use Rattle.gaspi_model.specs.PassiveCalls.{send_effect, receive_effect}
use Rattle.gaspi_types.specs.declared.inboxes.Message.{Message}
use Rattle.gaspi_types.specs.declared.calls.passive.PassiveReceive as receive
use Rattle.gaspi_model.specs.Coherence.{slot_counts}
use Rattle.gaspi_model.specs.declared.states.Memory.{Memory}

-- the same segments, generations, sizes and numbers of slots
pub record HaveSameLayout (old new : Memory) : Type 0 where
  pub extents : extents_of new.segments ≡ extents_of old.segments
  pub counts : slot_counts new ≡ slot_counts old

pub same-layout : (m : Memory) → HaveSameLayout m m
same-layout m = record { extents = refl; counts = refl }

-- the bytes of a segment replaced by as many
pub replaced-layout : (m : Memory) (segment : ℕ) (new : List ℕ) → length new ≡ length (bytes_of m segment) → HaveSameLayout m (with_bytes m segment new)
replaced-layout m segment new same = record { extents = extents_of-with_bytes m.segments segment new same; counts = refl }

pub bytes-layout : (m : Memory) (segment offset : ℕ) (new : List ℕ) → HaveSameLayout m (with_bytes m segment (with_range (bytes_of m segment) offset new))
bytes-layout m segment offset new = replaced-layout m segment (with_range (bytes_of m segment) offset new) (with_range-length (bytes_of m segment) offset new)

pub slots-layout : (m : Memory) (segment note value : ℕ) → HaveSameLayout m (with_slots m segment (slice_set (slots_of m segment) note value))
slots-layout m segment note value = record {
  extents = refl;
  counts = counts-with_slots m.slots segment (slice_set (slots_of m segment) note value) (length-set (slots_of m segment) note value);
}

pub put-layout : (m : Memory) (e : Entry) → HaveSameLayout m (memory_put m e)
put-layout m e = go (destination_of e.kind)
  where
    go : (d : Destination) → HaveSameLayout m (memory_with_put m d (carried_bytes e.phase))
    go (Range range) = bytes-layout m range.segment range.offset (carried_bytes e.phase)
    go (Slot slot value) = slots-layout m slot.segment slot.note value

-- messages come and go, and layouts stay
pub send-layout : (brought : Option Message) (m : Memory) → HaveSameLayout m (send_effect brought m)
send-layout None m = same-layout m
send-layout (Some message) m = record { extents = refl; counts = refl }

pub receive-layout : (m : Memory) (call : receive.PassiveReceive) → HaveSameLayout m (receive_effect m call)
receive-layout m call = go m.inbox refl
  where
    go : (inbox : List Message) → m.inbox ≡ inbox → HaveSameLayout m (receive_effect m call)
    go [] is = rw is (record { extents = refl; counts = refl })
    go (message ∷ rest) is =
        let same = bytes-layout m call.seg call.offset message.bytes in
        rw is (record { extents = same.extents; counts = same.counts })
