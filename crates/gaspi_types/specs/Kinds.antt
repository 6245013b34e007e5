-- What the kind of an entry says of it: from where it takes its bytes, and what its put changes.
-- (GASPI: one-sided communication)
use Rattle.std.specs.Prelude.{Bool, true, false, Option, None, Some}
use Rattle.gaspi_types.specs.declared.entries.ByteRange.{ByteRange}
use Rattle.gaspi_types.specs.declared.entries.Kind.{Kind}
use Rattle.gaspi_types.specs.declared.entries.Kind.TheVariants.{Write, Read, Notify, ReadNote}
use Rattle.gaspi_types.specs.declared.entries.Destination.{Destination}
use Rattle.gaspi_types.specs.declared.entries.Destination.TheVariants.{Range, Slot}

abbrev pub is_write_kind : Kind → Bool
is_write_kind (Write own target) = true
is_write_kind (Read own target) = false
is_write_kind (Notify target value) = false
is_write_kind (ReadNote own) = false

abbrev pub is_read_kind : Kind → Bool
is_read_kind (Write own target) = false
is_read_kind (Read own target) = true
is_read_kind (Notify target value) = false
is_read_kind (ReadNote own) = false

abbrev pub is_notify_kind : Kind → Bool
is_notify_kind (Write own target) = false
is_notify_kind (Read own target) = false
is_notify_kind (Notify target value) = true
is_notify_kind (ReadNote own) = false

abbrev pub is_read_note_kind : Kind → Bool
is_read_note_kind (Write own target) = false
is_read_note_kind (Read own target) = false
is_read_note_kind (Notify target value) = false
is_read_note_kind (ReadNote own) = true

-- whether it puts into the memory of its target: a read and its notification put into that of their origin
abbrev pub is_outward : Kind → Bool
is_outward (Write own target) = true
is_outward (Read own target) = false
is_outward (Notify target value) = true
is_outward (ReadNote own) = false

-- the range from which an entry takes its bytes: a write its own, a read that of its target
abbrev pub source_of : Kind → Option ByteRange
source_of (Write own target) = Some own
source_of (Read own target) = Some target
source_of (Notify target value) = None
source_of (ReadNote own) = None

-- what its put changes: the other range, or a slot
abbrev pub destination_of : Kind → Destination
destination_of (Write own target) = Range target
destination_of (Read own target) = Range own
destination_of (Notify target value) = Slot target value
destination_of (ReadNote own) = Slot own 1
