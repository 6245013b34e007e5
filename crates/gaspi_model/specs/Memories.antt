-- The memory of a rank: the bytes and the notification slots of its segments. (GASPI: segments, notifications)
use Rattle.std.specs.Prelude.{ℕ, List}
use Rattle.gaspi_types.specs.Segments as segments
use Rattle.gaspi_types.specs.Slots as slots
use Rattle.gaspi_model.specs.declared.states.Memory.{Memory}

-- the bytes of a segment; of one that is not there, none
abbrev pub bytes_of : Memory → ℕ → List ℕ
bytes_of memory segment = segments.bytes_of memory.segments segment

-- the slots of a segment; of one that is not there, none
abbrev pub slots_of : Memory → ℕ → List ℕ
slots_of memory segment = slots.slots_of memory.slots segment

-- a memory with the bytes of a segment replaced
abbrev pub with_bytes : Memory → ℕ → List ℕ → Memory
with_bytes memory segment bytes = record memory { segments = segments.with_bytes memory.segments segment bytes }

-- a memory with the slots of a segment replaced
abbrev pub with_slots : Memory → ℕ → List ℕ → Memory
with_slots memory segment values = record memory { slots = slots.with_slots memory.slots segment values }
