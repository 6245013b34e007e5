-- What follows from the kind and the phase of an entry. A new kind of entry has its arms here, and in src/kinds.rt.
-- (GASPI: one-sided communication, segments)
use Rattle.std.specs.Prelude.{ℕ, Bool, true, false, cond, Option, None, Some}
use Rattle.gaspi_types.specs.declared.entries.Entry.{Entry}
use Rattle.gaspi_types.specs.declared.entries.Kind.{Kind}
use Rattle.gaspi_types.specs.declared.entries.Kind.TheVariants.{Write, Read, Notify, ReadNote}
use Rattle.gaspi_types.specs.declared.entries.Phase.{Phase}
use Rattle.gaspi_types.specs.declared.entries.Phase.TheVariants as phases
use Rattle.post_queue.specs.declared.kinds.PhaseKind.{PhaseKind}
use Rattle.post_queue.specs.declared.kinds.PhaseKind.TheVariants.{Posted, Carried, Failed}

-- 1 where the test holds, else 0
abbrev pub one_if : Bool → ℕ
one_if test = cond test 1 0

-- a phase without its bytes
abbrev pub progress_of : Phase → PhaseKind
progress_of phases.Posted = Posted
progress_of (phases.Carried bytes) = Carried
progress_of phases.Failed = Failed

-- the phase is posted
abbrev pub is_posted_yet : PhaseKind → Bool
is_posted_yet Posted = true
is_posted_yet Carried = false
is_posted_yet Failed = false

-- an entry is awaited: it is posted, or it is a read or the notification of a read, in any phase
abbrev pub is_awaited : Kind → PhaseKind → Bool
is_awaited (Write own target) progress = is_posted_yet progress
is_awaited (Read own target) progress = true
is_awaited (Notify target value) progress = is_posted_yet progress
is_awaited (ReadNote own) progress = true

-- the own segment that an entry uses: it has still to read from it or to write to it
abbrev pub used_segment : Kind → PhaseKind → Option ℕ
used_segment (Write own target) Posted = Some own.segment
used_segment (Write own target) Carried = None
used_segment (Write own target) Failed = None
used_segment (Read own target) Posted = Some own.segment
used_segment (Read own target) Carried = Some own.segment
used_segment (Read own target) Failed = None
used_segment (Notify target value) progress = None
used_segment (ReadNote own) Posted = Some own.segment
used_segment (ReadNote own) Carried = Some own.segment
used_segment (ReadNote own) Failed = None

-- how many events are owed for an entry in this phase
abbrev pub events_owed : PhaseKind → ℕ
events_owed Posted = 2
events_owed Carried = 1
events_owed Failed = 0

-- the same of an entry of a lane
abbrev pub is_awaited_entry : Entry → Bool
is_awaited_entry e = is_awaited e.kind (progress_of e.phase)
