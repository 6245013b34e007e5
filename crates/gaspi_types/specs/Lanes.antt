-- A lane: the entries of one origin, queue and target, in the order in which they were posted.
-- (GASPI: one-sided communication)
use Rattle.std.specs.Prelude.{ℕ, ◌+◌, Bool, true, false, not, ◌&&◌, ◌||◌, ◌==◌, nat_lt, List, [], ◌∷◌, sum_by, count_by, position, Option}
use Rattle.std.specs.List.{list_any}
use Rattle.gaspi_types.specs.Kinds.{is_write_kind, is_read_kind, is_notify_kind, is_read_note_kind}
use Rattle.gaspi_types.specs.declared.entries.Entry.{Entry}
use Rattle.gaspi_types.specs.declared.entries.Kind.{Kind}
use Rattle.gaspi_types.specs.declared.entries.Kind.TheVariants.{Write, Read, Notify, ReadNote}
use Rattle.gaspi_types.specs.declared.entries.Phase.{Phase}
use Rattle.gaspi_types.specs.declared.entries.Phase.TheVariants.{Posted, Carried, Failed}

abbrev pub is_posted_phase : Phase → Bool
is_posted_phase Posted = true
is_posted_phase (Carried bytes) = false
is_posted_phase Failed = false

-- whether an entry is posted
abbrev pub is_posted : Entry → Bool
is_posted e = is_posted_phase e.phase

abbrev pub is_carried_phase : Phase → Bool
is_carried_phase Posted = false
is_carried_phase (Carried bytes) = true
is_carried_phase Failed = false

-- whether an entry is carried
abbrev pub is_carried : Entry → Bool
is_carried e = is_carried_phase e.phase

abbrev pub is_failed_phase : Phase → Bool
is_failed_phase Posted = false
is_failed_phase (Carried bytes) = false
is_failed_phase Failed = true

-- whether an entry is failed
abbrev pub is_failed : Entry → Bool
is_failed e = is_failed_phase e.phase

-- whether an entry is a write
abbrev pub is_write : Entry → Bool
is_write e = is_write_kind e.kind

-- whether an entry is a read
abbrev pub is_read : Entry → Bool
is_read e = is_read_kind e.kind

-- whether an entry is a notification
abbrev pub is_notify : Entry → Bool
is_notify e = is_notify_kind e.kind

-- whether an entry is the notification of a read
abbrev pub is_read_note : Entry → Bool
is_read_note e = is_read_note_kind e.kind

-- the position of the entry with a number
abbrev pub position_of : List Entry → ℕ → Option ℕ
position_of lane number = position (λ e. e.number == number) lane

-- how many entries are carried
abbrev pub carried_count : List Entry → ℕ
carried_count lane = count_by is_carried lane

-- whether a write with a smaller number is in the lane, in any phase
abbrev pub has_earlier_write : List Entry → ℕ → Bool
has_earlier_write lane number = list_any (λ e. is_write e && nat_lt e.number number) lane

-- whether a read with a smaller number is in the lane, in any phase
abbrev pub has_earlier_read : List Entry → ℕ → Bool
has_earlier_read lane number = list_any (λ e. is_read e && nat_lt e.number number) lane

-- Whether a wait waits for an entry: for a posted one, and for a read and its notification in any phase (wait).
abbrev pub is_awaited : Entry → Bool
is_awaited e = is_posted e || is_read e || is_read_note e

-- whether a lane has an awaited entry
abbrev pub has_awaited : List Entry → Bool
has_awaited lane = list_any is_awaited lane

-- own choice: the owed events of an entry, two for a posted one and one for a carried one
abbrev pub phase_owed : Phase → ℕ
phase_owed Posted = 2
phase_owed (Carried bytes) = 1
phase_owed Failed = 0

-- the owed events of an entry
abbrev pub entry_owed : Entry → ℕ
entry_owed e = phase_owed e.phase

-- the owed events of a lane
abbrev pub lane_owed : List Entry → ℕ
lane_owed lane = sum_by entry_owed lane

-- whether the take of an entry may come: it is posted, and fewer than `depth` entries of its lane are carried
abbrev pub may_take : ℕ → List Entry → Entry → Bool
may_take depth lane e = is_posted e && nat_lt (carried_count lane) depth

-- whether the put of a carried entry of that kind may come: of a write and a read always, of a notification where no earlier
-- write is in the lane, and of that of a read where no earlier read is (notification order; own choice for reads)
abbrev pub may_put_kind : List Entry → ℕ → Kind → Bool
may_put_kind lane number (Write own target) = true
may_put_kind lane number (Read own target) = true
may_put_kind lane number (Notify target value) = not (has_earlier_write lane number)
may_put_kind lane number (ReadNote own) = not (has_earlier_read lane number)

-- whether the put of an entry may come
abbrev pub may_put : List Entry → Entry → Bool
may_put lane e = is_carried e && may_put_kind lane e.number e.kind

-- the entries of a post, by their kinds, with numbers one after another from a number on
abbrev pub posted_entries : ℕ → List Kind → List Entry
posted_entries number [] = []
posted_entries number (kind ∷ kinds) = record { number = number; kind = kind; phase = Posted } ∷ posted_entries (number + 1) kinds

-- An entry uses an own segment while one of its transfers has still to read or write there: a write while it is posted, a read
-- and its notification until they are put. A failed entry uses nothing.
abbrev pub uses : ℕ → Phase → Kind → Bool
uses segment phase (Write own target) = is_posted_phase phase && (own.segment == segment)
uses segment phase (Read own target) = not (is_failed_phase phase) && (own.segment == segment)
uses segment phase (Notify target value) = false
uses segment phase (ReadNote own) = not (is_failed_phase phase) && (own.segment == segment)

-- whether an entry uses an own segment
abbrev pub is_user : ℕ → Entry → Bool
is_user segment e = uses segment e.phase e.kind

-- whether a lane has an entry that uses an own segment
abbrev pub has_user : ℕ → List Entry → Bool
has_user segment lane = list_any (is_user segment) lane
