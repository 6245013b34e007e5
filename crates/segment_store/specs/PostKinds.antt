-- The kinds of the entries that a call asks for, as `EntryKinds` has them.
use Rattle.std.specs.Prelude.{◌≡◌, ℕ, ◌==◌, nat_lt, not, List, [], Result, Ok, Err}
use Rattle.gaspi_types.specs.Checks.{◌>>=◌, check}
use Rattle.gaspi_types.specs.Posts.{slot_in}
use Rattle.gaspi_types.specs.declared.entries.Kind.{Kind}
use Rattle.gaspi_types.specs.declared.entries.Kind.TheVariants.{Notify, ReadNote}
use Rattle.gaspi_types.specs.declared.segments.Extent.{Extent}
use Rattle.gaspi_types.specs.declared.replies.Refusal.{Refusal}
use Rattle.gaspi_types.specs.declared.replies.Refusal.TheVariants.{BadNote, ZeroValue}
use Rattle.segment_store.specs.declared.kinds.EntryKinds.{EntryKinds}
use Rattle.segment_store.specs.declared.kinds.EntryKinds.TheVariants.{Nothing, One, Two, Many}

-- the kinds of the entries, in order
abbrev pub kinds_of : EntryKinds → List Kind
kinds_of Nothing = []
kinds_of (One kinds) = kinds
kinds_of (Two kinds) = kinds
kinds_of (Many kinds) = kinds

-- these are the kinds that a call asks for, or its refusal
abbrev pub Asks : Result EntryKinds Refusal → Result (List Kind) Refusal → Type 0
Asks (Ok kinds) asked = asked ≡ Ok (kinds_of kinds)
Asks (Err refusal) asked = asked ≡ Err refusal

-- a notification after writes: its slot is checked, then its value (notify)
abbrev pub notification : ℕ → Extent → ℕ → ℕ → ℕ → Result Kind Refusal
notification notes theirs segment note value = do
  noted ← check (nat_lt note notes) BadNote
  valued ← check (not (value == 0)) ZeroValue
  Ok (Notify (slot_in theirs segment note) value)

-- the notification of reads: its slot is checked (read_notify)
abbrev pub read_notification : ℕ → Extent → ℕ → ℕ → Result Kind Refusal
read_notification notes mine segment note = do
  noted ← check (nat_lt note notes) BadNote
  Ok (ReadNote (slot_in mine segment note))
