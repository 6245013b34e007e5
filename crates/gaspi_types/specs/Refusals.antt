-- Refusals: their numbers and their fields, and the refusal of a number.
use Rattle.std.specs.Prelude.{ℕ, ◌==◌, List, [], ◌∷◌, Option, Some, None, if◌then◌else◌}
use Rattle.gaspi_types.specs.declared.collectives.Stage.{Stage}
use Rattle.gaspi_types.specs.declared.collectives.Coll.{Coll}
use Rattle.gaspi_types.specs.declared.replies.Refusal.{Refusal}
use Rattle.gaspi_types.specs.declared.replies.Refusal.TheVariants.{BadRank, NoSegment, SegmentThere, Unregistered, BadRange, BadSize, BadQueue, QueueFull, QueueBroken, BadNote, ZeroValue, BadAlign, PassiveSize, NoGroup, GroupStage, NotMember, GroupMismatch, ActiveCollective, ResumeOther, CollectiveMismatch, BadCount, FloatType, SegmentBusy, GroupsFull, CallerEnded}
use Rattle.gaspi_types.specs.declared.replies.RefusalFields.{RefusalFields}
use Rattle.gaspi_types.specs.declared.replies.RefusalFields.TheVariants as fields

-- the number of a refusal in texts, and its fields
abbrev pub refusal_parts : Refusal → ℕ × RefusalFields
refusal_parts BadRank = (1, fields.Nothing)
refusal_parts NoSegment = (2, fields.Nothing)
refusal_parts SegmentThere = (3, fields.Nothing)
refusal_parts Unregistered = (4, fields.Nothing)
refusal_parts (BadRange size) = (5, fields.OneNumber size)
refusal_parts BadSize = (6, fields.Nothing)
refusal_parts BadQueue = (7, fields.Nothing)
refusal_parts (QueueFull count need) = (8, fields.TwoNumbers count need)
refusal_parts (QueueBroken rank) = (9, fields.OneNumber rank)
refusal_parts BadNote = (10, fields.Nothing)
refusal_parts ZeroValue = (11, fields.Nothing)
refusal_parts BadAlign = (12, fields.Nothing)
refusal_parts (PassiveSize waiting) = (13, fields.OneNumber waiting)
refusal_parts NoGroup = (14, fields.Nothing)
refusal_parts (GroupStage stage) = (15, fields.OneStage stage)
refusal_parts NotMember = (16, fields.Nothing)
refusal_parts (GroupMismatch kept) = (17, fields.OneNumber kept)
refusal_parts (ActiveCollective thread) = (18, fields.OneNumber thread)
refusal_parts (ResumeOther kept) = (19, fields.OneCollective kept)
refusal_parts (CollectiveMismatch kept) = (20, fields.OneCollective kept)
refusal_parts BadCount = (21, fields.Nothing)
refusal_parts FloatType = (22, fields.Nothing)
refusal_parts (SegmentBusy queue) = (23, fields.OneNumber queue)
refusal_parts GroupsFull = (24, fields.Nothing)
refusal_parts CallerEnded = (25, fields.Nothing)

-- Forms: the kinds of fields.

pub data RefusalForm : Type 0 where
  Bare : RefusalForm
  OneNumber : RefusalForm
  TwoNumbers : RefusalForm
  OneStage : RefusalForm
  OneCollective : RefusalForm

-- what the fields of a form hold
abbrev pub Held : RefusalForm → Type 0
Held Bare = Unit {0}
Held OneNumber = ℕ
Held TwoNumbers = ℕ × ℕ
Held OneStage = Stage
Held OneCollective = Coll

-- Rows: for each number a form, and the refusal that holds that.

pub record RefusalRow : Type 0 where
  pub form : RefusalForm
  pub made : Held form → Refusal

-- a refusal without a field
abbrev pub bare : Refusal → RefusalRow
bare refusal = record { form = Bare; made = λ nothing. refusal }

-- a refusal with the fields of a form
abbrev pub holding : (form : RefusalForm) → (Held form → Refusal) → RefusalRow
holding form made = record { form = form; made = made }

abbrev pub refusal_rows : List (ℕ × RefusalRow)
refusal_rows =
    (1, bare BadRank)
    ∷ (2, bare NoSegment)
    ∷ (3, bare SegmentThere)
    ∷ (4, bare Unregistered)
    ∷ (5, holding OneNumber BadRange)
    ∷ (6, bare BadSize)
    ∷ (7, bare BadQueue)
    ∷ (8, holding TwoNumbers (λ both. QueueFull both.0 both.1))
    ∷ (9, holding OneNumber QueueBroken)
    ∷ (10, bare BadNote)
    ∷ (11, bare ZeroValue)
    ∷ (12, bare BadAlign)
    ∷ (13, holding OneNumber PassiveSize)
    ∷ (14, bare NoGroup)
    ∷ (15, holding OneStage GroupStage)
    ∷ (16, bare NotMember)
    ∷ (17, holding OneNumber GroupMismatch)
    ∷ (18, holding OneNumber ActiveCollective)
    ∷ (19, holding OneCollective ResumeOther)
    ∷ (20, holding OneCollective CollectiveMismatch)
    ∷ (21, bare BadCount)
    ∷ (22, bare FloatType)
    ∷ (23, holding OneNumber SegmentBusy)
    ∷ (24, bare GroupsFull)
    ∷ (25, bare CallerEnded)
    ∷ []

abbrev pub row_in : ℕ → List (ℕ × RefusalRow) → Option RefusalRow
row_in number [] = None
row_in number (row ∷ rows) = if number == row.0 then Some row.1 else row_in number rows
