-- Replies and refusals compared.
use Rattle.std.specs.Prelude.{ℕ, Bool, true, false, ◌&&◌, ◌==◌, List, [], ◌∷◌, nat_eq}
use Rattle.std.specs.Ordering.{int_eq}
use Rattle.std.specs.Cmp.Lexicographic.{pointwise}
use Rattle.gaspi_types.specs.declared.collectives.NumType.{NumType}
use Rattle.gaspi_types.specs.declared.collectives.NumType.TheVariants.{Int, Uint, Long, Ulong, Float, Double}
use Rattle.gaspi_types.specs.declared.collectives.Op.{Op}
use Rattle.gaspi_types.specs.declared.collectives.Op.TheVariants.{Min, Max, Sum}
use Rattle.gaspi_types.specs.declared.collectives.Stage.{Stage}
use Rattle.gaspi_types.specs.declared.collectives.Stage.TheVariants.{Building, Committed}
use Rattle.gaspi_types.specs.declared.collectives.Coll.{Coll}
use Rattle.gaspi_types.specs.declared.collectives.Coll.TheVariants.{Barrier, Allreduce, Create, Commit}
use Rattle.gaspi_types.specs.declared.collectives.Numbers.{Numbers}
use Rattle.gaspi_types.specs.declared.replies.Refusal.{Refusal}
use Rattle.gaspi_types.specs.declared.replies.RefusalFields.{RefusalFields}
use Rattle.gaspi_types.specs.declared.replies.RefusalFields.TheVariants.{Nothing, OneNumber, TwoNumbers, OneStage, OneCollective}
use Rattle.gaspi_types.specs.Refusals.{refusal_parts}
use Rattle.gaspi_types.specs.declared.replies.Reply.{Reply}
use Rattle.gaspi_types.specs.declared.replies.Reply.TheVariants as replies

-- the numbers by which a stage, an operation, a type and a collective are compared

-- the number of a stage
abbrev pub stage_number : Stage → ℕ
stage_number Building = 0
stage_number Committed = 1

-- the number of an operation
abbrev pub op_number : Op → ℕ
op_number Min = 0
op_number Max = 1
op_number Sum = 2

-- the number of a type
abbrev pub type_number : NumType → ℕ
type_number Int = 0
type_number Uint = 1
type_number Long = 2
type_number Ulong = 3
type_number Float = 4
type_number Double = 5

-- the numbers of a collective: its kind, and what it is called with, values aside
abbrev pub coll_fields : Coll → List ℕ
coll_fields Barrier = 0 ∷ []
coll_fields (Allreduce op num_type count) = 1 ∷ op_number op ∷ type_number num_type ∷ count ∷ []
coll_fields (Create segment size) = 2 ∷ segment ∷ size ∷ []
coll_fields (Commit mask) = 3 ∷ mask ∷ []

-- the number of a refusal in texts
abbrev pub refusal_number : Refusal → ℕ
refusal_number refusal = (refusal_parts refusal).0

-- fields as numbers, in order
abbrev pub numbers_of_fields : RefusalFields → List ℕ
numbers_of_fields Nothing = []
numbers_of_fields (OneNumber n) = n ∷ []
numbers_of_fields (TwoNumbers first second) = first ∷ second ∷ []
numbers_of_fields (OneStage stage) = stage_number stage ∷ []
numbers_of_fields (OneCollective kept) = coll_fields kept

-- the fields of a refusal as numbers; most have none
abbrev pub refusal_fields : Refusal → List ℕ
refusal_fields refusal = numbers_of_fields (refusal_parts refusal).1

-- refusals are the same where their numbers and fields are
abbrev pub same_refusal : Refusal → Refusal → Bool
same_refusal a b = (refusal_number a == refusal_number b) && pointwise nat_eq (refusal_fields a) (refusal_fields b)

-- lists of numbers are the same where their types and numbers are
abbrev pub same_numbers : Numbers → Numbers → Bool
same_numbers a b = (type_number a.num_type == type_number b.num_type) && pointwise int_eq a.items b.items

-- whether replies are the same
abbrev pub same_reply : Reply → Reply → Bool
same_reply replies.Done replies.Done = true
same_reply (replies.Value m) (replies.Value n) = m == n
same_reply (replies.Id m) (replies.Id n) = m == n
same_reply (replies.Bytes a) (replies.Bytes b) = pointwise nat_eq a b
same_reply (replies.Mask m) (replies.Mask n) = m == n
same_reply (replies.List a) (replies.List b) = same_numbers a b
same_reply replies.Timeout replies.Timeout = true
same_reply (replies.Refused a) (replies.Refused b) = same_refusal a b
same_reply _ _ = false

abbrev pub is_done : Reply → Bool
is_done replies.Done = true
is_done reply = false

-- a reply that says that the call did nothing: a timeout or a refusal
abbrev pub is_idle : Reply → Bool
is_idle replies.Timeout = true
is_idle (replies.Refused refusal) = true
is_idle reply = false
