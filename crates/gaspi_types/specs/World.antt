-- Shapes: the limits of a world, its declared segments and its callers.
use Rattle.std.specs.Prelude.{◌≡◌, ℕ, ◌≤◌, Bool, true, ◌&&◌, List, [], ◌∷◌, ◌++◌, Result, Ok, Err, if◌then◌else◌, nat_lt, ◌==◌, count_by, slice_get, Some, ◌<◌}
use Rattle.std.specs.List.{list_any}
use Rattle.gaspi_types.specs.Ranges.{is_between}
use Rattle.gaspi_types.specs.declared.shapes.Limits.{Limits}
use Rattle.gaspi_types.specs.declared.shapes.DeclaredSegment.{DeclaredSegment}
use Rattle.gaspi_types.specs.declared.shapes.CallerId.{CallerId}
use Rattle.gaspi_types.specs.declared.shapes.ShapeFault.{ShapeFault}
use Rattle.gaspi_types.specs.declared.shapes.ShapeFault.TheVariants as faults

-- what a contract sees of a shape: the limits, the declared segments, and the callers, both in the order of their declaration
pub record ShapeValue : Type 0 where
  pub limits : Limits
  pub segments : List DeclaredSegment
  pub callers : List CallerId

-- own choice: how large a world may be
abbrev pub are_limits : Limits → Bool
are_limits l =
    is_between 1 16 l.ranks && (is_between 1 8 l.queues && (is_between 1 256 l.depth
    && (is_between 1 1024 l.notes && (is_between 1 64 l.inbox && is_between 1 65536 l.events))))

-- own choice: how many bytes a segment may have
abbrev pub is_segment_size : ℕ → Bool
is_segment_size size = is_between 1 1048576 size

-- the shape of these limits, with nothing declared
abbrev pub shape_of : Limits → Result ShapeValue ShapeFault
shape_of limits = if are_limits limits then Ok (record { limits = limits; segments = []; callers = [] }) else Err faults.Limit

-- whether a declared segment is of that rank and id
abbrev pub is_segment : ℕ → ℕ → DeclaredSegment → Bool
is_segment rank segment d = (d.rank == rank) && (d.segment == segment)

-- a segment declared: within the limits, and once
abbrev pub segment_added : ShapeValue → ℕ → ℕ → ℕ → Result ShapeValue ShapeFault
segment_added w rank segment size =
    if nat_lt rank w.limits.ranks && (nat_lt segment 32 && is_segment_size size)
    then (if list_any (is_segment rank segment) w.segments
    then Err faults.Twice
    else Ok (record { limits = w.limits; segments = w.segments ++ record { rank = rank; segment = segment; size = size } ∷ []; callers = w.callers }))
    else Err faults.Limit

-- whether a caller is of that rank and thread
abbrev pub is_caller : ℕ → ℕ → CallerId → Bool
is_caller rank thread c = (c.rank == rank) && (c.thread == thread)

-- a caller declared: within the limits, once, and no rank has more callers than it may record events, since each
-- of them records its end
abbrev pub caller_added : ShapeValue → ℕ → ℕ → Result ShapeValue ShapeFault
caller_added w rank thread =
    if nat_lt rank w.limits.ranks && nat_lt thread 4
    then (if list_any (is_caller rank thread) w.callers
    then Err faults.Twice
    else (if nat_lt (count_by (λ c. c.rank == rank) w.callers) w.limits.events
    then Ok (record { limits = w.limits; segments = w.segments; callers = w.callers ++ record { rank = rank; thread = thread } ∷ [] })
    else Err faults.Threads))
    else Err faults.Limit

-- what holds of every shape that was declared so
pub record IsShape (w : ShapeValue) : Type 0 where
  pub limits : are_limits w.limits ≡ true
  pub callers : (rank : ℕ) → count_by (λ c. c.rank == rank) w.callers ≤ w.limits.events
  pub once : (rank thread : ℕ) → count_by (is_caller rank thread) w.callers ≤ 1
  pub within : (place : ℕ) (c : CallerId) → slice_get w.callers place ≡ Some c → (c.rank < w.limits.ranks) × (c.thread < 4)
  pub segments : (place : ℕ) (d : DeclaredSegment) → slice_get w.segments place ≡ Some d → (d.rank < w.limits.ranks) × (d.segment < 32) × (is_segment_size d.size ≡ true)
  pub declared_once : (rank segment : ℕ) → count_by (is_segment rank segment) w.segments ≤ 1

-- a shape before and after a declaration: changed as the outcome says, and unchanged where it was refused, or where memory ran
-- out
abbrev pub Declares : Result (Unit {0}) ShapeFault → ShapeValue → ShapeValue → Result ShapeValue ShapeFault → Type 0
Declares (Ok done) old new outcome = outcome ≡ Ok new
Declares (Err faults.NoMemory) old new outcome = new ≡ old
Declares (Err faults.Limit) old new outcome = (outcome ≡ Err faults.Limit) × (new ≡ old)
Declares (Err faults.Twice) old new outcome = (outcome ≡ Err faults.Twice) × (new ≡ old)
Declares (Err faults.Threads) old new outcome = (outcome ≡ Err faults.Threads) × (new ≡ old)
