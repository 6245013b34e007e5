-- The world of `bench`: ranks in a ring, each of which sends a number to its right neighbour in each bench round. (own choice)
use Rattle.std.specs.Prelude.{ℕ, zero, suc, ◌+◌, ◌-◌, ◌*◌, ◌%◌, List, [], ◌∷◌, ◌++◌, Option, None, Some}
use Rattle.byteorder.specs.Endian.{little_bytes}
use Rattle.gaspi_types.specs.World.{ShapeValue}
use Rattle.gaspi_types.specs.declared.calls.Call.{Call}
use Rattle.gaspi_types.specs.declared.calls.Call.TheVariants as calls
use Rattle.gaspi_types.specs.declared.calls.Timeout.{Timeout}
use Rattle.gaspi_types.specs.declared.calls.Timeout.TheVariants.{Looks, Block}
use Rattle.gaspi_types.specs.declared.replies.Reply.{Reply}
use Rattle.gaspi_types.specs.declared.replies.Reply.TheVariants as replies
use Rattle.gaspi_types.specs.declared.shapes.CallerId.{CallerId}
use Rattle.gaspi_types.specs.declared.shapes.DeclaredSegment.{DeclaredSegment}
use Rattle.rank_script.specs.Generator.{after_draws}
use Rattle.rank_script.specs.declared.scripts.ScriptLine.{ScriptLine}

-- the right neighbour of a rank in a ring
abbrev pub right_of : ℕ → ℕ → ℕ
right_of ranks rank = (rank + 1) % ranks

-- the left neighbour of a rank in a ring
abbrev pub left_of : ℕ → ℕ → ℕ
left_of ranks rank = (rank + ranks - 1) % ranks

-- a line whose call is made once
abbrev pub once_line : ℕ → Call → Timeout → Option Reply → ScriptLine
once_line number call timeout expected = record { number = number; call = call; timeout = timeout; tries = 1; expected = expected }

-- what a rank posts to its right neighbour in each bench round: the eight bytes at 0 of its segment, to 8 of the other, with a
-- notification
abbrev pub ring_call : ℕ → Call
ring_call right = calls.WriteNotify (record { seg = 0; offset = 0; rank = right; rseg = 0; roffset = 8; size = 8; note = 0; value = 1; queue = 0 })

-- The first lines of a bench round, the first of which has this number: a rank stores eight bytes, posts them, and waits for the
-- queue.
abbrev pub sending_lines : ℕ → ℕ → List ℕ → List ScriptLine
sending_lines number right sent =
    once_line number (calls.Store (record { seg = 0; offset = 0; bytes = sent })) (Looks 1) None
    ∷ once_line (number + 1) (ring_call right) (Looks 1) None
    ∷ once_line (number + 2) (calls.Wait (record { queue = 0 })) Block None ∷ []

-- The other lines of that bench round: the rank waits for the notification of its left neighbour, resets its slot, expects that
-- neighbour's eight bytes, and comes to a barrier of all ranks.
abbrev pub receiving_lines : ℕ → List ℕ → List ScriptLine
receiving_lines number received =
    once_line (number + 3) (calls.Waitsome (record { seg = 0; begin = 0; num = 1 })) Block (Some (replies.Id 0))
    ∷ once_line (number + 4) (calls.Reset (record { seg = 0; note = 0 })) (Looks 1) (Some (replies.Value 1))
    ∷ once_line (number + 5) (calls.Load (record { seg = 0; offset = 8; size = 8 })) (Looks 1) (Some (replies.Bytes received))
    ∷ once_line (number + 6) (calls.Barrier (record { group = 0 })) Block None ∷ []

-- The number that a rank sends in a bench round. The numbers are drawn bench round by bench round, and in each rank by rank.
abbrev pub bench_draw : ℕ → ℕ → ℕ → ℕ → ℕ
bench_draw seed ranks round rank = after_draws seed (round * ranks + rank + 1)

-- its eight bytes, the lowest first
abbrev pub bench_bytes : ℕ → ℕ → ℕ → ℕ → List ℕ
bench_bytes seed ranks round rank = little_bytes 8 (bench_draw seed ranks round rank)

-- The number of the first line of a rank's script in the world text: the line of the world, those of the segments, the sections of the
-- ranks before it and its own section's line come first.
abbrev pub first_number : ℕ → ℕ → ℕ → ℕ
first_number ranks rounds rank = ranks + 3 + rank * (7 * rounds + 1)

module _ (seed ranks rounds : ℕ) where
  -- the lines of a rank in a bench round
  abbrev pub round_lines : ℕ → ℕ → List ScriptLine
  round_lines rank round =
      let number = first_number ranks rounds rank + 7 * round in
      sending_lines number (right_of ranks rank) (bench_bytes seed ranks round rank)
      ++ receiving_lines number (bench_bytes seed ranks round (left_of ranks rank))

  -- the lines of a rank in this number of bench rounds
  abbrev pub bench_lines : ℕ → ℕ → List ScriptLine
  bench_lines rank zero = []
  bench_lines rank (suc round) = bench_lines rank round ++ round_lines rank round

-- a segment of sixteen bytes for each rank below this number
abbrev pub bench_segments : ℕ → List DeclaredSegment
bench_segments zero = []
bench_segments (suc rank) = bench_segments rank ++ record { rank = rank; segment = 0; size = 16 } ∷ []

-- a caller of each rank below this number
abbrev pub bench_callers : ℕ → List CallerId
bench_callers zero = []
bench_callers (suc rank) = bench_callers rank ++ record { rank = rank; thread = 0 } ∷ []

-- The shape: one queue of at most four open entries, one notification slot, and room for twelve events of a rank in a bench round, and
-- its end.
abbrev pub bench_shape : ℕ → ℕ → ShapeValue
bench_shape ranks rounds = record {
  limits = record { ranks = ranks; queues = 1; depth = 4; notes = 1; inbox = 1; events = 12 * rounds + 1 };
  segments = bench_segments ranks;
  callers = bench_callers ranks;
}
