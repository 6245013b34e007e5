-- The state of the machine: the opening state, and what is read of a state.
use Rattle.std.specs.Prelude.{ℕ, ◌+◌, ◌==◌, Bool, true, false, List, [], replicate, map, find, sum_by, count_by, Option, None, Some, if◌then◌else◌, slice_get}
use Rattle.std.specs.List.{list_any, range_with_len}
use Rattle.std.specs.Option.{option_map}
use Rattle.gaspi_types.specs.World.{ShapeValue, is_segment, is_caller}
use Rattle.gaspi_types.specs.Queues.{queue_owed}
use Rattle.gaspi_types.specs.Segments.{segment_in, new_segment}
use Rattle.gaspi_types.specs.Groups.{opening_handles}
use Rattle.gaspi_types.specs.Masks.{all_below}
use Rattle.gaspi_types.specs.declared.groups.RankContributions.{RankContributions}
use Rattle.gaspi_types.specs.declared.groups.Group.{Group}
use Rattle.gaspi_types.specs.declared.segments.Extent.{Extent}
use Rattle.gaspi_types.specs.declared.entries.Queue.{Queue}
use Rattle.gaspi_model.specs.declared.states.ThreadState.{ThreadState}
use Rattle.gaspi_model.specs.declared.states.ThreadState.TheVariants.{Absent, Running, Ended}
use Rattle.gaspi_model.specs.declared.states.Posts.{Posts}
use Rattle.gaspi_types.specs.declared.segments.Segment.{Segment}
use Rattle.gaspi_types.specs.declared.segments.SegmentTable.{SegmentTable}
use Rattle.gaspi_model.specs.declared.states.Memory.{Memory}
use Rattle.gaspi_model.specs.declared.states.State.{State}

-- the size with which a segment of a rank is declared
abbrev pub declared_size : ShapeValue → ℕ → ℕ → Option ℕ
declared_size w rank segment = option_map (λ d. d.size) (find (is_segment rank segment) w.segments)

-- the extents of the declared segments of a rank, by segment id: of generation 0 (segments)
abbrev pub opening_extents : ShapeValue → ℕ → List (Option Extent)
opening_extents w rank =
    map (λ segment. option_map (λ size. record { generation = 0; size = size }) (declared_size w rank segment)) (range_with_len 0 32)

-- the generation of the next segment of an id: generation 0 is used where the id is declared (own choice)
abbrev pub generations_used : Option ℕ → ℕ
generations_used None = 0
generations_used (Some size) = 1

-- the generation of the next segment of each id at the start
abbrev pub opening_generations : ShapeValue → ℕ → List ℕ
opening_generations w rank = map (λ segment. generations_used (declared_size w rank segment)) (range_with_len 0 32)

-- the state of a thread at the start
abbrev pub opening_thread : ShapeValue → ℕ → ℕ → ThreadState
opening_thread w rank thread = if list_any (is_caller rank thread) w.callers then Running else Absent

-- a queue with no entry, one empty lane for each rank
abbrev pub opening_queue : ℕ → Queue
opening_queue ranks = record { open_count = 0; broken = None; lanes = replicate ranks [] }

-- the table of segments of a rank at the start: every rank knows the declared segments of all
abbrev pub opening_table : ShapeValue → ℕ → SegmentTable
opening_table w rank = record {
  own = opening_extents w rank;
  next_generations = opening_generations w rank;
  known = map (opening_extents w) (range_with_len 0 w.limits.ranks);
}

-- the posts of a rank at the start
abbrev pub opening_posts : ShapeValue → ℕ → Posts
opening_posts w rank = record {
  queues = replicate w.limits.queues (opening_queue w.limits.ranks);
  corrupt = replicate w.limits.ranks false;
  segments = opening_table w rank;
  groups = opening_handles w.limits.ranks;
  pending = replicate 8 None;
  threads = map (opening_thread w rank) (range_with_len 0 4);
  events = 0;
  next = 0;
}

-- the slots of a segment as it is made: all are zero (notifications)
abbrev pub new_slots : ℕ → List ℕ
new_slots notes = replicate notes 0

-- the declared segments of a rank with their bytes, by segment id
abbrev pub opening_segments : ShapeValue → ℕ → List (Option Segment)
opening_segments w rank = map (λ segment. option_map (new_segment 0) (declared_size w rank segment)) (range_with_len 0 32)

-- their slots, by segment id
abbrev pub opening_slots : ShapeValue → ℕ → List (Option (List ℕ))
opening_slots w rank = map (λ segment. option_map (λ size. new_slots w.limits.notes) (declared_size w rank segment)) (range_with_len 0 32)

-- the memory of a rank at the start
abbrev pub opening_memory : ShapeValue → ℕ → Memory
opening_memory w rank = record { segments = opening_segments w rank; slots = opening_slots w rank; inbox = [] }

-- a rank that has contributed nothing
abbrev pub opening_part : RankContributions
opening_part = record { contributions = []; completed = 0 }

-- a group at the start: every rank is a member of group 0, and no other group has a member list
abbrev pub opening_group : ℕ → ℕ → Group
opening_group ranks group = record { members = (if group == 0 then Some (all_below ranks) else None); contributions = replicate ranks opening_part }

-- the state at the start: the shape's, all else zero or empty
abbrev pub opening : ShapeValue → State
opening w = record {
  limits = w.limits;
  posts = map (opening_posts w) (range_with_len 0 w.limits.ranks);
  memories = map (opening_memory w) (range_with_len 0 w.limits.ranks);
  groups = map (opening_group w.limits.ranks) (range_with_len 0 8);
}

-- the state of a thread; one over the threads of a rank is no caller
abbrev pub thread_at : Posts → ℕ → ThreadState
thread_at posts thread = thread_or_absent (slice_get posts.threads thread)
  where
    thread_or_absent : Option ThreadState → ThreadState
    thread_or_absent None = Absent
    thread_or_absent (Some t) = t

-- whether a thread is an active caller
abbrev pub is_running : ThreadState → Bool
is_running Absent = false
is_running Running = true
is_running Ended = false

-- Own choice: the owed events. Each posted entry owes two, each carried one owes one, and each active caller owes its end.
abbrev pub entries_owed : Posts → ℕ
entries_owed posts = sum_by queue_owed posts.queues

-- the owed events of a rank
abbrev pub owed : Posts → ℕ
owed posts = entries_owed posts + count_by is_running posts.threads

-- the segment of a memory, by its id
abbrev pub segment_at : Memory → ℕ → Option Segment
segment_at memory segment = segment_in memory.segments segment
