-- What the parts of a state have in common: the tables of segments in the posts agree with the memories, the ranges of
-- entries lie within their segments, and what is known of a segment of any generation was once so. (GASPI: segments,
-- one-sided communication)
use Rattle.std.specs.Prelude.{◌≡◌, ℕ, ◌<◌, true, List, map, length, nat_lt, Option, Some, slice_get}
use Rattle.std.specs.Option.{option_map}
use Rattle.gaspi_types.specs.SegmentBytes.{is_within}
use Rattle.gaspi_types.specs.SegmentTables.{extent_in, next_generation}
use Rattle.gaspi_types.specs.declared.entries.Entry.{Entry}
use Rattle.gaspi_types.specs.declared.segments.Extent.{Extent}
use Rattle.gaspi_types.specs.declared.entries.ByteRange.{ByteRange}
use Rattle.gaspi_types.specs.declared.entries.Kind.{Kind}
use Rattle.gaspi_types.specs.declared.entries.Kind.TheVariants.{Write, Read, Notify, ReadNote}
use Rattle.gaspi_types.specs.declared.entries.Phase.{Phase}
use Rattle.gaspi_types.specs.declared.entries.Phase.TheVariants.{Posted, Carried, Failed}
use Rattle.gaspi_types.specs.Segments.{extents_of}
use Rattle.gaspi_types.specs.declared.entries.Queue.{Queue}
use Rattle.gaspi_model.specs.declared.states.Posts.{Posts}
use Rattle.gaspi_model.specs.declared.states.Memory.{Memory}
use Rattle.gaspi_model.specs.declared.states.State.{State}

-- how many slots the segments of a memory have, and how many they are to have: so many each
abbrev pub slot_counts : Memory → List (Option ℕ)
slot_counts memory = map (option_map length) memory.slots

abbrev pub counts_of : ℕ → List (Option Extent) → List (Option ℕ)
counts_of notes own = map (option_map (λ (x : Extent). notes)) own

-- each segment has its slots, and no other has any
abbrev pub HasSlots : ℕ → Memory → Type 0
HasSlots notes memory = slot_counts memory ≡ counts_of notes (extents_of memory.segments)

-- the segments of a rank in its posts: those that are there, and the generations that the next ones have
pub record Tables : Type 0 where
  pub own : List (Option Extent)
  pub next : List ℕ

abbrev pub tables_of : Posts → Tables
tables_of p = record { own = p.segments.own; next = p.segments.next_generations }

-- of all ranks
abbrev pub all_tables : List Posts → List Tables
all_tables posts = map tables_of posts

-- a segment of that number and generation was made, whether or not it is there yet
abbrev pub WasMade : Tables → ℕ → ℕ → Type 0
WasMade tables segment generation = generation < next_generation tables.next segment

-- so was each segment that is there
abbrev pub AreMade : Tables → Type 0
AreMade tables = (segment : ℕ) (x : Extent) → extent_in tables.own segment ≡ Some x → WasMade tables segment x.generation

-- a range is that of a segment that is there in its generation, and lies within it
pub record LiesIn (table : List (Option Extent)) (range : ByteRange) : Type 0 where
  pub extent : Extent
  pub there : extent_in table range.segment ≡ Some extent
  pub generation : extent.generation ≡ range.generation
  pub within : is_within range.offset range.size extent.size ≡ true

-- a range lies within the segment of its generation, where that is there
abbrev pub LiesInIfThere : List (Option Extent) → ByteRange → Type 0
LiesInIfThere table range = (extent : Extent) → extent_in table range.segment ≡ Some extent → extent.generation ≡ range.generation
    → is_within range.offset range.size extent.size ≡ true

-- a segment is there in a generation
pub record IsIn (table : List (Option Extent)) (segment generation : ℕ) : Type 0 where
  pub extent : Extent
  pub there : extent_in table segment ≡ Some extent
  pub same : extent.generation ≡ generation

-- What an entry has to do with its origin's segment. A posted write will take its bytes there, a carried one has taken
-- them; a read will put its bytes there and its notification will set its slot, until they have failed.
abbrev pub HasOwn : List (Option Extent) → Kind → Phase → Type 0
HasOwn mine (Write own target) Posted = LiesIn mine own
HasOwn mine (Write own target) (Carried bytes) = length bytes ≡ own.size
HasOwn mine (Write own target) Failed = Unit {0}
HasOwn mine (Read own target) Posted = LiesIn mine own
HasOwn mine (Read own target) (Carried bytes) = LiesIn mine own × (length bytes ≡ own.size)
HasOwn mine (Read own target) Failed = Unit {0}
HasOwn mine (Notify target value) phase = Unit {0}
HasOwn mine (ReadNote own) Posted = IsIn mine own.segment own.generation
HasOwn mine (ReadNote own) (Carried bytes) = IsIn mine own.segment own.generation
HasOwn mine (ReadNote own) Failed = Unit {0}

-- what it has to do with its target's: a segment of its generation was made, and its range lies within it
abbrev pub HasTarget : Tables → ByteRange → ByteRange → Type 0
HasTarget theirs own target =
    (own.size ≡ target.size) × (nat_lt target.segment 32 ≡ true) × WasMade theirs target.segment target.generation × LiesInIfThere theirs.own target

abbrev pub IsWithinTarget : ℕ → Tables → Kind → Type 0
IsWithinTarget notes theirs (Write own target) = HasTarget theirs own target
IsWithinTarget notes theirs (Read own target) = HasTarget theirs own target
IsWithinTarget notes theirs (Notify target value) = (target.note < notes) × WasMade theirs target.segment target.generation
IsWithinTarget notes theirs (ReadNote own) = own.note < notes

-- an entry's ranges and its slot, where its origin and its target have those segments
abbrev pub IsWithinSegments : ℕ → Tables → Tables → Entry → Type 0
IsWithinSegments notes mine theirs e = IsWithinTarget notes theirs e.kind × HasOwn mine.own e.kind e.phase

-- each entry of the queues of an origin fits
abbrev pub AreWithinSegments : ℕ → List Tables → ℕ → List Queue → Type 0
AreWithinSegments notes tables origin queues =
    (queue : ℕ) (q : Queue) → slice_get queues queue ≡ Some q → (target : ℕ) (lane : List Entry) → slice_get q.lanes target ≡ Some lane
    → (place : ℕ) (e : Entry) → slice_get lane place ≡ Some e → (mine theirs : Tables) → slice_get tables origin ≡ Some mine → slice_get tables target ≡ Some theirs
    → IsWithinSegments notes mine theirs e

-- what a rank knows of the segments of others was made, and is their size where they are there in that generation
abbrev pub Knows : List Tables → List (List (Option Extent)) → Type 0
Knows tables known =
    (rank : ℕ) (table : List (Option Extent)) (theirs : Tables) → slice_get known rank ≡ Some table → slice_get tables rank ≡ Some theirs
    → (segment : ℕ) (x : Extent) → extent_in table segment ≡ Some x
    → WasMade theirs segment x.generation × ((y : Extent) → extent_in theirs.own segment ≡ Some y → y.generation ≡ x.generation → y.size ≡ x.size)

pub record AgreesOnSegments (s : State) : Type 0 where
  pub own : (rank : ℕ) (posts : Posts) (memory : Memory) → slice_get s.posts rank ≡ Some posts → slice_get s.memories rank ≡ Some memory → posts.segments.own ≡ extents_of memory.segments
  pub slots : (rank : ℕ) (memory : Memory) → slice_get s.memories rank ≡ Some memory → HasSlots s.limits.notes memory
  pub made : (rank : ℕ) (posts : Posts) → slice_get s.posts rank ≡ Some posts → AreMade (tables_of posts)
  pub known : (rank : ℕ) (posts : Posts) → slice_get s.posts rank ≡ Some posts → Knows (all_tables s.posts) posts.segments.known
  pub entries : (origin : ℕ) (posts : Posts) → slice_get s.posts origin ≡ Some posts → AreWithinSegments s.limits.notes (all_tables s.posts) origin posts.queues
