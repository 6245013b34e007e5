-- The checks of the post of a list. (GASPI: write_list)
use Rattle.std.specs.Prelude.{ℕ, List, [], ◌∷◌, ◌++◌, length, Result, Ok}
use Rattle.gaspi_types.specs.Checks.{◌>>=◌, check, check_each}
use Rattle.gaspi_types.specs.Posts.{is_list_length, has_segments, has_size, transfers_of}
use Rattle.gaspi_types.specs.declared.calls.posts.Item.{Item}
use Rattle.gaspi_types.specs.declared.entries.Direction.{Direction}
use Rattle.gaspi_types.specs.declared.entries.Kind.{Kind}
use Rattle.gaspi_types.specs.declared.segments.SegmentTable.{SegmentTable}
use Rattle.gaspi_types.specs.declared.replies.Refusal.{Refusal}
use Rattle.gaspi_types.specs.declared.replies.Refusal.TheVariants.{BadCount}

-- The refusals of a list before the ranges of its items: by its length, by their segments, by `beside`, by their sizes. `beside` is what
-- else the post has looked up, or its refusal; it is given back where the list is not refused.
abbrev pub list_checks : {A : Type 0} → ℕ → SegmentTable → ℕ → List Item → Result A Refusal → Result A Refusal
list_checks me table rank items beside = do
  counted ← check (is_list_length (length items)) BadCount
  there ← check_each (has_segments me table rank) items
  known ← beside
  sized ← check_each has_size items
  Ok known

-- the entries of its items, and then its notification, whose refusal comes after theirs
abbrev pub transfers_then : Direction → ℕ → SegmentTable → ℕ → List Item → Result Kind Refusal → Result (List Kind) Refusal
transfers_then direction me table rank items last = do
  kinds ← transfers_of direction me table rank items
  kind ← last
  Ok (kinds ++ kind ∷ [])
