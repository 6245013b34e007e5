-- Changes of a rank's groups, one after another. (GASPI: groups)
use Rattle.std.specs.Prelude.{ℕ, List, [], ◌∷◌}
use Rattle.gaspi_types.specs.Groups.{with_group, with_added, without_group, with_committed}
use Rattle.gaspi_types.specs.declared.groups.Handles.{Handles}

-- a group is made; a rank is added to one; one is deleted; one is committed
pub data Change : Type 0 where
  Made : Change
  Added : (id rank : ℕ) → Change
  Dropped : (id : ℕ) → Change
  Committed : (id : ℕ) → Change

-- the groups after one change
abbrev pub with_change : Handles → Change → Handles
with_change groups Made = with_group groups
with_change groups (Added id rank) = with_added groups id rank
with_change groups (Dropped id) = without_group groups id
with_change groups (Committed id) = with_committed groups id

-- the groups after all of them, in order
abbrev pub changed_by : Handles → List Change → Handles
changed_by groups [] = groups
changed_by groups (change ∷ changes) = changed_by (with_change groups change) changes
