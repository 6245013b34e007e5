-- The groups of one rank. (GASPI: groups)
use Rattle.std.specs.Prelude.{◌≡◌, ◌≢◌, ℕ, ◌≤◌, ◌<◌, Bool, true, false, length, None, Result, Ok}
use Rattle.std.specs.Option.{option_map_or}
use Rattle.gaspi_types.specs.Checks.{◌>>=◌}
use Rattle.gaspi_types.specs.Groups.{handle_at, stage_of, building_at}
use Rattle.gaspi_types.specs.Masks.{is_member}
use Rattle.gaspi_types.specs.declared.collectives.Stage.TheVariants.{Committed}
use Rattle.gaspi_types.specs.declared.groups.Handle.{Handle}
use Rattle.gaspi_types.specs.declared.groups.Handles.{Handles}
use Rattle.gaspi_types.specs.declared.replies.Refusal.{Refusal}

-- a rank, and its groups
pub record Registry : Type 0 where
  pub me : ℕ
  pub groups : Handles

-- the same rank with other groups
abbrev pub with_groups : Registry → Handles → Registry
with_groups registry groups = record registry { groups = groups }

-- The invariant: the table has eight items; group 0 is there, committed; the others have ids from 1 to the last that was given.
pub record IsRegistry (groups : Handles) : Type 0 where
  pub room : length groups.table ≡ 8
  pub made : groups.last_id ≤ 7
  pub all : stage_of groups 0 ≡ Ok Committed
  pub given : (id : ℕ) → groups.last_id < id → handle_at groups id ≡ None

-- the refusal of a rank that is added to a group: there is no such group, or its stage is committed (group_add)
abbrev pub add_checks : Handles → ℕ → Result (Unit {0}) Refusal
add_checks groups id = do
  handle ← building_at groups id
  Ok tt

-- whether a group is there and has a rank
abbrev pub has_rank : Handles → ℕ → ℕ → Bool
has_rank groups id rank = option_map_or (λ (handle : Handle). is_member handle.members rank) (handle_at groups id) false

-- Exactly one rank is added to exactly one group: every other rank is in that group or out of it as before, and every other group is
-- as before.
pub record AddsRank (old new : Handles) (id rank : ℕ) : Type 0 where
  pub member : has_rank new id rank ≡ true
  pub others : (other : ℕ) → other ≢ rank → has_rank new id other ≡ has_rank old id other
  pub stage : stage_of new id ≡ stage_of old id
  pub groups : (other : ℕ) → other ≢ id → handle_at new other ≡ handle_at old other
  pub made : new.last_id ≡ old.last_id
