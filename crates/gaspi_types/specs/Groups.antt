-- The groups of a rank: their handles by their numbers, from 0 to 7. (GASPI: groups)
use Rattle.std.specs.Prelude.{ℕ, ◌+◌, Bool, true, false, not, ◌==◌, nat_lt, List, Option, None, Some, Result, Ok, slice_set, replicate}
use Rattle.std.specs.Option.{option_map}
use Rattle.gaspi_types.specs.Checks.{◌>>=◌, check, ok_or, err_if_some}
use Rattle.gaspi_types.specs.Masks.{is_member, with_member, all_below}
use Rattle.gaspi_types.specs.Tables.{item_at}
use Rattle.gaspi_types.specs.declared.collectives.Stage.{Stage}
use Rattle.gaspi_types.specs.declared.collectives.Stage.TheVariants.{Building, Committed}
use Rattle.gaspi_types.specs.declared.groups.Handle.{Handle}
use Rattle.gaspi_types.specs.declared.groups.Handles.{Handles}
use Rattle.gaspi_types.specs.declared.groups.PendingCollective.{PendingCollective}
use Rattle.gaspi_types.specs.declared.replies.Refusal.{Refusal}
use Rattle.gaspi_types.specs.declared.replies.Refusal.TheVariants.{NoGroup, GroupStage, NotMember, GroupMismatch, ActiveCollective, GroupsFull}

abbrev pub is_building : Stage → Bool
is_building Building = true
is_building Committed = false

-- a group as it is made: building, with no rank
abbrev pub new_handle : Handle
new_handle = record { stage = Building; members = 0 }

-- group 0 at the start
abbrev pub handle_of_all : ℕ → Handle
handle_of_all ranks = record { stage = Committed; members = all_below ranks }

-- the groups of a rank at the start: group 0 alone, which is GASPI_GROUP_ALL
abbrev pub opening_handles : ℕ → Handles
opening_handles ranks = record { table = slice_set (replicate 8 None) 0 (Some (handle_of_all ranks)); last_id = 0 }

-- the handle of a group id; None where the rank has not made it, or has deleted it
abbrev pub handle_at : Handles → ℕ → Option Handle
handle_at groups id = item_at groups.table id

-- The id of the next group: ids rise from 1 to 7, and none is used again (own choice; group_create).
abbrev pub next_group : Handles → Result ℕ Refusal
next_group groups = do
  room ← check (nat_lt groups.last_id 7) GroupsFull
  Ok (groups.last_id + 1)

-- the groups with one more, of the next id (group_create)
abbrev pub with_group : Handles → Handles
with_group groups = record { table = slice_set groups.table (groups.last_id + 1) (Some new_handle); last_id = groups.last_id + 1 }

-- the stage of a group
abbrev pub stage_of : Handles → ℕ → Result Stage Refusal
stage_of groups id = do
  handle ← ok_or (handle_at groups id) NoGroup
  Ok handle.stage

-- the handle of a group whose stage is building, or else the refusal
abbrev pub building_at : Handles → ℕ → Result Handle Refusal
building_at groups id = do
  handle ← ok_or (handle_at groups id) NoGroup
  building ← check (is_building handle.stage) (GroupStage handle.stage)
  Ok handle

-- the groups with one handle changed, where it is there
abbrev pub with_handle : Handles → ℕ → (Handle → Handle) → Handles
with_handle groups id change = record groups { table = slice_set groups.table id (option_map change (handle_at groups id)) }

-- a rank added to a group; where the rank is in it, nothing changes (group_add)
abbrev pub with_added : Handles → ℕ → ℕ → Handles
with_added groups id rank = with_handle groups id (λ (h : Handle). record h { members = with_member h.members rank })

-- why a group may not be deleted: it is not there, or it is group 0, which stays for good (group_delete)
abbrev pub delete_checks : Handles → ℕ → Result (Unit {0}) Refusal
delete_checks groups id = do
  handle ← ok_or (handle_at groups id) NoGroup
  check (not (id == 0)) (GroupStage Committed)

-- the groups without one (group_delete)
abbrev pub without_group : Handles → ℕ → Handles
without_group groups id = record groups { table = slice_set groups.table id None }

-- the ranks that a group commit of a rank has: the group's stage is building, and it has that rank (group_commit)
abbrev pub commit_list : Handles → ℕ → ℕ → Result ℕ Refusal
commit_list groups me id = do
  handle ← building_at groups id
  mine ← check (is_member handle.members me) NotMember
  Ok handle.members

-- the groups with one of them committed
abbrev pub with_committed : Handles → ℕ → Handles
with_committed groups id = with_handle groups id (λ (h : Handle). record h { stage = Committed })

-- own choice: the first group commit of an id fixes its member list for the whole world; `kept` is the list that is fixed
abbrev pub fix_checks : Option ℕ → ℕ → Result (Unit {0}) Refusal
fix_checks None mask = Ok tt
fix_checks (Some kept) mask = check (kept == mask) (GroupMismatch kept)

-- A rank is added to a group, and a group is deleted, only where no collective of the rank is pending on it, in any thread.
abbrev pub idle_check : Option PendingCollective → Result (Unit {0}) Refusal
idle_check pending = err_if_some pending (λ p. ActiveCollective p.thread)

-- the same, by group id
abbrev pub idle_checks : List (Option PendingCollective) → ℕ → Result (Unit {0}) Refusal
idle_checks pending id = idle_check (item_at pending id)
