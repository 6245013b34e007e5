-- The calls on the groups of a rank: the result and the effect of each. (GASPI: groups)
use Rattle.std.specs.Prelude.{nat_lt, Option, Some, Result, Ok}
use Rattle.gaspi_types.specs.Checks.{◌>>=◌, check}
use Rattle.gaspi_types.specs.Groups.{next_group, with_group, building_at, with_added, delete_checks, without_group, idle_checks}
use Rattle.gaspi_types.specs.declared.calls.groups.GroupAdd as group_add
use Rattle.gaspi_types.specs.declared.calls.groups.GroupDelete as group_delete
use Rattle.gaspi_types.specs.declared.shapes.Limits.{Limits}
use Rattle.gaspi_types.specs.declared.replies.Refusal.{Refusal}
use Rattle.gaspi_types.specs.declared.replies.Refusal.TheVariants.{BadRank}
use Rattle.gaspi_types.specs.declared.replies.Reply.{Reply}
use Rattle.gaspi_types.specs.declared.replies.Reply.TheVariants as replies
use Rattle.gaspi_model.specs.declared.states.Posts.{Posts}

-- it answers the number of the new group (group_create)
abbrev pub group_create_result : Posts → Result (Option Reply) Refusal
group_create_result posts = do
  id ← next_group posts.groups
  Ok (Some (replies.Id id))

-- the posts after it
abbrev pub group_create_effect : Posts → Posts
group_create_effect posts = record posts { groups = with_group posts.groups }

-- the group's stage is building, and no collective of the rank is pending on it (group_add)
abbrev pub group_add_result : Limits → Posts → group_add.GroupAdd → Result (Option Reply) Refusal
group_add_result limits posts call = do
  ranked ← check (nat_lt call.rank limits.ranks) BadRank
  handle ← building_at posts.groups call.group
  idle ← idle_checks posts.pending call.group
  Ok (Some replies.Done)

-- the posts after it
abbrev pub group_add_effect : Posts → group_add.GroupAdd → Posts
group_add_effect posts call = record posts { groups = with_added posts.groups call.group call.rank }

-- the group is there and not group 0, and no collective of the rank is pending on it (group_delete)
abbrev pub group_delete_result : Posts → group_delete.GroupDelete → Result (Option Reply) Refusal
group_delete_result posts call = do
  there ← delete_checks posts.groups call.group
  idle ← idle_checks posts.pending call.group
  Ok (Some replies.Done)

-- the posts after it
abbrev pub group_delete_effect : Posts → group_delete.GroupDelete → Posts
group_delete_effect posts call = record posts { groups = without_group posts.groups call.group }
