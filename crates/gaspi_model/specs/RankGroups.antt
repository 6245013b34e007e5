-- The groups of a rank in a state, and the event that deletes one. (GASPI: groups)
use Rattle.std.specs.Prelude.{ℕ, ◌==◌, ◌&&◌, Bool, false, Option, None, Some, slice_get}
use Rattle.gaspi_types.specs.Groups.{handle_at}
use Rattle.gaspi_types.specs.declared.calls.Call.TheVariants.{GroupDelete}
use Rattle.gaspi_types.specs.declared.events.Event.{Event}
use Rattle.gaspi_types.specs.declared.events.Event.TheVariants.{Called}
use Rattle.gaspi_types.specs.declared.groups.Handle.{Handle}
use Rattle.gaspi_types.specs.declared.replies.Reply.TheVariants as replies
use Rattle.gaspi_model.specs.declared.states.Posts.{Posts}
use Rattle.gaspi_model.specs.declared.states.State.{State}

-- the group of a rank with a number, if the rank has made it and not deleted it
abbrev pub handle_of : State → ℕ → ℕ → Option Handle
handle_of s rank id = in_posts (slice_get s.posts rank)
  where
    in_posts : Option Posts → Option Handle
    in_posts None = None
    in_posts (Some posts) = handle_at posts.groups id

-- a group_delete of that group by a caller of the rank that was answered with done (group_delete)
abbrev pub is_drop_of : ℕ → ℕ → Event → Bool
is_drop_of rank id (Called c (GroupDelete call) replies.Done) = (c.rank == rank) && (call.group == id)
is_drop_of rank id event = false
