-- The round of a rank in a group, as looks, joins and records of collectives use it.
use Rattle.std.specs.Prelude.{◌≡◌, ℕ, length, Option, Some, Result, if◌then◌else◌}
use Rattle.gaspi_types.specs.Checks.{◌>>=◌}
use Rattle.gaspi_types.specs.Collectives.{contribution_in, round_of, with_completed}
use Rattle.gaspi_types.specs.Replies.{is_idle}
use Rattle.gaspi_types.specs.declared.calls.Call.{Call}
use Rattle.gaspi_types.specs.declared.calls.Call.TheVariants.{Allreduce}
use Rattle.gaspi_types.specs.declared.collectives.NumType.{NumType}
use Rattle.gaspi_types.specs.declared.groups.Contribution.{Contribution}
use Rattle.gaspi_types.specs.declared.groups.Group.{Group}
use Rattle.gaspi_types.specs.declared.groups.Handle.{Handle}
use Rattle.gaspi_types.specs.declared.groups.Handles.{Handles}
use Rattle.gaspi_types.specs.declared.replies.Refusal.{Refusal}
use Rattle.gaspi_types.specs.declared.replies.Reply.{Reply}
use Rattle.gaspi_model.specs.CollectiveCalls.{element_checks, staged_at, completed_posts}
use Rattle.gaspi_model.specs.Posting.{counted}
use Rattle.gaspi_model.specs.declared.states.Posts.{Posts}

-- the contributions to a round are alike: each has as many values, and all of one type
abbrev pub AreAlike : (ℕ → Option Contribution) → NumType → ℕ → Type 0
AreAlike given num_type count =
    (rank : ℕ) (c : Contribution) → given rank ≡ Some c → (c.args.values.num_type ≡ num_type) × (length c.args.values.items ≡ count)

-- the contributions to the round of a rank are alike, with the type of its call, where that is an allreduce
abbrev pub IsReducible : Group → ℕ → Call → Type 0
IsReducible g rank (Allreduce call) = (count : ℕ) × AreAlike (contribution_in g (round_of g rank)) call.values.num_type count
IsReducible g rank call = Unit {0}

-- the handle of a collective's group, where neither its elements nor the group's stage refuse it; what is pending is not asked
abbrev pub called_on : Handles → ℕ → ℕ → Call → Result Handle Refusal
called_on groups me id call = do
  elements ← element_checks call
  staged_at groups me id call

-- the posts of the caller's rank after a collective with this reply: a refusal or a timeout changes the count of events alone
abbrev pub posts_after_collective : Posts → Group → ℕ → ℕ → Call → Reply → Posts
posts_after_collective posts group me id call reply = counted (if is_idle reply then posts else completed_posts posts group me id call)

-- its group after that
abbrev pub group_after_collective : Group → ℕ → Reply → Group
group_after_collective group me reply = if is_idle reply then group else with_completed group me
