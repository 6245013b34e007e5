-- What changes the posts of a rank: entries added to a lane, and one event more.
use Rattle.std.specs.Prelude.{ℕ, ◌+◌, List, length, Result, Ok, Err}
use Rattle.gaspi_types.specs.Lanes.{posted_entries}
use Rattle.gaspi_types.specs.Queues.{with_entries}
use Rattle.gaspi_types.specs.Tables.{changed_at}
use Rattle.gaspi_types.specs.declared.entries.Kind.{Kind}
use Rattle.gaspi_types.specs.declared.replies.Refusal.{Refusal}
use Rattle.gaspi_model.specs.declared.states.Posts.{Posts}

-- an accepted post appends its entries to one lane, numbered on from the rank's next number
abbrev pub with_post : Posts → ℕ → ℕ → Result (List Kind) Refusal → Posts
with_post posts queue target (Err refusal) = posts
with_post posts queue target (Ok kinds) = record posts {
  queues = changed_at posts.queues queue (with_entries target (posted_entries posts.next kinds));
  next = posts.next + length kinds;
}

-- the posts with one event more recorded
abbrev pub counted : Posts → Posts
counted posts = record posts { events = posts.events + 1 }
