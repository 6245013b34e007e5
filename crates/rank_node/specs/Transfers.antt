-- The take and the put of a lane's next entry, on a rank's posts and on the memory that they work on. The next entry is the first posted
-- one for a take, and the first carried one for a put. (GASPI: one-sided communication)
use Rattle.std.specs.Prelude.{◌≡◌, ℕ, ◌<◌, Bool, true, List, [], ◌∷◌, ◌++◌, length, slice_set, IsSome, IsSomeAnd, if◌then◌else◌}
use Rattle.gaspi_types.specs.Tables.{changed_at}
use Rattle.gaspi_types.specs.declared.entries.Entry.{Entry}
use Rattle.gaspi_types.specs.declared.entries.Kind.{Kind}
use Rattle.gaspi_types.specs.declared.entries.Queue.{Queue}
use Rattle.gaspi_types.specs.declared.events.Event.{Event}
use Rattle.gaspi_types.specs.declared.events.Event.TheVariants.{Take, Put}
use Rattle.gaspi_types.specs.declared.events.Outcome.{Outcome}
use Rattle.gaspi_types.specs.declared.events.Outcome.TheVariants.{Applied, Failed}
use Rattle.gaspi_types.specs.declared.events.Transfer.{Transfer}
use Rattle.gaspi_model.specs.Posting.{counted}
use Rattle.gaspi_model.specs.Transfers.{source_bytes, take_outcome, memory_put}
use Rattle.gaspi_model.specs.declared.states.Posts.{Posts}
use Rattle.gaspi_model.specs.declared.states.Memory.{Memory}
use Rattle.post_queue.specs.Payloads.{payload_size}
use Rattle.post_queue.specs.LanesStates.{LanesState, front_posted_of, front_carried_of}
use Rattle.post_queue.specs.Steps.{carried_in, posted_failed_in, put_done_in, head_failed_in}
use Rattle.rank_node.specs.Values.{PostsValue}

-- the lanes of a rank's posts
abbrev pub lanes_of : PostsValue → LanesState
lanes_of p = record { depth = p.limits.depth; ranks = p.limits.ranks; next = p.posts.next; queues = p.posts.queues }

-- the events of a transfer with an outcome
abbrev pub take_of : Transfer → Outcome → Event
take_of t outcome = Take t.origin t.queue t.target t.number outcome

abbrev pub put_of : Transfer → Outcome → Event
put_of t outcome = Put t.origin t.queue t.target t.number outcome

-- the take or the put of a transfer, as it says
abbrev pub event_of : Transfer → Outcome → Event
event_of t outcome = if t.put then put_of t outcome else take_of t outcome

-- An entry takes as many bytes as its kind says, unless its take fails.
abbrev pub FitsTaken : Memory → Kind → Outcome → Type 0
FitsTaken memory kind Applied = length (source_bytes memory kind) ≡ payload_size kind
FitsTaken memory kind Failed = Unit {0}

-- the queue of a transfer after a take, and then after a put
abbrev pub take_change : ℕ → List ℕ → Outcome → Queue → Queue
take_change target bytes Applied q = carried_in target bytes q
take_change target bytes Failed q = posted_failed_in target q

-- after a put
abbrev pub put_change : ℕ → Outcome → Queue → Queue
put_change target Applied q = put_done_in target q
put_change target Failed q = head_failed_in target q

-- the state vector after a transfer: where that failed, its target is corrupt (state vector)
abbrev pub marked : List Bool → ℕ → Outcome → List Bool
marked corrupt target Applied = corrupt
marked corrupt target Failed = slice_set corrupt target true

-- the posts of an origin after a transfer, but for the count of events
abbrev pub posts_taken : Posts → ℕ → ℕ → List ℕ → Outcome → Posts
posts_taken posts queue target bytes outcome = record posts {
  queues = changed_at posts.queues queue (take_change target bytes outcome);
  corrupt = marked posts.corrupt target outcome;
}

-- the posts of an origin after a put, but for the count of events
abbrev pub posts_put : Posts → ℕ → ℕ → Outcome → Posts
posts_put posts queue target outcome = record posts {
  queues = changed_at posts.queues queue (put_change target outcome);
  corrupt = marked posts.corrupt target outcome;
}

-- the memory that a put works on, after it
abbrev pub memory_left : Memory → Entry → Outcome → Memory
memory_left memory e Applied = memory_put memory e
memory_left memory e Failed = memory

-- a rank's posts changed, with one event more in its rank journal
abbrev pub recorded : PostsValue → Posts → ℕ → Event → PostsValue
recorded p posts place event = record p { posts = counted posts; journal = p.journal ++ record { place = place; event = event } ∷ [] }

-- What a transfer of the next entry of a lane requires: there is one, its bytes fit, and the rank journal has room for the event.
pub record MayTakeFrom (p : PostsValue) (source : Memory) (t : Transfer) : Type 0 where
  pub next : IsSomeAnd (front_posted_of (lanes_of p) t.queue t.target) (λ (e : Entry). FitsTaken source e.kind (take_outcome source e.kind))
  pub room : p.posts.events < p.limits.events

-- the same of a put, whose bytes are there
pub record MayPutNext (p : PostsValue) (t : Transfer) : Type 0 where
  pub next : IsSome (front_carried_of (lanes_of p) t.queue t.target)
  pub room : p.posts.events < p.limits.events
