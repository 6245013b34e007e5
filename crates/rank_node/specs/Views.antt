-- The posts and the memory that the fields of `NodePosts` and `NodeMemory` represent, and the invariant of the posts.
use Rattle.std.specs.Prelude.{◌≡◌, length, count_by, sum_by}
use Rattle.gaspi_types.specs.Queues.{queue_owed}
use Rattle.gaspi_model.specs.State.{is_running}
use Rattle.gaspi_model.specs.declared.states.Posts.{Posts}
use Rattle.rank_node.specs.Values.{PostsValue, MemoryValue}
use Rattle.rank_node.specs.declared.node_posts.NodePosts.TheInside as node_posts
use Rattle.rank_node.specs.declared.node_memory.NodeMemory.TheInside as node_memory

-- the count of events is the length of the rank journal
abbrev pub posts_in : node_posts.Inside → Posts
posts_in n = record {
  queues = n.lanes.queues;
  corrupt = n.corrupt;
  segments = n.segments;
  groups = n.groups.groups;
  pending = n.pending;
  threads = n.threads;
  events = length n.journal.items;
  next = n.lanes.next;
}

-- what contracts see of `NodePosts`
abbrev pub posts_of : node_posts.Inside → PostsValue
posts_of n = record { limits = n.limits; me = n.me; posts = posts_in n; journal = n.journal.items }

-- the invariant: the lanes fit the limits, the groups are this rank's, the rank journal has capacity for all events that the rank may
-- record, and the stored counts of owed events and of active threads are right
pub record IsNodePosts (n : node_posts.Inside) : Type 0 where
  pub depth : n.lanes.depth ≡ n.limits.depth
  pub ranks : n.lanes.ranks ≡ n.limits.ranks
  pub owner : n.groups.me ≡ n.me
  pub capacity : n.journal.capacity ≡ n.limits.events
  pub owed : n.owed ≡ sum_by queue_owed n.lanes.queues
  pub running : n.running ≡ count_by is_running n.threads

-- what contracts see of `NodeMemory`
abbrev pub memory_of : node_memory.Inside → MemoryValue
memory_of m = record { capacity = m.inbox.most; memory = record { segments = m.segments; slots = m.slots; inbox = m.inbox.messages } }
