-- What a call that is no collective requires of a rank's posts and of the memory that it works on, so that its effect may be made there;
-- and posts and memory after its record.
use Rattle.std.specs.Prelude.{◌≡◌, ℕ, ◌+◌, ◌<◌, ◌≤◌, ◌^◌, ◌++◌, ◌∷◌, [], true, List, length, Option, None, Some, Ok, IsOk, IsSome}
use Rattle.gaspi_types.specs.Groups.{next_group, building_at, delete_checks}
use Rattle.gaspi_types.specs.Inboxes.{is_passive_size, has_room, first_within}
use Rattle.gaspi_types.specs.declared.call_rows.Posting.{Posting}
use Rattle.gaspi_types.specs.declared.calls.Call.{Call}
use Rattle.gaspi_types.specs.declared.calls.Call.TheVariants.{Alloc, Wait, PassiveSend, PassiveReceive, GroupCreate, GroupAdd, GroupDelete}
use Rattle.gaspi_types.specs.declared.entries.Kind.{Kind}
use Rattle.gaspi_types.specs.declared.events.Event.TheVariants.{Called}
use Rattle.gaspi_types.specs.declared.inboxes.Message.{Message}
use Rattle.gaspi_types.specs.declared.replies.Reply.{Reply}
use Rattle.gaspi_types.specs.declared.replies.Reply.TheVariants.{Done}
use Rattle.gaspi_types.specs.declared.shapes.CallerId.{CallerId}
use Rattle.gaspi_model.specs.Calls.{requested_kinds, posts_after, memory_after}
use Rattle.gaspi_model.specs.PostCalls.{post_request_result}
use Rattle.gaspi_model.specs.QueueCalls.{wait_result}
use Rattle.gaspi_model.specs.declared.states.Posts.{Posts}
use Rattle.gaspi_model.specs.declared.states.Memory.{Memory}
use Rattle.plain_calls.specs.NumberBounds.{AllocIsBounded}
use Rattle.rank_node.specs.Making.{made_segment}
use Rattle.rank_node.specs.Values.{PostsValue, MemoryValue}
use Rattle.rank_node.specs.declared.making.MadeSegment.{MadeSegment}

-- with other posts of the machine, and with another memory of the machine
abbrev pub with_posts : PostsValue → Posts → PostsValue
with_posts p posts = record p { posts = posts }

abbrev pub with_memory : MemoryValue → Memory → MemoryValue
with_memory m memory = record m { memory = memory }

-- entries may be posted to a lane: their queue takes them, and their numbers are below 2^32
pub record MayPost (p : PostsValue) (to : Posting) (kinds : List Kind) : Type 0 where
  pub ranks : p.limits.ranks ≤ 16
  pub finds : post_request_result p.limits p.posts to.rank to.queue (Ok kinds) ≡ Ok (Some Done)
  pub numbers : p.posts.next + length kinds < 2 ^ 32

-- the entries of a call may be posted: they are those that it asks for
pub record MayPostOf (p : PostsValue) (to : Posting) (call : Call) (entries : Option (List Kind)) : Type 0 where
  pub kinds : List Kind
  pub there : entries ≡ Some kinds
  pub asked : requested_kinds p.limits p.me p.posts call ≡ Ok kinds
  pub may : MayPost p to kinds

-- what the effect of a call that posts nothing requires of the posts
abbrev pub MayChangePosts : PostsValue → Call → Type 0
MayChangePosts p (Alloc call) = AllocIsBounded p.posts call
MayChangePosts p (Wait call) = wait_result p.posts call ≡ Ok (Some Done)
MayChangePosts p GroupCreate = IsOk (next_group p.posts.groups)
MayChangePosts p (GroupAdd call) = (call.rank < 16) × IsOk (building_at p.posts.groups call.group)
MayChangePosts p (GroupDelete call) = IsOk (delete_checks p.posts.groups call.group)
MayChangePosts p call = Unit {0}

-- what the effect of any call that is no collective requires of the posts: of a post its entries, of another call as above
abbrev pub MayAffectPosts : PostsValue → Option Posting → Call → Option (List Kind) → Type 0
MayAffectPosts p None call entries = MayChangePosts p call
MayAffectPosts p (Some to) call entries = MayPostOf p to call entries

-- a message has a right size, and the inbox has room for it
pub record MayDeposit (m : MemoryValue) (message : Message) : Type 0 where
  pub sized : is_passive_size (length message.bytes) ≡ true
  pub room : has_room m.capacity m.memory.inbox ≡ true

-- the same of a message, if there is one
abbrev pub MayDepositIf : MemoryValue → Option Message → Type 0
MayDepositIf m None = Unit {0}
MayDepositIf m (Some message) = MayDeposit m message

-- what the effect of a call requires of the memory that it works on
abbrev pub MayAffectMemory : MemoryValue → Call → Option MadeSegment → Option Message → Type 0
MayAffectMemory m (Alloc call) made message = IsSome made
MayAffectMemory m (PassiveSend call) made message = MayDepositIf m message
MayAffectMemory m (PassiveReceive call) made message = IsOk (first_within call.size m.memory.inbox)
MayAffectMemory m call made message = Unit {0}

-- the made segment of an alloc is in the next generation of its id; any for another call
abbrev pub IsMadeByCall : PostsValue → Call → Option MadeSegment → Type 0
IsMadeByCall p (Alloc call) made = made ≡ Some (made_segment p.limits p.posts call.seg call.size)
IsMadeByCall p call made = Unit {0}

-- the posts after the record of a call with its reply at a place, and then the memory that it worked on
abbrev pub recorded_posts : PostsValue → ℕ → CallerId → Call → Reply → PostsValue
recorded_posts p place caller call reply = record p {
  posts = posts_after p.limits p.me p.posts caller.thread call reply;
  journal = p.journal ++ record { place = place; event = Called caller call reply } ∷ [];
}

abbrev pub recorded_memory : PostsValue → Option Message → MemoryValue → Call → Reply → MemoryValue
recorded_memory p message m call reply = with_memory m (memory_after p.limits p.posts message m.memory call reply)
