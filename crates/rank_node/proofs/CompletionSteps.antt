-- Collectives recorded on nodes that are lent: the stores' conditions hold, and the nodes are lent of the state after.
use Rattle.std.proofs.Common.{◌≡◌, ℕ, ◌+◌, ◌^◌, ◌<◌, ◌≤◌, ◌&&◌, Bool, true, false, nat_le, nat_lt, List, [], ◌∷◌, ◌++◌, Option, None, Some, Ok, refl, sym, ap, subst, ◌∙◌, arith, if◌then◌else◌}
use Rattle.std.specs.List.{slice_get}
use Rattle.std.proofs.lemmas.Bool.{leb-true, ltb-true}
use Rattle.gaspi_types.specs.CallRows.{row_of}
use Rattle.gaspi_types.specs.Collectives.{round_of, is_round_full, round_segments, with_completed}
use Rattle.gaspi_types.specs.Groups.{building_at}
use Rattle.gaspi_types.specs.Replies.{is_idle}
use Rattle.gaspi_types.specs.Tables.{item_at}
use Rattle.gaspi_types.specs.Footprints.{footprint_of}
use Rattle.gaspi_types.specs.declared.calls.Call.{Call}
use Rattle.gaspi_types.specs.declared.calls.Call.TheVariants as calls
use Rattle.gaspi_types.specs.declared.calls.collectives.Create as create
use Rattle.gaspi_types.specs.declared.collectives.Coll.TheVariants as colls
use Rattle.gaspi_types.specs.declared.events.Event.TheVariants.{Called}
use Rattle.gaspi_types.specs.declared.groups.Args.{Args}
use Rattle.gaspi_types.specs.declared.groups.Group.{Group}
use Rattle.gaspi_types.specs.declared.groups.Handle.{Handle}
use Rattle.gaspi_types.specs.declared.groups.Handles.{Handles}
use Rattle.gaspi_types.specs.declared.groups.MemberSegment.{MemberSegment}
use Rattle.gaspi_types.specs.declared.groups.RankContributions.{RankContributions}
use Rattle.gaspi_types.specs.declared.groups.PendingCollective.{PendingCollective}
use Rattle.gaspi_types.specs.declared.replies.Reply.{Reply}
use Rattle.gaspi_types.specs.declared.segments.SegmentTable.{SegmentTable}
use Rattle.gaspi_types.specs.declared.shapes.CallerId.{CallerId}
use Rattle.gaspi_types.specs.declared.shapes.Limits.{Limits}
use Rattle.gaspi_types.proofs.Chains.{bind_then, both}
use Rattle.gaspi_types.proofs.Items.{slice_get-set_same}
use Rattle.collective_engine.specs.RoundBuffers.{is_in}
use Rattle.gaspi_model.specs.CollectiveCalls.{plain_args, args_of, staged_at, with_made_known, posts_at_completion, completed_posts}
use Rattle.gaspi_model.specs.Posting.{counted}
use Rattle.gaspi_model.specs.SegmentCalls.{with_known}
use Rattle.gaspi_model.specs.Sound.{IsSound}
use Rattle.gaspi_model.specs.State.{owed}
use Rattle.gaspi_model.specs.Step.{step}
use Rattle.gaspi_model.specs.declared.states.Memory.{Memory}
use Rattle.gaspi_model.specs.declared.states.Posts.{Posts}
use Rattle.gaspi_model.specs.declared.states.State.{State}
use Rattle.gaspi_model.proofs.GroupEffects.{IsDoneStep, done-step}
use Rattle.gaspi_model.proofs.GroupSteps.{collective-footprint, step-completed}
use Rattle.gaspi_model.proofs.IdleSteps.{only-counted}
use Rattle.gaspi_model.proofs.CollectivePosts.{completed-leaves}
use Rattle.plain_calls.specs.NumberBounds.{CompletionIsBounded}
use Rattle.plain_calls.specs.Rounds.{posts_after_collective, group_after_collective}
use Rattle.timeout_state.specs.Pendings.{IsOfThread}
use Rattle.rank_node.specs.Collectives.{AreSoundTogether, MayLeave, IsBuiltYet, MayComplete, with_all_known, completion_effect}
use Rattle.rank_node.specs.CollectiveSteps.{MayStepOn}
use Rattle.rank_node.specs.Lending.{IsPostsOf, IsMemoryOf, IsNodeOf, IsGroupNode, IsGroupOf, IsStepOn, IsLeft}
use Rattle.rank_node.specs.Values.{PostsValue}
use Rattle.rank_node.specs.declared.nodes.GroupNode.{GroupNode}
use Rattle.rank_node.specs.declared.nodes.Node.{Node}
use Rattle.rank_node.proofs.Joinable.{together-in}
use Rattle.rank_node.proofs.LentGroups.{LendsGroup, lends-group, lends-no-group, group-lends, no-group-lends, one-there}

-- A collective of a rank that is done in a sound state, on its posts and its group.
record IsDoneAt (s t : State) (c : CallerId) (id : ℕ) (call : Call) (posts : Posts) (g : Group) : Type 0 where
  within : id < 8
  pending : PendingCollective
  pends : item_at posts.pending id ≡ Some pending
  mine : pending.thread ≡ c.thread
  built : IsBuiltYet posts.groups id call
  bounded : CompletionIsBounded call
  full : is_round_full g c.rank ≡ true
  limits : t.limits ≡ s.limits
  posts_after : slice_get t.posts c.rank ≡ Some (counted (completed_posts posts g c.rank id call))
  memories : t.memories ≡ s.memories
  group_after : slice_get t.groups id ≡ Some (with_completed g c.rank)

built-yet : (groups : Handles) (me id : ℕ) (call : Call) (h : Handle) → staged_at groups me id call ≡ Ok h → IsBuiltYet groups id call
built-yet groups me id (calls.Commit x) h staged = bind_then (building_at groups id) _ h staged (λ k built more. rw built refl)
built-yet groups me id call h staged = tt

-- the size of a segment that was made has 32 bits
size-bounded : (members : ℕ) (call : Call) (args : Args) → args_of members call ≡ Some args → CompletionIsBounded call
size-bounded members (calls.Create x) args is = go (nat_lt x.seg 4294967296 && nat_lt x.size 4294967296) refl is
  where
    go : (b : Bool) → (nat_lt x.seg 4294967296 && nat_lt x.size 4294967296) ≡ b → (if b then Some (plain_args (colls.Create x.seg x.size)) else None) ≡ Some args → x.size < 2 ^ 32
    go false fits is = absurd (let no : ⊥ = cc in no)
    go true fits is = ltb-true x.size 4294967296 (both (nat_lt x.seg 4294967296) (nat_lt x.size 4294967296) fits).1
size-bounded members call args is = tt

from-done : (s t : State) (c : CallerId) (id : ℕ) (call : Call) (reply : Reply) (posts : Posts) (g : Group) (part : RankContributions) (h : Handle) (p : PendingCollective) → IsDoneStep s t c id call reply posts g part h p
    → IsDoneAt s t c id call posts g
from-done s t c id call reply posts g part h p m =
    let left = m.leaves in
    record {
      within = m.there.within;
      pending = p;
      pends = m.done.resumed.there;
      mine = m.done.resumed.mine;
      built = built-yet posts.groups c.rank id call h m.done.staged;
      bounded = size-bounded h.members call p.args m.done.resumed.same;
      full = m.done.full;
      limits = ap (λ (y : State). y.limits) left;
      posts_after = ap (λ (y : State). slice_get y.posts c.rank) left ∙ slice_get-set_same s.posts c.rank posts (counted (completed_posts posts g c.rank id call)) m.posts_there;
      memories = ap (λ (y : State). y.memories) left;
      group_after = ap (λ (y : State). slice_get y.groups id) left ∙ slice_get-set_same s.groups id g (with_completed g c.rank) m.there.there;
    }

done-at : (s t : State) (c : CallerId) (id : ℕ) (call : Call) (reply : Reply) (posts : Posts) (g : Group) → IsSound s → slice_get s.posts c.rank ≡ Some posts → slice_get s.groups id ≡ Some g
    → (row_of call).group ≡ Some id → is_idle reply ≡ false → step s (Called c call reply) ≡ Ok t → IsDoneAt s t c id call posts g
done-at s t c id call reply posts g sound hp hg named awake h =
    let made = done-step s t c id call reply named awake sound h in
    let m = made.5 in
    subst (λ (x : Posts). IsDoneAt s t c id call x g) (one-there (slice_get s.posts c.rank) made.0 posts m.posts_there hp)
    (subst (λ (x : Group). IsDoneAt s t c id call made.0 x) (one-there (slice_get s.groups id) made.1 g m.there.there hg) (from-done s t c id call reply made.0 made.1 made.2 made.3 made.4 m))

-- a collective on a group that is not there does nothing
idle-nowhere : (s t : State) (c : CallerId) (id : ℕ) (call : Call) (reply : Reply) → IsSound s → (row_of call).group ≡ Some id → 8 ≤ id → step s (Called c call reply) ≡ Ok t → is_idle reply ≡ true
idle-nowhere s t c id call reply sound named over h = go (is_idle reply) refl
  where
    go : (b : Bool) → is_idle reply ≡ b → is_idle reply ≡ true
    go true idle = idle
    go false awake =
        let made = done-step s t c id call reply named awake sound h in
        let within = made.5.there.within in
        absurd (omega arith)

-- One that did nothing.
record IsIdleAt (s t : State) (rank : ℕ) (posts : Posts) : Type 0 where
  limits : t.limits ≡ s.limits
  posts_after : slice_get t.posts rank ≡ Some (counted posts)
  memories : t.memories ≡ s.memories
  groups : t.groups ≡ s.groups

idle-at : (s t : State) (c : CallerId) (call : Call) (reply : Reply) (posts : Posts) → slice_get s.posts c.rank ≡ Some posts → is_idle reply ≡ true → step s (Called c call reply) ≡ Ok t
    → IsIdleAt s t c.rank posts
idle-at s t c call reply posts hp idle h =
    let only = only-counted s t c call reply idle h in
    let left = only.after in
    let same = one-there (slice_get s.posts c.rank) only.posts posts only.there hp in
    record {
      limits = ap (λ (y : State). y.limits) left;
      posts_after = ap (λ (y : State). slice_get y.posts c.rank) left ∙ slice_get-set_same s.posts c.rank only.posts (counted only.posts) only.there ∙ ap (λ (q : Posts). Some (counted q)) same;
      memories = ap (λ (y : State). y.memories) left;
      groups = ap (λ (y : State). y.groups) left;
    }

-- A collective that is recorded.
record IsRecordedAt (s t : State) (c : CallerId) (id : ℕ) (call : Call) (reply : Reply) (posts : Posts) (g : Group) : Type 0 where
  limits : t.limits ≡ s.limits
  posts_after : slice_get t.posts c.rank ≡ Some (posts_after_collective posts g c.rank id call reply)
  memories : t.memories ≡ s.memories
  group_after : slice_get t.groups id ≡ Some (group_after_collective g c.rank reply)

recorded-at : (s t : State) (c : CallerId) (id : ℕ) (call : Call) (reply : Reply) (posts : Posts) (g : Group) → IsSound s → slice_get s.posts c.rank ≡ Some posts → slice_get s.groups id ≡ Some g
    → (row_of call).group ≡ Some id → step s (Called c call reply) ≡ Ok t → IsRecordedAt s t c id call reply posts g
recorded-at s t c id call reply posts g sound hp hg named h = go (is_idle reply) refl
  where
    go : (b : Bool) → is_idle reply ≡ b → IsRecordedAt s t c id call reply posts g
    go false awake =
        let done = done-at s t c id call reply posts g sound hp hg named awake h in
        record { limits = done.limits; posts_after = rw awake done.posts_after; memories = done.memories; group_after = rw awake done.group_after }
    go true idle =
        let at = idle-at s t c call reply posts hp idle h in
        record { limits = at.limits; posts_after = rw idle at.posts_after; memories = at.memories; group_after = rw idle (ap (λ (gs : List Group). slice_get gs id) at.groups ∙ hg) }

-- the event limit has room for it
recorded-room : (s t : State) (c : CallerId) (id : ℕ) (call : Call) (reply : Reply) (posts : Posts) → slice_get s.posts c.rank ≡ Some posts → (row_of call).group ≡ Some id
    → step s (Called c call reply) ≡ Ok t → posts.events < s.limits.events
recorded-room s t c id call reply posts hp named h =
    let made = step-completed s t c id call reply named h in
    let m = made.2 in
    let room : nat_le (posts.events + owed posts + 1) s.limits.events ≡ true =
    subst (λ (p : Posts). nat_le (p.events + owed p + 1) s.limits.events ≡ true) (one-there (slice_get s.posts c.rank) made.0 posts m.posts_there hp) m.is.room in
    let less = leb-true (posts.events + owed posts + 1) s.limits.events room in
    omega arith

-- what is lent for a collective that is recorded
record CallLent (s : State) (c : CallerId) (id : ℕ) (call : Call) (own : Node) (peer : Option Node) (n : GroupNode) : Type 0 where
  lent : LendsGroup s c.rank id (row_of call).footprint own peer n
  together : AreSoundTogether own.posts.posts c.rank id lent.group_node.group

call-lent : (s t : State) (c : CallerId) (id : ℕ) (call : Call) (reply : Reply) (own : Node) (peer : Option Node) (n : GroupNode) → (row_of call).group ≡ Some id
    → IsStepOn s t (Called c call reply) own peer (Some n) → CallLent s c id call own peer n
call-lent s t c id call reply own peer n named on =
    let lent = lends-group s c.rank id (row_of call).footprint own peer n (collective-footprint call id named) on.lends in
    let group = lent.group_node in
    record { lent = lent; together = together-in s c.rank id own.posts.posts group.group on.sound lent.own_node.posts.posts group.there }

-- who has a collective pending is a member
pending-member : (posts : Posts) (me id : ℕ) (g : Group) (p : PendingCollective) → AreSoundTogether posts me id g → item_at posts.pending id ≡ Some p → is_in g.members me ≡ true
pending-member posts me id g p together there =
    let last = together.part.last p there in
    let one = together.group.members (round_of g me) me last.0 last.1 in
    let fixed = one.fixed in
    rw fixed one.member

of-thread : (o : Option PendingCollective) (p : PendingCollective) (thread : ℕ) → o ≡ Some p → p.thread ≡ thread → IsOfThread o thread
of-thread o p thread is mine = rw is mine

-- a collective that is a step, with a reply that says that it did something, may complete
pub completes-here : (c : CallerId) (id : ℕ) (call : Call) (reply : Reply) (own : Node) (n : GroupNode) → c.rank ≡ own.posts.me → (row_of call).group ≡ Some id
    → MayStepOn (Called c call reply) own (Some n) → is_idle reply ≡ false → MayComplete own.posts n c.thread id call
completes-here c id call reply own n is named may awake =
    let on = may.3 in
    let lent = call-lent may.0 may.1 c id call reply own may.2 n named on in
    let group = lent.lent.group_node in
    let done = done-at may.0 may.1 c id call reply own.posts.posts group.group on.sound lent.lent.own_node.posts.posts group.there named awake on.is_step in
    record {
      built = done.built;
      bounded = done.bounded;
      pending = of-thread (item_at own.posts.posts.pending id) done.pending c.thread done.pends done.mine;
      group = group.group;
      leaves = subst (MayLeave group.group n) is (record {
        is = group.stands;
        member = pending-member own.posts.posts c.rank id group.group done.pending lent.together done.pends;
        full = done.full;
      });
    }

-- the posts keep their count of events until the event is recorded
effect-events : (posts : Posts) (g : Group) (me id : ℕ) (call : Call) (reply : Reply) → (completion_effect posts g me id call reply).events ≡ posts.events
effect-events posts g me id call reply = go (is_idle reply)
  where
    go : (b : Bool) → (if b then posts else completed_posts posts g me id call).events ≡ posts.events
    go true = refl
    go false = (completed-leaves posts g me id call).events

pub completion-room : (c : CallerId) (id : ℕ) (call : Call) (reply : Reply) (own : Node) (n : GroupNode) (mid : PostsValue) → (row_of call).group ≡ Some id
    → MayStepOn (Called c call reply) own (Some n) → ((g : Group) → IsGroupNode g n → mid ≡ record own.posts { posts = completion_effect own.posts.posts g c.rank id call reply })
    → mid.posts.events < mid.limits.events
completion-room c id call reply own n mid named may is =
    let s = may.0 in
    let on = may.3 in
    let lent = (call-lent s may.1 c id call reply own may.2 n named on).lent in
    let group = lent.group_node in
    let room = recorded-room s may.1 c id call reply own.posts.posts lent.own_node.posts.posts named on.is_step in
    let same = is group.group group.stands in
    let events = ap (λ (p : PostsValue). p.posts.events) same ∙ effect-events own.posts.posts group.group c.rank id call reply in
    let limits = ap (λ (p : PostsValue). p.limits.events) same ∙ ap (λ (l : Limits). l.events) lent.own_node.posts.limits in
    omega arith

pub refusal-room : (c : CallerId) (id : ℕ) (call : Call) (reply : Reply) (own : Node) → (row_of call).group ≡ Some id → MayStepOn (Called c call reply) own None
    → own.posts.posts.events < own.posts.limits.events
refusal-room c id call reply own named may =
    let on = may.3 in
    let posts = on.lends.own_node.posts in
    let room = recorded-room may.0 may.1 c id call reply own.posts.posts posts.posts named on.is_step in
    let limits = ap (λ (l : Limits). l.events) posts.limits in
    omega arith

-- the posts with a call recorded
abbrev pub posts_recorded : PostsValue → Posts → ℕ → CallerId → Call → Reply → PostsValue
posts_recorded own posts place c call reply = record own {
  posts = counted posts;
  journal = own.journal ++ record { place = place; event = Called c call reply } ∷ [];
}

pub recorded-posts : (own mid new : PostsValue) (posts : Posts) (place : ℕ) (c : CallerId) (call : Call) (reply : Reply) → mid ≡ record own { posts = posts }
    → new ≡ record mid { posts = counted mid.posts; journal = mid.journal ++ record { place = place; event = Called c call reply } ∷ [] } → new ≡ posts_recorded own posts place c call reply
recorded-posts own mid new posts place c call reply mid_is is =
    is ∙ ap (λ (p : PostsValue). record p { posts = counted p.posts; journal = p.journal ++ record { place = place; event = Called c call reply } ∷ [] }) mid_is

-- the node after it is that of its rank
node-after : (s t : State) (c : CallerId) (call : Call) (reply : Reply) (place : ℕ) (posts : Posts) (old new : Node) → IsNodeOf s c.rank old → t.limits ≡ s.limits → t.memories ≡ s.memories
    → slice_get t.posts c.rank ≡ Some (counted posts) → new.posts ≡ posts_recorded old.posts posts place c call reply → new.memory ≡ old.memory → IsNodeOf t c.rank new
node-after s t c call reply place posts old new was limits memories after posts_are memory_is =
    let own_posts : IsPostsOf t c.rank (posts_recorded old.posts posts place c call reply) = record { limits = was.posts.limits ∙ sym limits; me = was.posts.me; posts = after } in
    let own_memory : IsMemoryOf t c.rank old.memory = record {
      capacity = was.memory.capacity ∙ ap (λ (l : Limits). l.inbox) (sym limits);
      memory = ap (λ (ms : List Memory). slice_get ms c.rank) memories ∙ was.memory.memory;
    } in
    record { posts = subst (IsPostsOf t c.rank) (sym posts_are) own_posts; memory = subst (IsMemoryOf t c.rank) (sym memory_is) own_memory }

-- the nodes after a collective that is recorded are lent of the state after it
pub recorded-left : (c : CallerId) (id : ℕ) (call : Call) (reply : Reply) (place : ℕ) (old new : Node) (before after : GroupNode) (s t : State) (peer : Option Node) → (row_of call).group ≡ Some id
    → IsStepOn s t (Called c call reply) old peer (Some before)
    → ((g : Group) → IsGroupNode g before → new.posts ≡ posts_recorded old.posts (completion_effect old.posts.posts g c.rank id call reply) place c call reply) → new.memory ≡ old.memory
    → ((g : Group) → IsGroupNode g before → IsGroupNode (group_after_collective g c.rank reply) after) → IsLeft s t (Called c call reply) place old new peer peer (Some after)
recorded-left c id call reply place old new before after s t peer named on posts memory group =
    let lent = (call-lent s t c id call reply old peer before named on).lent in
    let g = lent.group_node.group in
    let stands = lent.group_node.stands in
    let at = recorded-at s t c id call reply old.posts.posts g on.sound lent.own_node.posts.posts lent.group_node.there named on.is_step in
    let own = node-after s t c call reply place (completion_effect old.posts.posts g c.rank id call reply) old new lent.own_node at.limits at.memories at.posts_after (posts g stands) memory in
    let group_is : IsGroupOf t id after = record { group = group_after_collective g c.rank reply; there = at.group_after; stands = group g stands } in
    record {
      lends = group-lends s t c.rank id (footprint_of s.limits.ranks c.rank (row_of call).footprint) new peer after lent.footprint lent.no_peer own group_is;
      journal = ap (λ (p : PostsValue). p.journal) (posts g stands);
      peer_journal = refl;
    }

-- and those after a refusal of one on a group that is not there
pub refused-left : (c : CallerId) (id : ℕ) (call : Call) (reply : Reply) (place : ℕ) (old new : Node) (s t : State) (peer : Option Node) → (row_of call).group ≡ Some id
    → IsStepOn s t (Called c call reply) old peer None → new.posts ≡ posts_recorded old.posts old.posts.posts place c call reply → new.memory ≡ old.memory
    → IsLeft s t (Called c call reply) place old new peer peer None
refused-left c id call reply place old new s t peer named on posts memory =
    let lent = lends-no-group s c.rank id (row_of call).footprint old peer (collective-footprint call id named) on.lends in
    let idle = idle-nowhere s t c id call reply on.sound named lent.over on.is_step in
    let at = idle-at s t c call reply old.posts.posts lent.own_node.posts.posts idle on.is_step in
    let own = node-after s t c call reply place old.posts.posts old new lent.own_node at.limits at.memories at.posts_after posts memory in
    record {
      lends = no-group-lends s t c.rank (footprint_of s.limits.ranks c.rank (row_of call).footprint) new peer lent.footprint lent.no_peer own;
      journal = ap (λ (p : PostsValue). p.journal) posts;
      peer_journal = refl;
    }

-- The effect of a completion.

-- the posts with segments known, by their table
pub all-known : (seg size : ℕ) (made : List MemberSegment) (posts : Posts) → with_made_known seg size made posts ≡ record posts { segments = with_all_known seg size made posts.segments }
all-known seg size [] posts = refl
all-known seg size (m ∷ made) posts = all-known seg size made (with_known m.rank seg (Some (record { generation = m.generation; size = size })) posts)

-- the effect of a segment_create
pub create-effect : (own : PostsValue) (table : SegmentTable) (made : List MemberSegment) (g : Group) (me id : ℕ) (call : Call) (x : create.Create) → call ≡ calls.Create x → made ≡ round_segments g me
    → table ≡ with_all_known x.seg x.size made own.posts.segments → record own { posts = record own.posts { segments = table } } ≡ record own { posts = posts_at_completion g me id call own.posts }
create-effect own table made g me id call x call_is made_is is =
    rw (call_is, is, made_is) (ap (λ (p : Posts). record own { posts = p }) (sym (all-known x.seg x.size (round_segments g me) own.posts)))

effect-pending : (g : Group) (me id : ℕ) (call : Call) (posts : Posts) → (posts_at_completion g me id call posts).pending ≡ posts.pending
effect-pending g me id (calls.Create x) posts = ap (λ (p : Posts). p.pending) (all-known x.seg x.size (round_segments g me) posts)
effect-pending g me id (calls.Commit x) posts = refl
effect-pending g me id call posts = refl

-- a member by the group's node
pub member-here : (g : Group) (n : GroupNode) (me : ℕ) → MayLeave g n me → is_in n.rounds.members me ≡ true
member-here g n me leaves = subst (λ (m : Option ℕ). is_in m me ≡ true) leaves.is.rounds.members leaves.member

-- what is pending stays until it is taken out
pub pending-stays : (own mid : PostsValue) (pending : List (Option PendingCollective)) (g : Group) (me thread id : ℕ) (call : Call) → mid ≡ record own { posts = posts_at_completion g me id call own.posts }
    → pending ≡ mid.posts.pending → IsOfThread (item_at own.posts.pending id) thread → IsOfThread (item_at pending id) thread
pending-stays own mid pending g me thread id call mid_is is mine =
    let same : pending ≡ own.posts.pending = is ∙ ap (λ (p : PostsValue). p.posts.pending) mid_is ∙ effect-pending g me id call own.posts in
    subst (λ (ps : List (Option PendingCollective)). IsOfThread (item_at ps id) thread) (sym same) mine
