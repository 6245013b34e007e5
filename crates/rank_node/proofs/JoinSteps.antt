-- Joins on nodes that are lent: the stores' conditions hold, and the nodes are lent of the state after.
use Rattle.std.proofs.Common.{◌≡◌, ℕ, ◌+◌, ◌<◌, true, nat_le, List, [], ◌∷◌, ◌++◌, length, Option, Some, Ok, refl, sym, ap, subst, ◌∙◌, arith}
use Rattle.std.specs.List.{slice_get}
use Rattle.std.proofs.lemmas.Bool.{leb-true}
use Rattle.gaspi_types.specs.Collectives.{round_checks, with_joined}
use Rattle.gaspi_types.specs.NumberTypes.{TypedNumbers}
use Rattle.gaspi_types.specs.Footprints.{footprint_of}
use Rattle.gaspi_types.specs.World.{are_limits}
use Rattle.gaspi_types.specs.declared.collectives.Coll.{Coll}
use Rattle.gaspi_types.specs.declared.collectives.Coll.TheVariants as colls
use Rattle.gaspi_types.specs.declared.events.Event.TheVariants.{Joined}
use Rattle.gaspi_types.specs.declared.groups.Args.{Args}
use Rattle.gaspi_types.specs.declared.groups.Group.{Group}
use Rattle.gaspi_types.specs.declared.groups.Handle.{Handle}
use Rattle.gaspi_types.specs.declared.groups.RankContributions.{RankContributions}
use Rattle.gaspi_types.specs.declared.groups.PendingCollective.{PendingCollective}
use Rattle.gaspi_types.specs.declared.replies.Reply.TheVariants as replies
use Rattle.gaspi_types.specs.declared.shapes.CallerId.{CallerId}
use Rattle.gaspi_types.specs.declared.shapes.Limits.{Limits}
use Rattle.gaspi_types.proofs.Items.{slice_get-set_same}
use Rattle.collective_engine.specs.RoundBuffers.{RoundBuffers, Represents, may_join}
use Rattle.gaspi_model.specs.CollectiveCalls.{joining_call, made_posts, made_memory, joined_posts, contribution_of, agreement_checks, segment_checks}
use Rattle.gaspi_model.specs.Posting.{counted}
use Rattle.gaspi_model.specs.Sound.{IsSound, IsSoundPosts}
use Rattle.gaspi_model.specs.State.{owed, thread_at, is_running}
use Rattle.gaspi_model.specs.Step.{step, join_footprint}
use Rattle.gaspi_model.specs.declared.states.Memory.{Memory}
use Rattle.gaspi_model.specs.declared.states.Posts.{Posts}
use Rattle.gaspi_model.specs.declared.states.State.{State}
use Rattle.gaspi_model.proofs.CollectiveFinds.{MayJoin}
use Rattle.gaspi_model.proofs.GroupEffects.{IsJoinStep, join-step}
use Rattle.gaspi_model.proofs.GroupSteps.{join-footprint}
use Rattle.gaspi_model.proofs.CollectivePosts.{joined-leaves}
use Rattle.gaspi_model.proofs.Sound.GroupTables.{entry-set_same}
use Rattle.gaspi_model.proofs.Sound.Joins.{join-cases}
use Rattle.plain_calls.specs.NumberBounds.{JoinIsBounded}
use Rattle.plain_calls.proofs.CallBounds.{alloc_room}
use Rattle.rank_node.specs.Collectives.{AreSoundTogether, MayJoinHere, AddsContribution, IsPendingFor}
use Rattle.rank_node.specs.CollectiveSteps.{MayStepOn}
use Rattle.rank_node.specs.Lending.{IsPostsOf, IsMemoryOf, IsNodeOf, IsGroupOf, IsStepOn, IsLeft}
use Rattle.rank_node.specs.Values.{PostsValue, MemoryValue}
use Rattle.rank_node.specs.declared.nodes.GroupNode.{GroupNode}
use Rattle.rank_node.specs.declared.nodes.Node.{Node}
use Rattle.rank_node.proofs.Joinable.{its-values, committed-joins, built-joins, built-fits, together-in}
use Rattle.rank_node.proofs.LentGroups.{LendsGroup, lends-group, group-lends, one-there}

-- A join of a rank's posts and memory, and of a group, in a sound state.
pub record IsJoinAt (s t : State) (c : CallerId) (id : ℕ) (args : Args) (posts : Posts) (memory : Memory) (g : Group) : Type 0 where
  pub handle : Handle
  pub may : MayJoin posts g c.rank c.thread id (joining_call id args) args handle
  pub room : nat_le (posts.events + owed posts + 1) s.limits.events ≡ true
  pub limits : t.limits ≡ s.limits
  pub posts_after : slice_get t.posts c.rank ≡ Some (counted (joined_posts posts c.thread id args))
  pub memory_after : slice_get t.memories c.rank ≡ Some (made_memory s.limits posts memory args.coll)
  pub group_after : slice_get t.groups id ≡ Some (with_joined g c.rank (contribution_of posts args))

from-step : (s t : State) (c : CallerId) (id : ℕ) (args : Args) (posts : Posts) (g : Group) (part : RankContributions) (memory : Memory) (h : Handle) → IsJoinStep s t c id args posts g part memory h
    → IsJoinAt s t c id args posts memory g
from-step s t c id args posts g part memory h m =
    let left = m.leaves in
    record {
      handle = h;
      may = m.may;
      room = m.room;
      limits = ap (λ (y : State). y.limits) left;
      posts_after = ap (λ (y : State). slice_get y.posts c.rank) left ∙ slice_get-set_same s.posts c.rank posts (counted (joined_posts posts c.thread id args)) m.posts_there;
      memory_after = ap (λ (y : State). slice_get y.memories c.rank) left ∙ slice_get-set_same s.memories c.rank memory (made_memory s.limits posts memory args.coll) m.memory_there;
      group_after = ap (λ (y : State). slice_get y.groups id) left ∙ slice_get-set_same s.groups id g (with_joined g c.rank (contribution_of posts args)) m.there.there;
    }

pub joins-at : (s t : State) (c : CallerId) (id : ℕ) (args : Args) (posts : Posts) (memory : Memory) (g : Group) → IsSound s → slice_get s.posts c.rank ≡ Some posts
    → slice_get s.memories c.rank ≡ Some memory → slice_get s.groups id ≡ Some g → step s (Joined c id args) ≡ Ok t → IsJoinAt s t c id args posts memory g
joins-at s t c id args posts memory g sound hp hm hg h =
    let made = join-step s t c id args sound h in
    let m = made.5 in
    subst (λ (x : Posts). IsJoinAt s t c id args x memory g) (one-there (slice_get s.posts c.rank) made.0 posts m.posts_there hp)
    (subst (λ (x : Memory). IsJoinAt s t c id args made.0 x g) (one-there (slice_get s.memories c.rank) made.3 memory m.memory_there hm)
    (subst (λ (x : Group). IsJoinAt s t c id args made.0 made.3 x) (one-there (slice_get s.groups id) made.1 g m.there.there hg) (from-step s t c id args made.0 made.1 made.2 made.3 made.4 m)))

-- what it meets, and what the buffers want
record MeetsAll (g : Group) (t : RoundBuffers) (me : ℕ) (coll : Coll) : Type 0 where
  meets : agreement_checks g me coll ≡ Ok tt
  fits : round_checks g me coll ≡ Ok tt
  may : may_join t me coll ≡ true

meets-all : (posts : Posts) (g : Group) (t : RoundBuffers) (me thread id : ℕ) (args : Args) (h : Handle) → AreSoundTogether posts me id g → Represents g t
    → MayJoin posts g me thread id (joining_call id args) args h → MeetsAll g t me args.coll
meets-all posts g t me thread id args h together stands may =
    join-cases {P = MeetsAll g t me args.coll} posts g me thread id args h may
    (λ commits built. record {
      meets = may.meets;
      fits = built-fits posts me id g h args.coll together commits built;
      may = built-joins posts me id g t h args.coll together stands commits built may.none;
    })
    (λ other joins. record {
      meets = may.meets;
      fits = joins.fits;
      may = committed-joins posts me id g t h args.coll together stands joins.there joins.committed may.none;
    })

-- the segment that it makes has its numbers
made-bounded : (limits : Limits) (posts : Posts) (id : ℕ) (coll : Coll) (values : TypedNumbers) → are_limits limits ≡ true → IsSoundPosts limits posts
    → segment_checks posts (joining_call id (record { coll = coll; values = values })) ≡ Ok tt → JoinIsBounded posts coll
made-bounded limits posts id (colls.Create seg size) values limited sound free = alloc_room limits posts (record { seg = seg; size = size }) replies.Done limited sound (rw free refl)
made-bounded limits posts id colls.Barrier values limited sound free = tt
made-bounded limits posts id (colls.Allreduce op t n) values limited sound free = tt
made-bounded limits posts id (colls.Commit mask) values limited sound free = tt

-- what a join's nodes that are lent are
record JoinsLent (s t : State) (c : CallerId) (id : ℕ) (args : Args) (own : Node) (peer : Option Node) (n : GroupNode) : Type 0 where
  lent : LendsGroup s c.rank id (join_footprint id args.coll) own peer n
  at : IsJoinAt s t c id args own.posts.posts own.memory.memory lent.group_node.group
  together : AreSoundTogether own.posts.posts c.rank id lent.group_node.group

joins-lent : (s t : State) (c : CallerId) (id : ℕ) (args : Args) (own : Node) (peer : Option Node) (n : GroupNode) → IsStepOn s t (Joined c id args) own peer (Some n) → JoinsLent s t c id args own peer n
joins-lent s t c id args own peer n on =
    let lent = lends-group s c.rank id (join_footprint id args.coll) own peer n (join-footprint id args.coll) on.lends in
    let posts = lent.own_node.posts.posts in
    let memory = lent.own_node.memory.memory in
    let group = lent.group_node in
    record {
      lent = lent;
      at = joins-at s t c id args own.posts.posts own.memory.memory group.group on.sound posts memory group.there on.is_step;
      together = together-in s c.rank id own.posts.posts group.group on.sound posts group.there;
    }

-- a join that is a step may join
pub joins-here : (c : CallerId) (id : ℕ) (args : Args) (own : Node) (n : GroupNode) → c.rank ≡ own.posts.me → MayStepOn (Joined c id args) own (Some n) → MayJoinHere own.posts n id args
joins-here c id args own n is step =
    let s = step.0 in
    let on = step.3 in
    let joins = joins-lent s step.1 c id args own step.2 n on in
    let may = joins.at.may in
    let all = meets-all own.posts.posts joins.lent.group_node.group n.rounds c.rank c.thread id args joins.at.handle joins.together joins.lent.group_node.stands.rounds may in
    record {
      none = may.none;
      bounded = made-bounded s.limits own.posts.posts id args.coll args.values on.sound.limits (on.sound.posts c.rank own.posts.posts joins.lent.own_node.posts.posts) may.free;
      may = subst (λ (r : ℕ). may_join n.rounds r args.coll ≡ true) is all.may;
      values = its-values joins.at.handle.members id args may.elements may.args_is;
    }

-- the event limit has room for it
pub joined-room : (c : CallerId) (id : ℕ) (args : Args) (own : Node) (n : GroupNode) (mid : PostsValue) → MayStepOn (Joined c id args) own (Some n)
    → mid ≡ record own.posts { posts = joined_posts own.posts.posts c.thread id args } → mid.posts.events < mid.limits.events
joined-room c id args own n mid step is =
    let s = step.0 in
    let joins = joins-lent s step.1 c id args own step.2 n step.3 in
    let room = leb-true (own.posts.posts.events + owed own.posts.posts + 1) s.limits.events joins.at.room in
    let events = ap (λ (p : PostsValue). p.posts.events) is ∙ (joined-leaves own.posts.posts c.thread id args).events in
    let limits = ap (λ (p : PostsValue). p.limits.events) is ∙ ap (λ (l : Limits). l.events) joins.lent.own_node.posts.limits in
    omega arith

-- the posts with what a join leaves
abbrev pub posts_joined : PostsValue → ℕ → CallerId → ℕ → Args → PostsValue
posts_joined own place c id args = record own {
  posts = counted (joined_posts own.posts c.thread id args);
  journal = own.journal ++ record { place = place; event = Joined c id args } ∷ [];
}

pub joined-posts : (own mid new : PostsValue) (place : ℕ) (c : CallerId) (id : ℕ) (args : Args) → mid ≡ record own { posts = joined_posts own.posts c.thread id args }
    → new ≡ record mid { posts = counted mid.posts; journal = mid.journal ++ record { place = place; event = Joined c id args } ∷ [] } → new ≡ posts_joined own place c id args
joined-posts own mid new place c id args mid_is is =
    is ∙ ap (λ (p : PostsValue). record p { posts = counted p.posts; journal = p.journal ++ record { place = place; event = Joined c id args } ∷ [] }) mid_is

abbrev pub memory_joined : PostsValue → MemoryValue → Args → MemoryValue
memory_joined own memory args = record memory { memory = made_memory own.limits own.posts memory.memory args.coll }

-- the nodes after a join are lent of the state after it
pub joined-left : (c : CallerId) (id : ℕ) (args : Args) (place : ℕ) (old new : Node) (before after : GroupNode) (s t : State) (peer : Option Node) → IsStepOn s t (Joined c id args) old peer (Some before)
    → new.posts ≡ posts_joined old.posts place c id args → new.memory ≡ memory_joined old.posts old.memory args
    → AddsContribution before after c.rank (contribution_of old.posts.posts args) → IsLeft s t (Joined c id args) place old new peer peer (Some after)
joined-left c id args place old new before after s t peer on posts memory group =
    let joins = joins-lent s t c id args old peer before on in
    let lent = joins.lent in
    let at = joins.at in
    let g = lent.group_node.group in
    let was = lent.own_node in
    let all = meets-all old.posts.posts g before.rounds c.rank c.thread id args at.handle joins.together lent.group_node.stands.rounds at.may in
    let own_posts : IsPostsOf t c.rank (posts_joined old.posts place c id args) = record {
      limits = was.posts.limits ∙ sym at.limits;
      me = was.posts.me;
      posts = at.posts_after;
    } in
    let own_memory : IsMemoryOf t c.rank (memory_joined old.posts old.memory args) = record {
      capacity = was.memory.capacity ∙ ap (λ (l : Limits). l.inbox) (sym at.limits);
      memory = at.memory_after ∙ ap (λ (l : Limits). Some (made_memory l old.posts.posts old.memory.memory args.coll)) (sym was.posts.limits);
    } in
    let own : IsNodeOf t c.rank new = record {
      posts = subst (IsPostsOf t c.rank) (sym posts) own_posts;
      memory = subst (IsMemoryOf t c.rank) (sym memory) own_memory;
    } in
    let group_is : IsGroupOf t id after = record {
      group = with_joined g c.rank (contribution_of old.posts.posts args);
      there = at.group_after;
      stands = group g lent.group_node.stands joins.together.ranked all.meets all.fits;
    } in
    record {
      lends = group-lends s t c.rank id (footprint_of s.limits.ranks c.rank (join_footprint id args.coll)) new peer after lent.footprint lent.no_peer own group_is;
      journal = ap (λ (p : PostsValue). p.journal) posts;
      peer_journal = refl;
    }

-- a collective that has joined waits
made-kept : (posts : Posts) (coll : Coll) → ((made_posts posts coll).threads ≡ posts.threads) × ((made_posts posts coll).pending ≡ posts.pending)
made-kept posts colls.Barrier = (refl, refl)
made-kept posts (colls.Allreduce op t n) = (refl, refl)
made-kept posts (colls.Create seg size) = (refl, refl)
made-kept posts (colls.Commit mask) = (refl, refl)

thread-kept : (posts : Posts) (asked thread id : ℕ) (args : Args) → thread_at (counted (joined_posts posts thread id args)) asked ≡ thread_at posts asked
thread-kept posts asked thread id args = go args.coll
  where
    go : (coll : Coll) → thread_at (counted (joined_posts posts thread id (record { coll = coll; values = args.values }))) asked ≡ thread_at posts asked
    go colls.Barrier = refl
    go (colls.Allreduce op t n) = refl
    go (colls.Create seg size) = refl
    go (colls.Commit mask) = refl

pub joined-waits : (c : CallerId) (id : ℕ) (args : Args) (place : ℕ) (old : Node) (n : GroupNode) (new : PostsValue) → MayStepOn (Joined c id args) old (Some n)
    → new ≡ posts_joined old.posts place c id args → IsPendingFor new c.thread id (joining_call id args)
joined-waits c id args place old n new step is =
    let s = step.0 in
    let on = step.3 in
    let joins = joins-lent s step.1 c id args old step.2 n on in
    let posts = old.posts.posts in
    let kept = made-kept posts args.coll in
    let less = joins.lent.within in
    let many = (on.sound.posts c.rank posts joins.lent.own_node.posts.posts).tables.pending in
    let same = ap (λ (ps : List (Option PendingCollective)). length ps) kept.1 in
    let waits : IsPendingFor (posts_joined old.posts place c id args) c.thread id (joining_call id args) = record {
      pending = record { thread = c.thread; args = args };
      running = ap is_running (thread-kept posts c.thread c.thread id args) ∙ joins.at.may.running;
      there = entry-set_same (made_posts posts args.coll).pending id (Some (record { thread = c.thread; args = args })) (omega arith);
      mine = refl;
      same = refl;
    } in
    subst (λ (p : PostsValue). IsPendingFor p c.thread id (joining_call id args)) (sym is) waits
