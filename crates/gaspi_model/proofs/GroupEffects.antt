-- What a collective that is done, and a join, leave of a sound state.
use Rattle.std.proofs.Common.{◌≡◌, ℕ, ◌+◌, ◌<◌, true, false, nat_le, List, Some, Ok, refl, sym, ap, ◌∙◌, subst, arith}
use Rattle.std.specs.List.{slice_get, slice_set}
use Rattle.std.proofs.lemmas.Bool.{lt-ltb}
use Rattle.std.proofs.lemmas.Option.{slice_get_within}
use Rattle.gaspi_types.specs.CallRows.{row_of}
use Rattle.gaspi_types.specs.Collectives.{with_joined, with_completed}
use Rattle.gaspi_types.specs.Replies.{is_idle}
use Rattle.gaspi_types.specs.declared.calls.Call.{Call}
use Rattle.gaspi_types.specs.declared.collectives.Coll.{Coll}
use Rattle.gaspi_types.specs.declared.collectives.Coll.TheVariants as colls
use Rattle.gaspi_types.specs.declared.events.Event.TheVariants.{Called, Joined}
use Rattle.gaspi_types.specs.declared.groups.Args.{Args}
use Rattle.gaspi_types.specs.declared.groups.Group as groups
use Rattle.gaspi_types.specs.declared.groups.Handle.{Handle}
use Rattle.gaspi_types.specs.declared.groups.RankContributions.{RankContributions}
use Rattle.gaspi_types.specs.declared.groups.PendingCollective.{PendingCollective}
use Rattle.gaspi_types.specs.declared.replies.Reply.{Reply}
use Rattle.gaspi_types.specs.declared.shapes.CallerId.{CallerId}
use Rattle.gaspi_types.specs.declared.shapes.Limits.{Limits}
use Rattle.gaspi_model.specs.CollectiveCalls.{joining_call, made_memory, contribution_of, joined_posts, completed_posts}
use Rattle.gaspi_model.specs.Posting.{counted}
use Rattle.gaspi_model.specs.Sound.{IsSound}
use Rattle.gaspi_model.specs.State.{owed}
use Rattle.gaspi_model.specs.Step.{step, group_in}
use Rattle.gaspi_model.specs.declared.states.Posts.{Posts}
use Rattle.gaspi_model.specs.declared.states.Memory.{Memory}
use Rattle.gaspi_model.specs.declared.states.State.{State}
use Rattle.gaspi_types.proofs.Items.{set-there, there-within}
use Rattle.gaspi_model.proofs.CollectiveFinds.{IsDone, done-found, MayJoin, join-found}
use Rattle.gaspi_model.proofs.GroupSteps.{with_group_at, step-completed, step-joined, joined-footprint}
use Rattle.gaspi_model.proofs.Made.{memory_at, memories_at}
use Rattle.gaspi_model.proofs.Sound.Completions.{IsThere, group-there, staged-there}

group-set : (all : List groups.Group) (id : ℕ) (g g' : groups.Group) → id < 8 → g ≡ g' → with_group_at all id g ≡ slice_set all id g'
group-set all id g g' less same = rw (lt-ltb id 8 less) (ap (slice_set all id) same)

-- a collective that is done
pub record IsDoneStep (s t : State) (c : CallerId) (id : ℕ) (call : Call) (reply : Reply) (posts : Posts) (g : groups.Group) (part : RankContributions) (h : Handle) (p : PendingCollective) : Type 0 where
  pub posts_there : slice_get s.posts c.rank ≡ Some posts
  pub there : IsThere s c.rank id g part
  pub done : IsDone posts g c.rank c.thread id call reply h p
  pub room : nat_le (posts.events + owed posts + 1) s.limits.events ≡ true
  pub leaves : t ≡ record s { posts = slice_set s.posts c.rank (counted (completed_posts posts g c.rank id call)); groups = slice_set s.groups id (with_completed g c.rank) }

pub done-step : (s t : State) (c : CallerId) (id : ℕ) (call : Call) (reply : Reply) → (row_of call).group ≡ Some id → is_idle reply ≡ false → IsSound s → step s (Called c call reply) ≡ Ok t
    → (posts : Posts) × (g : groups.Group) × (part : RankContributions) × (h : Handle) × (p : PendingCollective) × IsDoneStep s t c id call reply posts g part h p
done-step s t c id call reply named awake sound h =
    let made = step-completed s t c id call reply named h in
    let m = made.2 in
    let posts = made.0 in
    let found = done-found posts (group_in s id) c.rank c.thread id call reply m.is.answered awake in
    let there = group-there s posts c.rank id found.0 sound m.posts_there (staged-there posts.groups c.rank id call found.0 found.2.staged) in
    let g = there.0 in
    let is = there.2 in
    let after = counted (completed_posts posts g c.rank id call) in
    let left_posts : made.1.posts ≡ after = rw (m.is.leaves, awake) (ap (λ (x : groups.Group). counted (completed_posts posts x c.rank id call)) is.is) in
    let left_group : made.1.group ≡ with_completed g c.rank = rw (m.is.leaves, awake) (ap (λ (x : groups.Group). with_completed x c.rank) is.is) in (
      posts,
      g,
      there.1,
      found.0,
      found.1,
      record {
        posts_there = m.posts_there;
        there = is;
        done = subst (λ (x : groups.Group). IsDone posts x c.rank c.thread id call reply found.0 found.1) is.is found.2;
        room = m.is.room;
        leaves = m.leaves ∙ ap (λ (p : Posts). record s { posts = slice_set s.posts c.rank p; groups = with_group_at s.groups id made.1.group }) left_posts
            ∙ ap (λ (all : List groups.Group). record s { posts = slice_set s.posts c.rank after; groups = all }) (group-set s.groups id made.1.group (with_completed g c.rank) is.within left_group);
      },
    )

-- a join
join-memories : (limits : Limits) (me id : ℕ) (posts : Posts) (memory : Memory) (all : List Memory) (coll : Coll) → slice_get all me ≡ Some memory → id < 8
    → memories_at (joined-footprint limits.ranks me id coll) me (made_memory limits posts (memory_at (joined-footprint limits.ranks me id coll) me all) coll) all ≡ slice_set all me (made_memory limits posts memory coll)
join-memories limits me id posts memory all colls.Barrier at less = rw (lt-ltb id 8 less) (sym (set-there all me memory at))
join-memories limits me id posts memory all (colls.Allreduce op t n) at less = rw (lt-ltb id 8 less) (sym (set-there all me memory at))
join-memories limits me id posts memory all (colls.Commit mask) at less = rw (lt-ltb id 8 less) (sym (set-there all me memory at))
join-memories limits me id posts memory all (colls.Create seg size) at less = rw (lt-ltb id 8 less, at) refl

pub record IsJoinStep (s t : State) (c : CallerId) (id : ℕ) (args : Args) (posts : Posts) (g : groups.Group) (part : RankContributions) (memory : Memory) (h : Handle) : Type 0 where
  pub posts_there : slice_get s.posts c.rank ≡ Some posts
  pub memory_there : slice_get s.memories c.rank ≡ Some memory
  pub there : IsThere s c.rank id g part
  pub may : MayJoin posts g c.rank c.thread id (joining_call id args) args h
  pub room : nat_le (posts.events + owed posts + 1) s.limits.events ≡ true
  pub leaves : t ≡ record s {
    posts = slice_set s.posts c.rank (counted (joined_posts posts c.thread id args));
    memories = slice_set s.memories c.rank (made_memory s.limits posts memory args.coll);
    groups = slice_set s.groups id (with_joined g c.rank (contribution_of posts args));
  }

pub join-step : (s t : State) (c : CallerId) (id : ℕ) (args : Args) → IsSound s → step s (Joined c id args) ≡ Ok t
    → (posts : Posts) × (g : groups.Group) × (part : RankContributions) × (memory : Memory) × (h : Handle) × IsJoinStep s t c id args posts g part memory h
join-step s t c id args sound h =
    let made = step-joined s t c id args h in
    let m = made.2 in
    let posts = made.0 in
    let found = join-found posts (group_in s id) c.rank c.thread id (joining_call id args) args m.is.joins in
    let there = group-there s posts c.rank id found.0 sound m.posts_there (staged-there posts.groups c.rank id (joining_call id args) found.0 found.1.staged) in
    let g = there.0 in
    let is = there.2 in
    let after = counted (joined_posts posts c.thread id args) in
    let g' = with_joined g c.rank (contribution_of posts args) in
    let within = slice_get_within s.posts c.rank posts m.posts_there in
    let own = there-within s.memories c.rank (let ranks = sound.ranks in let memories = sound.memories in omega arith) in
    let new = made_memory s.limits posts own.0 args.coll in
    let left_posts : made.1.posts ≡ after = rw m.is.leaves refl in
    let left_group : made.1.group ≡ g' = rw m.is.leaves (ap (λ (x : groups.Group). with_joined x c.rank (contribution_of posts args)) is.is) in (
      posts,
      g,
      there.1,
      own.0,
      found.0,
      record {
        posts_there = m.posts_there;
        memory_there = own.1;
        there = is;
        may = subst (λ (x : groups.Group). MayJoin posts x c.rank c.thread id (joining_call id args) args found.0) is.is found.1;
        room = m.is.room;
        leaves = m.leaves
            ∙ ap (λ (ms : List Memory). record s { posts = slice_set s.posts c.rank made.1.posts; memories = ms; groups = with_group_at s.groups id made.1.group }) (join-memories s.limits c.rank id posts own.0 s.memories args.coll own.1 is.within)
            ∙ ap (λ (p : Posts). record s { posts = slice_set s.posts c.rank p; memories = slice_set s.memories c.rank new; groups = with_group_at s.groups id made.1.group }) left_posts
            ∙ ap (λ (all : List groups.Group). record s { posts = slice_set s.posts c.rank after; memories = slice_set s.memories c.rank new; groups = all }) (group-set s.groups id made.1.group g' is.within left_group);
      },
    )
