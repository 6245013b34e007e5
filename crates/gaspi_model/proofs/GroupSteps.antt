-- What a collective that is answered, and a join, are steps of.
use Rattle.std.proofs.Common.{◌≡◌, ℕ, zero, suc, ◌+◌, Bool, true, false, nat_le, nat_lt, List, [], ◌∷◌, Option, None, Some, Ok, refl, sym, ap, ◌∙◌, subst, ◌⊎◌, inl, inr, if◌then◌else◌}
use Rattle.std.specs.List.{slice_get, slice_set}
use Rattle.gaspi_types.specs.CallRows.{row_of}
use Rattle.gaspi_types.specs.Footprints.{footprint_of}
use Rattle.gaspi_types.specs.declared.calls.Call.{Call}
use Rattle.gaspi_types.specs.declared.calls.Call.TheVariants as calls
use Rattle.gaspi_types.specs.declared.collectives.Coll.{Coll}
use Rattle.gaspi_types.specs.declared.collectives.Coll.TheVariants as colls
use Rattle.gaspi_types.specs.declared.events.Event.TheVariants.{Called, Joined}
use Rattle.gaspi_types.specs.declared.groups.Args.{Args}
use Rattle.gaspi_types.specs.declared.groups.Group as groups
use Rattle.gaspi_types.specs.declared.replies.Reply.{Reply}
use Rattle.gaspi_types.specs.declared.shapes.CallerId.{CallerId}
use Rattle.gaspi_types.specs.declared.shapes.Limits.{Limits}
use Rattle.gaspi_types.specs.declared.footprints.Footprint.{Footprint}
use Rattle.gaspi_types.specs.declared.footprints.Footprint.TheVariants.{Alone, Group, GroupAndMemory}
use Rattle.gaspi_types.specs.declared.footprints.DeclaredFootprint.{DeclaredFootprint}
use Rattle.gaspi_types.specs.declared.footprints.DeclaredFootprint.TheVariants as touches
use Rattle.gaspi_types.specs.Replies.{is_idle}
use Rattle.gaspi_types.specs.Collectives.{with_joined, with_completed}
use Rattle.gaspi_model.specs.CollectiveCalls.{collective_answer, is_reply_of, is_join_of, joining_call, joined_posts, made_memory, contribution_of, completed_posts}
use Rattle.gaspi_model.specs.Parts.{group_or_none, parts_of, with_parts, part_numbers, accessed_memory, with_accessed_memory}
use Rattle.gaspi_model.specs.Posting.{counted}
use Rattle.gaspi_model.specs.State.{owed, thread_at}
use Rattle.gaspi_model.specs.Step.{step, PostsAndGroup, completed, joined, completed_on, join_footprint, group_in, is_there, on_parts}
use Rattle.gaspi_model.specs.declared.states.Posts.{Posts}
use Rattle.gaspi_model.specs.declared.states.Memory.{Memory}
use Rattle.gaspi_model.specs.declared.states.State.{State}
use Rattle.gaspi_model.specs.declared.states.Why.TheVariants as whys
use Rattle.gaspi_types.proofs.Chains.{bind_then, check_then, found_then, same_Ok}
use Rattle.gaspi_types.proofs.Items.{set-there}
use Rattle.gaspi_model.proofs.Made.{memory_at, memories_at, on_memory-at, part-same}

-- a collective that was answered
pub record IsCompleted (limits : Limits) (me : ℕ) (posts : Posts) (group : groups.Group) (thread id : ℕ) (call : Call) (reply : Reply) (after : PostsAndGroup) : Type 0 where
  pub there : is_there (thread_at posts thread) ≡ true
  pub answered : is_reply_of (collective_answer posts group me thread id call) reply ≡ true
  pub room : nat_le (posts.events + owed posts + 1) limits.events ≡ true
  pub leaves : after ≡ record {
    posts = counted (if is_idle reply then posts else completed_posts posts group me id call);
    group = if is_idle reply then group else with_completed group me;
  }

pub completed-ok : (limits : Limits) (me : ℕ) (posts : Posts) (group : groups.Group) (thread id : ℕ) (call : Call) (reply : Reply) (after : PostsAndGroup)
    → completed limits me posts group thread id call reply ≡ Ok after → IsCompleted limits me posts group thread id call reply after
completed-ok limits me posts group thread id call reply after h =
    check_then (is_there (thread_at posts thread)) whys.Caller _ after h (λ there h1.
    check_then (is_reply_of (collective_answer posts group me thread id call) reply) whys.Reply _ after h1 (λ answered h2.
    check_then (nat_le (posts.events + owed posts + 1) limits.events) whys.Limit _ after h2 (λ room h3.
    record { there = there; answered = answered; room = room; leaves = sym (same_Ok _ _ h3) })))

-- a join that was made
pub record IsJoined (limits : Limits) (me : ℕ) (posts : Posts) (group : groups.Group) (thread id : ℕ) (args : Args) (after : PostsAndGroup) : Type 0 where
  pub there : is_there (thread_at posts thread) ≡ true
  pub joins : is_join_of (collective_answer posts group me thread id (joining_call id args)) args ≡ true
  pub room : nat_le (posts.events + owed posts + 1) limits.events ≡ true
  pub leaves : after ≡ record { posts = counted (joined_posts posts thread id args); group = with_joined group me (contribution_of posts args) }

pub joined-ok : (limits : Limits) (me : ℕ) (posts : Posts) (group : groups.Group) (thread id : ℕ) (args : Args) (after : PostsAndGroup)
    → joined limits me posts group thread id args ≡ Ok after → IsJoined limits me posts group thread id args after
joined-ok limits me posts group thread id args after h =
    check_then (is_there (thread_at posts thread)) whys.Caller _ after h (λ there h1.
    check_then (is_join_of (collective_answer posts group me thread id (joining_call id args)) args) whys.Join _ after h1 (λ joins h2.
    check_then (nat_le (posts.events + owed posts + 1) limits.events) whys.Limit _ after h2 (λ room h3.
    record { there = there; joins = joins; room = room; leaves = sym (same_Ok _ _ h3) })))

-- the groups with one replaced, where its number is that of a group
abbrev pub with_group_at : List groups.Group → ℕ → groups.Group → List groups.Group
with_group_at all id g = if nat_lt id 8 then slice_set all id g else all

-- what stands there, set there, changes nothing
pub group-same : (all : List groups.Group) (id : ℕ) → with_group_at all id (group_or_none (if nat_lt id 8 then slice_get all id else None)) ≡ all
group-same all id = go (nat_lt id 8)
  where
    none-set : (xs : List groups.Group) (k : ℕ) (x : groups.Group) → slice_get xs k ≡ None → slice_set xs k x ≡ xs
    none-set [] k x at = refl
    none-set (y ∷ xs) zero x at = absurd (let no : ⊥ = cc in no)
    none-set (y ∷ xs) (suc k) x at = ap (λ (rest : List groups.Group). y ∷ rest) (none-set xs k x at)

    there : (o : Option groups.Group) → slice_get all id ≡ o → slice_set all id (group_or_none (slice_get all id)) ≡ all
    there None at = none-set all id _ at
    there (Some g) at = rw at (set-there all id g at)

    go : (b : Bool) → (if b then slice_set all id (group_or_none (if b then slice_get all id else None)) else all) ≡ all
    go true = there (slice_get all id) refl
    go false = refl

-- the touches of a collective on a group
abbrev pub IsOnGroup : DeclaredFootprint → ℕ → Type 0
IsOnGroup declaration id = (declaration ≡ touches.GroupOf id) ⊎ (declaration ≡ touches.GroupAndMemory id)

pub collective-footprint : (call : Call) (id : ℕ) → (row_of call).group ≡ Some id → IsOnGroup (row_of call).footprint id
collective-footprint (calls.Commit call) id h = inl (let same : call.group ≡ id = cc in ap touches.GroupOf same)
collective-footprint (calls.Barrier call) id h = inl (let same : call.group ≡ id = cc in ap touches.GroupOf same)
collective-footprint (calls.Allreduce call) id h = inl (let same : call.group ≡ id = cc in ap touches.GroupOf same)
collective-footprint (calls.Create call) id h = inr (let same : call.group ≡ id = cc in ap touches.GroupAndMemory same)
collective-footprint other id h = absurd (let no : ⊥ = cc in no)

pub join-footprint : (id : ℕ) (coll : Coll) → IsOnGroup (join_footprint id coll) id
join-footprint id colls.Barrier = inl refl
join-footprint id (colls.Allreduce op t n) = inl refl
join-footprint id (colls.Create seg size) = inr refl
join-footprint id (colls.Commit mask) = inl refl

-- the group that is worked on, where a group is touched, and the state after a step there
pub group-on_memory : (s : State) (posts : Posts) (me id : ℕ) (declaration : DeclaredFootprint) → IsOnGroup declaration id
    → group_or_none (parts_of s posts (part_numbers me (footprint_of s.limits.ranks me declaration))).group ≡ group_in s id
group-on_memory s posts me id declaration (inl is) = rw is (go (nat_lt id 8))
  where
    go : (b : Bool) → group_or_none (parts_of s posts (part_numbers me (if b then Group id else Alone))).group ≡ group_or_none (if b then slice_get s.groups id else None)
    go true = refl
    go false = refl
group-on_memory s posts me id declaration (inr is) = rw is (go (nat_lt id 8))
  where
    go : (b : Bool) → group_or_none (parts_of s posts (part_numbers me (if b then GroupAndMemory id else Alone))).group ≡ group_or_none (if b then slice_get s.groups id else None)
    go true = refl
    go false = refl

-- the memories after a step that wrote that one
pub lifted-group : (s : State) (me id : ℕ) (declaration : DeclaredFootprint) (before after : Posts) (memory : Memory) (g : groups.Group) → IsOnGroup declaration id
    → with_parts s me (part_numbers me (footprint_of s.limits.ranks me declaration)) (record (with_accessed_memory (footprint_of s.limits.ranks me declaration) (parts_of s before (part_numbers me (footprint_of s.limits.ranks me declaration))) memory) {
      posts = after;
      group = Some g;
    })
    ≡ record s { posts = slice_set s.posts me after; memories = memories_at (footprint_of s.limits.ranks me declaration) me memory s.memories; groups = with_group_at s.groups id g }
lifted-group s me id declaration before after memory g (inl is) = rw is (go (nat_lt id 8))
  where
    go : (b : Bool) → with_parts s me (part_numbers me (if b then Group id else Alone)) (record (with_accessed_memory (if b then Group id else Alone) (parts_of s before (part_numbers me (if b then Group id else Alone))) memory) {
      posts = after;
      group = Some g;
    })
        ≡ record s { posts = slice_set s.posts me after; memories = memories_at (if b then Group id else Alone) me memory s.memories; groups = if b then slice_set s.groups id g else s.groups }
    go true = refl
    go false = refl
lifted-group s me id declaration before after memory g (inr is) = rw is (go (nat_lt id 8))
  where
    go : (b : Bool) → with_parts s me (part_numbers me (if b then GroupAndMemory id else Alone)) (record (with_accessed_memory (if b then GroupAndMemory id else Alone) (parts_of s before (part_numbers me (if b then GroupAndMemory id else Alone))) memory) {
      posts = after;
      group = Some g;
    })
        ≡ record s { posts = slice_set s.posts me after; memories = memories_at (if b then GroupAndMemory id else Alone) me memory s.memories; groups = if b then slice_set s.groups id g else s.groups }
    go true = refl
    go false = refl

-- one that wrote none
pub lifted-unwritten : (s : State) (me id : ℕ) (declaration : DeclaredFootprint) (before after : Posts) (g : groups.Group) → IsOnGroup declaration id
    → with_parts s me (part_numbers me (footprint_of s.limits.ranks me declaration)) (record (parts_of s before (part_numbers me (footprint_of s.limits.ranks me declaration))) { posts = after; group = Some g })
    ≡ record s { posts = slice_set s.posts me after; groups = with_group_at s.groups id g }
lifted-unwritten s me id declaration before after g (inl is) = rw is (go (nat_lt id 8))
  where
    go : (b : Bool) → with_parts s me (part_numbers me (if b then Group id else Alone)) (record (parts_of s before (part_numbers me (if b then Group id else Alone))) { posts = after; group = Some g })
        ≡ record s { posts = slice_set s.posts me after; groups = if b then slice_set s.groups id g else s.groups }
    go true = refl
    go false = refl
lifted-unwritten s me id declaration before after g (inr is) = rw is (go (nat_lt id 8))
  where
    go : (b : Bool) → with_parts s me (part_numbers me (if b then GroupAndMemory id else Alone)) (record (parts_of s before (part_numbers me (if b then GroupAndMemory id else Alone))) { posts = after; group = Some g })
        ≡ record s { posts = slice_set s.posts me after; groups = if b then slice_set s.groups id g else s.groups }
    go true = ap (λ (x : List Memory). record s { posts = slice_set s.posts me after; memories = x; groups = slice_set s.groups id g }) (part-same s.memories (Some me))
    go false = refl

-- the step of each
pub record IsCompletedStep (s t : State) (c : CallerId) (id : ℕ) (call : Call) (reply : Reply) (posts : Posts) (after : PostsAndGroup) : Type 0 where
  pub posts_there : slice_get s.posts c.rank ≡ Some posts
  pub is : IsCompleted s.limits c.rank posts (group_in s id) c.thread id call reply after
  pub leaves : t ≡ record s { posts = slice_set s.posts c.rank after.posts; groups = with_group_at s.groups id after.group }

pub step-completed : (s t : State) (c : CallerId) (id : ℕ) (call : Call) (reply : Reply) → (row_of call).group ≡ Some id → step s (Called c call reply) ≡ Ok t
    → (posts : Posts) × (after : PostsAndGroup) × IsCompletedStep s t c id call reply posts after
step-completed s t c id call reply named h =
    found_then (slice_get s.posts c.rank) whys.Caller _ t h (λ posts hp h1.
    bind_then (on_parts s.limits footprint (Called c call reply) (parts_of s posts (part_numbers c.rank footprint))) _ t h1 (λ parts hl0 h2.
    let hl : completed_on s.limits c id call reply (parts_of s posts (part_numbers c.rank footprint)) ≡ Ok parts = rw named at hl0 in
    bind_then (completed s.limits c.rank posts (group_or_none (parts_of s posts (part_numbers c.rank footprint)).group) c.thread id call reply) _ parts hl (λ after ha h3.
    let on = collective-footprint call id named in
    let state : t ≡ with_parts s c.rank (part_numbers c.rank footprint) parts = sym (same_Ok _ _ h2) in (
      posts,
      after,
      record {
        posts_there = hp;
        is = completed-ok s.limits c.rank posts (group_in s id) c.thread id call reply after
            (subst (λ (g : groups.Group). completed s.limits c.rank posts g c.thread id call reply ≡ Ok after) (group-on_memory s posts c.rank id (row_of call).footprint on) ha);
        leaves = state ∙ ap (with_parts s c.rank (part_numbers c.rank footprint)) (sym (same_Ok _ _ h3)) ∙ lifted-unwritten s c.rank id (row_of call).footprint posts after.posts after.group on;
      },
    ))))
  where
    footprint : Footprint
    footprint = footprint_of s.limits.ranks c.rank (row_of call).footprint

-- the memory that a join works on
abbrev pub joined-footprint : ℕ → ℕ → ℕ → Coll → Footprint
joined-footprint ranks me id coll = footprint_of ranks me (join_footprint id coll)

pub record IsJoinedStep (s t : State) (c : CallerId) (id : ℕ) (args : Args) (posts : Posts) (after : PostsAndGroup) : Type 0 where
  pub posts_there : slice_get s.posts c.rank ≡ Some posts
  pub is : IsJoined s.limits c.rank posts (group_in s id) c.thread id args after
  pub leaves : t ≡ record s {
    posts = slice_set s.posts c.rank after.posts;
    memories = memories_at (joined-footprint s.limits.ranks c.rank id args.coll) c.rank (made_memory s.limits posts (memory_at (joined-footprint s.limits.ranks c.rank id args.coll) c.rank s.memories) args.coll) s.memories;
    groups = with_group_at s.groups id after.group;
  }

pub step-joined : (s t : State) (c : CallerId) (id : ℕ) (args : Args) → step s (Joined c id args) ≡ Ok t
    → (posts : Posts) × (after : PostsAndGroup) × IsJoinedStep s t c id args posts after
step-joined s t c id args h =
    found_then (slice_get s.posts c.rank) whys.Caller _ t h (λ posts hp h1.
    bind_then (on_parts s.limits footprint (Joined c id args) (parts_of s posts (part_numbers c.rank footprint))) _ t h1 (λ parts hl h2.
    bind_then (joined s.limits c.rank posts (group_or_none (parts_of s posts (part_numbers c.rank footprint)).group) c.thread id args) _ parts hl (λ after ha h3.
    let on = join-footprint id args.coll in
    let state : t ≡ with_parts s c.rank (part_numbers c.rank footprint) parts = sym (same_Ok _ _ h2) in
    let memory = made_memory s.limits posts (accessed_memory footprint (parts_of s posts (part_numbers c.rank footprint))) args.coll in (
      posts,
      after,
      record {
        posts_there = hp;
        is = joined-ok s.limits c.rank posts (group_in s id) c.thread id args after
            (subst (λ (g : groups.Group). joined s.limits c.rank posts g c.thread id args ≡ Ok after) (group-on_memory s posts c.rank id (join_footprint id args.coll) on) ha);
        leaves = state ∙ ap (with_parts s c.rank (part_numbers c.rank footprint)) (sym (same_Ok _ _ h3)) ∙ lifted-group s c.rank id (join_footprint id args.coll) posts after.posts memory after.group on
            ∙ ap (λ (m : Memory). record s {
              posts = slice_set s.posts c.rank after.posts;
              memories = memories_at footprint c.rank (made_memory s.limits posts m args.coll) s.memories;
              groups = with_group_at s.groups id after.group;
            }) (on_memory-at s posts c.rank footprint);
      },
    ))))
  where
    footprint : Footprint
    footprint = joined-footprint s.limits.ranks c.rank id args.coll
