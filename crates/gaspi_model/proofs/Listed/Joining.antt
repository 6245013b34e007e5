-- Joins that may come next, and what a join leaves to its caller.
use Rattle.std.proofs.Common.{◌≡◌, ℕ, ◌+◌, ◌<◌, ◌≤◌, Bool, true, false, ◌&&◌, nat_lt, List, length, Option, None, Some, Ok, refl, sym, ap, ◌∙◌, subst, arith, if◌then◌else◌, IsOk}
use Rattle.std.specs.List.{slice_get}
use Rattle.std.proofs.lemmas.Bool.{le-leb, eq-eqb}
use Rattle.gaspi_types.specs.CallRows.{row_of, need_of}
use Rattle.gaspi_types.specs.Checks.{◌>>=◌}
use Rattle.gaspi_types.specs.Collectives.{same_args}
use Rattle.gaspi_types.specs.Replies.{coll_fields}
use Rattle.gaspi_types.specs.Tables.{item_at}
use Rattle.gaspi_types.specs.Footprints.{footprint_of}
use Rattle.gaspi_types.specs.declared.calls.Call.{Call}
use Rattle.gaspi_types.specs.declared.calls.Call.TheVariants as calls
use Rattle.gaspi_types.specs.declared.collectives.Coll.{Coll}
use Rattle.gaspi_types.specs.declared.collectives.Coll.TheVariants as colls
use Rattle.gaspi_types.specs.declared.events.Event.TheVariants.{Joined}
use Rattle.gaspi_types.specs.declared.groups.Args.{Args}
use Rattle.gaspi_types.specs.declared.groups.Group.{Group}
use Rattle.gaspi_types.specs.declared.groups.Handle.{Handle}
use Rattle.gaspi_types.specs.declared.replies.Ready.{Ready}
use Rattle.gaspi_types.specs.declared.replies.Ready.TheVariants as ready
use Rattle.gaspi_types.specs.declared.shapes.CallerId.{CallerId}
use Rattle.gaspi_model.specs.CollectiveCalls.{plain_args, args_of, joining_call, collective_answer, is_join_of, is_joining, made_memory, made_posts, joined_posts}
use Rattle.gaspi_model.specs.Parts.{Parts, group_or_none, parts_of, with_parts, part_numbers, accessed_memory, with_accessed_memory}
use Rattle.gaspi_model.specs.Posting.{counted}
use Rattle.gaspi_model.specs.Sound.{IsSound}
use Rattle.gaspi_model.specs.State.{owed, thread_at, is_running}
use Rattle.gaspi_model.specs.Step.{step, PostsAndGroup, joined, join_footprint, group_in, answer_in, is_active, is_pending, is_pending_of, used_room}
use Rattle.gaspi_model.specs.declared.states.Posts.{Posts}
use Rattle.gaspi_model.specs.declared.states.State.{State}
use Rattle.gaspi_types.proofs.Items.{slice_get-set_same}
use Rattle.gaspi_model.proofs.CollectiveFinds.{MayJoin, join-found}
use Rattle.gaspi_model.proofs.GroupSteps.{join-footprint, group-on_memory, step-joined}
use Rattle.gaspi_model.proofs.Listed.Enabled.{pointwise-refl, same_numbers-refl, running-there, active-posts, ok-then, needs-one}
use Rattle.gaspi_model.proofs.CollectivePosts.{on_group-joined}
use Rattle.gaspi_model.proofs.Sound.Completions.{group-there, staged-there}
use Rattle.gaspi_model.proofs.Sound.GroupPosts.{owed-same}
use Rattle.gaspi_model.proofs.Sound.GroupTables.{entry-set_same}

pub same_args-refl : (a : Args) → same_args a a ≡ true
same_args-refl a = rw (pointwise-refl (coll_fields a.coll)) (same_numbers-refl a.values)

-- a collective that may join with arguments is the one that these say
pub join-call : (members id : ℕ) (call : Call) (args : Args) → args_of members call ≡ Some args → (row_of call).group ≡ Some id → joining_call id args ≡ call
join-call members id (calls.Commit x) args is named =
    let same : plain_args (colls.Commit members) ≡ args = cc in
    let here : x.group ≡ id = cc in
    ap (joining_call id) (sym same) ∙ ap (λ (n : ℕ). calls.Commit (record { group = n })) (sym here)
join-call members id (calls.Barrier x) args is named =
    let same : plain_args colls.Barrier ≡ args = cc in
    let here : x.group ≡ id = cc in
    ap (joining_call id) (sym same) ∙ ap (λ (n : ℕ). calls.Barrier (record { group = n })) (sym here)
join-call members id (calls.Allreduce x) args is named =
    let same : ◌≡◌ {A = Args} (record { coll = colls.Allreduce x.op x.values.num_type (length x.values.items); values = x.values }) args = cc in
    let here : x.group ≡ id = cc in
    ap (joining_call id) (sym same) ∙ ap (λ (n : ℕ). calls.Allreduce (record { group = n; op = x.op; values = x.values })) (sym here)
join-call members id (calls.Create x) args is named = go (nat_lt x.seg 4294967296 && nat_lt x.size 4294967296) is
  where
    go : (b : Bool) → (if b then Some (plain_args (colls.Create x.seg x.size)) else None) ≡ Some args → joining_call id args ≡ calls.Create x
    go false h = absurd (let no : ⊥ = cc in no)
    go true h =
        let same : plain_args (colls.Create x.seg x.size) ≡ args = cc in
        let here : x.group ≡ id = cc in
        ap (joining_call id) (sym same) ∙ ap (λ (n : ℕ). calls.Create (record { seg = x.seg; size = x.size; group = n })) (sym here)
join-call members id other args is named = absurd (let no : ⊥ = cc in no)

-- what an answer says of a collective in a rank's posts
in-posts : (s : State) (rank thread id : ℕ) (call : Call) (posts : Posts) (found : Ready) → slice_get s.posts rank ≡ Some posts → (row_of call).group ≡ Some id → answer_in s rank thread call ≡ Some found
    → collective_answer posts (group_in s id) rank thread id call ≡ found
in-posts s rank thread id call posts found hp named is =
    let answers : ◌≡◌ {A = Option Ready} (Some (collective_answer posts (group_in s id) rank thread id call)) (Some found) = rw (hp, named) at is in
    cc

may-join : (posts : Posts) (g : Group) (rank thread id : ℕ) (call : Call) (args : Args) → collective_answer posts g rank thread id call ≡ ready.Join args → (h : Handle) × MayJoin posts g rank thread id call args h
may-join posts g rank thread id call args is =
    join-found posts g rank thread id call args (ap (λ (r : Ready). is_join_of r args) is ∙ same_args-refl args)

-- the arguments with which a call may join are its own
pub joins-itself : (s : State) (rank thread id : ℕ) (call : Call) (args : Args) → (row_of call).group ≡ Some id → answer_in s rank thread call ≡ Some (ready.Join args) → joining_call id args ≡ call
joins-itself s rank thread id call args named is = go (slice_get s.posts rank) refl
  where
    go : (o : Option Posts) → slice_get s.posts rank ≡ o → joining_call id args ≡ call
    go None at = absurd (let none : ◌≡◌ {A = Option Ready} None (Some (ready.Join args)) = rw at at is in let no : ⊥ = cc in no)
    go (Some posts) at =
        let may = may-join posts (group_in s id) rank thread id call args (in-posts s rank thread id call posts (ready.Join args) at named is) in
        join-call may.0.members id call args may.1.args_is named

-- a join of an active caller is a step where there is room for it
pub join-is_step : (s : State) (rank thread id : ℕ) (call : Call) (args : Args) → IsSound s → is_active s rank thread ≡ true → used_room s rank + need_of call (is_pending s rank thread call) false ≤ s.limits.events
    → (row_of call).group ≡ Some id → answer_in s rank thread call ≡ Some (ready.Join args) → IsOk (step s (Joined (record { rank = rank; thread = thread }) id args))
join-is_step s rank thread id call args sound active room named is =
    let p = active-posts s rank thread active in
    with-posts p.0 p.1 p.2
  where
    with-posts : (posts : Posts) → slice_get s.posts rank ≡ Some posts → is_running (thread_at posts thread) ≡ true → IsOk (step s (Joined (record { rank = rank; thread = thread }) id args))
    with-posts posts hp running =
        let footprint = footprint_of s.limits.ranks rank (join_footprint id args.coll) in
        let parts = parts_of s posts (part_numbers rank footprint) in
        let group = group-on_memory s posts rank id (join_footprint id args.coll) (join-footprint id args.coll) in
        let one = needs-one call id (is_pending s rank thread call) named in
        let taken : used_room s rank ≡ posts.events + owed posts = rw hp refl in
        let fits = le-leb (posts.events + owed posts + 1) s.limits.events (omega arith) in
        let there = running-there (thread_at posts thread) running in
        let answer = in-posts s rank thread id call posts (ready.Join args) hp named is in
        let itself = joins-itself s rank thread id call args named is in
        let joins : is_join_of (collective_answer posts (group_or_none parts.group) rank thread id (joining_call id args)) args ≡ true =
        ap (λ (g : Group). is_join_of (collective_answer posts g rank thread id (joining_call id args)) args) group
        ∙ ap (λ (x : Call). is_join_of (collective_answer posts (group_in s id) rank thread id x) args) itself ∙ ap (λ (r : Ready). is_join_of r args) answer ∙ same_args-refl args in
        let done : IsOk (joined s.limits rank posts (group_or_none parts.group) thread id args) = rw (there, joins, fits) refl in
        let leave = λ (after : PostsAndGroup). (let left : Parts = record (with_accessed_memory footprint parts (made_memory s.limits posts (accessed_memory footprint parts) args.coll)) { posts = after.posts; group = Some after.group } in left) in
        rw hp (ok-then (joined s.limits rank posts (group_or_none parts.group) thread id args >>= λ after. Ok (leave after)) (with_parts s rank (part_numbers rank footprint))
        (ok-then (joined s.limits rank posts (group_or_none parts.group) thread id args) leave done))

-- A collective that has joined is pending for its caller, and its rank has taken room for one event more.
pub joined-pends : (s t : State) (c : CallerId) (call : Call) (id : ℕ) (args : Args) → IsSound s → (row_of call).group ≡ Some id → step s (Joined c id args) ≡ Ok t
    → (is_pending t c.rank c.thread call ≡ true) × (used_room t c.rank ≡ used_room s c.rank + 1)
joined-pends s t c call id args sound named h =
    let made = step-joined s t c id args h in
    let m = made.2 in
    let posts = made.0 in
    let found = join-found posts (group_in s id) c.rank c.thread id (joining_call id args) args m.is.joins in
    let there = group-there s posts c.rank id found.0 sound m.posts_there (staged-there posts.groups c.rank id (joining_call id args) found.0 found.1.staged) in
    let after = counted (joined_posts posts c.thread id args) in
    let left : made.1.posts ≡ after = rw m.is.leaves refl in
    let now : slice_get t.posts c.rank ≡ Some after = ap (λ (x : State). slice_get x.posts c.rank) m.leaves ∙ slice_get-set_same s.posts c.rank posts made.1.posts m.posts_there ∙ ap (λ (p : Posts). Some p) left in
    let met = on_group-joined s t c id args h in
    let same_posts : met.0 ≡ posts = (let some : ◌≡◌ {A = Option Posts} (Some met.0) (Some posts) = sym met.2.there ∙ m.posts_there in cc) in
    let same_after : met.1 ≡ after = (let some : ◌≡◌ {A = Option Posts} (Some met.1) (Some after) =
    sym (ap (λ (all : List Posts). slice_get all c.rank) met.2.leaves ∙ slice_get-set_same s.posts c.rank met.0 met.1 met.2.there) ∙ now in cc) in (
      pends after posts there.2.within now (same-pending posts args) (sound.posts c.rank posts m.posts_there).tables.pending,
      taken after posts now m.posts_there (subst (λ (p : Posts). p.events ≡ posts.events + 1) same_after (subst (λ (p : Posts). met.1.events ≡ p.events + 1) same_posts met.2.keeps.events))
          (owed-same posts after (subst (λ (p : Posts). p.queues ≡ posts.queues) same_after (subst (λ (p : Posts). met.1.queues ≡ p.queues) same_posts met.2.keeps.queues))
          (subst (λ (p : Posts). p.threads ≡ posts.threads) same_after (subst (λ (p : Posts). met.1.threads ≡ p.threads) same_posts met.2.keeps.threads))),
    )
  where
    same-pending : (posts : Posts) (a : Args) → (made_posts posts a.coll).pending ≡ posts.pending
    same-pending posts a = go a.coll
      where
        go : (coll : Coll) → (made_posts posts coll).pending ≡ posts.pending
        go colls.Barrier = refl
        go (colls.Allreduce op t n) = refl
        go (colls.Create seg size) = refl
        go (colls.Commit mask) = refl

    pends : (after posts : Posts) → id < 8 → slice_get t.posts c.rank ≡ Some (counted (joined_posts posts c.thread id args)) → (made_posts posts args.coll).pending ≡ posts.pending → length posts.pending ≡ 8
        → is_pending t c.rank c.thread call ≡ true
    pends after posts within now same eight =
        let there = entry-set_same (made_posts posts args.coll).pending id (Some (record { thread = c.thread; args = args })) (let many = ap length same in omega arith) in
        rw (now, named, there) (eq-eqb c.thread c.thread refl)

    taken : (after posts : Posts) → slice_get t.posts c.rank ≡ Some after → slice_get s.posts c.rank ≡ Some posts → after.events ≡ posts.events + 1 → owed after ≡ owed posts → used_room t c.rank ≡ used_room s c.rank + 1
    taken after posts now before events owes = rw (now, before) (omega arith)

-- a collective that is pending for its caller does not join again
pub pending-joins-not : (s : State) (rank thread : ℕ) (call : Call) (found : Ready) → is_pending s rank thread call ≡ true → answer_in s rank thread call ≡ Some found → is_joining found ≡ false
pending-joins-not s rank thread call found pending is = go (slice_get s.posts rank) refl (row_of call).group refl
  where
    joins-not : (posts : Posts) (id : ℕ) (r : Ready) → is_pending_of thread (item_at posts.pending id) ≡ true → collective_answer posts (group_in s id) rank thread id call ≡ r → is_joining r ≡ false
    joins-not posts id (ready.Reply reply) pends answer = refl
    joins-not posts id ready.NotReady pends answer = refl
    joins-not posts id (ready.Join args) pends answer =
        let may = may-join posts (group_in s id) rank thread id call args answer in
        absurd (let never : false ≡ true = ap (is_pending_of thread) (sym may.1.none) ∙ pends in let no : ⊥ = cc in no)

    go : (o : Option Posts) → slice_get s.posts rank ≡ o → (g : Option ℕ) → (row_of call).group ≡ g → is_joining found ≡ false
    go None at g named = absurd (let none : ◌≡◌ {A = Option Ready} None (Some found) = rw at at is in let no : ⊥ = cc in no)
    go (Some posts) at None named = absurd (let never : false ≡ true = rw (at, named) at pending in let no : ⊥ = cc in no)
    go (Some posts) at (Some id) named = joins-not posts id found (rw (at, named) at pending) (in-posts s rank thread id call posts found at named is)
