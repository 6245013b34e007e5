-- An event on a group keeps a state sound.
use Rattle.std.proofs.Common.{◌≡◌, ℕ, ◌+◌, ◌-◌, ◌≤◌, Bool, true, false, nat_le, List, length, Option, None, Some, Ok, refl, sym, ap, ◌∙◌, subst, arith, ◌⊎◌, inl, inr}
use Rattle.std.specs.List.{slice_get, slice_set, sum_by}
use Rattle.std.proofs.lemmas.Bool.{leb-true}
use Rattle.std.proofs.lemmas.List.{length-set}
use Rattle.gaspi_types.specs.CallRows.{row_of}
use Rattle.gaspi_types.specs.Collectives.{with_joined, with_completed}
use Rattle.gaspi_types.specs.Ranges.{is_between}
use Rattle.gaspi_types.specs.Replies.{is_idle}
use Rattle.gaspi_types.specs.World.{are_limits}
use Rattle.gaspi_types.specs.declared.calls.Call.{Call}
use Rattle.gaspi_types.specs.declared.calls.Call.TheVariants as calls
use Rattle.gaspi_types.specs.declared.collectives.Coll.{Coll}
use Rattle.gaspi_types.specs.declared.collectives.Coll.TheVariants as colls
use Rattle.gaspi_types.specs.declared.events.Event.TheVariants.{Called, Joined}
use Rattle.gaspi_types.specs.declared.groups.Args.{Args}
use Rattle.gaspi_types.specs.declared.replies.Reply.{Reply}
use Rattle.gaspi_types.specs.declared.replies.Reply.TheVariants as replies
use Rattle.gaspi_types.specs.declared.shapes.CallerId.{CallerId}
use Rattle.gaspi_types.specs.declared.shapes.Limits.{Limits}
use Rattle.gaspi_types.specs.NumberTypes.{TypedNumbers}
use Rattle.gaspi_model.specs.Changes.{IsOnlyCounted}
use Rattle.gaspi_model.specs.Coherence.{Tables, tables_of, all_tables, AreWithinSegments, AgreesOnSegments}
use Rattle.gaspi_model.specs.CollectiveCalls.{segment_checks, joining_call, made_posts, made_memory, contribution_of, joined_posts, completed_posts}
use Rattle.gaspi_model.specs.Posting.{counted}
use Rattle.gaspi_model.specs.Contributions.{AreSoundCollectives}
use Rattle.gaspi_model.specs.Sound.{AreSoundGroups, IsSound, IsSoundPosts, events_left}
use Rattle.gaspi_model.specs.State.{owed}
use Rattle.gaspi_model.specs.Step.{step}
use Rattle.gaspi_model.specs.declared.states.Posts.{Posts}
use Rattle.gaspi_model.specs.declared.states.Memory.{Memory}
use Rattle.gaspi_model.specs.declared.states.State.{State}
use Rattle.gaspi_types.proofs.Chains.{both}
use Rattle.gaspi_types.proofs.Items.{slice_get-set, slice_get-set_same, sum_by-changed}
use Rattle.gaspi_model.proofs.GroupEffects.{done-step, join-step}
use Rattle.gaspi_model.proofs.GroupSteps.{step-completed}
use Rattle.gaspi_model.proofs.IdleSteps.{only-counted}
use Rattle.gaspi_model.proofs.CollectivePosts.{IsMet, joined-leaves, completed-leaves, counted-keeps}
use Rattle.gaspi_model.proofs.Sound.CallTables.{KeepsFit, KeepsTables, fits-itself, plain-fits, plain-tables}
use Rattle.gaspi_model.proofs.Sound.CoherentSteps.{keeps-coherent, posts-from, keeps-itself, own-from, changed-own, changed-slots, tables-slots, mine-there, idle-from}
use Rattle.gaspi_model.proofs.Sound.Completions.{makes-known, done-groups, completion-meets}
use Rattle.gaspi_model.proofs.Sound.Contributions.{collectives-meet}
use Rattle.gaspi_model.proofs.Sound.FittingEntries.{MayPost}
use Rattle.gaspi_model.proofs.Sound.GroupPosts.{on_group-sound, completed-tables, completed-own, completed-fits, joined-tables, joined-numbered, joined-generations, joined-groups}
use Rattle.gaspi_model.proofs.Sound.Inboxes.{inboxes-set}
use Rattle.gaspi_model.proofs.Sound.Joins.{join-meets}
use Rattle.gaspi_model.proofs.Sound.KeptGroups.{idle-collectives}
use Rattle.gaspi_model.proofs.Sound.Layouts.{same-layout}
use Rattle.gaspi_model.proofs.Sound.TableLengths.{counted-tables}

-- the posts of all ranks, one of them replaced
pub posts-sound : (limits : Limits) (table : List Posts) (rank : ℕ) (after : Posts) → IsSoundPosts limits after
    → ((r : ℕ) (p : Posts) → slice_get table r ≡ Some p → IsSoundPosts limits p)
    → (r : ℕ) (p : Posts) → slice_get (slice_set table rank after) r ≡ Some p → IsSoundPosts limits p
posts-sound limits table rank after sound all r p h = parts (slice_get-set table rank r after p h)
  where
    parts : ((r ≡ rank) × (p ≡ after)) ⊎ (slice_get table r ≡ Some p) → IsSoundPosts limits p
    parts (inl here) = rw here.1 sound
    parts (inr there) = all r p there

-- A refusal or a timeout.
idle-posts : (limits : Limits) (posts : Posts) → IsSoundPosts limits posts → nat_le (posts.events + owed posts + 1) limits.events ≡ true → IsSoundPosts limits (counted posts)
idle-posts limits posts sound room =
    on_group-sound limits posts (counted posts) sound (record { queues = refl; corrupt = refl; threads = refl; events = refl; next = refl }) room (counted-tables limits posts sound.tables) sound.numbered
    (λ segment n at. (let few = sound.generations segment n at in omega arith)) sound.groups

idle-sound : (s t : State) (rank : ℕ) → IsSound s → (only : IsOnlyCounted s t rank) → nat_le (only.posts.events + owed only.posts + 1) s.limits.events ≡ true → IsSound t
idle-sound s t rank sound only room =
    let collectives = idle-collectives s t rank sound only in
    let coherent = keeps-coherent s t sound.coherent (idle-from s t rank sound only) in
    subst IsSound (sym only.after) (record {
      limits = sound.limits;
      ranks = length-set s.posts rank (counted only.posts) ∙ sound.ranks;
      memories = sound.memories;
      posts = posts-sound s.limits s.posts rank (counted only.posts) (idle-posts s.limits only.posts (sound.posts rank only.posts only.there) room) sound.posts;
      inboxes = sound.inboxes;
      coherent = subst AgreesOnSegments only.after coherent;
      collectives = subst AreSoundCollectives only.after collectives;
    })

-- A collective that is done.
done-sound : (s t : State) (c : CallerId) (id : ℕ) (call : Call) (reply : Reply) → (row_of call).group ≡ Some id → is_idle reply ≡ false → IsSound s → step s (Called c call reply) ≡ Ok t → IsSound t
done-sound s t c id call reply named awake sound h =
    let made = done-step s t c id call reply named awake sound h in
    let m = made.5 in
    let posts = made.0 in
    let g = made.1 in
    let is = m.there in
    let done = m.done in
    let after = counted (completed_posts posts g c.rank id call) in
    let keeps = counted-keeps posts (completed_posts posts g c.rank id call) (completed-leaves posts g c.rank id call) in
    let mine = sound.posts c.rank posts m.posts_there in
    let own = completed-own posts g c.rank id call in
    let fits = completed-fits s.limits.notes (all_tables s.posts) c.rank posts g id call (makes-known s posts g made.2 c.rank c.thread id call reply made.3 made.4 sound m.posts_there is done)
    (sound.coherent.known c.rank posts m.posts_there) (sound.coherent.entries c.rank posts m.posts_there) keeps.queues in
    let new_posts = on_group-sound s.limits posts after mine keeps m.room (completed-tables s.limits posts g c.rank id call mine.tables)
    (ap (λ (x : Tables). length x.next) own ∙ mine.numbered)
    (λ segment n at. (let few = mine.generations segment n (ap (λ (x : Tables). slice_get x.next segment) (sym own) ∙ at) in omega arith)) (done-groups s.limits.ranks posts g c.rank id call made.3 done.staged mine.groups) in
    subst IsSound (sym m.leaves) (record {
      limits = sound.limits;
      ranks = length-set s.posts c.rank after ∙ sound.ranks;
      memories = sound.memories;
      posts = posts-sound s.limits s.posts c.rank after new_posts sound.posts;
      inboxes = sound.inboxes;
      coherent = keeps-coherent s _ sound.coherent (record {
        limits = refl;
        posts = posts-from s.limits.notes s.posts c.rank posts after m.posts_there fits (keeps-itself s sound.coherent);
        own = λ rank p memory hp hm.
            let before = own-from s.posts c.rank posts after m.posts_there (ap (λ (x : Tables). x.own) own) rank p hp in
            before.2 ∙ sound.coherent.own rank before.0 memory before.1 hm;
        slots = sound.coherent.slots;
      });
      collectives = collectives-meet s _ c.rank id posts after g (with_completed g c.rank) sound.collectives
          (completion-meets s _ posts g made.2 c.rank c.thread id call reply made.3 made.4 sound m.posts_there is done refl refl refl keeps);
    })

pub steps-completed : (s t : State) (c : CallerId) (id : ℕ) (call : Call) (reply : Reply) → (row_of call).group ≡ Some id → IsSound s → step s (Called c call reply) ≡ Ok t → IsSound t
steps-completed s t c id call reply named sound h = go (is_idle reply) refl
  where
    go : (b : Bool) → is_idle reply ≡ b → IsSound t
    go false awake = done-sound s t c id call reply named awake sound h
    go true idle =
        let made = step-completed s t c id call reply named h in
        let only = only-counted s t c call reply idle h in
        let same : made.0 ≡ only.posts = (let some : ◌≡◌ {A = Option Posts} (Some made.0) (Some only.posts) = sym made.2.posts_there ∙ only.there in cc) in
        idle-sound s t c.rank sound only (subst (λ (p : Posts). nat_le (p.events + owed p + 1) s.limits.events ≡ true) same made.2.is.room)

-- A join.

pub ranks-few : (limits : Limits) → are_limits limits ≡ true → limits.ranks ≤ 16
ranks-few limits h =
    let ranks = (both (is_between 1 16 limits.ranks) _ h).0 in
    leb-true limits.ranks 16 (both (nat_le 1 limits.ranks) (nat_le limits.ranks 16) ranks).1

join-tables : (limits : Limits) (me : ℕ) (posts : Posts) (memory : Memory) (coll : Coll) → KeepsTables limits.notes me me posts (made_posts posts coll) memory (made_memory limits posts memory coll)
join-tables limits me posts memory colls.Barrier = inl (refl, same-layout memory)
join-tables limits me posts memory (colls.Allreduce op t n) = inl (refl, same-layout memory)
join-tables limits me posts memory (colls.Commit mask) = inl (refl, same-layout memory)
join-tables limits me posts memory (colls.Create seg size) = plain-tables limits me posts None memory 0 (calls.Alloc (record { seg = seg; size = size }))

join-inbox : (limits : Limits) (posts : Posts) (memory : Memory) (coll : Coll) → (made_memory limits posts memory coll).inbox ≡ memory.inbox
join-inbox limits posts memory colls.Barrier = refl
join-inbox limits posts memory (colls.Allreduce op t n) = refl
join-inbox limits posts memory (colls.Commit mask) = refl
join-inbox limits posts memory (colls.Create seg size) = refl

join-fits : (limits : Limits) (tables : List Tables) (me : ℕ) (posts : Posts) (memory : Memory) (id : ℕ) (coll : Coll) (values : TypedNumbers) → MayPost tables me (tables_of posts) posts.segments.known
    → length posts.segments.next_generations ≡ 32 → AreWithinSegments limits.notes tables me posts.queues → segment_checks posts (joining_call id (record { coll = coll; values = values })) ≡ Ok tt
    → KeepsFit limits.notes tables me posts (made_posts posts coll)
join-fits limits tables me posts memory id colls.Barrier values may many all free = fits-itself limits.notes tables me posts may.knows all
join-fits limits tables me posts memory id (colls.Allreduce op t n) values may many all free = fits-itself limits.notes tables me posts may.knows all
join-fits limits tables me posts memory id (colls.Commit mask) values may many all free = fits-itself limits.notes tables me posts may.knows all
join-fits limits tables me posts memory id (colls.Create seg size) values may many all free =
    plain-fits limits tables me posts memory 0 (calls.Alloc (record { seg = seg; size = size })) replies.Done may many all (rw free refl)

pending-fits : (notes : ℕ) (tables : List Tables) (me thread id : ℕ) (posts : Posts) (args : Args) → KeepsFit notes tables me posts (made_posts posts args.coll) → KeepsFit notes tables me posts (counted (joined_posts posts thread id args))
pending-fits notes tables me thread id posts args keeps = record { succeeds = keeps.succeeds; known = keeps.known; entries = keeps.entries; owns = keeps.owns }

pub steps-joined : (s t : State) (c : CallerId) (id : ℕ) (args : Args) → IsSound s → step s (Joined c id args) ≡ Ok t → IsSound t
steps-joined s t c id args sound h =
    let made = join-step s t c id args sound h in
    let m = made.5 in
    let posts = made.0 in
    let g = made.1 in
    let memory = made.3 in
    let is = m.there in
    let may = m.may in
    let after = counted (joined_posts posts c.thread id args) in
    let g' = with_joined g c.rank (contribution_of posts args) in
    let new = made_memory s.limits posts memory args.coll in
    let keeps = counted-keeps posts (joined_posts posts c.thread id args) (joined-leaves posts c.thread id args) in
    let mine = sound.posts c.rank posts m.posts_there in
    let coherent = sound.coherent in
    let post_may : MayPost (all_tables s.posts) c.rank (tables_of posts) posts.segments.known = record {
      here = mine-there s.posts c.rank posts m.posts_there;
      knows = coherent.known c.rank posts m.posts_there;
      made = coherent.made c.rank posts m.posts_there;
    } in
    let fits = pending-fits s.limits.notes (all_tables s.posts) c.rank c.thread id posts args
    (join-fits s.limits (all_tables s.posts) c.rank posts memory id args.coll args.values post_may mine.numbered (coherent.entries c.rank posts m.posts_there) may.free) in
    let kept = join-tables s.limits c.rank posts memory args.coll in
    let new_posts = on_group-sound s.limits posts after mine keeps m.room (joined-tables s.limits posts c.thread id args mine.tables)
    (joined-numbered posts args.coll ∙ mine.numbered) (joined-generations posts args.coll mine.generations)
    (subst (AreSoundGroups s.limits.ranks) (sym (joined-groups posts args.coll)) mine.groups) in
    let inbox = sound.inboxes c.rank memory m.memory_there in
    subst IsSound (sym m.leaves) (record {
      limits = sound.limits;
      ranks = length-set s.posts c.rank after ∙ sound.ranks;
      memories = length-set s.memories c.rank new ∙ sound.memories;
      posts = posts-sound s.limits s.posts c.rank after new_posts sound.posts;
      inboxes = inboxes-set s.limits s.memories c.rank new sound.inboxes (rw (join-inbox s.limits posts memory args.coll) inbox);
      coherent = keeps-coherent s _ coherent (record {
        limits = refl;
        posts = posts-from s.limits.notes s.posts c.rank posts after m.posts_there fits (keeps-itself s coherent);
        own = changed-own s.posts s.memories s.limits.notes c.rank c.rank posts after memory new coherent.own m.posts_there m.memory_there kept;
        slots = changed-slots s.memories s.limits.notes c.rank new coherent.slots (tables-slots s.limits.notes c.rank c.rank posts (made_posts posts args.coll) memory new kept (coherent.slots c.rank memory m.memory_there));
      });
      collectives = collectives-meet s _ c.rank id posts after g g' sound.collectives
          (join-meets s _ posts g made.2 c.rank c.thread id args made.4 (ranks-few s.limits sound.limits) sound m.posts_there is may refl refl refl keeps);
    })

-- Each adds one to the events of its owner.
pub left-set : (limits : Limits) (table : List Posts) (rank : ℕ) (posts after : Posts) → slice_get table rank ≡ Some posts → after.events ≡ posts.events + 1 → after.events ≤ limits.events
    → sum_by (λ (p : Posts). limits.events - p.events) (slice_set table rank after) + 1 ≡ sum_by (λ (p : Posts). limits.events - p.events) table
left-set limits table rank posts after at more within =
    let sum = sum_by-changed (λ (p : Posts). limits.events - p.events) table rank posts after at in
    omega arith

pub counts-on_group : (s t : State) (me : ℕ) (posts after : Posts) → IsSound s → IsSound t → IsMet s t me posts after → events_left t + 1 ≡ events_left s
counts-on_group s t me posts after sound sound' met =
    let new = sound'.posts me after (ap (λ (all : List Posts). slice_get all me) met.leaves ∙ slice_get-set_same s.posts me posts after met.there) in
    let events : t.limits.events ≡ s.limits.events = ap (λ (l : Limits). l.events) met.limits in
    let left = left-set s.limits s.posts me posts after met.there met.keeps.events (let room = new.room in omega arith) in
    ap (λ (n : ℕ). n + 1) (ap (λ (all : List Posts). sum_by (λ (p : Posts). t.limits.events - p.events) all) met.leaves
    ∙ ap (λ (n : ℕ). sum_by (λ (p : Posts). n - p.events) (slice_set s.posts me after)) events) ∙ left
