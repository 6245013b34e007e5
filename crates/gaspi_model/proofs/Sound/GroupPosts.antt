-- The posts of a rank stay sound by an event on a group.
use Rattle.std.proofs.Common.{◌≡◌, ℕ, ◌+◌, ◌≤◌, Bool, true, false, ◌==◌, nat_le, List, [], ◌∷◌, length, Option, None, Some, refl, sym, ap, ◌∙◌, subst, arith, ◌⊎◌, inl, inr, if◌then◌else◌, count_by}
use Rattle.std.specs.List.{slice_get, slice_set, sum_by}
use Rattle.std.specs.Option.{option_map}
use Rattle.std.proofs.lemmas.Bool.{leb-true, eqb-true}
use Rattle.std.proofs.lemmas.List.{length-set}
use Rattle.gaspi_types.specs.Collectives.{round_segments}
use Rattle.gaspi_types.specs.Groups.{with_committed}
use Rattle.gaspi_types.specs.Queues.{queue_owed}
use Rattle.gaspi_types.specs.SegmentTables.{extent_in, next_generation}
use Rattle.gaspi_types.specs.Tables.{changed_at}
use Rattle.gaspi_types.specs.declared.calls.Call.{Call}
use Rattle.gaspi_types.specs.declared.calls.Call.TheVariants as calls
use Rattle.gaspi_types.specs.declared.collectives.Coll.{Coll}
use Rattle.gaspi_types.specs.declared.collectives.Coll.TheVariants as colls
use Rattle.gaspi_types.specs.declared.entries.Entry.{Entry}
use Rattle.gaspi_types.specs.declared.entries.Queue.{Queue}
use Rattle.gaspi_types.specs.declared.groups.Args.{Args}
use Rattle.gaspi_types.specs.declared.groups.Group.{Group}
use Rattle.gaspi_types.specs.declared.groups.MemberSegment.{MemberSegment}
use Rattle.gaspi_types.specs.declared.groups.PendingCollective.{PendingCollective}
use Rattle.gaspi_types.specs.declared.segments.Extent.{Extent}
use Rattle.gaspi_types.specs.declared.shapes.Limits.{Limits}
use Rattle.gaspi_model.specs.Coherence.{Tables, AreWithinSegments, Knows, tables_of}
use Rattle.gaspi_model.specs.CollectiveCalls.{with_made_known, posts_at_completion, completed_posts, made_posts, joined_posts, with_pending}
use Rattle.gaspi_model.specs.Contributions.{WasMadeSo}
use Rattle.gaspi_model.specs.Posting.{counted}
use Rattle.gaspi_model.specs.SegmentCalls.{with_own}
use Rattle.gaspi_model.specs.Sound.{HasTables, IsSoundPosts, IsSoundQueue, AreSoundGroups, AreRising}
use Rattle.gaspi_model.specs.State.{owed}
use Rattle.gaspi_model.specs.declared.states.Posts.{Posts}
use Rattle.gaspi_model.specs.declared.states.ThreadState.{ThreadState}
use Rattle.gaspi_model.specs.State.{is_running}
use Rattle.gaspi_types.proofs.Extents.{extent-set, generation-within}
use Rattle.gaspi_types.proofs.Items.{slice_get-set}
use Rattle.gaspi_model.proofs.CollectivePosts.{KeepsRank, made-known}
use Rattle.gaspi_model.proofs.Sound.CallTables.{KeepsFit}
use Rattle.gaspi_model.proofs.Sound.Successors.{Succeeds, succeeds-itself}
use Rattle.gaspi_model.proofs.Sound.TableLengths.{known-tables, regrouped-tables, counted-tables}
use Rattle.gaspi_model.proofs.Sound.Registered.{changed_at-get}

-- what is owed depends on the queues and the threads alone
pub owed-same : (posts after : Posts) → after.queues ≡ posts.queues → after.threads ≡ posts.threads → owed after ≡ owed posts
owed-same posts after queues threads =
    ap (λ (qs : List Queue). sum_by queue_owed qs + count_by is_running after.threads) queues
    ∙ ap (λ (ts : List ThreadState). sum_by queue_owed posts.queues + count_by is_running ts) threads

-- the posts after an event on a group
pub on_group-sound : (limits : Limits) (posts after : Posts) → IsSoundPosts limits posts → KeepsRank posts after → nat_le (posts.events + owed posts + 1) limits.events ≡ true → HasTables limits after
    → length after.segments.next_generations ≡ 32 → ((segment n : ℕ) → slice_get after.segments.next_generations segment ≡ Some n → n ≤ posts.events + 2)
    → AreSoundGroups limits.ranks after.groups → IsSoundPosts limits after
on_group-sound limits posts after sound keeps room tables numbered generations groups = record {
  tables = tables;
  lanes = subst (λ (qs : List Queue). (queue : ℕ) (q : Queue) → slice_get qs queue ≡ Some q → length q.lanes ≡ limits.ranks) (sym keeps.queues) sound.lanes;
  room = (let less = leb-true (posts.events + owed posts + 1) limits.events room in let owes = owed-same posts after keeps.queues keeps.threads in let events = keeps.events in omega arith);
  numbers = (let few = sound.numbers in let next = keeps.next in let events = keeps.events in omega arith);
  numbered = numbered;
  generations = λ segment n at. (let few = generations segment n at in let events = keeps.events in omega arith);
  rising = subst (λ (qs : List Queue). (queue : ℕ) (q : Queue) → slice_get qs queue ≡ Some q → (target : ℕ) (lane : List Entry) → slice_get q.lanes target ≡ Some lane → AreRising after.next lane) (sym keeps.queues)
      (subst (λ (next : ℕ). (queue : ℕ) (q : Queue) → slice_get posts.queues queue ≡ Some q → (target : ℕ) (lane : List Entry) → slice_get q.lanes target ≡ Some lane → AreRising next lane) (sym keeps.next) sound.rising);
  queues = subst (λ (qs : List Queue). (queue : ℕ) (q : Queue) → slice_get qs queue ≡ Some q → IsSoundQueue limits.depth q) (sym keeps.queues) sound.queues;
  groups = groups;
}

-- the tables with another pending
pending-tables : (limits : Limits) (posts : Posts) (id : ℕ) (pending : Option PendingCollective) → HasTables limits posts → HasTables limits (with_pending id pending posts)
pending-tables limits posts id pending has = record {
  queues = has.queues;
  corrupt = has.corrupt;
  own = has.own;
  known = has.known;
  known_segments = has.known_segments;
  threads = has.threads;
  pending = length-set posts.pending id pending ∙ has.pending;
}

made-tables : (limits : Limits) (seg size : ℕ) (made : List MemberSegment) (posts : Posts) → HasTables limits posts → HasTables limits (with_made_known seg size made posts)
made-tables limits seg size [] posts has = has
made-tables limits seg size (m ∷ made) posts has =
    made-tables limits seg size made _ (known-tables limits m.rank seg (Some (record { generation = m.generation; size = size })) posts has)

at_completion-tables : (limits : Limits) (group : Group) (me id : ℕ) (call : Call) (posts : Posts) → HasTables limits posts → HasTables limits (posts_at_completion group me id call posts)
at_completion-tables limits group me id (calls.Commit call) posts has = regrouped-tables limits posts (with_committed posts.groups id) has
at_completion-tables limits group me id (calls.Create call) posts has = made-tables limits call.seg call.size (round_segments group me) posts has
at_completion-tables limits group me id other posts has = has

pub completed-tables : (limits : Limits) (posts : Posts) (group : Group) (me id : ℕ) (call : Call) → HasTables limits posts → HasTables limits (counted (completed_posts posts group me id call))
completed-tables limits posts group me id call has =
    counted-tables limits _ (pending-tables limits (posts_at_completion group me id call posts) id None (at_completion-tables limits group me id call posts has))

-- a completion leaves the own segments and the generations
at_completion-own : (group : Group) (me id : ℕ) (call : Call) (posts : Posts) → tables_of (posts_at_completion group me id call posts) ≡ tables_of posts
at_completion-own group me id (calls.Create call) posts = ap tables_of (made-known call.seg call.size (round_segments group me) posts).1
at_completion-own group me id other posts = refl

pub completed-own : (posts : Posts) (group : Group) (me id : ℕ) (call : Call) → tables_of (completed_posts posts group me id call) ≡ tables_of posts
completed-own posts group me id call = at_completion-own group me id call posts

-- a segment made
own-tables : (limits : Limits) (posts : Posts) (seg size : ℕ) → HasTables limits posts → HasTables limits (with_own posts seg size)
own-tables limits posts seg size has = record {
  queues = has.queues;
  corrupt = has.corrupt;
  own = length-set posts.segments.own seg _ ∙ has.own;
  known = has.known;
  known_segments = has.known_segments;
  threads = has.threads;
  pending = has.pending;
}

pub joined-tables : (limits : Limits) (posts : Posts) (thread id : ℕ) (args : Args) → HasTables limits posts → HasTables limits (counted (joined_posts posts thread id args))
joined-tables limits posts thread id args has =
    counted-tables limits _ (pending-tables limits (made_posts posts args.coll) id (Some (record { thread = thread; args = args })) (go args.coll))
  where
    go : (coll : Coll) → HasTables limits (made_posts posts coll)
    go colls.Barrier = has
    go (colls.Allreduce op t n) = has
    go (colls.Create seg size) = own-tables limits posts seg size has
    go (colls.Commit mask) = has

pub joined-numbered : (posts : Posts) (coll : Coll) → length (made_posts posts coll).segments.next_generations ≡ length posts.segments.next_generations
joined-numbered posts colls.Barrier = refl
joined-numbered posts (colls.Allreduce op t n) = refl
joined-numbered posts (colls.Create seg size) = length-set posts.segments.next_generations seg (next_generation posts.segments.next_generations seg + 1)
joined-numbered posts (colls.Commit mask) = refl

pub joined-generations : (posts : Posts) (coll : Coll) → ((segment n : ℕ) → slice_get posts.segments.next_generations segment ≡ Some n → n ≤ posts.events + 1)
    → (segment n : ℕ) → slice_get (made_posts posts coll).segments.next_generations segment ≡ Some n → n ≤ posts.events + 2
joined-generations posts colls.Barrier few segment n at = (let less = few segment n at in omega arith)
joined-generations posts (colls.Allreduce op t m) few segment n at = (let less = few segment n at in omega arith)
joined-generations posts (colls.Commit mask) few segment n at = (let less = few segment n at in omega arith)
joined-generations posts (colls.Create seg size) few segment n at =
    parts (slice_get-set posts.segments.next_generations seg segment (next_generation posts.segments.next_generations seg + 1) n at)
  where
    parts : ((segment ≡ seg) × (n ≡ next_generation posts.segments.next_generations seg + 1)) ⊎ (slice_get posts.segments.next_generations segment ≡ Some n) → n ≤ posts.events + 2
    parts (inl is) = let here = is.1 in let next = generation-within posts.segments.next_generations (posts.events + 1) seg few in omega arith
    parts (inr was) = let less = few segment n was in omega arith

pub joined-groups : (posts : Posts) (coll : Coll) → (made_posts posts coll).groups ≡ posts.groups
joined-groups posts colls.Barrier = refl
joined-groups posts (colls.Allreduce op t n) = refl
joined-groups posts (colls.Create seg size) = refl
joined-groups posts (colls.Commit mask) = refl

-- What a rank knows when the segments of members are made known to it.
known-set : (tables : List Tables) (known : List (List (Option Extent))) (owner seg : ℕ) (x : Extent) → ((theirs : Tables) → slice_get tables owner ≡ Some theirs → WasMadeSo theirs seg x.generation x.size) → Knows tables known
    → Knows tables (changed_at known owner (λ (t : List (Option Extent)). slice_set t seg (Some x)))
known-set tables known owner seg x so knows rank table theirs hk ht segment y at =
    by-rank (owner == rank) refl (slice_get known rank) refl (sym (changed_at-get known owner rank (λ t. slice_set t seg (Some x))) ∙ hk)
  where
    in-table : (t : List (Option Extent)) → slice_get known rank ≡ Some t → owner ≡ rank → ((segment ≡ seg) × (◌≡◌ {A = Option Extent} (Some x) (Some y))) ⊎ (extent_in t segment ≡ Some y)
        → WasMadeSo theirs segment y.generation y.size
    in-table t kt same (inr was) = knows rank t theirs kt ht segment y was
    in-table t kt same (inl is) =
        let one : x ≡ y = (let some = is.1 in cc) in
        let made = so theirs (rw same ht) in
        subst (λ (k : ℕ). WasMadeSo theirs k y.generation y.size) (sym is.0) (subst (λ (e : Extent). WasMadeSo theirs seg e.generation e.size) one made)

    by-rank : (b : Bool) → (owner == rank) ≡ b → (o : Option (List (Option Extent))) → slice_get known rank ≡ o
        → (if owner == rank then option_map (λ (t : List (Option Extent)). slice_set t seg (Some x)) (slice_get known rank) else slice_get known rank) ≡ Some table
        → WasMadeSo theirs segment y.generation y.size
    by-rank false is o kt h = knows rank table theirs (rw is at h) ht segment y at
    by-rank true is None kt h = absurd (let none : ◌≡◌ {A = Option (List (Option Extent))} None (Some table) = rw (is, kt) at h in let no : ⊥ = cc in no)
    by-rank true is (Some t) kt h =
        let some : ◌≡◌ {A = Option (List (Option Extent))} (Some (slice_set t seg (Some x))) (Some table) = rw (is, kt) at h in
        let new : slice_set t seg (Some x) ≡ table = cc in
        in-table t kt (eqb-true owner rank is) (extent-set t seg (Some x) segment y (rw new at))

-- each of them was made so
abbrev pub AreMadeSo : List Tables → ℕ → ℕ → List MemberSegment → Type 0
AreMadeSo tables seg size [] = Unit {0}
AreMadeSo tables seg size (m ∷ made) = ((theirs : Tables) → slice_get tables m.rank ≡ Some theirs → WasMadeSo theirs seg m.generation size) × AreMadeSo tables seg size made

pub made-knows : (tables : List Tables) (seg size : ℕ) (made : List MemberSegment) (posts : Posts) → AreMadeSo tables seg size made → Knows tables posts.segments.known → Knows tables (with_made_known seg size made posts).segments.known
made-knows tables seg size [] posts so knows = knows
made-knows tables seg size (m ∷ made) posts so knows =
    made-knows tables seg size made _ so.1 (known-set tables posts.segments.known m.rank seg (record { generation = m.generation; size = size }) so.0 knows)

-- what a collective makes known
abbrev pub MakesKnown : List Tables → Group → ℕ → Call → Type 0
MakesKnown tables group me (calls.Create call) = AreMadeSo tables call.seg call.size (round_segments group me)
MakesKnown tables group me call = Unit {0}

at_completion-knows : (tables : List Tables) (group : Group) (me id : ℕ) (call : Call) (posts : Posts) → MakesKnown tables group me call → Knows tables posts.segments.known → Knows tables (posts_at_completion group me id call posts).segments.known
at_completion-knows tables group me id (calls.Create call) posts so knows = made-knows tables call.seg call.size (round_segments group me) posts so knows
at_completion-knows tables group me id (calls.Commit call) posts so knows = knows
at_completion-knows tables group me id other posts so knows = knows

-- the entries fit as before
pub completed-fits : (notes : ℕ) (tables : List Tables) (me : ℕ) (posts : Posts) (group : Group) (id : ℕ) (call : Call) → MakesKnown tables group me call → Knows tables posts.segments.known → AreWithinSegments notes tables me posts.queues
    → (completed_posts posts group me id call).queues ≡ posts.queues → KeepsFit notes tables me posts (counted (completed_posts posts group me id call))
completed-fits notes tables me posts group id call so knows all queues =
    let own = completed-own posts group me id call in
    record {
      succeeds = subst (λ (t : Tables). Succeeds (tables_of posts) t) (sym own) (succeeds-itself (tables_of posts));
      known = at_completion-knows tables group me id call posts so knows;
      entries = subst (AreWithinSegments notes tables me) (sym queues) all;
      owns = λ queue q hq target lane hl place e he owns. rw (ap (λ (t : Tables). t.own) own) owns;
    }
