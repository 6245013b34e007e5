-- What is pending of a caller stays pending until its next event.
use Rattle.std.proofs.Common.{◌≡◌, ℕ, Bool, true, false, List, [], ◌∷◌, Option, None, Some, Ok, refl, sym, ap, ◌∙◌, subst, slice_set, inl, inr, if◌then◌else◌}
use Rattle.std.specs.List.{slice_get}
use Rattle.std.proofs.lemmas.Bool.{eqb-true, eq-eqb}
use Rattle.gaspi_types.specs.CallRows.{row_of}
use Rattle.gaspi_types.specs.Collectives.{round_segments}
use Rattle.gaspi_types.specs.Replies.{is_idle}
use Rattle.gaspi_types.specs.Tables.{item_at}
use Rattle.gaspi_types.specs.World.{is_caller}
use Rattle.gaspi_types.specs.declared.call_rows.Posting.{Posting}
use Rattle.gaspi_types.specs.declared.calls.Call.{Call}
use Rattle.gaspi_types.specs.declared.calls.Call.TheVariants as calls
use Rattle.gaspi_types.specs.declared.collectives.Coll.{Coll}
use Rattle.gaspi_types.specs.declared.collectives.Coll.TheVariants as colls
use Rattle.gaspi_types.specs.declared.entries.Kind.{Kind}
use Rattle.gaspi_types.specs.declared.events.Event.{Event}
use Rattle.gaspi_types.specs.declared.events.Event.TheVariants.{Called, Joined, Take, Put}
use Rattle.gaspi_types.specs.declared.events.Outcome.{Outcome}
use Rattle.gaspi_types.specs.declared.events.Outcome.TheVariants.{Applied, Failed}
use Rattle.gaspi_types.specs.declared.groups.Group.{Group}
use Rattle.gaspi_types.specs.declared.groups.PendingCollective.{PendingCollective}
use Rattle.gaspi_types.specs.declared.replies.Refusal.{Refusal}
use Rattle.gaspi_types.specs.declared.replies.Reply.{Reply}
use Rattle.gaspi_types.specs.declared.shapes.CallerId.{CallerId}
use Rattle.gaspi_types.specs.declared.shapes.Limits.{Limits}
use Rattle.std.specs.Prelude.{Result, Err}
use Rattle.gaspi_types.proofs.Items.{slice_get-set_same, slice_get-set_other, same-or-not}
use Rattle.gaspi_model.specs.Calls.{requested_kinds, plain_effect, posts_effect, posts_after}
use Rattle.gaspi_model.specs.CollectiveCalls.{made_posts, joined_posts, posts_at_completion, completed_posts}
use Rattle.gaspi_model.specs.Posting.{counted, with_post}
use Rattle.gaspi_model.specs.Sound.{IsSound}
use Rattle.gaspi_model.specs.Step.{step, is_pending, is_pending_of}
use Rattle.gaspi_model.specs.Transfers.{EntryPosition, PostsAndMemory}
use Rattle.gaspi_model.specs.declared.states.Memory.{Memory}
use Rattle.gaspi_model.specs.declared.states.Posts.{Posts}
use Rattle.gaspi_model.specs.declared.states.State.{State}
use Rattle.gaspi_model.proofs.GroupEffects.{done-step, join-step}
use Rattle.gaspi_model.proofs.IdleSteps.{only-counted}
use Rattle.gaspi_model.proofs.Made.{IsTake, IsPut}
use Rattle.gaspi_model.proofs.CollectivePosts.{made-known}
use Rattle.gaspi_model.proofs.Sound.GroupTables.{entry-set_other}
use Rattle.gaspi_model.proofs.Sound.Registered.{registering, IsTold, registered-get}
use Rattle.gaspi_model.proofs.OnPostsAndMemory.{sound-called, sound-take, sound-put}
use Rattle.gaspi_model.specs.CallerEvents.{events_of}

-- a collective of a rank that is pending on a group
pub record Pends (s : State) (rank id : ℕ) (p : PendingCollective) : Type 0 where
  pub posts : Posts
  pub there : slice_get s.posts rank ≡ Some posts
  pub is : item_at posts.pending id ≡ Some p

-- the posts of one rank are changed, which keep it if they are that rank's
set-pends : (s t : State) (me : ℕ) (old new : Posts) (rank id : ℕ) (p : PendingCollective) → Pends s rank id p → slice_get s.posts me ≡ Some old → t.posts ≡ slice_set s.posts me new
    → (me ≡ rank → item_at old.pending id ≡ Some p → item_at new.pending id ≡ Some p) → Pends t rank id p
set-pends s t me old new rank id p h there is keeps = same-or-not me rank
    (λ same.
    (let mine : slice_get s.posts rank ≡ Some old = subst (λ (k : ℕ). slice_get s.posts k ≡ Some old) same there in
    let one : h.posts ≡ old = (let some : ◌≡◌ {A = Option Posts} (Some h.posts) (Some old) = sym h.there ∙ mine in cc) in
    record {
      posts = new;
      there = ap (λ (all : List Posts). slice_get all rank) is ∙ subst (λ (k : ℕ). slice_get (slice_set s.posts me new) k ≡ Some new) same (slice_get-set_same s.posts me old new there);
      is = keeps same (subst (λ (x : Posts). item_at x.pending id ≡ Some p) one h.is);
    }))
    (λ apart. record {
      posts = h.posts;
      there = ap (λ (all : List Posts). slice_get all rank) is ∙ slice_get-set_other s.posts me rank new apart ∙ h.there;
      is = h.is;
    })

-- What a call that is no collective leaves of its rank's pendings.

plain-pending : (posts : Posts) (thread : ℕ) (call : Call) → (plain_effect posts thread call).pending ≡ posts.pending
plain-pending posts thread (calls.Alloc call) = refl
plain-pending posts thread (calls.Delete call) = refl
plain-pending posts thread (calls.Wait call) = refl
plain-pending posts thread (calls.Purge call) = refl
plain-pending posts thread calls.GroupCreate = refl
plain-pending posts thread (calls.GroupAdd call) = refl
plain-pending posts thread (calls.GroupDelete call) = refl
plain-pending posts thread calls.End = refl
plain-pending posts thread call = refl

post-pending : (posts : Posts) (queue target : ℕ) (asks : Result (List Kind) Refusal) → (with_post posts queue target asks).pending ≡ posts.pending
post-pending posts queue target (Err refusal) = refl
post-pending posts queue target (Ok kinds) = refl

after-pending : (limits : Limits) (me : ℕ) (posts : Posts) (thread : ℕ) (call : Call) (reply : Reply) → (posts_after limits me posts thread call reply).pending ≡ posts.pending
after-pending limits me posts thread call reply = go (is_idle reply)
  where
    done : (o : Option Posting) → (row_of call).posting ≡ o → (posts_effect limits me posts thread call).pending ≡ posts.pending
    done None none = rw none (plain-pending posts thread call)
    done (Some to) post = rw post (post-pending posts to.queue to.rank (requested_kinds limits me posts call))

    go : (b : Bool) → (counted (if b then posts else posts_effect limits me posts thread call)).pending ≡ posts.pending
    go true = refl
    go false = done (row_of call).posting refl

-- a peer is told of segments alone
at_completion-pends : (s t : State) (ranks me : ℕ) (posts : Posts) (call : Call) (reply : Reply) (all : List Posts) (rank id : ℕ) (p : PendingCollective)
    → (x : Posts) → slice_get all rank ≡ Some x → item_at x.pending id ≡ Some p → t.posts ≡ registering ranks me posts call reply all → Pends t rank id p
at_completion-pends s t ranks me posts call reply all rank id p x there is leaves = go (registered-get ranks me posts call reply all rank)
  where
    go : IsTold all (registering ranks me posts call reply all) rank → Pends t rank id p
    go (inl same) = record { posts = x; there = ap (λ (ps : List Posts). slice_get ps rank) leaves ∙ same ∙ there; is = is }
    go (inr (y, known, before, now)) =
        let one : y ≡ x = (let some : ◌≡◌ {A = Option Posts} (Some y) (Some x) = sym before ∙ there in cc) in
        record {
          posts = record y { segments = record y.segments { known = known } };
          there = ap (λ (ps : List Posts). slice_get ps rank) leaves ∙ now;
          is = subst (λ (z : Posts). item_at z.pending id ≡ Some p) (sym one) is;
        }

-- What a collective leaves of them.

done-pending : (g : Group) (me id : ℕ) (call : Call) (posts : Posts) → (posts_at_completion g me id call posts).pending ≡ posts.pending
done-pending g me id (calls.Create call) posts = ap (λ (x : Posts). x.pending) (made-known call.seg call.size (round_segments g me) posts).1
done-pending g me id other posts = refl

made-pending : (posts : Posts) (coll : Coll) → (made_posts posts coll).pending ≡ posts.pending
made-pending posts colls.Barrier = refl
made-pending posts (colls.Allreduce op t n) = refl
made-pending posts (colls.Create seg size) = refl
made-pending posts (colls.Commit mask) = refl

-- an event of another caller
abbrev IsForeign : ℕ → ℕ → Event → Type 0
IsForeign rank thread e = events_of (record { rank = rank; thread = thread }) (e ∷ []) ≡ []

foreign-caller : (rank thread : ℕ) (c : CallerId) (e : Event) → (if is_caller rank thread c then e ∷ [] else []) ≡ [] → rank ≡ c.rank → thread ≡ c.thread → ⊥
foreign-caller rank thread c e none here mine =
    let is : is_caller rank thread c ≡ true = rw (here, mine, eq-eqb c.rank c.rank refl, eq-eqb c.thread c.thread refl) refl in
    let one : ◌≡◌ {A = List Event} (e ∷ []) [] = rw is at none in
    cc

pends-stays : (s t : State) (e : Event) (rank thread id : ℕ) (p : PendingCollective) → IsSound s → step s e ≡ Ok t → IsForeign rank thread e → Pends s rank id p → p.thread ≡ thread → Pends t rank id p
pends-stays s t (Called c call reply) rank thread id p sound made foreign h mine = by-group (row_of call).group refl
  where
    done : (k : ℕ) → (row_of call).group ≡ Some k → is_idle reply ≡ false → Pends t rank id p
    done k named awake =
        let d = done-step s t c k call reply named awake sound made in
        let m = d.5 in
        set-pends s t c.rank d.0 (counted (completed_posts d.0 d.1 c.rank k call)) rank id p h m.posts_there (ap (λ (x : State). x.posts) m.leaves)
        (λ same at. same-or-not k id
        (λ here.
        absurd (let there : item_at d.0.pending id ≡ Some d.4 = subst (λ (n : ℕ). item_at d.0.pending n ≡ Some d.4) here m.done.resumed.there in
        let one : p ≡ d.4 = (let some : ◌≡◌ {A = Option PendingCollective} (Some p) (Some d.4) = sym at ∙ there in cc) in
        foreign-caller rank thread c (Called c call reply) foreign (sym same) (sym mine ∙ ap (λ (q : PendingCollective). q.thread) one ∙ m.done.resumed.mine)))
        (λ apart. entry-set_other (posts_at_completion d.1 c.rank k call d.0).pending k id None apart ∙ ap (λ (table : List (Option PendingCollective)). item_at table id) (done-pending d.1 c.rank k call d.0) ∙ at))

    by-reply : (k : ℕ) → (row_of call).group ≡ Some k → (b : Bool) → is_idle reply ≡ b → Pends t rank id p
    by-reply k named false awake = done k named awake
    by-reply k named true idle =
        let only = only-counted s t c call reply idle made in
        set-pends s t c.rank only.posts (counted only.posts) rank id p h only.there (ap (λ (x : State). x.posts) only.after) (λ same at. at)

    by-group : (g : Option ℕ) → (row_of call).group ≡ g → Pends t rank id p
    by-group (Some k) named = by-reply k named (is_idle reply) refl
    by-group None plain =
        let d = sound-called s t c call reply plain sound made in
        let m = d.3 in
        let new : d.2.posts ≡ posts_after s.limits c.rank d.0 c.thread call reply = rw m.is.leaves refl in
        let same : d.2.posts.pending ≡ d.0.pending = ap (λ (x : Posts). x.pending) new ∙ after-pending s.limits c.rank d.0 c.thread call reply in
        let between : State = record s { posts = slice_set s.posts c.rank d.2.posts } in
        let b = set-pends s between c.rank d.0 d.2.posts rank id p h m.posts_there refl (λ own at. ap (λ (table : List (Option PendingCollective)). item_at table id) same ∙ at) in
        at_completion-pends s t s.limits.ranks c.rank d.0 call reply (slice_set s.posts c.rank d.2.posts) rank id p b.posts b.there b.is (ap (λ (x : State). x.posts) m.leaves)
pends-stays s t (Joined c k args) rank thread id p sound made foreign h mine =
    let d = join-step s t c k args sound made in
    let m = d.5 in
    set-pends s t c.rank d.0 (counted (joined_posts d.0 c.thread k args)) rank id p h m.posts_there (ap (λ (x : State). x.posts) m.leaves)
    (λ same at. same-or-not k id
    (λ here.
    absurd (let none : item_at d.0.pending id ≡ None = subst (λ (n : ℕ). item_at d.0.pending n ≡ None) here m.may.none in
    let never : ◌≡◌ {A = Option PendingCollective} (Some p) None = sym at ∙ none in cc))
    (λ apart. entry-set_other (made_posts d.0 args.coll).pending k id (Some (record { thread = c.thread; args = args })) apart
    ∙ ap (λ (table : List (Option PendingCollective)). item_at table id) (made-pending d.0 args.coll) ∙ at))
pends-stays s t (Take origin queue target number outcome) rank thread id p sound made foreign h mine =
    let d = sound-take s t origin queue target number outcome sound made in
    let m = d.4 in
    set-pends s t origin d.0 d.2 rank id p h m.posts_there (ap (λ (x : State). x.posts) m.leaves) (λ same at. taken d.0 d.1 outcome d.2 d.3 m.is at)
  where
    taken : (posts : Posts) (memory : Memory) (outcome : Outcome) (after : Posts) (at : EntryPosition) → IsTake s.limits posts memory queue target number outcome after at → item_at posts.pending id ≡ Some p → item_at after.pending id ≡ Some p
    taken posts memory Applied after at is there = rw is.leaves there
    taken posts memory Failed after at is there = rw is.leaves there
pends-stays s t (Put origin queue target number outcome) rank thread id p sound made foreign h mine =
    let d = sound-put s t origin queue target number outcome sound made in
    let m = d.4 in
    set-pends s t origin d.0 d.2.posts rank id p h m.posts_there (ap (λ (x : State). x.posts) m.leaves) (λ same at. put d.0 d.1 outcome d.2 d.3 m.is at)
  where
    put : (posts : Posts) (memory : Memory) (outcome : Outcome) (after : PostsAndMemory) (at : EntryPosition) → IsPut posts memory queue target number outcome after at → item_at posts.pending id ≡ Some p → item_at after.posts.pending id ≡ Some p
    put posts memory Applied after at is there = rw is.leaves there
    put posts memory Failed after at is there = rw is.leaves there

-- whether a call's collective is pending for its caller
pub pending-stays : (s t : State) (e : Event) (rank thread : ℕ) (call : Call) → IsSound s → step s e ≡ Ok t → events_of (record { rank = rank; thread = thread }) (e ∷ []) ≡ [] → is_pending s rank thread call ≡ true → is_pending t rank thread call ≡ true
pending-stays s t e rank thread call sound made foreign is = by-posts (slice_get s.posts rank) refl (row_of call).group refl
  where
    pends : (posts : Posts) (id : ℕ) → slice_get s.posts rank ≡ Some posts → (row_of call).group ≡ Some id → (o : Option PendingCollective) → item_at posts.pending id ≡ o → is_pending_of thread o ≡ true → is_pending t rank thread call ≡ true
    pends posts id at named None none h = absurd (let no : ⊥ = cc in no)
    pends posts id at named (Some p) there h =
        let stays = pends-stays s t e rank thread id p sound made foreign (record { posts = posts; there = at; is = there }) (eqb-true p.thread thread h) in
        rw (stays.there, named, stays.is) h

    by-posts : (o : Option Posts) → slice_get s.posts rank ≡ o → (g : Option ℕ) → (row_of call).group ≡ g → is_pending t rank thread call ≡ true
    by-posts None at g named = absurd (let never : false ≡ true = rw at at is in let no : ⊥ = cc in no)
    by-posts (Some posts) at None named = absurd (let never : false ≡ true = rw (at, named) at is in let no : ⊥ = cc in no)
    by-posts (Some posts) at (Some id) named = pends posts id at named (item_at posts.pending id) refl (rw (at, named) at is)
