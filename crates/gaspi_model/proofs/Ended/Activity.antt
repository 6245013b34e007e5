-- A caller goes on until its end.
use Rattle.std.proofs.Common.{◌≡◌, Option, None, Some, ℕ, Bool, true, false, ◌&&◌, ◌==◌, List, Result, Ok, Err, refl, ap, ◌∙◌, subst, if◌then◌else◌, inl, inr}
use Rattle.std.specs.List.{slice_get, slice_set}
use Rattle.std.proofs.lemmas.Bool.{eqb-true, eqb-false}
use Rattle.gaspi_types.specs.Replies.{is_idle}
use Rattle.gaspi_types.specs.declared.entries.Kind.{Kind}
use Rattle.gaspi_types.specs.declared.shapes.CallerId.{CallerId}
use Rattle.gaspi_types.specs.declared.shapes.Limits.{Limits}
use Rattle.gaspi_types.specs.declared.calls.Call.{Call}
use Rattle.gaspi_types.specs.declared.calls.Call.TheVariants.{End}
use Rattle.gaspi_types.specs.CallRows.{row_of, is_end}
use Rattle.gaspi_types.specs.declared.call_rows.Posting.{Posting}
use Rattle.gaspi_types.specs.declared.replies.Reply.{Reply}
use Rattle.gaspi_types.specs.declared.replies.Refusal.{Refusal}
use Rattle.gaspi_types.specs.declared.events.Outcome.{Outcome}
use Rattle.gaspi_types.specs.declared.events.Outcome.TheVariants.{Applied, Failed}
use Rattle.gaspi_types.specs.declared.events.Event.{Event}
use Rattle.gaspi_types.specs.declared.events.Event.TheVariants.{Called, Joined, Take, Put}
use Rattle.gaspi_model.specs.State.{thread_at}
use Rattle.gaspi_model.specs.Posting.{with_post}
use Rattle.gaspi_model.specs.Calls.{posts_effect, plain_effect, requested_kinds}
use Rattle.gaspi_model.specs.Transfers.{EntryPosition, PostsAndMemory}
use Rattle.gaspi_model.specs.Step.{step, is_active, ends_caller}
use Rattle.gaspi_model.specs.declared.states.ThreadState.{ThreadState}
use Rattle.gaspi_model.specs.declared.states.ThreadState.TheVariants.{Ended}
use Rattle.gaspi_model.specs.declared.states.Posts.{Posts}
use Rattle.gaspi_model.specs.declared.states.Memory.{Memory}
use Rattle.gaspi_model.specs.declared.states.State.{State}
use Rattle.gaspi_types.proofs.Items.{slice_get-set_other, slice_get-set_same}
use Rattle.gaspi_model.proofs.Sound.Registered.{IsTold, registering, registered-get}
use Rattle.gaspi_model.proofs.CollectivePosts.{IsMet, on_group-called, on_group-joined}
use Rattle.gaspi_model.proofs.Made.{IsTake, IsPut, memories_at, call-footprint, put-footprint, step-called, step-take, step-put}

-- of a state with the posts of a rank replaced
pub active-changed : (s : State) (table : List Posts) (o : ℕ) (posts after : Posts) → slice_get s.posts o ≡ Some posts → (memories : List Memory) (rank thread : ℕ)
    → ((o == rank) ≡ true → thread_at after thread ≡ thread_at posts thread)
    → is_active (record s { posts = slice_set s.posts o after; memories = memories }) rank thread ≡ is_active s rank thread
active-changed s table o posts after at memories rank thread same = go (o == rank) refl
  where
    go : (b : Bool) → (o == rank) ≡ b → is_active (record s { posts = slice_set s.posts o after; memories = memories }) rank thread ≡ is_active s rank thread
    go true is =
        let here : o ≡ rank = eqb-true o rank is in
        let before = subst (λ (n : ℕ). slice_get s.posts n ≡ Some posts) here at in
        let now = subst (λ (n : ℕ). slice_get (slice_set s.posts o after) n ≡ Some after) here (slice_get-set_same s.posts o posts after at) in
        rw (before, now, same is) refl
    go false is = rw (slice_get-set_other s.posts o rank after (λ e. eqb-false o rank is e)) refl

-- of a state with a segment told to a rank
active-at_completion : (s : State) (ranks me : ℕ) (p : Posts) (call : Call) (reply : Reply) (all : List Posts) (memories : List Memory) (rank thread : ℕ)
    → is_active (record s { posts = registering ranks me p call reply all; memories = memories }) rank thread ≡ is_active (record s { posts = all; memories = memories }) rank thread
active-at_completion s ranks me p call reply all memories rank thread = go (registered-get ranks me p call reply all rank)
  where
    go : IsTold all (registering ranks me p call reply all) rank
        → is_active (record s { posts = registering ranks me p call reply all; memories = memories }) rank thread ≡ is_active (record s { posts = all; memories = memories }) rank thread
    go (inl same) = rw same refl
    go (inr (x, known, before, now)) = rw (before, now) refl

threads-post : (posts : Posts) (queue target : ℕ) (asked : Result (List Kind) Refusal) → (with_post posts queue target asked).threads ≡ posts.threads
threads-post posts queue target (Ok kinds) = refl
threads-post posts queue target (Err refusal) = refl

threads-done : (limits : Limits) (me : ℕ) (posts : Posts) (caller : ℕ) (call : Call) (thread : ℕ) → ((caller == thread) && is_end call) ≡ false
    → slice_get (posts_effect limits me posts caller call).threads thread ≡ slice_get posts.threads thread
threads-done limits me posts caller call thread h = go (row_of call).posting refl
  where
    apart : (b : Bool) → (b && true) ≡ false → b ≡ false
    apart true h = absurd (let no : ⊥ = cc in no)
    apart false h = refl

    plain : (call : Call) → ((caller == thread) && is_end call) ≡ false → slice_get (plain_effect posts caller call).threads thread ≡ slice_get posts.threads thread
    plain End h = slice_get-set_other posts.threads caller thread Ended (λ e. eqb-false caller thread (apart (caller == thread) h) e)
    plain other h = refl

    go : (o : Option Posting) → (row_of call).posting ≡ o → slice_get (posts_effect limits me posts caller call).threads thread ≡ slice_get posts.threads thread
    go None none = rw none (plain call h)
    go (Some to) post = rw post (ap (λ (ts : List ThreadState). slice_get ts thread) (threads-post posts to.queue to.rank (requested_kinds limits me posts call)))

threads-after : (b : Bool) (posts done : Posts) (thread : ℕ) → slice_get done.threads thread ≡ slice_get posts.threads thread
    → slice_get (if b then posts else done).threads thread ≡ slice_get posts.threads thread
threads-after true posts done thread h = refl
threads-after false posts done thread h = h

-- what is active depends on the posts alone
same-active : (s t : State) (rank thread : ℕ) → t.posts ≡ s.posts → is_active t rank thread ≡ is_active s rank thread
same-active s t rank thread same = go (slice_get s.posts rank) refl
  where
    go : (o : Option Posts) → slice_get s.posts rank ≡ o → is_active t rank thread ≡ is_active s rank thread
    go None at = let there : slice_get t.posts rank ≡ None = ap (λ (all : List Posts). slice_get all rank) same ∙ at in rw (there, at) refl
    go (Some posts) at = let there : slice_get t.posts rank ≡ Some posts = ap (λ (all : List Posts). slice_get all rank) same ∙ at in rw (there, at) refl

on_group-active : (s t : State) (me : ℕ) (posts after : Posts) (rank thread : ℕ) → IsMet s t me posts after → is_active t rank thread ≡ is_active s rank thread
on_group-active s t me posts after rank thread met =
    same-active (record s { posts = slice_set s.posts me after; memories = s.memories }) t rank thread met.leaves
    ∙ active-changed s s.posts me posts after met.there s.memories rank thread (λ here. rw met.keeps.threads refl)

called-active : (s t : State) (c : CallerId) (call : Call) (reply : Reply) (rank thread : ℕ) → (row_of call).group ≡ None → step s (Called c call reply) ≡ Ok t → ends_caller rank thread (Called c call reply) ≡ false
    → is_active t rank thread ≡ is_active s rank thread
called-active s t c call reply rank thread plain h ends =
    let made = step-called s t c call reply plain h in
    let m = made.3 in
    let memories = memories_at (call-footprint s.limits.ranks c.rank call) c.rank made.2.memory s.memories in
    rw m.leaves (active-at_completion s s.limits.ranks c.rank made.0 call reply (slice_set s.posts c.rank made.2.posts) memories rank thread
    ∙ active-changed s s.posts c.rank made.0 made.2.posts m.posts_there memories rank thread (λ here.
    rw m.is.leaves (rw (threads-after (is_idle reply) made.0 (posts_effect s.limits c.rank made.0 c.thread call) thread (threads-done s.limits c.rank made.0 c.thread call thread (rw here at ends))) refl)))

pub active : (s t : State) (e : Event) (rank thread : ℕ) → step s e ≡ Ok t → ends_caller rank thread e ≡ false → is_active t rank thread ≡ is_active s rank thread
active s t (Joined c id args) rank thread h ends = on_group-active s t c.rank _ _ rank thread (on_group-joined s t c id args h).2
active s t (Called c call reply) rank thread h ends = by-group (row_of call).group refl
  where
    by-group : (o : Option ℕ) → (row_of call).group ≡ o → is_active t rank thread ≡ is_active s rank thread
    by-group (Some id) named = on_group-active s t c.rank _ _ rank thread (on_group-called s t c id call reply named h).2
    by-group None plain = called-active s t c call reply rank thread plain h ends
active s t (Take origin queue target number outcome) rank thread h ends =
    let made = step-take s t origin queue target number outcome h in
    let m = made.4 in
    rw m.leaves (active-changed s s.posts origin made.0 made.2 m.posts_there s.memories rank thread (λ here. same-take made.0 made.1 outcome made.2 made.3 m.is))
  where
    same-take : (posts : Posts) (memory : Memory) (outcome : Outcome) (after : Posts) (at : EntryPosition) → IsTake s.limits posts memory queue target number outcome after at → thread_at after thread ≡ thread_at posts thread
    same-take posts memory Applied after at h = rw h.leaves refl
    same-take posts memory Failed after at h = rw h.leaves refl
active s t (Put origin queue target number outcome) rank thread h ends =
    let made = step-put s t origin queue target number outcome h in
    let m = made.4 in
    rw m.leaves (active-changed s s.posts origin made.0 made.2.posts m.posts_there (memories_at (put-footprint s.limits.ranks origin target made.3.entry.kind) origin made.2.memory s.memories) rank thread (λ here. same-put made.0 made.1 outcome made.2 made.3 m.is))
  where
    same-put : (posts : Posts) (memory : Memory) (outcome : Outcome) (after : PostsAndMemory) (at : EntryPosition) → IsPut posts memory queue target number outcome after at → thread_at after.posts thread ≡ thread_at posts thread
    same-put posts memory Applied after at h = rw h.leaves refl
    same-put posts memory Failed after at h = rw h.leaves refl
