-- A rank that is once corrupt for a rank stays so.
use Rattle.std.proofs.Common.{◌≡◌, ℕ, Bool, true, false, List, [], ◌∷◌, ◌++◌, Option, None, Some, Result, Ok, Err, refl, sym, ◌∙◌, subst, if◌then◌else◌, inl, inr}
use Rattle.std.specs.List.{slice_get, slice_set}
use Rattle.gaspi_types.specs.Replies.{is_idle}
use Rattle.gaspi_types.specs.World.{ShapeValue}
use Rattle.gaspi_types.specs.declared.entries.Kind.{Kind}
use Rattle.gaspi_types.specs.declared.shapes.Limits.{Limits}
use Rattle.gaspi_types.specs.declared.calls.Call.{Call}
use Rattle.gaspi_types.specs.declared.calls.Call.TheVariants.{End}
use Rattle.gaspi_types.specs.CallRows.{row_of}
use Rattle.gaspi_types.specs.declared.call_rows.Posting.{Posting}
use Rattle.gaspi_types.specs.declared.replies.Refusal.{Refusal}
use Rattle.gaspi_types.specs.declared.replies.Reply.{Reply}
use Rattle.gaspi_types.specs.declared.events.Outcome.{Outcome}
use Rattle.gaspi_types.specs.declared.events.Outcome.TheVariants.{Applied, Failed}
use Rattle.gaspi_types.specs.declared.events.Event.{Event}
use Rattle.gaspi_types.specs.declared.events.Event.TheVariants.{Called, Joined, Take, Put}
use Rattle.gaspi_model.specs.State.{opening}
use Rattle.gaspi_model.specs.Posting.{with_post, counted}
use Rattle.gaspi_model.specs.Calls.{posts_effect, plain_effect, requested_kinds}
use Rattle.gaspi_model.specs.Transfers.{EntryPosition, PostsAndMemory}
use Rattle.gaspi_model.specs.Step.{step, after, reached}
use Rattle.gaspi_model.specs.Changes.{is_corrupt}
use Rattle.gaspi_model.specs.declared.states.Posts.{Posts}
use Rattle.gaspi_model.specs.declared.states.Memory.{Memory}
use Rattle.gaspi_model.specs.declared.states.State.{State}
use Rattle.gaspi_model.specs.declared.states.Why.{Why}
use Rattle.gaspi_model.proofs.CollectivePosts.{IsMet, on_group-called, on_group-joined}
use Rattle.gaspi_model.proofs.Made.{IsTake, IsPut, step-called, step-take, step-put}
use Rattle.gaspi_model.proofs.FoundEntries.{failed_with}
use Rattle.gaspi_types.proofs.Items.{slice_get-set_same, slice_get-set_other, same-or-not}
use Rattle.gaspi_model.proofs.Sound.Registered.{IsTold, registering, registered-get}
use Rattle.gaspi_model.proofs.Histories.{after-first, after-both}

-- the posts of a rank for which another is corrupt
record IsMarked (all : List Posts) (rank target : ℕ) : Type 0 where
  posts : Posts
  there : slice_get all rank ≡ Some posts
  marked : slice_get posts.corrupt target ≡ Some true

marked : (s : State) (rank target : ℕ) → is_corrupt s rank target ≡ true → IsMarked s.posts rank target
marked s rank target h = with-posts (slice_get s.posts rank) refl
  where
    with-mark : (posts : Posts) → slice_get s.posts rank ≡ Some posts → (o : Option Bool) → slice_get posts.corrupt target ≡ o → IsMarked s.posts rank target
    with-mark posts hp None at = absurd (let never : false ≡ true = rw (hp, at) at h in let no : ⊥ = cc in no)
    with-mark posts hp (Some false) at = absurd (let never : false ≡ true = rw (hp, at) at h in let no : ⊥ = cc in no)
    with-mark posts hp (Some true) at = record { posts = posts; there = hp; marked = at }

    with-posts : (o : Option Posts) → slice_get s.posts rank ≡ o → IsMarked s.posts rank target
    with-posts None hp = absurd (let never : false ≡ true = rw hp at h in let no : ⊥ = cc in no)
    with-posts (Some posts) hp = with-mark posts hp (slice_get posts.corrupt target) refl

is-corrupt : (s : State) (rank target : ℕ) → IsMarked s.posts rank target → is_corrupt s rank target ≡ true
is-corrupt s rank target h = rw (h.there, h.marked) refl

-- posts that have the marks of others
abbrev KeepsMarks : Posts → Posts → Type 0
KeepsMarks before after = (target : ℕ) → slice_get before.corrupt target ≡ Some true → slice_get after.corrupt target ≡ Some true

same-marks : (before after : Posts) → after.corrupt ≡ before.corrupt → KeepsMarks before after
same-marks before after same target h = rw same h

replaced-marks : (all : List Posts) (me : ℕ) (posts posts' : Posts) (rank target : ℕ) → slice_get all me ≡ Some posts → KeepsMarks posts posts' → IsMarked all rank target
    → IsMarked (slice_set all me posts') rank target
replaced-marks all me posts posts' rank target at keeps h =
    same-or-not me rank
    (λ same.
    let old : posts ≡ h.posts = (let some : ◌≡◌ {A = Option Posts} (Some posts) (Some h.posts) = sym at ∙ rw same h.there in cc) in
    record {
      posts = posts';
      there = subst (λ (k : ℕ). slice_get (slice_set all me posts') k ≡ Some posts') same (slice_get-set_same all me posts posts' at);
      marked = keeps target (rw old h.marked);
    })
    (λ apart. record { posts = h.posts; there = slice_get-set_other all me rank posts' apart ∙ h.there; marked = h.marked })

at_completion-marks : (ranks me : ℕ) (p : Posts) (call : Call) (reply : Reply) (all : List Posts) (rank target : ℕ) → IsMarked all rank target → IsMarked (registering ranks me p call reply all) rank target
at_completion-marks ranks me p call reply all rank target h = go (registered-get ranks me p call reply all rank)
  where
    go : IsTold all (registering ranks me p call reply all) rank → IsMarked (registering ranks me p call reply all) rank target
    go (inl same) = record { posts = h.posts; there = same ∙ h.there; marked = h.marked }
    go (inr (x, known, before, now)) =
        let same : x ≡ h.posts = (let some : ◌≡◌ {A = Option Posts} (Some x) (Some h.posts) = sym before ∙ h.there in cc) in
        record { posts = record x { segments = record x.segments { known = known } }; there = now; marked = rw same h.marked }

post-marks : (posts : Posts) (queue target : ℕ) (asked : Result (List Kind) Refusal) → (with_post posts queue target asked).corrupt ≡ posts.corrupt
post-marks posts queue target (Ok kinds) = refl
post-marks posts queue target (Err refusal) = refl

-- no call changes the marks
done-marks : (limits : Limits) (me : ℕ) (posts : Posts) (thread : ℕ) (call : Call) → (posts_effect limits me posts thread call).corrupt ≡ posts.corrupt
done-marks limits me posts thread call = go (row_of call).posting refl
  where
    plain : (call : Call) → (plain_effect posts thread call).corrupt ≡ posts.corrupt
    plain End = refl
    plain other = refl

    go : (o : Option Posting) → (row_of call).posting ≡ o → (posts_effect limits me posts thread call).corrupt ≡ posts.corrupt
    go None none = rw none (plain call)
    go (Some to) post = rw post (post-marks posts to.queue to.rank (requested_kinds limits me posts call))

after-marks : (b : Bool) (posts done : Posts) → done.corrupt ≡ posts.corrupt → (counted (if b then posts else done)).corrupt ≡ posts.corrupt
after-marks true posts done same = refl
after-marks false posts done same = same

-- a transfer sets a mark where it fails, and takes none
failed-marks : (posts : Posts) (queue target : ℕ) (at : EntryPosition) → KeepsMarks posts (counted (failed_with posts queue target at))
failed-marks posts queue target at k mark =
    same-or-not target k
    (λ same.
    let there : slice_get posts.corrupt target ≡ Some true = rw same mark in
    subst (λ (n : ℕ). slice_get (slice_set posts.corrupt target true) n ≡ Some true) same (slice_get-set_same posts.corrupt target true true there))
    (λ apart. slice_get-set_other posts.corrupt target k true apart ∙ mark)

take-marks : (limits : Limits) (posts : Posts) (memory : Memory) (queue target number : ℕ) (outcome : Outcome) (after : Posts) (at : EntryPosition) → IsTake limits posts memory queue target number outcome after at → KeepsMarks posts after
take-marks limits posts memory queue target number Applied after at h k mark = rw h.leaves mark
take-marks limits posts memory queue target number Failed after at h k mark = rw h.leaves (failed-marks posts queue target at k mark)

put-marks : (posts : Posts) (memory : Memory) (queue target number : ℕ) (outcome : Outcome) (after : PostsAndMemory) (at : EntryPosition) → IsPut posts memory queue target number outcome after at → KeepsMarks posts after.posts
put-marks posts memory queue target number Applied after at h k mark = rw h.leaves mark
put-marks posts memory queue target number Failed after at h k mark = rw h.leaves (failed-marks posts queue target at k mark)

on_group-corrupt : (s t : State) (me : ℕ) (posts after : Posts) (rank target : ℕ) → IsMet s t me posts after → is_corrupt s rank target ≡ true → is_corrupt t rank target ≡ true
on_group-corrupt s t me posts after rank target met corrupt =
    let mark = replaced-marks s.posts me posts after rank target met.there (same-marks posts after met.keeps.corrupt) (marked s rank target corrupt) in
    is-corrupt t rank target (subst (λ (all : List Posts). IsMarked all rank target) (sym met.leaves) mark)

step-corrupt : (s t : State) (e : Event) (rank target : ℕ) → step s e ≡ Ok t → is_corrupt s rank target ≡ true → is_corrupt t rank target ≡ true
step-corrupt s t (Joined c id args) rank target h corrupt = on_group-corrupt s t c.rank _ _ rank target (on_group-joined s t c id args h).2 corrupt
step-corrupt s t (Called c call reply) rank target h corrupt = by-group (row_of call).group refl
  where
    by-group : (o : Option ℕ) → (row_of call).group ≡ o → is_corrupt t rank target ≡ true
    by-group (Some id) named = on_group-corrupt s t c.rank _ _ rank target (on_group-called s t c id call reply named h).2 corrupt
    by-group None plain =
        let made = step-called s t c call reply plain h in
        let m = made.3 in
        let same : made.2.posts.corrupt ≡ made.0.corrupt =
        rw m.is.leaves (after-marks (is_idle reply) made.0 (posts_effect s.limits c.rank made.0 c.thread call) (done-marks s.limits c.rank made.0 c.thread call)) in
        let all = slice_set s.posts c.rank made.2.posts in
        let mark = at_completion-marks s.limits.ranks c.rank made.0 call reply all rank target
        (replaced-marks s.posts c.rank made.0 made.2.posts rank target m.posts_there (same-marks made.0 made.2.posts same) (marked s rank target corrupt)) in
        is-corrupt t rank target (rw m.leaves mark)
step-corrupt s t (Take origin queue target' number outcome) rank target h corrupt =
    let made = step-take s t origin queue target' number outcome h in
    let m = made.4 in
    let keeps = take-marks s.limits made.0 made.1 queue target' number outcome made.2 made.3 m.is in
    let mark = replaced-marks s.posts origin made.0 made.2 rank target m.posts_there keeps (marked s rank target corrupt) in
    is-corrupt t rank target (rw m.leaves mark)
step-corrupt s t (Put origin queue target' number outcome) rank target h corrupt =
    let made = step-put s t origin queue target' number outcome h in
    let m = made.4 in
    let keeps = put-marks made.0 made.1 queue target' number outcome made.2 made.3 m.is in
    let mark = replaced-marks s.posts origin made.0 made.2.posts rank target m.posts_there keeps (marked s rank target corrupt) in
    is-corrupt t rank target (rw m.leaves mark)

after-corrupt : (s t : State) (events : List Event) (rank target : ℕ) → after s events ≡ Ok t → is_corrupt s rank target ≡ true → is_corrupt t rank target ≡ true
after-corrupt s t [] rank target h corrupt = let same : s ≡ t = cc in rw (sym same) corrupt
after-corrupt s t (e ∷ events) rank target h corrupt =
    let first = after-first s t e events h in
    after-corrupt first.0 t events rank target first.2 (step-corrupt s first.0 e rank target first.1 corrupt)

pub stays-corrupt : (w : ShapeValue) (earlier later : List Event) (s t : State) (rank target : ℕ) → reached w earlier ≡ Ok s → reached w (earlier ++ later) ≡ Ok t
    → is_corrupt s rank target ≡ true → is_corrupt t rank target ≡ true
stays-corrupt w earlier later s t rank target h h' corrupt =
    let whole = after-both (opening w) t earlier later h' in
    let same : s ≡ whole.0 = (let ok : ◌≡◌ {A = Result State Why} (Ok s) (Ok whole.0) = sym h ∙ whole.1 in cc) in
    after-corrupt whole.0 t later rank target whole.2 (rw (sym same) corrupt)
