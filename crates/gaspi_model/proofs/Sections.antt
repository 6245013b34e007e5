-- A caller that is declared has a section in each state that is reached.
use Rattle.std.proofs.Common.{◌≡◌, ℕ, zero, suc, ◌+◌, ◌<◌, Bool, true, false, ◌==◌, List, [], ◌∷◌, map, Option, None, Some, Result, Ok, Err, refl, sym, ap, ◌∙◌, subst, arith, if◌then◌else◌, inl, inr}
use Rattle.std.specs.List.{slice_get, slice_set, list_any, range_with_len}
use Rattle.std.proofs.lemmas.Bool.{eqb-true, eqb-false}
use Rattle.gaspi_types.specs.World.{ShapeValue, IsShape, is_caller}
use Rattle.gaspi_types.specs.Replies.{is_idle}
use Rattle.gaspi_types.specs.declared.entries.Kind.{Kind}
use Rattle.gaspi_types.specs.declared.shapes.CallerId.{CallerId}
use Rattle.gaspi_types.specs.declared.shapes.Limits.{Limits}
use Rattle.gaspi_types.specs.declared.calls.Call.{Call}
use Rattle.gaspi_types.specs.declared.calls.Call.TheVariants.{End}
use Rattle.gaspi_types.specs.CallRows.{row_of}
use Rattle.gaspi_types.specs.declared.call_rows.Posting.{Posting}
use Rattle.gaspi_types.specs.declared.replies.Reply.{Reply}
use Rattle.gaspi_types.specs.declared.replies.Refusal.{Refusal}
use Rattle.gaspi_types.specs.declared.events.Outcome.{Outcome}
use Rattle.gaspi_types.specs.declared.events.Outcome.TheVariants.{Applied, Failed}
use Rattle.gaspi_types.specs.declared.events.Event.{Event}
use Rattle.gaspi_types.specs.declared.events.Event.TheVariants.{Called, Joined, Take, Put}
use Rattle.gaspi_types.proofs.Chains.{both}
use Rattle.gaspi_types.proofs.Items.{slice_get-set_other, slice_get-set_same}
use Rattle.gaspi_model.specs.State.{opening, opening_posts, opening_thread, thread_at}
use Rattle.gaspi_model.specs.Posting.{with_post}
use Rattle.gaspi_model.specs.Calls.{posts_effect, plain_effect, requested_kinds}
use Rattle.gaspi_model.specs.Transfers.{EntryPosition, PostsAndMemory}
use Rattle.gaspi_model.specs.Step.{step, after, reached, is_there, is_declared}
use Rattle.gaspi_model.specs.declared.states.ThreadState.{ThreadState}
use Rattle.gaspi_model.specs.declared.states.ThreadState.TheVariants.{Ended}
use Rattle.gaspi_model.specs.declared.states.Posts.{Posts}
use Rattle.gaspi_model.specs.declared.states.Memory.{Memory}
use Rattle.gaspi_model.specs.declared.states.State.{State}
use Rattle.gaspi_model.proofs.Histories.{after-first}
use Rattle.gaspi_model.proofs.Sound.Registered.{IsTold, registering, registered-get}
use Rattle.gaspi_model.proofs.CollectivePosts.{IsMet, on_group-called, on_group-joined}
use Rattle.gaspi_model.proofs.Made.{IsTake, IsPut, memories_at, call-footprint, put-footprint, step-called, step-take, step-put}

-- At the start.

-- the values of a function at the numbers from `a` on
range-at : {A : Type 0} (f : ℕ → A) (a n i : ℕ) → i < n → slice_get (map f (range_with_len a n)) i ≡ Some (f (a + i))
range-at f a zero i less = absurd (omega arith)
range-at f a (suc n) zero less = ap (λ (k : ℕ). Some (f k)) (let same : a ≡ a + 0 = omega arith in same)
range-at f a (suc n) (suc i) less = range-at f (a + 1) n i (omega arith) ∙ ap (λ (k : ℕ). Some (f k)) (let same : a + 1 + i ≡ a + suc i = omega arith in same)

-- a caller that is declared is within the limits
pub declared-within : (ranks rank thread : ℕ) (callers : List CallerId) → ((place : ℕ) (c : CallerId) → slice_get callers place ≡ Some c → (c.rank < ranks) × (c.thread < 4))
    → list_any (is_caller rank thread) callers ≡ true → (rank < ranks) × (thread < 4)
declared-within ranks rank thread [] within h = absurd (let no : ⊥ = cc in no)
declared-within ranks rank thread (c ∷ callers) within h = go (is_caller rank thread c) refl (λ rest. declared-within ranks rank thread callers (λ place d at. within (suc place) d at) rest)
  where
    go : (b : Bool) → is_caller rank thread c ≡ b → (list_any (is_caller rank thread) callers ≡ true → (rank < ranks) × (thread < 4)) → (rank < ranks) × (thread < 4)
    go true is later =
        let here = within 0 c refl in
        let mine = both (c.rank == rank) (c.thread == thread) is in
        let same_rank = eqb-true c.rank rank mine.0 in
        let same_thread = eqb-true c.thread thread mine.1 in
        (subst (λ (n : ℕ). n < ranks) same_rank here.0, subst (λ (n : ℕ). n < 4) same_thread here.1)
    go false is later = later (rw is at h)

pub declared-opening : (w : ShapeValue) (rank thread : ℕ) → IsShape w → list_any (is_caller rank thread) w.callers ≡ true → is_declared (opening w) rank thread ≡ true
declared-opening w rank thread world h =
    let within = declared-within w.limits.ranks rank thread w.callers world.within h in
    let same_rank : 0 + rank ≡ rank = omega arith in
    let same_thread : 0 + thread ≡ thread = omega arith in
    let posts = subst (λ (n : ℕ). slice_get (map (opening_posts w) (range_with_len 0 w.limits.ranks)) rank ≡ Some (opening_posts w n)) same_rank (range-at (opening_posts w) 0 w.limits.ranks rank within.0) in
    let threads = subst (λ (n : ℕ). slice_get (map (opening_thread w rank) (range_with_len 0 4)) thread ≡ Some (opening_thread w rank n)) same_thread (range-at (opening_thread w rank) 0 4 thread within.1) in
    rw posts (rw threads (rw h refl))

-- By each step.

-- a thread that has a section has one afterwards
abbrev StaysThere : Posts → Posts → ℕ → Type 0
StaysThere posts after thread = is_there (thread_at posts thread) ≡ true → is_there (thread_at after thread) ≡ true

same-threads : (posts after : Posts) (thread : ℕ) → after.threads ≡ posts.threads → StaysThere posts after thread
same-threads posts after thread same h = rw same h

-- of a state with the posts of a rank replaced
declared-changed : (s : State) (o : ℕ) (posts after : Posts) → slice_get s.posts o ≡ Some posts → (memories : List Memory) (rank thread : ℕ)
    → StaysThere posts after thread → is_declared s rank thread ≡ true → is_declared (record s { posts = slice_set s.posts o after; memories = memories }) rank thread ≡ true
declared-changed s o posts after at memories rank thread stays h = go (o == rank) refl
  where
    go : (b : Bool) → (o == rank) ≡ b → is_declared (record s { posts = slice_set s.posts o after; memories = memories }) rank thread ≡ true
    go true is =
        let here : o ≡ rank = eqb-true o rank is in
        let before = subst (λ (n : ℕ). slice_get s.posts n ≡ Some posts) here at in
        let now = subst (λ (n : ℕ). slice_get (slice_set s.posts o after) n ≡ Some after) here (slice_get-set_same s.posts o posts after at) in
        rw now (stays (rw before at h))
    go false is = rw (slice_get-set_other s.posts o rank after (λ e. eqb-false o rank is e)) h

-- of a state with a segment told to a rank
declared-at_completion : (s : State) (ranks me : ℕ) (p : Posts) (call : Call) (reply : Reply) (all : List Posts) (memories : List Memory) (rank thread : ℕ)
    → is_declared (record s { posts = registering ranks me p call reply all; memories = memories }) rank thread ≡ is_declared (record s { posts = all; memories = memories }) rank thread
declared-at_completion s ranks me p call reply all memories rank thread = go (registered-get ranks me p call reply all rank)
  where
    go : IsTold all (registering ranks me p call reply all) rank
        → is_declared (record s { posts = registering ranks me p call reply all; memories = memories }) rank thread ≡ is_declared (record s { posts = all; memories = memories }) rank thread
    go (inl same) = rw same refl
    go (inr (x, known, before, now)) = rw (before, now) refl

threads-post : (posts : Posts) (queue target : ℕ) (asked : Result (List Kind) Refusal) → (with_post posts queue target asked).threads ≡ posts.threads
threads-post posts queue target (Ok kinds) = refl
threads-post posts queue target (Err refusal) = refl

-- the thread of an end that is recorded has its section yet
ended-there : (posts : Posts) (caller thread : ℕ) → StaysThere posts (record posts { threads = slice_set posts.threads caller Ended }) thread
ended-there posts caller thread h = go (caller == thread) refl (slice_get posts.threads thread) refl
  where
    go : (b : Bool) → (caller == thread) ≡ b → (o : Option ThreadState) → slice_get posts.threads thread ≡ o → is_there (thread_at (record posts { threads = slice_set posts.threads caller Ended }) thread) ≡ true
    go true is None at = absurd (let none = rw at at h in let no : ⊥ = cc in no)
    go true is (Some t) at =
        let here : caller ≡ thread = eqb-true caller thread is in
        let now : slice_get (slice_set posts.threads caller Ended) thread ≡ Some Ended =
        subst (λ (n : ℕ). slice_get (slice_set posts.threads n Ended) thread ≡ Some Ended) (sym here) (slice_get-set_same posts.threads thread t Ended at) in
        rw now refl
    go false is o at = rw (slice_get-set_other posts.threads caller thread Ended (λ e. eqb-false caller thread is e)) h

threads-done : (limits : Limits) (me : ℕ) (posts : Posts) (caller : ℕ) (call : Call) (thread : ℕ) → StaysThere posts (posts_effect limits me posts caller call) thread
threads-done limits me posts caller call thread = go (row_of call).posting refl
  where
    plain : (call : Call) → StaysThere posts (plain_effect posts caller call) thread
    plain End h = ended-there posts caller thread h
    plain other h = h

    go : (o : Option Posting) → (row_of call).posting ≡ o → StaysThere posts (posts_effect limits me posts caller call) thread
    go None none h = rw none (plain call h)
    go (Some to) post h = rw post (same-threads posts (with_post posts to.queue to.rank (requested_kinds limits me posts call)) thread (threads-post posts to.queue to.rank (requested_kinds limits me posts call)) h)

threads-after : (b : Bool) (posts done : Posts) (thread : ℕ) → StaysThere posts done thread → StaysThere posts (if b then posts else done) thread
threads-after true posts done thread stays h = h
threads-after false posts done thread stays h = stays h

-- what is declared depends on the posts alone
same-declared : (s t : State) (rank thread : ℕ) → t.posts ≡ s.posts → is_declared t rank thread ≡ is_declared s rank thread
same-declared s t rank thread same = go (slice_get s.posts rank) refl
  where
    go : (o : Option Posts) → slice_get s.posts rank ≡ o → is_declared t rank thread ≡ is_declared s rank thread
    go None at = let there : slice_get t.posts rank ≡ None = ap (λ (all : List Posts). slice_get all rank) same ∙ at in rw (there, at) refl
    go (Some posts) at = let there : slice_get t.posts rank ≡ Some posts = ap (λ (all : List Posts). slice_get all rank) same ∙ at in rw (there, at) refl

on_group-declared : (s t : State) (me : ℕ) (posts after : Posts) (rank thread : ℕ) → IsMet s t me posts after → is_declared s rank thread ≡ true → is_declared t rank thread ≡ true
on_group-declared s t me posts after rank thread met h =
    same-declared (record s { posts = slice_set s.posts me after; memories = s.memories }) t rank thread met.leaves
    ∙ declared-changed s me posts after met.there s.memories rank thread (same-threads posts after thread met.keeps.threads) h

called-declared : (s t : State) (c : CallerId) (call : Call) (reply : Reply) (rank thread : ℕ) → (row_of call).group ≡ None → step s (Called c call reply) ≡ Ok t
    → is_declared s rank thread ≡ true → is_declared t rank thread ≡ true
called-declared s t c call reply rank thread plain h there =
    let made = step-called s t c call reply plain h in
    let m = made.3 in
    let memories = memories_at (call-footprint s.limits.ranks c.rank call) c.rank made.2.memory s.memories in
    rw m.leaves (declared-at_completion s s.limits.ranks c.rank made.0 call reply (slice_set s.posts c.rank made.2.posts) memories rank thread
    ∙ declared-changed s c.rank made.0 made.2.posts m.posts_there memories rank thread
    (λ is. rw m.is.leaves (threads-after (is_idle reply) made.0 (posts_effect s.limits c.rank made.0 c.thread call) thread (threads-done s.limits c.rank made.0 c.thread call thread) is)) there)

pub declared-step : (s t : State) (e : Event) (rank thread : ℕ) → step s e ≡ Ok t → is_declared s rank thread ≡ true → is_declared t rank thread ≡ true
declared-step s t (Joined c id args) rank thread h there = on_group-declared s t c.rank _ _ rank thread (on_group-joined s t c id args h).2 there
declared-step s t (Called c call reply) rank thread h there = by-group (row_of call).group refl
  where
    by-group : (o : Option ℕ) → (row_of call).group ≡ o → is_declared t rank thread ≡ true
    by-group (Some id) named = on_group-declared s t c.rank _ _ rank thread (on_group-called s t c id call reply named h).2 there
    by-group None plain = called-declared s t c call reply rank thread plain h there
declared-step s t (Take origin queue target number outcome) rank thread h there =
    let made = step-take s t origin queue target number outcome h in
    let m = made.4 in
    rw m.leaves (declared-changed s origin made.0 made.2 m.posts_there s.memories rank thread (same-take made.0 made.1 outcome made.2 made.3 m.is) there)
  where
    same-take : (posts : Posts) (memory : Memory) (outcome : Outcome) (after : Posts) (at : EntryPosition) → IsTake s.limits posts memory queue target number outcome after at → StaysThere posts after thread
    same-take posts memory Applied after at h is = rw h.leaves is
    same-take posts memory Failed after at h is = rw h.leaves is
declared-step s t (Put origin queue target number outcome) rank thread h there =
    let made = step-put s t origin queue target number outcome h in
    let m = made.4 in
    rw m.leaves (declared-changed s origin made.0 made.2.posts m.posts_there (memories_at (put-footprint s.limits.ranks origin target made.3.entry.kind) origin made.2.memory s.memories) rank thread (same-put made.0 made.1 outcome made.2 made.3 m.is) there)
  where
    same-put : (posts : Posts) (memory : Memory) (outcome : Outcome) (after : PostsAndMemory) (at : EntryPosition) → IsPut posts memory queue target number outcome after at → StaysThere posts after.posts thread
    same-put posts memory Applied after at h is = rw h.leaves is
    same-put posts memory Failed after at h is = rw h.leaves is

pub declared-stays : (s t : State) (events : List Event) (rank thread : ℕ) → after s events ≡ Ok t → is_declared s rank thread ≡ true → is_declared t rank thread ≡ true
declared-stays s t [] rank thread h there = let same : s ≡ t = cc in rw (sym same) there
declared-stays s t (e ∷ events) rank thread h there =
    let first = after-first s t e events h in
    declared-stays first.0 t events rank thread first.2 (declared-step s first.0 e rank thread first.1 there)

pub reached-declared : (w : ShapeValue) (history : List Event) (s : State) (c : CallerId) → IsShape w → list_any (is_caller c.rank c.thread) w.callers ≡ true → reached w history ≡ Ok s → is_declared s c.rank c.thread ≡ true
reached-declared w history s c world mine h = declared-stays (opening w) s history c.rank c.thread h (declared-opening w c.rank c.thread world mine)
