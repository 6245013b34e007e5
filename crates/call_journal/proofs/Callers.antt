-- Each call of a journal is one of a caller that was declared.
use Rattle.std.proofs.Common.{◌≡◌, ℕ, zero, suc, ◌+◌, ◌<◌, Bool, true, false, ◌==◌, List, [], ◌∷◌, map, Option, None, Some, Result, Ok, Err, refl, sym, ap, ◌∙◌, subst, arith, if◌then◌else◌, ◌||◌, inl, inr}
use Rattle.std.specs.List.{slice_get, slice_set, list_any, range_with_len}
use Rattle.std.proofs.lemmas.Bool.{eqb-true, eqb-false}
use Rattle.std.proofs.lemmas.List.Folds.{list_any-append}
use Rattle.gaspi_types.specs.World.{ShapeValue, is_caller}
use Rattle.gaspi_types.specs.Replies.{is_idle}
use Rattle.gaspi_types.specs.declared.entries.Kind.{Kind}
use Rattle.gaspi_types.specs.declared.shapes.CallerId.{CallerId}
use Rattle.gaspi_types.specs.declared.shapes.Limits.{Limits}
use Rattle.gaspi_types.specs.declared.calls.Call.{Call}
use Rattle.gaspi_types.specs.declared.calls.Call.TheVariants.{End}
use Rattle.gaspi_types.specs.CallRows.{row_of}
use Rattle.gaspi_types.specs.declared.call_rows.Posting.{Posting}
use Rattle.gaspi_types.specs.declared.replies.Reply.{Reply}
use Rattle.gaspi_types.specs.declared.replies.Refusal.{Refusal}
use Rattle.gaspi_types.specs.declared.events.Outcome.{Outcome}
use Rattle.gaspi_types.specs.declared.events.Outcome.TheVariants.{Applied, Failed}
use Rattle.gaspi_types.specs.declared.events.Event.{Event}
use Rattle.gaspi_types.specs.declared.events.Event.TheVariants.{Called, Joined, Take, Put}
use Rattle.gaspi_types.proofs.Chains.{both}
use Rattle.gaspi_types.proofs.Items.{slice_get-set_other, slice_get-set_same, map-at}
use Rattle.gaspi_model.specs.State.{opening, opening_posts, opening_thread, thread_at}
use Rattle.gaspi_model.specs.Posting.{with_post}
use Rattle.gaspi_model.specs.Calls.{posts_effect, plain_effect, requested_kinds}
use Rattle.gaspi_model.specs.Transfers.{EntryPosition, PostsAndMemory}
use Rattle.gaspi_model.specs.Step.{step, after, is_there, is_declared}
use Rattle.gaspi_model.specs.declared.states.ThreadState.{ThreadState}
use Rattle.gaspi_model.specs.declared.states.ThreadState.TheVariants as threads
use Rattle.gaspi_model.specs.declared.states.Posts.{Posts}
use Rattle.gaspi_model.specs.declared.states.Memory.{Memory}
use Rattle.gaspi_model.specs.declared.states.State.{State}
use Rattle.gaspi_model.proofs.Histories.{after-first}
use Rattle.gaspi_model.proofs.GroupSteps.{step-completed}
use Rattle.gaspi_model.proofs.Sound.Registered.{IsTold, registering, registered-get}
use Rattle.gaspi_model.proofs.CollectivePosts.{IsMet, on_group-called, on_group-joined}
use Rattle.gaspi_model.proofs.Made.{IsTake, IsPut, memories_at, call-footprint, put-footprint, step-called, step-take, step-put}
use Rattle.rank_script.specs.Bench.{bench_shape, bench_callers}
use Rattle.call_journal.proofs.Counts.{AreOfFirst, IsOfFirst}

-- a thread has a section afterwards where it had one before
abbrev SameThere : Posts → Posts → ℕ → Type 0
SameThere posts after thread = is_there (thread_at after thread) ≡ is_there (thread_at posts thread)

same-threads : (posts after : Posts) (thread : ℕ) → after.threads ≡ posts.threads → SameThere posts after thread
same-threads posts after thread same = rw same refl

-- of a state with the posts of a rank replaced
declared-changed : (s : State) (o : ℕ) (posts after : Posts) → slice_get s.posts o ≡ Some posts → (memories : List Memory) (rank thread : ℕ)
    → SameThere posts after thread → is_declared (record s { posts = slice_set s.posts o after; memories = memories }) rank thread ≡ is_declared s rank thread
declared-changed s o posts after at memories rank thread stays = go (o == rank) refl
  where
    go : (b : Bool) → (o == rank) ≡ b → is_declared (record s { posts = slice_set s.posts o after; memories = memories }) rank thread ≡ is_declared s rank thread
    go true is =
        let here : o ≡ rank = eqb-true o rank is in
        let before = subst (λ (n : ℕ). slice_get s.posts n ≡ Some posts) here at in
        let now = subst (λ (n : ℕ). slice_get (slice_set s.posts o after) n ≡ Some after) here (slice_get-set_same s.posts o posts after at) in
        rw (before, now, stays) refl
    go false is = rw (slice_get-set_other s.posts o rank after (λ e. eqb-false o rank is e)) refl

-- of a state with a segment told to a rank
declared-told : (s : State) (ranks me : ℕ) (p : Posts) (call : Call) (reply : Reply) (all : List Posts) (memories : List Memory) (rank thread : ℕ)
    → is_declared (record s { posts = registering ranks me p call reply all; memories = memories }) rank thread ≡ is_declared (record s { posts = all; memories = memories }) rank thread
declared-told s ranks me p call reply all memories rank thread = go (registered-get ranks me p call reply all rank)
  where
    go : IsTold all (registering ranks me p call reply all) rank
        → is_declared (record s { posts = registering ranks me p call reply all; memories = memories }) rank thread ≡ is_declared (record s { posts = all; memories = memories }) rank thread
    go (inl same) = rw same refl
    go (inr (x, known, before, now)) = rw (before, now) refl

threads-post : (posts : Posts) (queue target : ℕ) (asked : Result (List Kind) Refusal) → (with_post posts queue target asked).threads ≡ posts.threads
threads-post posts queue target (Ok kinds) = refl
threads-post posts queue target (Err refusal) = refl

-- the thread of an end that is recorded had its section, and has it yet
ended-there : (posts : Posts) (caller thread : ℕ) → is_there (thread_at posts caller) ≡ true → SameThere posts (record posts { threads = slice_set posts.threads caller threads.Ended }) thread
ended-there posts caller thread there = go (caller == thread) refl (slice_get posts.threads thread) refl
  where
    go : (b : Bool) → (caller == thread) ≡ b → (o : Option ThreadState) → slice_get posts.threads thread ≡ o → SameThere posts (record posts { threads = slice_set posts.threads caller threads.Ended }) thread
    go true is None at =
        let here : caller ≡ thread = eqb-true caller thread is in
        absurd (let none = rw (here, at) at there in let no : ⊥ = cc in no)
    go true is (Some t) at =
        let here : caller ≡ thread = eqb-true caller thread is in
        let now : slice_get (slice_set posts.threads caller threads.Ended) thread ≡ Some threads.Ended =
        subst (λ (n : ℕ). slice_get (slice_set posts.threads n threads.Ended) thread ≡ Some threads.Ended) (sym here) (slice_get-set_same posts.threads thread t threads.Ended at) in
        let was : is_there (thread_at posts thread) ≡ true = subst (λ (n : ℕ). is_there (thread_at posts n) ≡ true) here there in
        rw now (sym was)
    go false is o at = rw (slice_get-set_other posts.threads caller thread threads.Ended (λ e. eqb-false caller thread is e)) refl

threads-done : (limits : Limits) (me : ℕ) (posts : Posts) (caller : ℕ) (call : Call) (thread : ℕ) → is_there (thread_at posts caller) ≡ true → SameThere posts (posts_effect limits me posts caller call) thread
threads-done limits me posts caller call thread there = go (row_of call).posting refl
  where
    plain : (call : Call) → SameThere posts (plain_effect posts caller call) thread
    plain End = ended-there posts caller thread there
    plain other = refl

    go : (o : Option Posting) → (row_of call).posting ≡ o → SameThere posts (posts_effect limits me posts caller call) thread
    go None none = rw none (plain call)
    go (Some to) post = rw post (same-threads posts (with_post posts to.queue to.rank (requested_kinds limits me posts call)) thread (threads-post posts to.queue to.rank (requested_kinds limits me posts call)))

threads-after : (b : Bool) (posts done : Posts) (thread : ℕ) → SameThere posts done thread → SameThere posts (if b then posts else done) thread
threads-after true posts done thread stays = refl
threads-after false posts done thread stays = stays

-- what is declared depends on the posts alone
same-declared : (s t : State) (rank thread : ℕ) → t.posts ≡ s.posts → is_declared t rank thread ≡ is_declared s rank thread
same-declared s t rank thread same = go (slice_get s.posts rank) refl
  where
    go : (o : Option Posts) → slice_get s.posts rank ≡ o → is_declared t rank thread ≡ is_declared s rank thread
    go None at = let there : slice_get t.posts rank ≡ None = ap (λ (all : List Posts). slice_get all rank) same ∙ at in rw (there, at) refl
    go (Some posts) at = let there : slice_get t.posts rank ≡ Some posts = ap (λ (all : List Posts). slice_get all rank) same ∙ at in rw (there, at) refl

met-declared : (s t : State) (me : ℕ) (posts after : Posts) (rank thread : ℕ) → IsMet s t me posts after → is_declared t rank thread ≡ is_declared s rank thread
met-declared s t me posts after rank thread met =
    same-declared (record s { posts = slice_set s.posts me after; memories = s.memories }) t rank thread met.leaves
    ∙ declared-changed s me posts after met.there s.memories rank thread (same-threads posts after thread met.keeps.threads)

called-declared : (s t : State) (c : CallerId) (call : Call) (reply : Reply) (rank thread : ℕ) → (row_of call).group ≡ None → step s (Called c call reply) ≡ Ok t
    → is_declared t rank thread ≡ is_declared s rank thread
called-declared s t c call reply rank thread plain h =
    let made = step-called s t c call reply plain h in
    let m = made.3 in
    let memories = memories_at (call-footprint s.limits.ranks c.rank call) c.rank made.2.memory s.memories in
    rw m.leaves (declared-told s s.limits.ranks c.rank made.0 call reply (slice_set s.posts c.rank made.2.posts) memories rank thread
    ∙ declared-changed s c.rank made.0 made.2.posts m.posts_there memories rank thread
    (rw m.is.leaves (threads-after (is_idle reply) made.0 (posts_effect s.limits c.rank made.0 c.thread call) thread (threads-done s.limits c.rank made.0 c.thread call thread m.is.there))))

declared-step : (s t : State) (e : Event) (rank thread : ℕ) → step s e ≡ Ok t → is_declared t rank thread ≡ is_declared s rank thread
declared-step s t (Joined c id args) rank thread h = met-declared s t c.rank _ _ rank thread (on_group-joined s t c id args h).2
declared-step s t (Called c call reply) rank thread h = by-group (row_of call).group refl
  where
    by-group : (o : Option ℕ) → (row_of call).group ≡ o → is_declared t rank thread ≡ is_declared s rank thread
    by-group (Some id) named = met-declared s t c.rank _ _ rank thread (on_group-called s t c id call reply named h).2
    by-group None plain = called-declared s t c call reply rank thread plain h
declared-step s t (Take origin queue target number outcome) rank thread h =
    let made = step-take s t origin queue target number outcome h in
    let m = made.4 in
    rw m.leaves (declared-changed s origin made.0 made.2 m.posts_there s.memories rank thread (same-take made.0 made.1 outcome made.2 made.3 m.is))
  where
    same-take : (posts : Posts) (memory : Memory) (outcome : Outcome) (after : Posts) (at : EntryPosition) → IsTake s.limits posts memory queue target number outcome after at → SameThere posts after thread
    same-take posts memory Applied after at h = rw h.leaves refl
    same-take posts memory Failed after at h = rw h.leaves refl
declared-step s t (Put origin queue target number outcome) rank thread h =
    let made = step-put s t origin queue target number outcome h in
    let m = made.4 in
    rw m.leaves (declared-changed s origin made.0 made.2.posts m.posts_there (memories_at (put-footprint s.limits.ranks origin target made.3.entry.kind) origin made.2.memory s.memories) rank thread (same-put made.0 made.1 outcome made.2 made.3 m.is))
  where
    same-put : (posts : Posts) (memory : Memory) (outcome : Outcome) (after : PostsAndMemory) (at : EntryPosition) → IsPut posts memory queue target number outcome after at → SameThere posts after.posts thread
    same-put posts memory Applied after at h = rw h.leaves refl
    same-put posts memory Failed after at h = rw h.leaves refl

-- a call that is recorded is one of a caller that is declared
there-declared : (s : State) (rank thread : ℕ) (posts : Posts) → slice_get s.posts rank ≡ Some posts → is_there (thread_at posts thread) ≡ true → is_declared s rank thread ≡ true
there-declared s rank thread posts at there = rw at there

call-declared : (s t : State) (c : CallerId) (call : Call) (reply : Reply) → step s (Called c call reply) ≡ Ok t → is_declared s c.rank c.thread ≡ true
call-declared s t c call reply h = by-group (row_of call).group refl
  where
    by-group : (o : Option ℕ) → (row_of call).group ≡ o → is_declared s c.rank c.thread ≡ true
    by-group (Some id) named =
        let made = step-completed s t c id call reply named h in
        there-declared s c.rank c.thread made.0 made.2.posts_there made.2.is.there
    by-group None plain =
        let made = step-called s t c call reply plain h in
        there-declared s c.rank c.thread made.0 made.3.posts_there made.3.is.there

-- each caller that is declared is thread 0 of one of so many ranks
abbrev pub HasFirst : ℕ → State → Type 0
HasFirst ranks s = (rank thread : ℕ) → is_declared s rank thread ≡ true → (rank < ranks) × (thread ≡ 0)

pub first-calls : (ranks : ℕ) (s t : State) (events : List Event) → HasFirst ranks s → after s events ≡ Ok t → AreOfFirst ranks events
first-calls ranks s t [] has h = tt
first-calls ranks s t (e ∷ events) has h =
    let first = after-first s t e events h in
    (here e first.0 first.1, first-calls ranks first.0 t events (λ rank thread is. has rank thread (sym (declared-step s first.0 e rank thread first.1) ∙ is)) first.2)
  where
    here : (e : Event) (next : State) → step s e ≡ Ok next → IsOfFirst ranks e
    here (Called c call reply) next made = has c.rank c.thread (call-declared s next c call reply made)
    here (Joined c id args) next made = tt
    here (Take origin queue target number outcome) next made = tt
    here (Put origin queue target number outcome) next made = tt

-- The callers of `bench`.

ring-callers : (ranks rank thread : ℕ) → list_any (is_caller rank thread) (bench_callers ranks) ≡ true → (rank < ranks) × (thread ≡ 0)
ring-callers zero rank thread h = absurd (let no : ⊥ = cc in no)
ring-callers (suc n) rank thread h =
    go (list_any (is_caller rank thread) (bench_callers n)) refl (ring-callers n rank thread) (is_caller rank thread (record { rank = n; thread = 0 })) refl
    (sym (list_any-append (is_caller rank thread) (bench_callers n) (record { rank = n; thread = 0 } ∷ [])) ∙ h)
  where
    go : (a : Bool) → list_any (is_caller rank thread) (bench_callers n) ≡ a → (list_any (is_caller rank thread) (bench_callers n) ≡ true → (rank < n) × (thread ≡ 0))
        → (b : Bool) → is_caller rank thread (record { rank = n; thread = 0 }) ≡ b
        → (list_any (is_caller rank thread) (bench_callers n) || list_any (is_caller rank thread) (record { rank = n; thread = 0 } ∷ [])) ≡ true → (rank < suc n) × (thread ≡ 0)
    go true is rest b last any = (let earlier = rest is in ((let less = earlier.0 in omega arith), earlier.1))
    go false is rest true last any =
        let mine = both (n == rank) (0 == thread) last in
        let same = eqb-true n rank mine.0 in
        ((omega arith), sym (eqb-true 0 thread mine.1))
    go false is rest false last any = absurd (let none = rw (is, last) at any in let no : ⊥ = cc in no)

-- a number of a range from 0
pub range-item : (a n i r : ℕ) → slice_get (range_with_len a n) i ≡ Some r → r ≡ a + i
range-item a zero i r at = absurd (let no : ⊥ = cc in no)
range-item a (suc n) zero r at = let same : a ≡ r = cc in sym same ∙ omega arith
range-item a (suc n) (suc i) r at = range-item (a + 1) n i r at ∙ omega arith

opening-declared : (w : ShapeValue) (rank thread : ℕ) → is_declared (opening w) rank thread ≡ true → list_any (is_caller rank thread) w.callers ≡ true
opening-declared w rank thread h = by-posts (slice_get (opening w).posts rank) refl
  where
    declared : (b : Bool) → is_there (if b then threads.Running else threads.Absent) ≡ true → b ≡ true
    declared true h = refl
    declared false h = absurd (let no : ⊥ = cc in no)

    by-thread : (o : Option ThreadState) → slice_get (map (opening_thread w rank) (range_with_len 0 4)) thread ≡ o → is_there (thread_at (opening_posts w rank) thread) ≡ true → list_any (is_caller rank thread) w.callers ≡ true
    by-thread None at is = absurd (let none = rw at at is in let no : ⊥ = cc in no)
    by-thread (Some t) at is =
        let from = map-at (opening_thread w rank) (range_with_len 0 4) thread t at in
        let number : from.0 ≡ thread = range-item 0 4 thread from.0 from.1 ∙ omega arith in
        let there : is_there t ≡ true = rw at at is in
        declared (list_any (is_caller rank thread) w.callers) (subst (λ (n : ℕ). is_there (opening_thread w rank n) ≡ true) number (subst (λ (x : ThreadState). is_there x ≡ true) from.2 there))

    by-posts : (o : Option Posts) → slice_get (opening w).posts rank ≡ o → list_any (is_caller rank thread) w.callers ≡ true
    by-posts None at = absurd (let none = rw at at h in let no : ⊥ = cc in no)
    by-posts (Some p) at =
        let from = map-at (opening_posts w) (range_with_len 0 w.limits.ranks) rank p at in
        let number : from.0 ≡ rank = range-item 0 w.limits.ranks rank from.0 from.1 ∙ omega arith in
        let here : is_there (thread_at p thread) ≡ true = rw at at h in
        by-thread (slice_get (map (opening_thread w rank) (range_with_len 0 4)) thread) refl
        (subst (λ (n : ℕ). is_there (thread_at (opening_posts w n) thread) ≡ true) number (subst (λ (x : Posts). is_there (thread_at x thread) ≡ true) from.2 here))

-- each call of a journal of `bench` is one of thread 0 of a rank
pub bench-first : (ranks rounds : ℕ) (journal : List Event) (s : State) → after (opening (bench_shape ranks rounds)) journal ≡ Ok s → AreOfFirst ranks journal
bench-first ranks rounds journal s h =
    first-calls ranks (opening (bench_shape ranks rounds)) s journal
    (λ rank thread is. ring-callers ranks rank thread (opening-declared (bench_shape ranks rounds) rank thread is)) h
