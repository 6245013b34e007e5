-- A caller that has recorded its end is active no more, and one that no caller of the world is never was.
use Rattle.std.proofs.Common.{◌≡◌, ℕ, zero, suc, ◌+◌, Bool, true, false, ◌==◌, List, [], ◌∷◌, map, Option, None, Some, Ok, refl, sym, ap, ◌∙◌, subst, arith, if◌then◌else◌}
use Rattle.std.specs.List.{slice_get, slice_set, list_any, range_with_len}
use Rattle.std.proofs.lemmas.Bool.{eqb-true}
use Rattle.gaspi_types.specs.World.{ShapeValue, is_caller}
use Rattle.gaspi_types.specs.Replies.{is_idle}
use Rattle.gaspi_types.specs.declared.shapes.CallerId.{CallerId}
use Rattle.gaspi_types.specs.declared.calls.Call.{Call}
use Rattle.gaspi_types.specs.declared.calls.Call.TheVariants.{End}
use Rattle.gaspi_types.specs.declared.replies.Reply.{Reply}
use Rattle.gaspi_types.specs.declared.replies.Reply.TheVariants as replies
use Rattle.gaspi_types.specs.declared.replies.Refusal.TheVariants.{CallerEnded}
use Rattle.gaspi_types.specs.declared.replies.Ready.TheVariants as ready
use Rattle.gaspi_types.specs.declared.events.Event.{Event}
use Rattle.gaspi_types.specs.declared.events.Event.TheVariants.{Called}
use Rattle.gaspi_model.specs.State.{opening, opening_posts, opening_thread, thread_at, is_running}
use Rattle.gaspi_model.specs.Posting.{counted}
use Rattle.gaspi_model.specs.Calls.{recorded_reply, posts_after}
use Rattle.gaspi_types.specs.CallRows.{is_end}
use Rattle.gaspi_model.specs.Step.{step, after, reached, recorded_calls, is_active, ends_caller}
use Rattle.gaspi_model.specs.declared.states.Posts.{Posts}
use Rattle.gaspi_model.specs.declared.states.State.{State}
use Rattle.gaspi_model.specs.declared.states.ThreadState.{ThreadState}
use Rattle.gaspi_model.specs.declared.states.ThreadState.TheVariants as threads
use Rattle.gaspi_model.specs.Transfers.{PostsAndMemory}
use Rattle.gaspi_types.proofs.Chains.{both}
use Rattle.gaspi_model.proofs.Made.{step-called}
use Rattle.gaspi_model.proofs.Same.{same_reply-same}
use Rattle.gaspi_types.proofs.Items.{slice_get-set_same, map-at}
use Rattle.gaspi_model.proofs.Sound.Registered.{registered-mine}
use Rattle.gaspi_model.proofs.Ended.Activity.{active}
use Rattle.gaspi_model.proofs.Histories.{after-first}

-- the thread of an end that is recorded does not run afterwards
ended-thread : (posts : Posts) (thread : ℕ) → is_running (thread_at (record posts { threads = slice_set posts.threads thread threads.Ended }) thread) ≡ false
ended-thread posts thread = go (slice_get posts.threads thread) refl
  where
    go : (o : Option ThreadState) → slice_get posts.threads thread ≡ o → is_running (thread_at (record posts { threads = slice_set posts.threads thread threads.Ended }) thread) ≡ false
    go (Some t) at = rw (slice_get-set_same posts.threads thread t threads.Ended at) refl
    go None at = rw (none-set posts.threads thread at) refl
      where
        none-set : (ts : List ThreadState) (k : ℕ) → slice_get ts k ≡ None → slice_get (slice_set ts k threads.Ended) k ≡ None
        none-set [] k h = refl
        none-set (x ∷ ts) zero h = absurd (let no : ⊥ = cc in no)
        none-set (x ∷ ts) (suc k) h = none-set ts k h

end-after : (posts : Posts) (thread : ℕ) (reply : Reply) (b : Bool) → is_running (thread_at posts thread) ≡ b
    → reply ≡ recorded_reply (if b then ready.Reply replies.Done else ready.Reply (replies.Refused CallerEnded))
    → is_running (thread_at (counted (if is_idle reply then posts else record posts { threads = slice_set posts.threads thread threads.Ended })) thread) ≡ false
end-after posts thread reply true running is = rw is (ended-thread posts thread)
end-after posts thread reply false ended is = rw is ended

pub end-inactive : (s t : State) (c : CallerId) (reply : Reply) → step s (Called c End reply) ≡ Ok t → is_active t c.rank c.thread ≡ false
end-inactive s t c reply h =
    let made = step-called s t c End reply refl h in
    let m = made.3 in
    let answered = same_reply-same _ _ m.is.answered in
    let there : slice_get t.posts c.rank ≡ Some made.2.posts =
    ap (λ (x : State). slice_get x.posts c.rank) m.leaves ∙ registered-mine s.limits.ranks c.rank made.0 End reply (slice_set s.posts c.rank made.2.posts) ∙ slice_get-set_same s.posts c.rank made.0 made.2.posts m.posts_there in
    let posts : made.2.posts ≡ posts_after s.limits c.rank made.0 c.thread End reply = ap (λ (x : PostsAndMemory). x.posts) m.is.leaves in
    let none = end-after made.0 c.thread reply (is_running (thread_at made.0 c.thread)) refl answered in
    in-posts made.2.posts there (ap (λ (p : Posts). is_running (thread_at p c.thread)) posts ∙ none)
  where
    in-posts : (p : Posts) → slice_get t.posts c.rank ≡ Some p → is_running (thread_at p c.thread) ≡ false → is_active t c.rank c.thread ≡ false
    in-posts p at none = rw at none

-- no call of a list is an end
abbrev pub HasNoEnd : List (Call × Reply) → Type 0
HasNoEnd pairs = (k : ℕ) (reply : Reply) → slice_get pairs k ≡ Some (End, reply) → ⊥

end-apart : (call : Call) (reply reply' : Reply) → is_end call ≡ false → ◌≡◌ {A = Option (Call × Reply)} (Some (call, reply)) (Some (End, reply')) → ⊥
end-apart call reply reply' not_end h =
    let pair : ◌≡◌ {A = Call × Reply} (call, reply) (End, reply') = cc in
    let same : call ≡ End = ap (λ (p : Call × Reply). p.0) pair in
    let never : true ≡ false = subst (λ (x : Call). is_end x ≡ false) same not_end in
    cc

-- where a caller is active after events, it was so before them, and none of them is its end
pub after-active : (s t : State) (events : List Event) (rank thread : ℕ) → after s events ≡ Ok t → is_active t rank thread ≡ true
    → (is_active s rank thread ≡ true) × HasNoEnd (recorded_calls rank thread events)
after-active s t [] rank thread h is = ((let same : s ≡ t = cc in rw same is), λ k reply at. (let no : ⊥ = cc in no))
after-active s t (e ∷ events) rank thread h is =
    let first = after-first s t e events h in
    let rest = after-active first.0 t events rank thread first.2 is in
    by-end first.0 e first.1 (ends_caller rank thread e) refl rest.0 rest.1
  where
    -- an event that is not the caller's end
    other : (s1 : State) (x : Event) → step s x ≡ Ok s1 → ends_caller rank thread x ≡ false → is_active s1 rank thread ≡ true → HasNoEnd (recorded_calls rank thread events)
        → (is_active s rank thread ≡ true) × HasNoEnd (recorded_calls rank thread (x ∷ events))
    other s1 (Called c call reply) made ends is1 none = (sym (active s s1 (Called c call reply) rank thread made ends) ∙ is1, by-caller (is_caller rank thread c) refl)
      where
        head : is_end call ≡ false → HasNoEnd ((call, reply) ∷ recorded_calls rank thread events)
        head not_end zero reply' at = end-apart call reply reply' not_end at
        head not_end (suc k) reply' at = none k reply' at

        by-caller : (b : Bool) → is_caller rank thread c ≡ b → HasNoEnd (recorded_calls rank thread (Called c call reply ∷ events))
        by-caller true mine = rw mine (head (rw mine at ends))
        by-caller false foreign = rw foreign none
    other s1 transfer made ends is1 none = (sym (active s s1 transfer rank thread made ends) ∙ is1, none)

    -- its end
    end : (s1 : State) (x : Event) → step s x ≡ Ok s1 → ends_caller rank thread x ≡ true → is_active s1 rank thread ≡ true → ⊥
    end s1 (Called c call reply) made ends is1 =
        let parts = both (is_caller rank thread c) (is_end call) ends in
        let mine = both (c.rank == rank) (c.thread == thread) parts.0 in
        let is_r = eqb-true c.rank rank mine.0 in
        let is_t = eqb-true c.thread thread mine.1 in
        by-call call parts.1 made is_r is_t
      where
        by-call : (x : Call) → is_end x ≡ true → step s (Called c x reply) ≡ Ok s1 → c.rank ≡ rank → c.thread ≡ thread → ⊥
        by-call End ending made is_r is_t =
            let none = end-inactive s s1 c reply made in
            let here : is_active s1 rank thread ≡ false = subst (λ (n : ℕ). is_active s1 rank n ≡ false) is_t (subst (λ (n : ℕ). is_active s1 n c.thread ≡ false) is_r none) in
            cc
        by-call other ending made is_r is_t = cc
    end s1 transfer made ends is1 = cc

    by-end : (s1 : State) (x : Event) → step s x ≡ Ok s1 → (b : Bool) → ends_caller rank thread x ≡ b → is_active s1 rank thread ≡ true → HasNoEnd (recorded_calls rank thread events)
        → (is_active s rank thread ≡ true) × HasNoEnd (recorded_calls rank thread (x ∷ events))
    by-end s1 x made false ends is1 none = other s1 x made ends is1 none
    by-end s1 x made true ends is1 none = absurd (end s1 x made ends is1)

-- a number of a range from 0
range-item : (a n i r : ℕ) → slice_get (range_with_len a n) i ≡ Some r → r ≡ a + i
range-item a zero i r at = absurd (let no : ⊥ = cc in no)
range-item a (suc n) zero r at = let same : a ≡ r = cc in sym same ∙ omega arith
range-item a (suc n) (suc i) r at = range-item (a + 1) n i r at ∙ omega arith

-- a caller that is active at the start is one of the world
opening-declared : (w : ShapeValue) (rank thread : ℕ) → is_active (opening w) rank thread ≡ true → list_any (is_caller rank thread) w.callers ≡ true
opening-declared w rank thread h = by-posts (slice_get (opening w).posts rank) refl
  where
    running : (b : Bool) → is_running (if b then threads.Running else threads.Absent) ≡ true → b ≡ true
    running true h = refl
    running false h = absurd (let no : ⊥ = cc in no)

    by-thread : (o : Option ThreadState) → slice_get (map (opening_thread w rank) (range_with_len 0 4)) thread ≡ o → is_running (thread_at (opening_posts w rank) thread) ≡ true → list_any (is_caller rank thread) w.callers ≡ true
    by-thread None at is = absurd (let none = rw at at is in let no : ⊥ = cc in no)
    by-thread (Some t) at is =
        let from = map-at (opening_thread w rank) (range_with_len 0 4) thread t at in
        let number : from.0 ≡ thread = range-item 0 4 thread from.0 from.1 ∙ omega arith in
        let runs : is_running t ≡ true = rw at at is in
        running (list_any (is_caller rank thread) w.callers) (subst (λ (n : ℕ). is_running (opening_thread w rank n) ≡ true) number (subst (λ (x : ThreadState). is_running x ≡ true) from.2 runs))

    by-posts : (o : Option Posts) → slice_get (opening w).posts rank ≡ o → list_any (is_caller rank thread) w.callers ≡ true
    by-posts None at = absurd (let none = rw at at h in let no : ⊥ = cc in no)
    by-posts (Some p) at =
        let from = map-at (opening_posts w) (range_with_len 0 w.limits.ranks) rank p at in
        let number : from.0 ≡ rank = range-item 0 w.limits.ranks rank from.0 from.1 ∙ omega arith in
        let here : is_running (thread_at p thread) ≡ true = rw at at h in
        by-thread (slice_get (map (opening_thread w rank) (range_with_len 0 4)) thread) refl
        (subst (λ (n : ℕ). is_running (thread_at (opening_posts w n) thread) ≡ true) number (subst (λ (x : Posts). is_running (thread_at x thread) ≡ true) from.2 here))

pub active-history : (w : ShapeValue) (history : List Event) (s : State) (rank thread : ℕ) → reached w history ≡ Ok s → is_active s rank thread ≡ true
    → (list_any (is_caller rank thread) w.callers ≡ true) × HasNoEnd (recorded_calls rank thread history)
active-history w history s rank thread h is =
    let both = after-active (opening w) s history rank thread h is in
    (opening-declared w rank thread both.0, both.1)
