-- A rank whose threads have ended and of which no transfer may come next stays so; and where all ranks are so, nothing is left to do.
use Rattle.std.proofs.Common.{◌≡◌, ◌≢◌, ◌==◌, ℕ, zero, suc, ◌+◌, ◌<◌, Bool, true, false, is_none, List, [], ◌∷◌, ◌++◌, Option, None, Some, Ok, refl, sym, ap, ◌∙◌, subst, arith, ◌⊎◌, inl, inr}
use Rattle.std.specs.List.{slice_get, slice_set, flat_map, enumerate_from}
use Rattle.std.proofs.lemmas.Bool.{eqb-true, eqb-false}
use Rattle.std.proofs.lemmas.Option.{slice_get_within}
use Rattle.gaspi_types.specs.CallRows.{row_of}
use Rattle.gaspi_types.specs.Lanes.{may_take, may_put}
use Rattle.gaspi_types.specs.Replies.{is_idle}
use Rattle.gaspi_types.specs.declared.entries.Entry.{Entry}
use Rattle.gaspi_types.specs.declared.entries.Queue.{Queue}
use Rattle.gaspi_types.specs.declared.events.Event.{Event}
use Rattle.gaspi_types.specs.declared.events.Event.TheVariants.{Called, Joined, Take, Put}
use Rattle.gaspi_types.specs.declared.events.Transfer.{Transfer}
use Rattle.gaspi_types.specs.declared.replies.Ready.TheVariants as ready
use Rattle.gaspi_types.specs.declared.replies.Refusal.TheVariants.{CallerEnded}
use Rattle.gaspi_types.specs.declared.replies.Reply.TheVariants as replies
use Rattle.gaspi_types.specs.declared.shapes.Limits.{Limits}
use Rattle.gaspi_types.proofs.Items.{slice_get-set_same, slice_get-set_other}
use Rattle.gaspi_model.specs.Calls.{answer, recorded_reply}
use Rattle.gaspi_model.specs.Changes.{IsOnlyCounted}
use Rattle.gaspi_model.specs.CollectiveCalls.{is_reply_of}
use Rattle.gaspi_model.specs.Posting.{counted}
use Rattle.gaspi_model.specs.Settled.{IsSettled}
use Rattle.gaspi_model.specs.Sound.{IsSound}
use Rattle.gaspi_model.specs.State.{thread_at, is_running}
use Rattle.gaspi_model.specs.Step.{step, after, owner_of, is_active}
use Rattle.gaspi_model.specs.Transfers.{transfer_of, lane_transfers, queue_transfers, rank_transfers, transfers}
use Rattle.gaspi_model.specs.declared.states.Posts.{Posts}
use Rattle.gaspi_model.specs.declared.states.State.{State}
use Rattle.gaspi_model.proofs.GroupSteps.{step-completed, step-joined}
use Rattle.gaspi_model.proofs.Histories.{after-first}
use Rattle.gaspi_model.proofs.IdleSteps.{only-counted}
use Rattle.gaspi_model.proofs.Listed.Steps.{take-listed, put-listed}
use Rattle.gaspi_model.proofs.Made.{step-called, step-take, step-put}
use Rattle.gaspi_model.proofs.CollectivePosts.{on_group-called, on_group-joined}
use Rattle.gaspi_model.proofs.Same.{same_reply-same}
use Rattle.gaspi_model.proofs.Settled.EmptyLanes.{lanes-empty}
use Rattle.gaspi_model.proofs.Sound.Steps.{limits-stay}
use Rattle.gaspi_model.proofs.Sound.Registered.{IsTold, registering, registered-get}
use Rattle.transfer_worker.specs.StillRanks.{IsStill}

-- What stands in lists.

abbrev IsIn : {A : Type 0} → List A → A → Type 0
IsIn xs x = (k : ℕ) × (slice_get xs k ≡ Some x)

in-front : {A : Type 0} (xs ys : List A) (x : A) → IsIn xs x → IsIn (xs ++ ys) x
in-front [] ys x (k, at) = absurd (let no : ⊥ = cc in no)
in-front (y ∷ xs) ys x (zero, at) = (zero, at)
in-front (y ∷ xs) ys x (suc k, at) = let rest = in-front xs ys x (k, at) in (suc rest.0, rest.1)

in-behind : {A : Type 0} (xs ys : List A) (x : A) → IsIn ys x → IsIn (xs ++ ys) x
in-behind [] ys x is = is
in-behind (y ∷ xs) ys x is = let rest = in-behind xs ys x is in (suc rest.0, rest.1)

in-joined : {A : Type 0} (xs ys : List A) (x : A) → IsIn (xs ++ ys) x → IsIn xs x ⊎ IsIn ys x
in-joined [] ys x is = inr is
in-joined (y ∷ xs) ys x (zero, at) = inl (zero, at)
in-joined {A} (y ∷ xs) ys x (suc k, at) = go (in-joined xs ys x (k, at))
  where
    go : IsIn xs x ⊎ IsIn ys x → IsIn (y ∷ xs) x ⊎ IsIn ys x
    go (inl is) = inl (suc is.0, is.1)
    go (inr is) = inr is

flat-in : {A B : Type 0} (f : A → List B) (xs : List A) (x : A) (y : B) → IsIn xs x → IsIn (f x) y → IsIn (flat_map f xs) y
flat-in f [] x y (k, at) is = absurd (let no : ⊥ = cc in no)
flat-in f (z ∷ xs) x y (zero, at) is = let same : z ≡ x = cc in in-front (f z) (flat_map f xs) y (rw same is)
flat-in f (z ∷ xs) x y (suc k, at) is = in-behind (f z) (flat_map f xs) y (flat-in f xs x y (k, at) is)

flat-from : {A B : Type 0} (f : A → List B) (xs : List A) (y : B) → IsIn (flat_map f xs) y → (x : A) × IsIn xs x × IsIn (f x) y
flat-from f [] y (k, at) = absurd (let no : ⊥ = cc in no)
flat-from {A} f (z ∷ xs) y is = go (λ behind. flat-from f xs y behind) (in-joined (f z) (flat_map f xs) y is)
  where
    go : (IsIn (flat_map f xs) y → (x : A) × IsIn xs x × IsIn (f x) y) → IsIn (f z) y ⊎ IsIn (flat_map f xs) y → (x : A) × IsIn (z ∷ xs) x × IsIn (f x) y
    go rest (inl here) = (z, (zero, refl), here)
    go rest (inr behind) = let later = rest behind in (later.0, (suc later.1.0, later.1.1), later.2)

numbered-in : {A : Type 0} (n : ℕ) (xs : List A) (i k : ℕ) (x : A) → k ≡ n + i → slice_get xs i ≡ Some x → IsIn (enumerate_from n xs) (k, x)
numbered-in n [] i k x is at = absurd (let no : ⊥ = cc in no)
numbered-in {A} n (y ∷ xs) zero k x is at = (zero, (let same : y ≡ x = cc in let first : n ≡ k = omega arith in ap (λ (z : A). Some (n, z)) same ∙ ap (λ (m : ℕ). Some (m, x)) first))
numbered-in n (y ∷ xs) (suc i) k x is at = let rest = numbered-in (n + 1) xs i k x (omega arith) at in (suc rest.0, rest.1)

numbered-from : {A : Type 0} (n : ℕ) (xs : List A) (p : ℕ × A) → IsIn (enumerate_from n xs) p → (i : ℕ) × (p.0 ≡ n + i) × (slice_get xs i ≡ Some p.1)
numbered-from n [] p (k, at) = absurd (let no : ⊥ = cc in no)
numbered-from {A} n (y ∷ xs) p (zero, at) = (let same : ◌≡◌ {A = ℕ × A} (n, y) p = cc in (zero, ap (λ (q : ℕ × A). q.0) (sym same) ∙ omega arith, ap (λ (q : ℕ × A). Some q.1) same))
numbered-from n (y ∷ xs) p (suc k, at) = let rest = numbered-from (n + 1) xs p (k, at) in (suc rest.0, (let is = rest.1 in omega arith), rest.2)

-- A transfer that is listed for a rank is of that rank.

entry-origin : (origin queue target : ℕ) (limits : Limits) (lane : List Entry) (e : Entry) (t : Transfer) → IsIn (transfer_of origin queue target limits lane e) t → t.origin ≡ origin
entry-origin origin queue target limits lane e t is = go (may_take limits.depth lane e) refl (may_put lane e) refl is
  where
    only : (x : Transfer) → x.origin ≡ origin → IsIn (x ∷ []) t → t.origin ≡ origin
    only x named (zero, at) = (let same : x ≡ t = cc in ap (λ (y : Transfer). y.origin) (sym same) ∙ named)
    only x named (suc k, at) = absurd (let no : ⊥ = cc in no)

    go : (a : Bool) → may_take limits.depth lane e ≡ a → (b : Bool) → may_put lane e ≡ b → IsIn (transfer_of origin queue target limits lane e) t → t.origin ≡ origin
    go true take b put there = only _ refl (rw take at there)
    go false take true put there = only _ refl (rw (take, put) at there)
    go false take false put there = (let none = rw (take, put) at there in absurd (let never = none.1 in let no : ⊥ = cc in no))

queue-origin : (origin queue : ℕ) (limits : Limits) (q : Queue) (t : Transfer) → IsIn (queue_transfers origin limits (queue, q)) t → t.origin ≡ origin
queue-origin origin queue limits q t is = go (is_none q.broken) refl is
  where
    go : (b : Bool) → is_none q.broken ≡ b → IsIn (queue_transfers origin limits (queue, q)) t → t.origin ≡ origin
    go false broken there = (let none = rw broken at there in absurd (let never = none.1 in let no : ⊥ = cc in no))
    go true whole there =
        let lane = flat-from (lane_transfers origin queue limits) (enumerate_from 0 q.lanes) t (rw whole at there) in
        let entry = flat-from (transfer_of origin queue lane.0.0 limits lane.0.1) lane.0.1 t lane.2 in
        entry-origin origin queue lane.0.0 limits lane.0.1 entry.0 t entry.2

rank-origin : (limits : Limits) (origin : ℕ) (posts : Posts) (t : Transfer) → IsIn (rank_transfers limits (origin, posts)) t → t.origin ≡ origin
rank-origin limits origin posts t is =
    let q = flat-from (queue_transfers origin limits) (enumerate_from 0 posts.queues) t is in
    queue-origin origin q.0.0 limits q.0.1 t q.2

-- what is listed is so for its origin, which is there
of-rank : (limits : Limits) (all : List Posts) (t : Transfer) → IsIn (transfers limits all) t → (posts : Posts) × (slice_get all t.origin ≡ Some posts) × IsIn (rank_transfers limits (t.origin, posts)) t
of-rank limits all t is =
    let rank = flat-from (rank_transfers limits) (enumerate_from 0 all) t is in
    let numbered = numbered-from 0 all rank.0 rank.1 in
    let origin : rank.0.0 ≡ t.origin = sym (rank-origin limits rank.0.0 rank.0.1 t rank.2) in
    let place : numbered.0 ≡ t.origin = (let at = numbered.1 in omega arith) in
    (rank.0.1, subst (λ (n : ℕ). slice_get all n ≡ Some rank.0.1) place numbered.2, subst (λ (n : ℕ). IsIn (rank_transfers limits (n, rank.0.1)) t) origin rank.2)

to-rank : (limits : Limits) (all : List Posts) (origin : ℕ) (posts : Posts) (t : Transfer) → slice_get all origin ≡ Some posts → IsIn (rank_transfers limits (origin, posts)) t → IsIn (transfers limits all) t
to-rank limits all origin posts t at is = flat-in (rank_transfers limits) (enumerate_from 0 all) (origin, posts) t (numbered-in 0 all origin origin posts (omega arith) at) is

-- The queues and the threads of a rank are the same in two states.
pub record AreSame (s t : State) (rank : ℕ) : Type 0 where
  pub limits : t.limits ≡ s.limits
  pub posts : (after : Posts) → slice_get t.posts rank ≡ Some after → (before : Posts) × (slice_get s.posts rank ≡ Some before) × (after.queues ≡ before.queues) × (after.threads ≡ before.threads)

stopped-same : (s t : State) (rank : ℕ) → AreSame s t rank → IsStill s rank → IsStill t rank
stopped-same s t rank same stopped = record { none = none; ended = λ thread. ended thread (slice_get t.posts rank) refl }
  where
    none : (k : ℕ) (x : Transfer) → slice_get (transfers t.limits t.posts) k ≡ Some x → x.origin ≢ rank
    none k x at named =
        let listed = of-rank t.limits t.posts x (k, at) in
        let there = subst (λ (n : ℕ). slice_get t.posts n ≡ Some listed.0) named listed.1 in
        let was = same.posts listed.0 there in
        let lanes : rank_transfers t.limits (x.origin, listed.0) ≡ rank_transfers s.limits (rank, was.0) =
        ap (λ (l : Limits). rank_transfers l (x.origin, listed.0)) same.limits ∙ ap (λ (n : ℕ). rank_transfers s.limits (n, listed.0)) named
        ∙ ap (λ (qs : List Queue). flat_map (queue_transfers rank s.limits) (enumerate_from 0 qs)) was.2 in
        let before = to-rank s.limits s.posts rank was.0 x was.1 (subst (λ (xs : List Transfer). IsIn xs x) lanes listed.2) in
        stopped.none before.0 x before.1 named

    of-posts : (thread : ℕ) (p : Posts) → slice_get t.posts rank ≡ Some p → (before : Posts) → slice_get s.posts rank ≡ Some before → p.threads ≡ before.threads → is_active t rank thread ≡ false
    of-posts thread p at before there threads =
        let stands : is_running (thread_at before thread) ≡ false = rw there at (stopped.ended thread) in
        rw (at, threads) stands

    ended : (thread : ℕ) (o : Option Posts) → slice_get t.posts rank ≡ o → is_active t rank thread ≡ false
    ended thread None at = rw at refl
    ended thread (Some p) at = (let was = same.posts p at in of-posts thread p at was.0 was.1 was.3)

answered-same : (s t : State) (rank : ℕ) → t.limits ≡ s.limits → IsTold s.posts t.posts rank → AreSame s t rank
answered-same s t rank limits (inl same) = record { limits = limits; posts = λ after at. (after, sym same ∙ at, refl, refl) }
answered-same s t rank limits (inr (x, known, before, now)) = record { limits = limits; posts = λ p at. (let both : ◌≡◌ {A = Option Posts} (Some (record x { segments = record x.segments { known = known } })) (Some p) = sym now ∙ at in let same : record x { segments = record x.segments { known = known } } ≡ p = cc in (x, before, ap (λ (q : Posts). q.queues) (sym same), ap (λ (q : Posts). q.threads) (sym same))) }

-- an event of another rank
other-same : (s t : State) (e : Event) (rank : ℕ) → step s e ≡ Ok t → (owner_of e == rank) ≡ false → AreSame s t rank
other-same s t e rank h other = answered-same s t rank (limits-stay s t e h) (by-event e h other)
  where
    set : (owner : ℕ) (after : Posts) → (owner == rank) ≡ false → slice_get (slice_set s.posts owner after) rank ≡ slice_get s.posts rank
    set owner after apart = slice_get-set_other s.posts owner rank after (λ e. eqb-false owner rank apart e)

    told-set : (owner : ℕ) (after : Posts) → (owner == rank) ≡ false → (all : List Posts) → IsTold (slice_set s.posts owner after) all rank → IsTold s.posts all rank
    told-set owner after apart all (inl same) = inl (same ∙ set owner after apart)
    told-set owner after apart all (inr (x, known, before, now)) = inr (x, known, sym (set owner after apart) ∙ before, now)

    by-event : (e : Event) → step s e ≡ Ok t → (owner_of e == rank) ≡ false → IsTold s.posts t.posts rank
    by-event (Called c call reply) h apart = by-group (row_of call).group refl
      where
        by-group : (o : Option ℕ) → (row_of call).group ≡ o → IsTold s.posts t.posts rank
        by-group (Some id) named = (let m = on_group-called s t c id call reply named h in inl (rw m.2.leaves (set c.rank m.1 apart)))
        by-group None plain =
            let made = step-called s t c call reply plain h in
            let m = made.3 in
            subst (λ (all : List Posts). IsTold s.posts all rank) (sym (ap (λ (x : State). x.posts) m.leaves))
            (told-set c.rank made.2.posts apart (registering s.limits.ranks c.rank made.0 call reply (slice_set s.posts c.rank made.2.posts)) (registered-get s.limits.ranks c.rank made.0 call reply (slice_set s.posts c.rank made.2.posts) rank))
    by-event (Joined c id args) h apart = (let m = on_group-joined s t c id args h in inl (rw m.2.leaves (set c.rank m.1 apart)))
    by-event (Take origin queue target number outcome) h apart = (let made = step-take s t origin queue target number outcome h in inl (rw made.4.leaves (set origin made.2 apart)))
    by-event (Put origin queue target number outcome) h apart = (let made = step-put s t origin queue target number outcome h in inl (rw made.4.leaves (set origin made.2.posts apart)))

counted-same : (s t : State) (rank : ℕ) → IsOnlyCounted s t rank → AreSame s t rank
counted-same s t rank only = rw only.after (record {
  limits = refl;
  posts = λ p at.
      let both : ◌≡◌ {A = Option Posts} (Some (counted only.posts)) (Some p) = sym (slice_get-set_same s.posts rank only.posts (counted only.posts) only.there) ∙ at in
      let same : counted only.posts ≡ p = cc in
      (only.posts, only.there, ap (λ (q : Posts). q.queues) (sym same), ap (λ (q : Posts). q.threads) (sym same));
})

-- an event of the rank itself: a call is refused, and there is no other
own-same : (s t : State) (e : Event) → step s e ≡ Ok t → IsStill s (owner_of e) → AreSame s t (owner_of e)
own-same s t (Joined c id args) h stopped =
    let made = step-joined s t c id args h in
    let m = made.2 in
    let ended : is_running (thread_at made.0 c.thread) ≡ false = rw m.posts_there at (stopped.ended c.thread) in
    let joins = rw ended at m.is.joins in
    absurd (let no : ⊥ = cc in no)
own-same s t (Called c call reply) h stopped = by-group (row_of call).group refl
  where
    by-group : (o : Option ℕ) → (row_of call).group ≡ o → AreSame s t c.rank
    by-group (Some id) named =
        let made = step-completed s t c id call reply named h in
        let m = made.2 in
        let ended : is_running (thread_at made.0 c.thread) ≡ false = rw m.posts_there at (stopped.ended c.thread) in
        let answered : is_reply_of (ready.Reply (replies.Refused CallerEnded)) reply ≡ true = rw ended at m.is.answered in
        let refused : reply ≡ replies.Refused CallerEnded = same_reply-same reply (replies.Refused CallerEnded) answered in
        counted-same s t c.rank (only-counted s t c call reply (ap is_idle refused) h)
    by-group None plain =
        let made = step-called s t c call reply plain h in
        let m = made.3 in
        let ended : is_running (thread_at made.0 c.thread) ≡ false = rw m.posts_there at (stopped.ended c.thread) in
        let answered : reply ≡ recorded_reply (answer s.limits c.rank made.0 made.1 c.thread call) = same_reply-same _ _ m.is.answered in
        let refused : reply ≡ replies.Refused CallerEnded = rw ended at answered in
        counted-same s t c.rank (only-counted s t c call reply (ap is_idle refused) h)
own-same s t (Take origin queue target number outcome) h stopped = (let listed = take-listed s t origin queue target number outcome h in absurd (stopped.none listed.0 _ listed.1 refl))
own-same s t (Put origin queue target number outcome) h stopped = (let listed = put-listed s t origin queue target number outcome h in absurd (stopped.none listed.0 _ listed.1 refl))

step-stopped : (s t : State) (e : Event) (rank : ℕ) → step s e ≡ Ok t → IsStill s rank → IsStill t rank
step-stopped s t e rank h stopped = go (owner_of e == rank) refl
  where
    go : (b : Bool) → (owner_of e == rank) ≡ b → IsStill t rank
    go false other = stopped-same s t rank (other-same s t e rank h other) stopped
    go true is =
        let own : owner_of e ≡ rank = eqb-true (owner_of e) rank is in
        stopped-same s t rank (subst (AreSame s t) own (own-same s t e h (subst (IsStill s) (sym own) stopped))) stopped

pub stays-stopped : (s t : State) (events : List Event) (rank : ℕ) → after s events ≡ Ok t → IsStill s rank → IsStill t rank
stays-stopped s t [] rank h stopped = let same : s ≡ t = cc in subst (λ (x : State). IsStill x rank) same stopped
stays-stopped s t (e ∷ events) rank h stopped =
    let first = after-first s t e events h in
    stays-stopped first.0 t events rank first.2 (step-stopped s first.0 e rank first.1 stopped)

-- where every rank has stopped, nothing is left to do
pub all-stopped : (s : State) → IsSound s → ((rank : ℕ) → rank < s.limits.ranks → IsStill s rank) → IsSettled s
all-stopped s sound stopped = record { callers = λ rank thread. ended rank thread (slice_get s.posts rank) refl; lanes = lanes-empty s sound (none (transfers s.limits s.posts) refl) }
  where
    within : (rank : ℕ) (posts : Posts) → slice_get s.posts rank ≡ Some posts → rank < s.limits.ranks
    within rank posts at = (let less = slice_get_within s.posts rank posts at in let many = sound.ranks in omega arith)

    ended : (rank thread : ℕ) (o : Option Posts) → slice_get s.posts rank ≡ o → is_active s rank thread ≡ false
    ended rank thread None at = rw at refl
    ended rank thread (Some posts) at = (stopped rank (within rank posts at)).ended thread

    none : (listed : List Transfer) → transfers s.limits s.posts ≡ listed → transfers s.limits s.posts ≡ []
    none [] is = is
    none (t ∷ rest) is =
        let first : slice_get (transfers s.limits s.posts) 0 ≡ Some t = ap (λ (xs : List Transfer). slice_get xs 0) is in
        let rank = of-rank s.limits s.posts t (0, first) in
        absurd ((stopped t.origin (within t.origin rank.0 rank.1)).none 0 t first refl)
