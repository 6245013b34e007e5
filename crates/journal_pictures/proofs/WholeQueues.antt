-- What an event leaves in the queues of a rank that are not broken: what was there and has not ended, and what it posts.
use Rattle.std.proofs.Common.{◌≡◌, ℕ, zero, suc, ◌<◌, ◌≤◌, arith, Bool, true, false, List, [], ◌∷◌, remove, Option, None, Some, Result, Ok, Err, refl, sym, ap, ◌∙◌, subst, ◌⊎◌, inl, inr}
use Rattle.std.specs.List.{slice_get, slice_set}
use Rattle.gaspi_types.proofs.Items.{changed_at-found, map-at, same-or-not, slice_get-set, slice_get-set_same, slice_get-set_other}
use Rattle.gaspi_types.specs.CallRows.{row_of}
use Rattle.gaspi_types.specs.Lanes.{posted_entries}
use Rattle.gaspi_types.specs.Queues.{with_entries}
use Rattle.gaspi_types.specs.Replies.{is_idle}
use Rattle.gaspi_types.specs.Tables.{changed_at}
use Rattle.gaspi_types.specs.declared.call_rows.Posting.{Posting}
use Rattle.gaspi_types.specs.declared.calls.Call.{Call}
use Rattle.gaspi_types.specs.declared.calls.Call.TheVariants.{Wait, Purge}
use Rattle.gaspi_types.specs.declared.calls.queues.Purge as purge
use Rattle.gaspi_types.specs.declared.entries.Entry.{Entry}
use Rattle.gaspi_types.specs.declared.entries.Kind.{Kind}
use Rattle.gaspi_types.specs.declared.entries.Queue.{Queue}
use Rattle.gaspi_types.specs.declared.events.Event.{Event}
use Rattle.gaspi_types.specs.declared.events.Event.TheVariants.{Called, Joined, Take, Put}
use Rattle.gaspi_types.specs.declared.events.Outcome.TheVariants.{Applied, Failed}
use Rattle.gaspi_types.specs.declared.replies.Refusal.{Refusal}
use Rattle.gaspi_types.specs.declared.replies.Reply.{Reply}
use Rattle.gaspi_types.specs.declared.replies.Reply.TheVariants as replies
use Rattle.gaspi_types.specs.declared.shapes.CallerId.{CallerId}
use Rattle.gaspi_types.specs.declared.shapes.Limits.{Limits}
use Rattle.gaspi_model.specs.Calls.{requested_kinds, plain_effect, posts_after, posts_effect}
use Rattle.gaspi_model.specs.Changes.{IsFailureDone, IsPutDone}
use Rattle.gaspi_model.specs.Posting.{with_post}
use Rattle.gaspi_model.specs.QueueCalls.{emptied, without_entries}
use Rattle.gaspi_model.specs.Sound.{IsSound, AreAbove, AreRising}
use Rattle.gaspi_model.specs.Step.{step}
use Rattle.gaspi_model.specs.Transfers.{PostsAndMemory}
use Rattle.gaspi_model.specs.declared.states.Posts.{Posts}
use Rattle.gaspi_model.specs.declared.states.State.{State}
use Rattle.gaspi_model.proofs.Changed.Puts.{put-done}
use Rattle.gaspi_model.proofs.Changed.QueueCalls.{purge-done}
use Rattle.gaspi_model.proofs.Changed.Transfers.{take-done, take-failed, put-failed}
use Rattle.gaspi_model.proofs.CollectivePosts.{IsMet, on_group-called, on_group-joined}
use Rattle.gaspi_model.proofs.Made.{step-called}
use Rattle.gaspi_model.proofs.Sound.Registered.{registering, registered-from}
use Rattle.call_journal.specs.declared.lane_writes.Post.{Post}
use Rattle.call_journal.proofs.Places.{stands-below}
use Rattle.call_journal.proofs.Standing.{InLane, InQueue, InQueues, IsNew, Changed, entry-from}
use Rattle.journal_pictures.proofs.Brought.{replaced-there}

-- an entry of a kind with a number stands in a queue that is not broken
pub record IsInWhole (queues : List Queue) (queue target m : ℕ) (kind : Kind) : Type 0 where
  pub stands : InQueues queues queue target m kind
  pub whole : stands.q.broken ≡ None

-- where an entry stands in a whole queue, that queue was whole before
abbrev WasWhole : List Queue → List Queue → Type 0
WasWhole old new = (queue target m : ℕ) (kind : Kind) → IsInWhole new queue target m kind → (q : Queue) → slice_get old queue ≡ Some q → q.broken ≡ None

-- one queue stands at a place
same-queue : (queues : List Queue) (queue : ℕ) (q q' : Queue) → slice_get queues queue ≡ Some q → slice_get queues queue ≡ Some q' → q.broken ≡ None → q'.broken ≡ None
same-queue queues queue q q' there there' whole =
    let some : ◌≡◌ {A = Option Queue} (Some q) (Some q') = sym there ∙ there' in
    let same : q ≡ q' = cc in
    subst (λ (x : Queue). x.broken ≡ None) same whole

same-whole : (queues : List Queue) → WasWhole queues queues
same-whole queues queue target m kind h q there = same-queue queues queue h.stands.q q h.stands.queue_there there h.whole

-- a queue is replaced
set-whole : (queues : List Queue) (k : ℕ) (q q' : Queue) → slice_get queues k ≡ Some q → ((target m : ℕ) (kind : Kind) → InQueue q' target m kind → q'.broken ≡ None → q.broken ≡ None)
    → WasWhole queues (slice_set queues k q')
set-whole queues k q q' there keeps queue target m kind h x at = go (slice_get-set queues k queue q' h.stands.q h.stands.queue_there)
  where
    go : ((queue ≡ k) × (h.stands.q ≡ q')) ⊎ (slice_get queues queue ≡ Some h.stands.q) → x.broken ≡ None
    go (inl is) =
        same-queue queues queue q x (ap (slice_get queues) is.0 ∙ there) at
        (keeps target m kind (subst (λ (y : Queue). InQueue y target m kind) is.1 h.stands.in_queue) (ap (λ (y : Queue). y.broken) (sym is.1) ∙ h.whole))
    go (inr was) = same-queue queues queue h.stands.q x was at h.whole

changed-whole : (queues : List Queue) (k : ℕ) (change : Queue → Queue) → ((q : Queue) (target m : ℕ) (kind : Kind) → InQueue (change q) target m kind → (change q).broken ≡ None → q.broken ≡ None)
    → WasWhole queues (changed_at queues k change)
changed-whole queues k change keeps = go (slice_get queues k) refl
  where
    go : (o : Option Queue) → slice_get queues k ≡ o → WasWhole queues (changed_at queues k change)
    go None at = rw at (same-whole queues)
    go (Some q) at = rw (changed_at-found queues k q change at) (set-whole queues k q (change q) at (keeps q))

-- the posts of a rank where those of one are replaced
owner-whole : (s : State) (all : List Posts) (owner : ℕ) (posts posts' : Posts) (origin : ℕ) (before after : Posts) → slice_get s.posts owner ≡ Some posts → all ≡ slice_set s.posts owner posts'
    → slice_get s.posts origin ≡ Some before → slice_get all origin ≡ Some after → WasWhole posts.queues posts'.queues → WasWhole before.queues after.queues
owner-whole s all owner posts posts' origin before after there is was now whole =
    same-or-not owner origin
    (λ same.
    let olds : ◌≡◌ {A = Option Posts} (Some posts) (Some before) = sym there ∙ ap (slice_get s.posts) same ∙ was in
    let old : posts ≡ before = cc in
    let set : slice_get all owner ≡ Some posts' = ap (λ (x : List Posts). slice_get x owner) is ∙ slice_get-set_same s.posts owner posts posts' there in
    let news : ◌≡◌ {A = Option Posts} (Some posts') (Some after) = sym set ∙ ap (slice_get all) same ∙ now in
    let new : posts' ≡ after = cc in
    subst (λ (x : Posts). WasWhole x.queues after.queues) old (subst (λ (x : Posts). WasWhole posts.queues x.queues) new whole))
    (λ apart.
    let kept : slice_get s.posts origin ≡ Some after = sym (slice_get-set_other s.posts owner origin posts' apart) ∙ ap (λ (x : List Posts). slice_get x origin) (sym is) ∙ now in
    let some : ◌≡◌ {A = Option Posts} (Some before) (Some after) = sym was ∙ kept in
    let same : before ≡ after = cc in
    subst (λ (x : Posts). WasWhole before.queues x.queues) same (same-whole before.queues))

-- what a call leaves in the queues of its rank
plain-whole : (posts : Posts) (thread : ℕ) (call : Call) → WasWhole posts.queues (plain_effect posts thread call).queues
plain-whole posts thread (Purge call) = changed-whole posts.queues call.queue emptied (λ q target m kind i whole. absurd (none q target m kind i))
  where
    empty : (m : ℕ) (kind : Kind) → InLane [] m kind → ⊥
    empty m kind has = (let at = has.there in cc)

    none : (q : Queue) (target m : ℕ) (kind : Kind) → InQueue (emptied q) target m kind → ⊥
    none q target m kind i =
        let lane = map-at without_entries q.lanes target i.lane i.lane_there in
        empty m kind (subst (λ (l : List Entry). InLane l m kind) lane.2 i.has)
plain-whole posts thread (Wait call) = changed-whole posts.queues call.queue (λ (q : Queue). record q { open_count = 0 }) (λ q target m kind i whole. whole)
plain-whole posts thread other = same-whole posts.queues

post-whole : (posts : Posts) (queue target : ℕ) (asked : Result (List Kind) Refusal) → WasWhole posts.queues (with_post posts queue target asked).queues
post-whole posts queue target (Err refusal) = same-whole posts.queues
post-whole posts queue target (Ok kinds) = changed-whole posts.queues queue (with_entries target (posted_entries posts.next kinds)) (λ q target' m kind i whole. whole)

call-whole : (limits : Limits) (me : ℕ) (posts : Posts) (thread : ℕ) (call : Call) (reply : Reply) → WasWhole posts.queues (posts_after limits me posts thread call reply).queues
call-whole limits me posts thread call reply = by-idle (is_idle reply) refl
  where
    by-posting : (o : Option Posting) → (row_of call).posting ≡ o → WasWhole posts.queues (posts_effect limits me posts thread call).queues
    by-posting None is = rw is (plain-whole posts thread call)
    by-posting (Some to) is = rw is (post-whole posts to.queue to.rank (requested_kinds limits me posts call))

    by-idle : (b : Bool) → is_idle reply ≡ b → WasWhole posts.queues (posts_after limits me posts thread call reply).queues
    by-idle true is = rw is (same-whole posts.queues)
    by-idle false is = rw is (by-posting (row_of call).posting refl)

-- an event on a group
met-whole : (s t : State) (owner : ℕ) (posts posts' : Posts) (origin : ℕ) (before after : Posts) → IsMet s t owner posts posts' → slice_get s.posts origin ≡ Some before → slice_get t.posts origin ≡ Some after
    → WasWhole before.queues after.queues
met-whole s t owner posts posts' origin before after met was now =
    owner-whole s t.posts owner posts posts' origin before after met.there met.leaves was now (subst (λ (qs : List Queue). WasWhole posts.queues qs) (sym met.keeps.queues) (same-whole posts.queues))

called-whole : (s t : State) (c : CallerId) (call : Call) (reply : Reply) → (row_of call).group ≡ None → step s (Called c call reply) ≡ Ok t → (origin : ℕ) (before after : Posts)
    → slice_get s.posts origin ≡ Some before → slice_get t.posts origin ≡ Some after → WasWhole before.queues after.queues
called-whole s t c call reply plain h origin before after was now =
    let made = step-called s t c call reply plain h in
    let f = made.3 in
    let all = slice_set s.posts c.rank made.2.posts in
    let told : slice_get (registering s.limits.ranks c.rank made.0 call reply all) origin ≡ Some after = subst (λ (x : State). slice_get x.posts origin ≡ Some after) f.leaves now in
    let from = registered-from s.limits.ranks c.rank made.0 call reply all origin after told in
    let later : made.2.posts ≡ posts_after s.limits c.rank made.0 c.thread call reply = ap (λ (x : PostsAndMemory). x.posts) f.is.leaves in
    let own : WasWhole made.0.queues made.2.posts.queues = subst (λ (x : Posts). WasWhole made.0.queues x.queues) (sym later) (call-whole s.limits c.rank made.0 c.thread call reply) in
    let kept = owner-whole s all c.rank made.0 made.2.posts origin before from.0 f.posts_there refl was from.2 own in
    subst (λ (x : Posts). WasWhole before.queues x.queues) (sym from.3) kept

failed-whole : (s t : State) (origin' queue target number : ℕ) (may_fail : Entry → Bool) → IsFailureDone s t origin' queue target number may_fail → (origin : ℕ) (before after : Posts)
    → slice_get s.posts origin ≡ Some before → slice_get t.posts origin ≡ Some after → WasWhole before.queues after.queues
failed-whole s t origin' queue target number may_fail f origin before after was now =
    owner-whole s t.posts origin' f.posts _ origin before after f.posts_there (ap (λ (x : State). x.posts) f.after) was now
    (set-whole f.posts.queues queue f.q _ f.queue_there (λ target' m kind i whole. f.whole))

whole-before : (s t : State) (e : Event) → IsSound s → step s e ≡ Ok t → (origin : ℕ) (before after : Posts) → slice_get s.posts origin ≡ Some before → slice_get t.posts origin ≡ Some after
    → WasWhole before.queues after.queues
whole-before s t (Joined c id args) sound h origin before after was now = met-whole s t c.rank _ _ origin before after (on_group-joined s t c id args h).2 was now
whole-before s t (Called c call reply) sound h origin before after was now = by-group (row_of call).group refl
  where
    by-group : (o : Option ℕ) → (row_of call).group ≡ o → WasWhole before.queues after.queues
    by-group (Some id) named = met-whole s t c.rank _ _ origin before after (on_group-called s t c id call reply named h).2 was now
    by-group None plain = called-whole s t c call reply plain h origin before after was now
whole-before s t (Take origin' queue target number Failed) sound h origin before after was now =
    failed-whole s t origin' queue target number _ (take-failed s t origin' queue target number sound h) origin before after was now
whole-before s t (Put origin' queue target number Failed) sound h origin before after was now =
    failed-whole s t origin' queue target number _ (put-failed s t origin' queue target number sound h) origin before after was now
whole-before s t (Take origin' queue target number Applied) sound h origin before after was now =
    let d = take-done s t origin' queue target number sound h in
    owner-whole s t.posts origin' d.posts _ origin before after d.posts_there (ap (λ (x : State). x.posts) d.after) was now
    (set-whole d.posts.queues queue d.q _ d.queue_there (λ target' m kind i whole. d.whole))
whole-before s t (Put origin' queue target number Applied) sound h origin before after was now =
    let d = put-done s t origin' queue target number sound h in
    owner-whole s t.posts origin' d.posts _ origin before after d.posts_there (ap (λ (x : State). x.posts) d.after) was now
    (set-whole d.posts.queues queue d.q _ d.queue_there (λ target' m kind i whole. d.whole))

-- A number stands in one lane of a rank.

abbrev pub AreApart : List Queue → Type 0
AreApart queues =
    (queue target queue' target' m : ℕ) (kind kind' : Kind) → InQueues queues queue target m kind → InQueues queues queue' target' m kind' → (queue ≡ queue') × (target ≡ target')

pub apart-more : (s : State) (e : Event) (origin : ℕ) (before after : Posts) → IsSound s → slice_get s.posts origin ≡ Some before → Changed s.limits e origin before after → AreApart before.queues → AreApart after.queues
apart-more s e origin before after sound there changed apart queue target queue' target' m kind kind' a b =
    go (entry-from s.limits e origin before after changed queue target m kind a) (entry-from s.limits e origin before after changed queue' target' m kind' b)
  where
    fresh : (queue target : ℕ) (kind : Kind) → IsNew origin e queue target before.next m kind → before.next ≤ m
    fresh queue target kind new = let number = new.numbered in omega arith

    go : InQueues before.queues queue target m kind ⊎ IsNew origin e queue target before.next m kind → InQueues before.queues queue' target' m kind' ⊎ IsNew origin e queue' target' before.next m kind'
        → (queue ≡ queue') × (target ≡ target')
    go (inl old) (inl old') = apart queue target queue' target' m kind kind' old old'
    go (inl old) (inr new) = absurd (let below = stands-below s origin queue target m kind before sound there old in let from = fresh queue' target' kind' new in let no : ⊥ = omega arith in no)
    go (inr new) (inl old) = absurd (let below = stands-below s origin queue' target' m kind' before sound there old in let from = fresh queue target kind new in let no : ⊥ = omega arith in no)
    go (inr new) (inr new') =
        let some : ◌≡◌ {A = Option Post} (Some new.post) (Some new'.post) = sym new.is ∙ new'.is in
        let same : new.post ≡ new'.post = cc in
        (sym new.to_queue ∙ ap (λ (p : Post). p.posting.queue) same ∙ new'.to_queue, sym new.to_target ∙ ap (λ (p : Post). p.posting.rank) same ∙ new'.to_target)

-- The entries that an event ends: those of a purged queue, the one of a put, and the one of a take that fails.
abbrev pub Ends : Event → ℕ → ℕ → ℕ → Type 0
Ends (Called c (Purge call) replies.Done) origin queue m = (c.rank ≡ origin) × (call.queue ≡ queue)
Ends (Take o q target number Failed) origin queue m = (o ≡ origin) × (number ≡ m)
Ends (Put o q target number outcome) origin queue m = (o ≡ origin) × (number ≡ m)
Ends e origin queue m = ⊥

-- the posts of a rank that were replaced
posts-set : (s t : State) (owner : ℕ) (posts posts' : Posts) (origin : ℕ) (after : Posts) → slice_get s.posts owner ≡ Some posts → t.posts ≡ slice_set s.posts owner posts' → owner ≡ origin
    → slice_get t.posts origin ≡ Some after → posts' ≡ after
posts-set s t owner posts posts' origin after there is mine now =
    let some : ◌≡◌ {A = Option Posts} (Some posts') (Some after) = sym (replaced-there s t owner origin posts posts' mine is there) ∙ now in
    (let same : posts' ≡ after = cc in same)

-- the queue that was set
queue-set : (queues : List Queue) (k : ℕ) (q q' : Queue) (queue : ℕ) (x : Queue) → slice_get queues k ≡ Some q → k ≡ queue → slice_get (slice_set queues k q') queue ≡ Some x → x ≡ q'
queue-set queues k q q' queue x there same now =
    let some : ◌≡◌ {A = Option Queue} (Some x) (Some q') = sym now ∙ ap (slice_get (slice_set queues k q')) (sym same) ∙ slice_get-set_same queues k q q' there in
    (let is : x ≡ q' = cc in is)

-- what is taken out of a lane has a number that nothing else has there
above-at : (n : ℕ) (lane : List Entry) (k : ℕ) (e : Entry) → AreAbove n lane → slice_get lane k ≡ Some e → n < e.number
above-at n [] k e above at = absurd (let no : ⊥ = cc in no)
above-at n (x ∷ lane) zero e above at = let same : x ≡ e = cc in rw (sym same) above.0
above-at n (x ∷ lane) (suc k) e above at = above-at n lane k e above.1 at

removed-apart : (next : ℕ) (lane : List Entry) (place k : ℕ) (x y : Entry) → AreRising next lane → slice_get lane place ≡ Some x → slice_get (remove lane place) k ≡ Some y → x.number ≡ y.number → ⊥
removed-apart next [] place k x y rising there at same = (let no : ⊥ = cc in no)
removed-apart next (z ∷ lane) zero k x y rising there at same =
    let is : z ≡ x = cc in
    let less : z.number < y.number = above-at z.number lane k y rising.1 at in
    let number : z.number ≡ x.number = ap (λ (e : Entry). e.number) is in
    (omega arith)
removed-apart next (z ∷ lane) (suc place) zero x y rising there at same =
    let is : z ≡ y = cc in
    let less : z.number < x.number = above-at z.number lane place x rising.1 there in
    let number : z.number ≡ y.number = ap (λ (e : Entry). e.number) is in
    (omega arith)
removed-apart next (z ∷ lane) (suc place) (suc k) x y rising there at same = removed-apart next lane place k x y rising.2 there at same

module _ (s t : State) (origin : ℕ) (before after : Posts) (sound : IsSound s) (was : slice_get s.posts origin ≡ Some before) (now : slice_get t.posts origin ≡ Some after) (apart : AreApart before.queues) (queue target m : ℕ) (kind : Kind) (old : InQueues before.queues queue target m kind) (new : IsInWhole after.queues queue target m kind) where
  -- the posts before an event of the rank
  mine-before : (owner : ℕ) (posts : Posts) → owner ≡ origin → slice_get s.posts owner ≡ Some posts → posts ≡ before
  mine-before owner posts mine there =
      let some : ◌≡◌ {A = Option Posts} (Some posts) (Some before) = sym there ∙ ap (slice_get s.posts) mine ∙ was in
      (let same : posts ≡ before = cc in same)

  -- an entry that a transfer found
  found : (owner : ℕ) (posts : Posts) (k to number place : ℕ) (q : Queue) (lane : List Entry) (e : Entry) → owner ≡ origin → slice_get s.posts owner ≡ Some posts → slice_get posts.queues k ≡ Some q
      → slice_get q.lanes to ≡ Some lane → slice_get lane place ≡ Some e → e.number ≡ number → number ≡ m → (k ≡ queue) × (to ≡ target)
  found owner posts k to number place q lane e mine there queue_there lane_there entry_there numbered is =
      apart k to queue target m e.kind kind
      (subst (λ (p : Posts). InQueues p.queues k to m e.kind) (mine-before owner posts mine there)
      (record { q = q; queue_there = queue_there; in_queue = record { lane = lane; lane_there = lane_there; has = record { place = place; entry = e; there = entry_there; numbered = numbered ∙ is; kind_is = refl } } }))
      old

  failed-ends : (owner k to number : ℕ) (may_fail : Entry → Bool) → IsFailureDone s t owner k to number may_fail → owner ≡ origin → number ≡ m → ⊥
  failed-ends owner k to number may_fail f mine is =
      let at = found owner f.posts k to number f.place f.q f.lane f.entry mine f.posts_there f.queue_there f.lane_there f.entry_there f.numbered is in
      let posts = posts-set s t owner f.posts _ origin after f.posts_there (ap (λ (x : State). x.posts) f.after) mine now in
      let set = queue-set f.posts.queues k f.q _ queue new.stands.q f.queue_there at.0 (subst (λ (p : Posts). slice_get p.queues queue ≡ Some new.stands.q) (sym posts) new.stands.queue_there) in
      let broken : Some to ≡ None = ap (λ (q : Queue). q.broken) (sym set) ∙ new.whole in
      (let no : ⊥ = cc in no)

  put-ends : (owner k to number : ℕ) → IsPutDone s t owner k to number → owner ≡ origin → number ≡ m → ⊥
  put-ends owner k to number d mine is =
      let at = found owner d.posts k to number d.place d.q d.lane d.entry mine d.posts_there d.queue_there d.lane_there d.entry_there d.numbered is in
      let posts = posts-set s t owner d.posts _ origin after d.posts_there (ap (λ (x : State). x.posts) d.after) mine now in
      let set = queue-set d.posts.queues k d.q _ queue new.stands.q d.queue_there at.0 (subst (λ (p : Posts). slice_get p.queues queue ≡ Some new.stands.q) (sym posts) new.stands.queue_there) in
      let i : InQueue (record d.q { lanes = slice_set d.q.lanes to (remove d.lane d.place) }) target m kind = subst (λ (q : Queue). InQueue q target m kind) set new.stands.in_queue in
      let there : slice_get (slice_set d.q.lanes to (remove d.lane d.place)) to ≡ Some i.lane = subst (λ (n : ℕ). slice_get (slice_set d.q.lanes to (remove d.lane d.place)) n ≡ Some i.lane) (sym at.1) i.lane_there in
      let some : ◌≡◌ {A = Option (List Entry)} (Some i.lane) (Some (remove d.lane d.place)) = sym there ∙ slice_get-set_same d.q.lanes to d.lane (remove d.lane d.place) d.lane_there in
      let lane : i.lane ≡ remove d.lane d.place = cc in
      let has = i.has in
      let rising = (sound.posts owner d.posts d.posts_there).rising k d.q d.queue_there to d.lane d.lane_there in
      removed-apart d.posts.next d.lane d.place has.place d.entry has.entry rising d.entry_there (ap (λ (l : List Entry). slice_get l has.place) (sym lane) ∙ has.there) (d.numbered ∙ is ∙ sym has.numbered)

  purge-ends : (c : CallerId) (call : purge.Purge) → step s (Called c (Purge call) replies.Done) ≡ Ok t → c.rank ≡ origin → call.queue ≡ queue → ⊥
  purge-ends c call h mine is =
      let p = purge-done s t c call sound h in
      let posts = posts-set s t c.rank p.posts _ origin after p.posts_there (ap (λ (x : State). x.posts) p.after) mine now in
      let set = queue-set p.posts.queues call.queue p.q p.q' queue new.stands.q p.queue_there is (subst (λ (x : Posts). slice_get x.queues queue ≡ Some new.stands.q) (sym posts) new.stands.queue_there) in
      let i : InQueue p.q' target m kind = subst (λ (q : Queue). InQueue q target m kind) set new.stands.in_queue in
      let lane = p.empty target i.lane i.lane_there in
      let none : slice_get {X = Entry} [] i.has.place ≡ Some i.has.entry = ap (λ (l : List Entry). slice_get l i.has.place) (sym lane) ∙ i.has.there in
      (let no : ⊥ = cc in no)

  -- what stands in a whole queue still has not ended
  spared : (e : Event) → step s e ≡ Ok t → Ends e origin queue m → ⊥
  spared (Called c (Purge call) replies.Done) h ends = purge-ends c call h ends.0 ends.1
  spared (Take o q to number Failed) h ends = failed-ends o q to number _ (take-failed s t o q to number sound h) ends.0 ends.1
  spared (Put o q to number Failed) h ends = failed-ends o q to number _ (put-failed s t o q to number sound h) ends.0 ends.1
  spared (Put o q to number Applied) h ends = put-ends o q to number (put-done s t o q to number sound h) ends.0 ends.1
  spared e h ends = ends

-- what stands in a whole queue after an event stood in one before and has not ended, or was posted
pub still-whole : (s t : State) (e : Event) (origin : ℕ) (before after : Posts) → IsSound s → step s e ≡ Ok t → slice_get s.posts origin ≡ Some before → slice_get t.posts origin ≡ Some after
    → Changed s.limits e origin before after → AreApart before.queues → (queue target m : ℕ) (kind : Kind) → IsInWhole after.queues queue target m kind
    → (IsInWhole before.queues queue target m kind × (Ends e origin queue m → ⊥)) ⊎ IsNew origin e queue target before.next m kind
still-whole s t e origin before after sound h was now changed apart queue target m kind new = go (entry-from s.limits e origin before after changed queue target m kind new.stands)
  where
    go : InQueues before.queues queue target m kind ⊎ IsNew origin e queue target before.next m kind
        → (IsInWhole before.queues queue target m kind × (Ends e origin queue m → ⊥)) ⊎ IsNew origin e queue target before.next m kind
    go (inl old) = inl (
      record { stands = old; whole = whole-before s t e sound h origin before after was now queue target m kind new old.q old.queue_there },
      spared s t origin before after sound was now apart queue target m kind old new e h,
    )
    go (inr posted) = inr posted
