-- What an event leaves in lanes: nothing begins to stand but what it posts.
use Rattle.std.proofs.Common.{◌≡◌, ℕ, zero, suc, ◌+◌, ◌<◌, ◌≤◌, arith, Bool, true, false, ◌==◌, ◌&&◌, List, [], ◌∷◌, ◌++◌, length, remove, Option, None, Some, Ok, refl, sym, ap, ◌∙◌, subst, ◌⊎◌, inl, inr, if◌then◌else◌, nat_lt}
use Rattle.std.specs.List.{slice_get, slice_set}
use Rattle.std.proofs.lemmas.Bool.{eq-eqb, eqb-true, ne_eqb, lt-ltb}
use Rattle.gaspi_types.proofs.Items.{slice_get-set, slice_get-set_same, slice_get-set_other, map-at, remove-part, append-parts, same-or-not, there-within, behind-of-joined}
use Rattle.gaspi_types.specs.CallRows.{row_of, entries_of}
use Rattle.gaspi_types.specs.Kinds.{is_write_kind, is_notify_kind}
use Rattle.gaspi_types.specs.Lanes.{posted_entries}
use Rattle.gaspi_types.specs.Queues.{with_entries}
use Rattle.gaspi_types.specs.Replies.{is_idle}
use Rattle.gaspi_types.specs.Tables.{changed_at}
use Rattle.gaspi_types.specs.declared.call_rows.Posting.{Posting}
use Rattle.gaspi_types.specs.declared.calls.Call.{Call}
use Rattle.gaspi_types.specs.declared.calls.Call.TheVariants.{Wait, Purge}
use Rattle.gaspi_types.specs.declared.calls.Call.TheVariants as calls
use Rattle.gaspi_types.specs.declared.segments.Extent.{Extent}
use Rattle.gaspi_types.specs.declared.entries.Entry.{Entry}
use Rattle.gaspi_types.specs.declared.entries.Kind.{Kind}
use Rattle.gaspi_types.specs.declared.entries.Phase.{Phase}
use Rattle.gaspi_types.specs.declared.entries.Phase.TheVariants as phases
use Rattle.gaspi_types.specs.declared.entries.Queue.{Queue}
use Rattle.gaspi_types.specs.declared.events.Event.{Event}
use Rattle.gaspi_types.specs.declared.events.Event.TheVariants.{Called, Joined, Take, Put}
use Rattle.gaspi_types.specs.declared.events.Outcome.TheVariants.{Applied, Failed}
use Rattle.gaspi_types.specs.declared.replies.Reply.{Reply}
use Rattle.gaspi_types.specs.declared.replies.Reply.TheVariants as replies
use Rattle.gaspi_types.specs.declared.shapes.CallerId.{CallerId}
use Rattle.gaspi_types.specs.declared.shapes.Limits.{Limits}
use Rattle.gaspi_model.specs.Calls.{requested_kinds, plain_effect, posts_effect, posts_after, answer, recorded_reply}
use Rattle.gaspi_model.specs.PostCalls.{post_request_result}
use Rattle.gaspi_model.specs.Posting.{counted}
use Rattle.gaspi_model.specs.QueueCalls.{emptied, without_entries}
use Rattle.gaspi_model.specs.Sound.{IsSound}
use Rattle.gaspi_model.specs.Step.{step}
use Rattle.gaspi_model.specs.Transfers.{EntryPosition, PostsAndMemory, source_bytes}
use Rattle.gaspi_model.specs.declared.states.Memory.{Memory}
use Rattle.gaspi_model.specs.declared.states.Posts.{Posts}
use Rattle.gaspi_model.specs.declared.states.State.{State}
use Rattle.gaspi_model.proofs.FoundEntries.{IsFound, with_phase, queue_with_failed}
use Rattle.gaspi_model.proofs.FoundReplies.{found-reply}
use Rattle.gaspi_model.proofs.Made.{step-called, step-take, step-put}
use Rattle.gaspi_model.proofs.CollectivePosts.{IsMet, on_group-called, on_group-joined}
use Rattle.gaspi_model.proofs.Same.{same_reply-same}
use Rattle.gaspi_model.proofs.Sound.Accounts.{asks-some, few-posted, post-ok}
use Rattle.gaspi_model.proofs.Sound.Registered.{registering, registered-from}
use Rattle.gaspi_model.proofs.Changed.Posted.{post-done}
use Rattle.call_journal.specs.LaneWrites.{post_of, post_in, entries_in, goes_to, writes_to, writes_in, posts_notification}
use Rattle.call_journal.specs.declared.lane_writes.EntryPut.{EntryPut}
use Rattle.call_journal.specs.declared.lane_writes.Post.{Post}
use Rattle.call_journal.proofs.Postings.{AreKinds, call-kinds}

-- an entry of a kind with a number stands in a lane, in a queue, and in the queues of a rank
pub record InLane (lane : List Entry) (m : ℕ) (kind : Kind) : Type 0 where
  pub place : ℕ
  pub entry : Entry
  pub there : slice_get lane place ≡ Some entry
  pub numbered : entry.number ≡ m
  pub kind_is : entry.kind ≡ kind

pub record InQueue (q : Queue) (target m : ℕ) (kind : Kind) : Type 0 where
  pub lane : List Entry
  pub lane_there : slice_get q.lanes target ≡ Some lane
  pub has : InLane lane m kind

pub record InQueues (queues : List Queue) (queue target m : ℕ) (kind : Kind) : Type 0 where
  pub q : Queue
  pub queue_there : slice_get queues queue ≡ Some q
  pub in_queue : InQueue q target m kind

-- what stands in queues after one of them is changed
queues-changed : {P : Type 0} (queues : List Queue) (changed : ℕ) (change : Queue → Queue) (queue target m : ℕ) (kind : Kind)
    → (InQueues queues queue target m kind → P)
    → ((q : Queue) → slice_get queues changed ≡ Some q → changed ≡ queue → InQueue (change q) target m kind → P)
    → InQueues (changed_at queues changed change) queue target m kind → P
queues-changed {P} queues changed change queue target m kind old new h = go (slice_get queues changed) refl
  where
    parts : (x : Queue) → slice_get queues changed ≡ Some x → ((queue ≡ changed) × (h.q ≡ change x)) ⊎ (slice_get queues queue ≡ Some h.q) → P
    parts x at (inl is) = new x at (sym is.0) (subst (λ (q : Queue). InQueue q target m kind) is.1 h.in_queue)
    parts x at (inr there) = old (record { q = h.q; queue_there = there; in_queue = h.in_queue })

    go : (o : Option Queue) → slice_get queues changed ≡ o → P
    go None at = old (record { q = h.q; queue_there = rw at at h.queue_there; in_queue = h.in_queue })
    go (Some x) at = parts x at (slice_get-set queues changed queue (change x) h.q (rw at at h.queue_there))

-- what stands in a queue after one of its lanes is replaced
lane-replaced : {P : Type 0} (lanes lanes' : List (List Entry)) (replaced : ℕ) (lane' : List Entry) (target m : ℕ) (kind : Kind) (lane : List Entry) → lanes' ≡ slice_set lanes replaced lane'
    → slice_get lanes' target ≡ Some lane → InLane lane m kind
    → (slice_get lanes target ≡ Some lane → P) → (target ≡ replaced → InLane lane' m kind → P) → P
lane-replaced {P} lanes lanes' replaced lane' target m kind lane is there has old new = parts (slice_get-set lanes replaced target lane' lane (rw is at there))
  where
    parts : ((target ≡ replaced) × (lane ≡ lane')) ⊎ (slice_get lanes target ≡ Some lane) → P
    parts (inl same) = new same.0 (subst (λ (l : List Entry). InLane l m kind) same.1 has)
    parts (inr before) = old before

-- entries of a lane that are in another phase, taken out, or added
lane-phase : (lane : List Entry) (place : ℕ) (e : Entry) (phase : Phase) (m : ℕ) (kind : Kind) → slice_get lane place ≡ Some e → InLane (with_phase lane place e phase) m kind → InLane lane m kind
lane-phase lane place e phase m kind at h = parts (slice_get-set lane place h.place (record e { phase = phase }) h.entry h.there)
  where
    parts : ((h.place ≡ place) × (h.entry ≡ record e { phase = phase })) ⊎ (slice_get lane h.place ≡ Some h.entry) → InLane lane m kind
    parts (inl same) = record { place = place; entry = e; there = at; numbered = ap (λ (x : Entry). x.number) (sym same.1) ∙ h.numbered; kind_is = ap (λ (x : Entry). x.kind) (sym same.1) ∙ h.kind_is }
    parts (inr before) = record { place = h.place; entry = h.entry; there = before; numbered = h.numbered; kind_is = h.kind_is }

lane-removed : (lane : List Entry) (place m : ℕ) (kind : Kind) → InLane (remove lane place) m kind → InLane lane m kind
lane-removed lane place m kind h =
    let before = remove-part lane place h.place h.entry h.there in
    record { place = before.0; entry = h.entry; there = before.1; numbered = h.numbered; kind_is = h.kind_is }

-- an entry of a post
pub record IsPostedEntry (next : ℕ) (kinds : List Kind) (m : ℕ) (kind : Kind) : Type 0 where
  pub place : ℕ
  pub there : slice_get kinds place ≡ Some kind
  pub numbered : m ≡ next + place

posted-entry : (next : ℕ) (kinds : List Kind) (k : ℕ) (e : Entry) → slice_get (posted_entries next kinds) k ≡ Some e → IsPostedEntry next kinds e.number e.kind
posted-entry next [] k e at = absurd (let no : ⊥ = cc in no)
posted-entry next (x ∷ kinds) zero e at =
    let number : next ≡ e.number = cc in
    let kind : x ≡ e.kind = cc in
    record { place = 0; there = ap (λ (y : Kind). Some y) kind; numbered = omega arith }
posted-entry next (x ∷ kinds) (suc k) e at =
    let rest = posted-entry (next + 1) kinds k e at in
    let number = rest.numbered in
    record { place = suc rest.place; there = rest.there; numbered = omega arith }

-- what stands in a lane with the entries of a post behind it
lane-posted : {P : Type 0} (lane : List Entry) (next : ℕ) (kinds : List Kind) (m : ℕ) (kind : Kind) → InLane (lane ++ posted_entries next kinds) m kind
    → (InLane lane m kind → P) → (IsPostedEntry next kinds m kind → P) → P
lane-posted {P} lane next kinds m kind h old new = parts (append-parts lane (posted_entries next kinds) h.place h.entry h.there)
  where
    parts : ((j : ℕ) × (slice_get lane j ≡ Some h.entry)) ⊎ ((j : ℕ) × (slice_get (posted_entries next kinds) j ≡ Some h.entry)) → P
    parts (inl before) = old (record { place = before.0; entry = h.entry; there = before.1; numbered = h.numbered; kind_is = h.kind_is })
    parts (inr posted) =
        let p = posted-entry next kinds posted.0 h.entry posted.1 in
        new (record { place = p.place; there = rw (sym h.kind_is) p.there; numbered = sym h.numbered ∙ p.numbered })

-- nothing of an old queue's begins to stand
abbrev pub Shrinks : List Queue → List Queue → Type 0
Shrinks old new = (queue target m : ℕ) (kind : Kind) → InQueues new queue target m kind → InQueues old queue target m kind

-- What an event did to the queues of a rank: nothing new stands, or it posted.
pub data Changed (limits : Limits) (e : Event) (origin : ℕ) (old new : Posts) : Type 0 where
  Quiet : post_of origin e ≡ None → new.next ≡ old.next → Shrinks old.queues new.queues → Changed limits e origin old new
  Posted : (call : Call) (to : Posting) (kinds : List Kind) → post_of origin e ≡ post_in call (Some to) → (row_of call).posting ≡ Some to → requested_kinds limits origin old call ≡ Ok kinds
      → new.next ≡ old.next + length kinds → new.queues ≡ changed_at old.queues to.queue (with_entries to.rank (posted_entries old.next kinds)) → Changed limits e origin old new

-- the posts of a rank after an event, and those before
pub record FromBefore (s : State) (e : Event) (origin : ℕ) (after : Posts) : Type 0 where
  pub before : Posts
  pub there : slice_get s.posts origin ≡ Some before
  pub changed : Changed s.limits e origin before after

quiet-same : (s : State) (e : Event) (origin : ℕ) (posts after : Posts) → slice_get s.posts origin ≡ Some posts → post_of origin e ≡ None → after.next ≡ posts.next → after.queues ≡ posts.queues → FromBefore s e origin after
quiet-same s e origin posts after there none next queues =
    record { before = posts; there = there; changed = Quiet none next (λ queue target m kind h. subst (λ (qs : List Queue). InQueues qs queue target m kind) queues h) }

-- the posts of a rank where those of one are replaced
replaced : {P : Type 0} (s : State) (rank : ℕ) (posts posts' : Posts) (origin : ℕ) (after : Posts) → slice_get s.posts rank ≡ Some posts → slice_get (slice_set s.posts rank posts') origin ≡ Some after
    → (origin ≡ rank → after ≡ posts' → P) → ((origin ≡ rank → ⊥) → slice_get s.posts origin ≡ Some after → P) → P
replaced {P} s rank posts posts' origin after at h mine other =
    same-or-not origin rank
    (λ same.
    let now : slice_get (slice_set s.posts rank posts') rank ≡ Some after = subst (λ (k : ℕ). slice_get (slice_set s.posts rank posts') k ≡ Some after) same h in
    let some : ◌≡◌ {A = Option Posts} (Some after) (Some posts') = sym now ∙ slice_get-set_same s.posts rank posts posts' at in
    mine same (let is : after ≡ posts' = cc in is))
    (λ apart. other apart (sym (slice_get-set_other s.posts rank origin posts' (λ e. apart (sym e))) ∙ h))

-- an event that posts nothing, and leaves nothing new in the queues of its owner
quiet-event : (s t : State) (e : Event) (owner : ℕ) (posts posts' : Posts) (origin : ℕ) (after : Posts) → slice_get s.posts owner ≡ Some posts → t.posts ≡ slice_set s.posts owner posts'
    → post_of origin e ≡ None → posts'.next ≡ posts.next → Shrinks posts.queues posts'.queues → slice_get t.posts origin ≡ Some after → FromBefore s e origin after
quiet-event s t e owner posts posts' origin after at is none next shrinks h =
    replaced s owner posts posts' origin after at (subst (λ (all : List Posts). slice_get all origin ≡ Some after) is h)
    (λ same now.
    record {
      before = posts;
      there = rw same at;
      changed = Quiet none (ap (λ (p : Posts). p.next) now ∙ next) (λ queue target m kind i. shrinks queue target m kind (subst (λ (p : Posts). InQueues p.queues queue target m kind) now i));
    })
    (λ apart there. quiet-same s e origin after after there none refl refl)

met-event : (s t : State) (e : Event) (owner : ℕ) (posts posts' : Posts) (origin : ℕ) (after : Posts) → IsMet s t owner posts posts' → post_of origin e ≡ None → slice_get t.posts origin ≡ Some after → FromBefore s e origin after
met-event s t e owner posts posts' origin after met none h =
    quiet-event s t e owner posts posts' origin after met.there met.leaves none met.keeps.next
    (λ queue target m kind i. subst (λ (qs : List Queue). InQueues qs queue target m kind) met.keeps.queues i) h

-- a lane of a queue changed, of an entry that was found
found-shrinks : (posts : Posts) (changed replaced number : ℕ) (at : EntryPosition) (lane' : List Entry) (change : Queue → Queue) → IsFound posts changed replaced number at
    → ((q : Queue) → (change q).lanes ≡ slice_set q.lanes replaced lane') → ((m : ℕ) (kind : Kind) → InLane lane' m kind → InLane at.lane m kind)
    → Shrinks posts.queues (changed_at posts.queues changed change)
found-shrinks posts changed replaced number at lane' change is lanes keeps queue target m kind h =
    queues-changed posts.queues changed change queue target m kind (λ old. old)
    (λ q there same i.
    let q_is : q ≡ at.queue = (let some : ◌≡◌ {A = Option Queue} (Some q) (Some at.queue) = sym there ∙ is.in_posts in cc) in
    let queue_there : slice_get posts.queues queue ≡ Some q = subst (λ (k : ℕ). slice_get posts.queues k ≡ Some q) same there in
    lane-replaced q.lanes (change q).lanes replaced lane' target m kind i.lane (lanes q) i.lane_there i.has
    (λ before. record { q = q; queue_there = queue_there; in_queue = record { lane = i.lane; lane_there = before; has = i.has } })
    (λ here new.
    record {
      q = q;
      queue_there = queue_there;
      in_queue = record { lane = at.lane; lane_there = subst (λ (k : ℕ). slice_get q.lanes k ≡ Some at.lane) (sym here) (rw q_is is.in_queue); has = keeps m kind new };
    }))
    h

-- what a call leaves that posts nothing
plain-shrinks : (posts : Posts) (thread : ℕ) (call : Call) → Shrinks posts.queues (plain_effect posts thread call).queues
plain-shrinks posts thread (Purge call) queue target m kind h =
    queues-changed posts.queues call.queue emptied queue target m kind (λ old. old)
    (λ q there same i.
    let lane = map-at without_entries q.lanes target i.lane i.lane_there in
    absurd (empty (subst (λ (l : List Entry). InLane l m kind) lane.2 i.has)))
    h
  where
    empty : InLane [] m kind → ⊥
    empty has = let at = has.there in cc
plain-shrinks posts thread (Wait call) queue target m kind h =
    queues-changed posts.queues call.queue (λ (q : Queue). record q { open_count = 0 }) queue target m kind (λ old. old)
    (λ q there same i. record { q = q; queue_there = subst (λ (k : ℕ). slice_get posts.queues k ≡ Some q) same there; in_queue = record { lane = i.lane; lane_there = i.lane_there; has = i.has } })
    h
plain-shrinks posts thread other queue target m kind h = h

plain-next : (posts : Posts) (thread : ℕ) (call : Call) → (plain_effect posts thread call).next ≡ posts.next
plain-next posts thread (calls.Alloc call) = refl
plain-next posts thread (calls.Delete call) = refl
plain-next posts thread (Wait call) = refl
plain-next posts thread (Purge call) = refl
plain-next posts thread calls.GroupCreate = refl
plain-next posts thread (calls.GroupAdd call) = refl
plain-next posts thread (calls.GroupDelete call) = refl
plain-next posts thread calls.End = refl
plain-next posts thread other = refl

-- what posts nothing: a call of another rank, one that is refused or timed out, and one whose row has no post
post-other : (origin : ℕ) (c : CallerId) (call : Call) (reply : Reply) → (origin ≡ c.rank → ⊥) → post_of origin (Called c call reply) ≡ None
post-other origin c call replies.Done apart = rw (ne_eqb c.rank origin (λ e. apart (sym e))) refl
post-other origin c call other apart = refl

post-idle : (origin : ℕ) (c : CallerId) (call : Call) (reply : Reply) → is_idle reply ≡ true → post_of origin (Called c call reply) ≡ None
post-idle origin c call replies.Done idle = absurd (let no : ⊥ = cc in no)
post-idle origin c call other idle = refl

post-plain : (origin : ℕ) (c : CallerId) (call : Call) (reply : Reply) → (row_of call).posting ≡ None → post_of origin (Called c call reply) ≡ None
post-plain origin c call replies.Done none = go (c.rank == origin)
  where
    go : (b : Bool) → (if b then post_in call (row_of call).posting else None) ≡ None
    go true = ap (post_in call) none
    go false = refl
post-plain origin c call other none = refl

-- a collective posts nothing
group-posts-none : (call : Call) (id : ℕ) → (row_of call).group ≡ Some id → (row_of call).posting ≡ None
group-posts-none (calls.Commit call) id named = refl
group-posts-none (calls.Barrier call) id named = refl
group-posts-none (calls.Allreduce call) id named = refl
group-posts-none (calls.Create call) id named = refl
group-posts-none other id named = absurd (let no : ⊥ = cc in no)

-- a call of a rank, on its own posts
own-call : (s : State) (limits : Limits) (c : CallerId) (call : Call) (reply : Reply) (posts : Posts) (memory : Memory) → s.limits ≡ limits → slice_get s.posts c.rank ≡ Some posts
    → reply ≡ recorded_reply (answer limits c.rank posts memory c.thread call)
    → FromBefore s (Called c call reply) c.rank (posts_after limits c.rank posts c.thread call reply)
own-call s limits c call reply posts memory same there answered = by-idle (is_idle reply) refl
  where
    by-posting : is_idle reply ≡ false → (o : Option Posting) → (row_of call).posting ≡ o → FromBefore s (Called c call reply) c.rank (counted (posts_effect limits c.rank posts c.thread call))
    by-posting awake None none = rw none (record {
      before = posts;
      there = there;
      changed = Quiet (post-plain c.rank c call reply none) (plain-next posts c.thread call) (plain-shrinks posts c.thread call);
    })
    by-posting awake (Some to) posting =
        let finds = found-reply limits c.rank posts memory c.thread call reply answered awake in
        let asked = requested_kinds limits c.rank posts call in
        let finds' : post_request_result limits posts to.rank to.queue asked ≡ Ok (Some reply) = rw posting at finds in
        let ok = post-ok limits posts to.rank to.queue asked (Some reply) finds' in
        let p = ok.2 in
        let done : reply ≡ replies.Done = (let some : ◌≡◌ {A = Option Reply} (Some reply) (Some replies.Done) = p.done in cc) in
        let mine : (c.rank == c.rank) ≡ true = eq-eqb c.rank c.rank refl in
        rw (posting, p.asks) (record {
          before = posts;
          there = there;
          changed = Posted call to ok.1 (rw done (rw (mine, posting) refl)) posting (rw same p.asks) refl refl;
        })

    by-idle : (b : Bool) → is_idle reply ≡ b → FromBefore s (Called c call reply) c.rank (posts_after limits c.rank posts c.thread call reply)
    by-idle true idle = rw idle (quiet-same s (Called c call reply) c.rank posts (counted posts) there (post-idle c.rank c call reply idle) refl refl)
    by-idle false awake = rw awake (by-posting awake (row_of call).posting refl)

-- what a rank knows of segments is no matter of its queues
as-told : (s : State) (e : Event) (origin : ℕ) (x : Posts) (known : List (List (Option Extent))) → FromBefore s e origin x → FromBefore s e origin (record x { segments = record x.segments { known = known } })
as-told s e origin x known from = record { before = from.before; there = from.there; changed = go from.changed }
  where
    go : Changed s.limits e origin from.before x → Changed s.limits e origin from.before (record x { segments = record x.segments { known = known } })
    go (Quiet none next shrinks) = Quiet none next shrinks
    go (Posted call to kinds is posting asks next queues) = Posted call to kinds is posting asks next queues

called-from : (s t : State) (c : CallerId) (call : Call) (reply : Reply) → (row_of call).group ≡ None → step s (Called c call reply) ≡ Ok t → (origin : ℕ) (after : Posts) → slice_get t.posts origin ≡ Some after
    → FromBefore s (Called c call reply) origin after
called-from s t c call reply plain h origin after there =
    let made = step-called s t c call reply plain h in
    let f = made.3 in
    let all = slice_set s.posts c.rank made.2.posts in
    let told_there : slice_get (registering s.limits.ranks c.rank made.0 call reply all) origin ≡ Some after = subst (λ (x : State). slice_get x.posts origin ≡ Some after) f.leaves there in
    let from = registered-from s.limits.ranks c.rank made.0 call reply all origin after told_there in
    let later : made.2.posts ≡ posts_after s.limits c.rank made.0 c.thread call reply = ap (λ (x : PostsAndMemory). x.posts) f.is.leaves in
    subst (λ (x : Posts). FromBefore s (Called c call reply) origin x) (sym from.3) (as-told s (Called c call reply) origin from.0 from.1
    (replaced s c.rank made.0 made.2.posts origin from.0 f.posts_there from.2
    (λ same now.
    subst (λ (k : ℕ). FromBefore s (Called c call reply) k from.0) (sym same) (subst (λ (x : Posts). FromBefore s (Called c call reply) c.rank x) (sym (now ∙ later))
    (own-call s s.limits c call reply made.0 made.1 refl f.posts_there (same_reply-same _ _ f.is.answered))))
    (λ apart before. quiet-same s (Called c call reply) origin from.0 from.0 before (post-other origin c call reply apart) refl refl)))

-- where the posts of a rank come from after an event
pub from-before : (s t : State) (e : Event) → step s e ≡ Ok t → (origin : ℕ) (after : Posts) → slice_get t.posts origin ≡ Some after → FromBefore s e origin after
from-before s t (Joined c id args) h origin after there = met-event s t (Joined c id args) c.rank _ _ origin after (on_group-joined s t c id args h).2 refl there
from-before s t (Called c call reply) h origin after there = by-group (row_of call).group refl
  where
    unposting : (id : ℕ) → (row_of call).group ≡ Some id → (row_of call).posting ≡ None
    unposting id named = group-posts-none call id named

    by-group : (o : Option ℕ) → (row_of call).group ≡ o → FromBefore s (Called c call reply) origin after
    by-group (Some id) named = met-event s t (Called c call reply) c.rank _ _ origin after (on_group-called s t c id call reply named h).2 (post-plain origin c call reply (unposting id named)) there
    by-group None plain = called-from s t c call reply plain h origin after there
from-before s t (Take origin' queue target number Failed) h origin after there =
    let made = step-take s t origin' queue target number Failed h in
    let f = made.4 in
    let at = made.3 in
    quiet-event s t (Take origin' queue target number Failed) origin' made.0 made.2 origin after f.posts_there (ap (λ (x : State). x.posts) f.leaves) refl (ap (λ (x : Posts). x.next) f.is.leaves)
    (subst (λ (x : Posts). Shrinks made.0.queues x.queues) (sym f.is.leaves)
    (found-shrinks made.0 queue target number at (with_phase at.lane at.position at.entry phases.Failed) (queue_with_failed target at) f.is.is (λ q. refl) (λ m kind i. lane-phase at.lane at.position at.entry phases.Failed m kind f.is.is.in_lane i))) there
from-before s t (Take origin' queue target number Applied) h origin after there =
    let made = step-take s t origin' queue target number Applied h in
    let f = made.4 in
    let at = made.3 in
    let phase = phases.Carried (source_bytes made.1 at.entry.kind) in
    let lane = with_phase at.lane at.position at.entry phase in
    quiet-event s t (Take origin' queue target number Applied) origin' made.0 made.2 origin after f.posts_there (ap (λ (x : State). x.posts) f.leaves) refl (ap (λ (x : Posts). x.next) f.is.leaves)
    (subst (λ (x : Posts). Shrinks made.0.queues x.queues) (sym f.is.leaves)
    (found-shrinks made.0 queue target number at lane (λ (q : Queue). record q { lanes = slice_set q.lanes target lane }) f.is.is (λ q. refl) (λ m kind i. lane-phase at.lane at.position at.entry phase m kind f.is.is.in_lane i))) there
from-before s t (Put origin' queue target number Failed) h origin after there =
    let made = step-put s t origin' queue target number Failed h in
    let f = made.4 in
    let at = made.3 in
    quiet-event s t (Put origin' queue target number Failed) origin' made.0 made.2.posts origin after f.posts_there (ap (λ (x : State). x.posts) f.leaves) refl (ap (λ (x : PostsAndMemory). x.posts.next) f.is.leaves)
    (subst (λ (x : PostsAndMemory). Shrinks made.0.queues x.posts.queues) (sym f.is.leaves)
    (found-shrinks made.0 queue target number at (with_phase at.lane at.position at.entry phases.Failed) (queue_with_failed target at) f.is.is (λ q. refl) (λ m kind i. lane-phase at.lane at.position at.entry phases.Failed m kind f.is.is.in_lane i))) there
from-before s t (Put origin' queue target number Applied) h origin after there =
    let made = step-put s t origin' queue target number Applied h in
    let f = made.4 in
    let at = made.3 in
    quiet-event s t (Put origin' queue target number Applied) origin' made.0 made.2.posts origin after f.posts_there (ap (λ (x : State). x.posts) f.leaves) refl (ap (λ (x : PostsAndMemory). x.posts.next) f.is.leaves)
    (subst (λ (x : PostsAndMemory). Shrinks made.0.queues x.posts.queues) (sym f.is.leaves)
    (found-shrinks made.0 queue target number at (remove at.lane at.position) (λ (q : Queue). record q { lanes = slice_set q.lanes target (remove at.lane at.position) }) f.is.is (λ q. refl) (λ m kind i. lane-removed at.lane at.position m kind i))) there

-- An entry that an event posted: the entries of a post have numbers from its origin's next one on, its writes come first, and its
-- notification last.
pub record IsNew (origin : ℕ) (e : Event) (queue target next m : ℕ) (kind : Kind) : Type 0 where
  pub post : Post
  pub is : post_of origin e ≡ Some post
  pub to_queue : post.posting.queue ≡ queue
  pub to_target : post.posting.rank ≡ target
  pub place : ℕ
  pub numbered : m ≡ next + place
  pub write : is_write_kind kind ≡ nat_lt place post.writes
  pub note : is_notify_kind kind ≡ (post.notified && (place + 1 == post.posting.entries))

-- what the row of a call says that posts
row-entries : (call : Call) (to : Posting) → (row_of call).posting ≡ Some to → entries_of call ≡ to.entries
row-entries call to posting = rw posting refl

kinds-of : (limits : Limits) (origin : ℕ) (posts : Posts) (call : Call) (to : Posting) (kinds : List Kind) → (row_of call).posting ≡ Some to → requested_kinds limits origin posts call ≡ Ok kinds
    → AreKinds (writes_in call) to.entries (posts_notification call) kinds
kinds-of limits origin posts call to kinds posting asks =
    subst (λ (n : ℕ). AreKinds (writes_in call) n (posts_notification call) kinds) (row-entries call to posting) (call-kinds limits.notes origin posts.segments call to kinds posting asks)

-- the next number grows by the entries that an event posted
pub next-after : (limits : Limits) (e : Event) (origin : ℕ) (old new : Posts) → Changed limits e origin old new → new.next ≡ old.next + entries_in (post_of origin e)
next-after limits e origin old new (Quiet none next shrinks) = rw none (next ∙ omega arith)
next-after limits e origin old new (Posted call to kinds is posting asks next queues) =
    let count = (kinds-of limits origin old call to kinds posting asks).count in
    rw is (omega arith)

-- a post has an entry
pub posted-some : (limits : Limits) (e : Event) (origin : ℕ) (old new : Posts) → Changed limits e origin old new → (post : Post) → post_of origin e ≡ Some post → 1 ≤ post.posting.entries
posted-some limits e origin old new (Quiet none next shrinks) post is = absurd (let some : ◌≡◌ {A = Option Post} None (Some post) = sym none ∙ is in let no : ⊥ = cc in no)
posted-some limits e origin old new (Posted call to kinds by posting asks next queues) post is =
    let some : ◌≡◌ {A = Option Post} (Some (record { posting = to; writes = writes_in call; notified = posts_notification call })) (Some post) = sym by ∙ is in
    let same : record { posting = to; writes = writes_in call; notified = posts_notification call } ≡ post = cc in
    subst (λ (p : Post). 1 ≤ p.posting.entries) same (asks-some limits origin old call to kinds posting asks)

-- what stands after an event stood before, or was posted
pub entry-from : (limits : Limits) (e : Event) (origin : ℕ) (old new : Posts) → Changed limits e origin old new → (queue target m : ℕ) (kind : Kind) → InQueues new.queues queue target m kind
    → InQueues old.queues queue target m kind ⊎ IsNew origin e queue target old.next m kind
entry-from limits e origin old new (Quiet none next shrinks) queue target m kind h = inl (shrinks queue target m kind h)
entry-from limits e origin old new (Posted call to kinds is posting asks next queues) queue target m kind h =
    queues-changed old.queues to.queue (with_entries to.rank entries) queue target m kind inl
    (λ q there same i. in-queue q there same i (slice_get q.lanes to.rank) refl)
    (subst (λ (qs : List Queue). InQueues qs queue target m kind) queues h)
  where
    entries : List Entry
    entries = posted_entries old.next kinds

    fresh : to.queue ≡ queue → target ≡ to.rank → IsPostedEntry old.next kinds m kind → IsNew origin e queue target old.next m kind
    fresh same here p =
        let are = kinds-of limits origin old call to kinds posting asks in
        record {
          post = record { posting = to; writes = writes_in call; notified = posts_notification call };
          is = is;
          to_queue = same;
          to_target = sym here;
          place = p.place;
          numbered = p.numbered;
          write = are.write p.place kind p.there;
          note = are.note p.place kind p.there;
        }

    in-queue : (q : Queue) → slice_get old.queues to.queue ≡ Some q → to.queue ≡ queue → InQueue (with_entries to.rank entries q) target m kind → (o : Option (List Entry)) → slice_get q.lanes to.rank ≡ o
        → InQueues old.queues queue target m kind ⊎ IsNew origin e queue target old.next m kind
    in-queue q there same i None at =
        inl (record { q = q; queue_there = subst (λ (k : ℕ). slice_get old.queues k ≡ Some q) same there; in_queue = record { lane = i.lane; lane_there = rw at at i.lane_there; has = i.has } })
    in-queue q there same i (Some lane) at =
        let queue_there : slice_get old.queues queue ≡ Some q = subst (λ (k : ℕ). slice_get old.queues k ≡ Some q) same there in
        lane-replaced q.lanes (with_entries to.rank entries q).lanes to.rank (lane ++ entries) target m kind i.lane (rw at refl) i.lane_there i.has
        (λ before. inl (record { q = q; queue_there = queue_there; in_queue = record { lane = i.lane; lane_there = before; has = i.has } }))
        (λ here new.
        lane-posted lane old.next kinds m kind new
        (λ before. inl (record { q = q; queue_there = queue_there; in_queue = record { lane = lane; lane_there = subst (λ (k : ℕ). slice_get q.lanes k ≡ Some lane) (sym here) at; has = before } }))
        (λ posted. inr (fresh same here posted)))

-- a post that was done
pub record IsPostDone (origin : ℕ) (e : Event) (post : Post) : Type 0 where
  pub c : CallerId
  pub call : Call
  pub event : e ≡ Called c call replies.Done
  pub mine : c.rank ≡ origin
  pub posting : (row_of call).posting ≡ Some post.posting
  pub writes : post.writes ≡ writes_in call
  pub notified : post.notified ≡ posts_notification call

pub post-done-by : (origin : ℕ) (e : Event) (post : Post) → post_of origin e ≡ Some post → IsPostDone origin e post
post-done-by origin (Called c call replies.Done) post h = by-rank (c.rank == origin) refl (row_of call).posting refl
  where
    by-rank : (b : Bool) → (c.rank == origin) ≡ b → (o : Option Posting) → (row_of call).posting ≡ o → IsPostDone origin (Called c call replies.Done) post
    by-rank false is o at = absurd (let none : ◌≡◌ {A = Option Post} None (Some post) = rw is at h in let no : ⊥ = cc in no)
    by-rank true is None at = absurd (let none : ◌≡◌ {A = Option Post} None (Some post) = rw (is, at) at h in let no : ⊥ = cc in no)
    by-rank true is (Some to) at =
        let some : ◌≡◌ {A = Option Post} (Some (record { posting = to; writes = writes_in call; notified = posts_notification call })) (Some post) = rw (is, at) at h in
        let same : record { posting = to; writes = writes_in call; notified = posts_notification call } ≡ post = cc in
        record {
          c = c;
          call = call;
          event = refl;
          mine = eqb-true c.rank origin is;
          posting = at ∙ ap (λ (p : Post). Some p.posting) same;
          writes = ap (λ (p : Post). p.writes) (sym same);
          notified = ap (λ (p : Post). p.notified) (sym same);
        }
post-done-by origin (Called c call other) post h = absurd (let no : ⊥ = cc in no)
post-done-by origin (Joined c id args) post h = absurd (let no : ⊥ = cc in no)
post-done-by origin (Take o queue target number outcome) post h = absurd (let no : ⊥ = cc in no)
post-done-by origin (Put o queue target number outcome) post h = absurd (let no : ⊥ = cc in no)

posted-at : (next : ℕ) (kinds : List Kind) (k : ℕ) (kind : Kind) → slice_get kinds k ≡ Some kind
    → slice_get (posted_entries next kinds) k ≡ Some (record { number = next + k; kind = kind; phase = phases.Posted })
posted-at next [] k kind at = absurd (let no : ⊥ = cc in no)
posted-at next (x ∷ kinds) zero kind at =
    let same : x ≡ kind = cc in
    let number : next ≡ next + 0 = omega arith in
    ap (λ (y : Kind). Some (record { number = next; kind = y; phase = phases.Posted })) same ∙ ap (λ (n : ℕ). Some (record { number = n; kind = kind; phase = phases.Posted })) number
posted-at next (x ∷ kinds) (suc k) kind at =
    let number : next + 1 + k ≡ next + suc k = omega arith in
    posted-at (next + 1) kinds k kind at ∙ ap (λ (n : ℕ). Some (record { number = n; kind = kind; phase = phases.Posted })) number

few-writes : (call : Call) → writes_in call ≤ entries_of call
few-writes (calls.Write call) = omega arith
few-writes (calls.WriteList call) = omega arith
few-writes (calls.WriteNotify call) = omega arith
few-writes (calls.WriteListNotify call) = omega arith
few-writes other = omega arith

-- a write of a post stands after it
pub record IsWritePosted (s t : State) (origin queue target place : ℕ) : Type 0 where
  pub before : Posts
  pub there : slice_get s.posts origin ≡ Some before
  pub posts : Posts
  pub after_there : slice_get t.posts origin ≡ Some posts
  pub kind : Kind
  pub stands : InQueues posts.queues queue target (before.next + place) kind
  pub write : is_write_kind kind ≡ true

pub write-posted : (s t : State) (e : Event) → IsSound s → step s e ≡ Ok t → (origin : ℕ) (post : Post) → post_of origin e ≡ Some post → (place : ℕ) → place < post.writes
    → IsWritePosted s t origin post.posting.queue post.posting.rank place
write-posted s t e sound h origin post is place less =
    let d = post-done-by origin e post is in
    let p = post-done s t d.c d.call post.posting sound d.posting (subst (λ (x : Event). step s x ≡ Ok t) d.event h) in
    let are = kinds-of s.limits d.c.rank p.posts d.call post.posting p.kinds d.posting p.asks in
    let few = few-writes d.call in
    let row = row-entries d.call post.posting d.posting in
    let count = are.count in
    let writes = d.writes in
    let at = there-within p.kinds place (omega arith) in
    let entries = posted_entries p.posts.next p.kinds in
    let q' : Queue = record p.q { open_count = p.q.open_count + length p.kinds; lanes = slice_set p.q.lanes post.posting.rank (p.lane ++ entries) } in
    let after : Posts = record (counted p.posts) { queues = slice_set p.posts.queues post.posting.queue q'; next = p.posts.next + length p.kinds } in
    let e' : Entry = record { number = p.posts.next + place; kind = at.0; phase = phases.Posted } in
    let all : t.posts ≡ slice_set s.posts d.c.rank after = ap (λ (x : State). x.posts) p.after in
    record {
      before = p.posts;
      there = subst (λ (k : ℕ). slice_get s.posts k ≡ Some p.posts) d.mine p.posts_there;
      posts = after;
      after_there = subst (λ (k : ℕ). slice_get t.posts k ≡ Some after) d.mine (subst (λ (x : List Posts). slice_get x d.c.rank ≡ Some after) (sym all) (slice_get-set_same s.posts d.c.rank p.posts after p.posts_there));
      kind = at.0;
      stands = record {
        q = q';
        queue_there = slice_get-set_same p.posts.queues post.posting.queue p.q q' p.queue_there;
        in_queue = record {
          lane = p.lane ++ entries;
          lane_there = slice_get-set_same p.q.lanes post.posting.rank p.lane (p.lane ++ entries) p.lane_there;
          has = record {
            place = length p.lane + place;
            entry = e';
            there = behind-of-joined p.lane entries place (length p.lane + place) refl ∙ posted-at p.posts.next p.kinds place at.0 at.1;
            numbered = refl;
            kind_is = refl;
          };
        };
      };
      write = are.write place at.0 at.1 ∙ lt-ltb place (writes_in d.call) (omega arith);
    }

-- an event posts few entries, of which no more are writes
pub entries-few : (origin : ℕ) (e : Event) → entries_in (post_of origin e) ≤ 257
entries-few origin e = go (post_of origin e) refl
  where
    go : (o : Option Post) → post_of origin e ≡ o → entries_in o ≤ 257
    go None is = omega arith
    go (Some post) is =
        let d = post-done-by origin e post is in
        let few = few-posted d.call in
        let row = row-entries d.call post.posting d.posting in
        omega arith

pub writes-few : (at : EntryPut) (e : Event) → writes_to at (post_of at.origin e) ≤ entries_in (post_of at.origin e)
writes-few at e = go (post_of at.origin e) refl
  where
    by-lane : (post : Post) → post.writes ≤ post.posting.entries → (b : Bool) → (if b then post.writes else 0) ≤ post.posting.entries
    by-lane post few true = few
    by-lane post few false = omega arith

    go : (o : Option Post) → post_of at.origin e ≡ o → writes_to at o ≤ entries_in o
    go None is = omega arith
    go (Some post) is =
        let d = post-done-by at.origin e post is in
        let few = few-writes d.call in
        let row = row-entries d.call post.posting d.posting in
        let writes = d.writes in
        by-lane post (omega arith) (goes_to at post)
