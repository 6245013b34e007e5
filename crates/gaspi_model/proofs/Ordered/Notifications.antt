-- A write or a read stands in its lane until it is put, and while it stands no later notification of its kind and lane is
-- put.
use Rattle.std.proofs.Common.{◌≡◌, ℕ, zero, suc, ◌+◌, ◌<◌, arith, Bool, true, false, not, ◌==◌, ◌&&◌, ◌||◌, nat_lt, List, [], ◌∷◌, ◌++◌, length, remove, Option, None, Some, Result, Ok, Err, refl, sym, ap, ◌∙◌, subst, ◌⊎◌, inl, inr, if◌then◌else◌}
use Rattle.std.specs.List.{slice_get, slice_set, prefix_len, list_any}
use Rattle.std.proofs.lemmas.Bool.{eq-eqb, eqb-true, eqb-false, lt-ltb}
use Rattle.gaspi_types.specs.Kinds.{is_write_kind, is_read_kind, is_notify_kind, is_read_note_kind}
use Rattle.gaspi_types.specs.Lanes.{may_put, may_put_kind, is_carried, position_of, posted_entries}
use Rattle.gaspi_types.specs.Replies.{is_idle}
use Rattle.gaspi_types.specs.declared.entries.Entry.{Entry}
use Rattle.gaspi_types.specs.declared.entries.Kind.{Kind}
use Rattle.gaspi_types.specs.declared.entries.Kind.TheVariants.{Write, Read, Notify, ReadNote}
use Rattle.gaspi_types.specs.declared.entries.Phase.{Phase}
use Rattle.gaspi_types.specs.declared.entries.Phase.TheVariants as phases
use Rattle.gaspi_types.specs.declared.shapes.Limits.{Limits}
use Rattle.gaspi_types.specs.declared.calls.Call.{Call}
use Rattle.gaspi_types.specs.declared.calls.Call.TheVariants.{Wait, Purge}
use Rattle.gaspi_types.specs.CallRows.{row_of}
use Rattle.gaspi_types.specs.declared.call_rows.Posting.{Posting}
use Rattle.gaspi_types.specs.declared.replies.Reply.{Reply}
use Rattle.gaspi_types.specs.declared.replies.Reply.TheVariants as replies
use Rattle.gaspi_types.specs.declared.replies.Refusal.{Refusal}
use Rattle.gaspi_types.specs.declared.replies.Refusal.TheVariants.{BadQueue}
use Rattle.gaspi_types.specs.declared.shapes.CallerId.{CallerId}
use Rattle.gaspi_types.specs.declared.events.Outcome.TheVariants.{Applied, Failed}
use Rattle.gaspi_types.specs.declared.events.Event.{Event}
use Rattle.gaspi_types.specs.declared.events.Event.TheVariants.{Called, Joined, Take, Put}
use Rattle.gaspi_model.specs.Posting.{with_post, counted}
use Rattle.gaspi_types.specs.Tables.{changed_at}
use Rattle.gaspi_types.specs.Queues.{with_entries}
use Rattle.gaspi_model.specs.Calls.{posts_effect, plain_effect, requested_kinds, answer, recorded_reply}
use Rattle.gaspi_model.specs.QueueCalls.{emptied}
use Rattle.gaspi_model.specs.Transfers.{EntryPosition, find_entry, source_bytes}
use Rattle.gaspi_model.specs.State.{opening}
use Rattle.gaspi_model.specs.Step.{step, after, reached, is_legal}
use Rattle.gaspi_model.specs.Order.{IsInLane, IsWriteInLane, IsReadInLane, IsNotificationInLane, IsReadNoteInLane, is_purge_of}
use Rattle.gaspi_types.specs.World.{ShapeValue}
use Rattle.gaspi_model.specs.Shards.{entry_after}
use Rattle.gaspi_types.specs.declared.entries.Queue.{Queue}
use Rattle.gaspi_model.specs.declared.states.Posts.{Posts}
use Rattle.gaspi_model.specs.declared.states.Memory.{Memory}
use Rattle.gaspi_types.specs.declared.groups.Group.{Group}
use Rattle.gaspi_model.specs.declared.states.State.{State}
use Rattle.gaspi_model.specs.declared.states.Why.{Why}
use Rattle.gaspi_model.specs.declared.states.Why.TheVariants as whys
use Rattle.gaspi_types.proofs.Chains.{both, found_then, same_Ok}
use Rattle.gaspi_model.proofs.FoundReplies.{found-reply}
use Rattle.gaspi_model.proofs.Same.{same_reply-same}
use Rattle.gaspi_model.proofs.CollectivePosts.{IsMet, on_group-called, on_group-joined}
use Rattle.gaspi_model.proofs.Made.{step-called, step-take, step-put}
use Rattle.gaspi_types.proofs.Items.{slice_get-set_same, slice_get-set_other, same-or-not}
use Rattle.gaspi_model.proofs.Sound.Registered.{IsTold, registering, registered-get}
use Rattle.gaspi_model.proofs.Histories.{after-first, after-both, leads}
use Rattle.gaspi_model.proofs.FoundEntries.{IsFound, find_entry-ok, found-again, with_phase, queue_with_failed, failed_with}

one-more : (n : ℕ) → 1 + n ≡ suc n
one-more n = omega arith

-- what was found by its number has it
number-stops : (k : ℕ) (lane : List Entry) (e : Entry) → slice_get lane (prefix_len (λ x. not (x.number == k)) lane) ≡ Some e → e.number ≡ k
number-stops k [] e at = absurd (let no : ⊥ = cc in no)
number-stops k (x ∷ lane) e at = go (x.number == k) refl (number-stops k lane e)
  where
    go : (t : Bool) → (x.number == k) ≡ t → (slice_get lane (prefix_len (λ y. not (y.number == k)) lane) ≡ Some e → e.number ≡ k) → e.number ≡ k
    go true is rest = let at' : ◌≡◌ {A = Option Entry} (Some x) (Some e) = rw is at at in let same : x ≡ e = cc in ap (λ (y : Entry). y.number) (sym same) ∙ eqb-true x.number k is
    go false is rest =
        let further : slice_get (x ∷ lane) (1 + prefix_len (λ y. not (y.number == k)) lane) ≡ Some e = rw is at at in
        rest (rw (one-more (prefix_len (λ y. not (y.number == k)) lane)) at further)

pub found-number : (lane : List Entry) (k place : ℕ) (e : Entry) → position_of lane k ≡ Some place → slice_get lane place ≡ Some e → e.number ≡ k
found-number lane k place e h at = go (nat_lt (prefix_len (λ x. not (x.number == k)) lane) (length lane)) refl
  where
    go : (t : Bool) → nat_lt (prefix_len (λ x. not (x.number == k)) lane) (length lane) ≡ t → e.number ≡ k
    go true is =
        let some : ◌≡◌ {A = Option ℕ} (Some (prefix_len (λ x. not (x.number == k)) lane)) (Some place) = rw is at h in
        let same : prefix_len (λ x. not (x.number == k)) lane ≡ place = cc in
        number-stops k lane e (rw same at)
    go false is = absurd (let none : ◌≡◌ {A = Option ℕ} None (Some place) = rw is at h in let no : ⊥ = cc in no)

-- an entry of a kind with a number stands in a lane
record HasEntry (K : Kind → Bool) (lane : List Entry) (m : ℕ) : Type 0 where
  place : ℕ
  entry : Entry
  there : slice_get lane place ≡ Some entry
  kind : K entry.kind ≡ true
  numbered : entry.number ≡ m

append-keeps : {A : Type 0} (xs ys : List A) (k : ℕ) (x : A) → slice_get xs k ≡ Some x → slice_get (xs ++ ys) k ≡ Some x
append-keeps [] ys k x at = absurd (let no : ⊥ = cc in no)
append-keeps (y ∷ xs) ys zero x at = at
append-keeps (y ∷ xs) ys (suc k) x at = append-keeps xs ys k x at

-- what stands elsewhere than an item that is taken out still stands
pub remove-keeps : {A : Type 0} (xs : List A) (i k : ℕ) (x : A) → slice_get xs k ≡ Some x → (i ≡ k → ⊥) → (j : ℕ) × (slice_get (remove xs i) j ≡ Some x)
remove-keeps [] i k x at apart = absurd (let no : ⊥ = cc in no)
remove-keeps (y ∷ xs) zero zero x at apart = absurd (apart refl)
remove-keeps (y ∷ xs) zero (suc k) x at apart = (k, at)
remove-keeps (y ∷ xs) (suc i) zero x at apart = (0, at)
remove-keeps (y ∷ xs) (suc i) (suc k) x at apart = let rest = remove-keeps xs i k x at (λ e. apart (ap (λ (n : ℕ). suc n) e)) in (suc rest.0, rest.1)

entry-appended : {K : Kind → Bool} (lane more : List Entry) (m : ℕ) → HasEntry K lane m → HasEntry K (lane ++ more) m
entry-appended lane more m h = record { place = h.place; entry = h.entry; there = append-keeps lane more h.place h.entry h.there; kind = h.kind; numbered = h.numbered }

entry-phase : {K : Kind → Bool} (lane : List Entry) (place : ℕ) (e : Entry) (phase : Phase) (m : ℕ) → slice_get lane place ≡ Some e → HasEntry K lane m → HasEntry K (with_phase lane place e phase) m
entry-phase lane place e phase m at h = same-or-not place h.place
    (λ same.
    let at' : slice_get lane place ≡ Some h.entry = rw same h.there in
    let is : e ≡ h.entry = (let some : ◌≡◌ {A = Option Entry} (Some e) (Some h.entry) = sym at ∙ at' in cc) in
    record {
      place = place;
      entry = record e { phase = phase };
      there = slice_get-set_same lane place e (record e { phase = phase }) at;
      kind = rw is h.kind;
      numbered = rw is h.numbered;
    })
    (λ apart. record { place = h.place; entry = h.entry; there = slice_get-set_other lane place h.place (record e { phase = phase }) apart ∙ h.there; kind = h.kind; numbered = h.numbered })

entry-removed : {K : Kind → Bool} (lane : List Entry) (place : ℕ) (e : Entry) (m : ℕ) → slice_get lane place ≡ Some e → HasEntry K lane m → (e.number ≡ m) ⊎ HasEntry K (remove lane place) m
entry-removed lane place e m at h = same-or-not place h.place
    (λ same.
    let at' : slice_get lane place ≡ Some h.entry = rw same h.there in
    let is : e ≡ h.entry = (let some : ◌≡◌ {A = Option Entry} (Some e) (Some h.entry) = sym at ∙ at' in cc) in
    inl (rw is h.numbered))
    (λ apart. let rest = remove-keeps lane place h.place h.entry h.there apart in inr (record { place = rest.0; entry = h.entry; there = rest.1; kind = h.kind; numbered = h.numbered }))

-- an entry that stands is an earlier one for every greater number
abbrev has_earlier : (Kind → Bool) → List Entry → ℕ → Bool
has_earlier K lane n = list_any (λ (x : Entry). K x.kind && nat_lt x.number n) lane

entry-earlier : (K : Kind → Bool) (lane : List Entry) (place : ℕ) (e : Entry) (n : ℕ) → slice_get lane place ≡ Some e → K e.kind ≡ true → e.number < n → has_earlier K lane n ≡ true
entry-earlier K [] place e n at kind less = absurd (let no : ⊥ = cc in no)
entry-earlier K (x ∷ lane) zero e n at kind less =
    let same : x ≡ e = cc in
    let here : (K x.kind && nat_lt x.number n) ≡ true = rw (same, kind, lt-ltb e.number n less) refl in
    rw here refl
entry-earlier K (x ∷ lane) (suc place) e n at kind less = rw (entry-earlier K lane place e n at kind less) (or-true (K x.kind && nat_lt x.number n))
  where
    or-true : (b : Bool) → (b || true) ≡ true
    or-true true = refl
    or-true false = refl

-- the same of a lane of a rank's posts
record InQueue (K : Kind → Bool) (q : Queue) (target m : ℕ) : Type 0 where
  lane : List Entry
  lane_there : slice_get q.lanes target ≡ Some lane
  has : HasEntry K lane m

record InQueues (K : Kind → Bool) (queues : List Queue) (queue target m : ℕ) : Type 0 where
  q : Queue
  queue_there : slice_get queues queue ≡ Some q
  in_queue : InQueue K q target m

queues-changed : {K : Kind → Bool} (queues : List Queue) (changed : ℕ) (change : Queue → Queue) (queue target m : ℕ)
    → ((q : Queue) → slice_get queues changed ≡ Some q → changed ≡ queue → InQueue K q target m → InQueue K (change q) target m)
    → InQueues K queues queue target m → InQueues K (changed_at queues changed change) queue target m
queues-changed {K} queues changed change queue target m keeps h = go (slice_get queues changed) refl
  where
    go : (o : Option Queue) → slice_get queues changed ≡ o → InQueues K (changed_at queues changed change) queue target m
    go None at = rw at h
    go (Some x) at = rw at (same-or-not changed queue
        (λ same.
        let is : x ≡ h.q = (let some : ◌≡◌ {A = Option Queue} (Some x) (Some h.q) = sym at ∙ rw same h.queue_there in cc) in
        record { q = change x; queue_there = subst (λ (k : ℕ). slice_get (slice_set queues changed (change x)) k ≡ Some (change x)) same (slice_get-set_same queues changed x (change x) at); in_queue = keeps x at same (rw is h.in_queue) })
        (λ apart. record { q = h.q; queue_there = slice_get-set_other queues changed queue (change x) apart ∙ h.queue_there; in_queue = h.in_queue }))

-- a lane of a queue replaced by one that has the entries of the old one
lane-replaced : {K : Kind → Bool} (q : Queue) (replaced : ℕ) (lane lane' : List Entry) (target m : ℕ) → slice_get q.lanes replaced ≡ Some lane
    → (replaced ≡ target → HasEntry K lane m → HasEntry K lane' m) → InQueue K q target m → InQueue K (record q { lanes = slice_set q.lanes replaced lane' }) target m
lane-replaced q replaced lane lane' target m at keeps h = same-or-not replaced target
    (λ same.
    let is : lane ≡ h.lane = (let some : ◌≡◌ {A = Option (List Entry)} (Some lane) (Some h.lane) = sym at ∙ rw same h.lane_there in cc) in
    record { lane = lane'; lane_there = subst (λ (k : ℕ). slice_get (slice_set q.lanes replaced lane') k ≡ Some lane') same (slice_get-set_same q.lanes replaced lane lane' at); has = keeps same (rw is h.has) })
    (λ apart. record { lane = h.lane; lane_there = slice_get-set_other q.lanes replaced target lane' apart ∙ h.lane_there; has = h.has })

entries-keep : {K : Kind → Bool} (q : Queue) (added : ℕ) (more : List Entry) (target m : ℕ) → InQueue K q target m → InQueue K (with_entries added more q) target m
entries-keep {K} q added more target m h = go (slice_get q.lanes added) refl
  where
    go : (o : Option (List Entry)) → slice_get q.lanes added ≡ o → InQueue K (with_entries added more q) target m
    go None at = rw at (record { lane = h.lane; lane_there = h.lane_there; has = h.has })
    go (Some lane) at =
        let changed = lane-replaced q added lane (lane ++ more) target m at (λ same. entry-appended lane more m) h in
        rw at (record { lane = changed.lane; lane_there = changed.lane_there; has = changed.has })

post-keeps : {K : Kind → Bool} (posts : Posts) (posted rank queue target m : ℕ) (asked : Result (List Kind) Refusal) → InQueues K posts.queues queue target m
    → InQueues K (with_post posts posted rank asked).queues queue target m
post-keeps posts posted rank queue target m (Err refusal) h = h
post-keeps posts posted rank queue target m (Ok kinds) h =
    queues-changed posts.queues posted (with_entries rank (posted_entries posts.next kinds)) queue target m
    (λ q at same. entries-keep q rank (posted_entries posts.next kinds) target m) h

-- whether a call is a purge of a queue
abbrev purges : Call → ℕ → Bool
purges (Purge call) queue = call.queue == queue
purges call queue = false

done-keeps : {K : Kind → Bool} (limits : Limits) (me : ℕ) (posts : Posts) (thread : ℕ) (call : Call) (queue target m : ℕ) → purges call queue ≡ false → InQueues K posts.queues queue target m
    → InQueues K (posts_effect limits me posts thread call).queues queue target m
done-keeps {K} limits me posts thread call queue target m unpurged h = go (row_of call).posting refl
  where
    plain : (call : Call) → purges call queue ≡ false → InQueues K (plain_effect posts thread call).queues queue target m
    plain (Purge call) apart = queues-changed posts.queues call.queue emptied queue target m (λ q at same i. absurd (eqb-false call.queue queue apart same)) h
    plain (Wait call) apart =
        queues-changed posts.queues call.queue (λ (q : Queue). record q { open_count = 0 }) queue target m
        (λ q at same i. record { lane = i.lane; lane_there = i.lane_there; has = i.has }) h
    plain other apart = h

    go : (o : Option Posting) → (row_of call).posting ≡ o → InQueues K (posts_effect limits me posts thread call).queues queue target m
    go None none = rw none (plain call unpurged)
    go (Some to) post = rw post (post-keeps posts to.queue to.rank queue target m (requested_kinds limits me posts call) h)

idle-keeps : {K : Kind → Bool} (idle : Bool) (before done : Posts) (queue target m : ℕ) → InQueues K before.queues queue target m → (idle ≡ false → InQueues K done.queues queue target m)
    → InQueues K (counted (if idle then before else done)).queues queue target m
idle-keeps true before done queue target m h h' = h
idle-keeps false before done queue target m h h' = h' refl

same-done : (reply : Reply) → ◌≡◌ {A = Option Reply} (Some replies.Done) (Some reply) → reply ≡ replies.Done
same-done reply h = cc

-- a call of an origin that is recorded, and is no purge of a queue that is done, has not purged it
not-purged : (limits : Limits) (c : CallerId) (posts : Posts) (memory : Memory) (call : Call) (reply : Reply) (origin queue : ℕ) → c.rank ≡ origin
    → is_purge_of origin queue (Called c call reply) ≡ false → is_idle reply ≡ false → reply ≡ recorded_reply (answer limits c.rank posts memory c.thread call) → purges call queue ≡ false
not-purged limits c posts memory (Purge call) reply origin queue same unpurged awake is =
    let finds = found-reply limits c.rank posts memory c.thread (Purge call) reply is awake in
    let done : reply ≡ replies.Done = found_then (slice_get posts.queues call.queue) BadQueue _ (Some reply) finds (λ q there h1. same-done reply (same_Ok _ _ h1)) in
    let apart : ((c.rank == origin) && (call.queue == queue)) ≡ false = subst (λ (r : Reply). is_purge_of origin queue (Called c (Purge call) r) ≡ false) done unpurged in
    rw (eq-eqb c.rank origin same) at apart
not-purged limits c posts memory call reply origin queue same unpurged awake is = refl

-- an entry of a kind stands in the lane of an origin to a target
record Stands (K : Kind → Bool) (s : State) (origin queue target m : ℕ) : Type 0 where
  posts : Posts
  posts_there : slice_get s.posts origin ≡ Some posts
  in_queues : InQueues K posts.queues queue target m

-- the posts of a rank replaced by ones that have the entries of the old ones
posts-replaced : {K : Kind → Bool} (s : State) (rank : ℕ) (posts posts' : Posts) (origin queue target m : ℕ) → slice_get s.posts rank ≡ Some posts
    → (t : State) → t.posts ≡ slice_set s.posts rank posts' → (rank ≡ origin → InQueues K posts.queues queue target m → InQueues K posts'.queues queue target m)
    → Stands K s origin queue target m → Stands K t origin queue target m
posts-replaced s rank posts posts' origin queue target m at t is keeps h = same-or-not rank origin
    (λ same.
    let old : posts ≡ h.posts = (let some : ◌≡◌ {A = Option Posts} (Some posts) (Some h.posts) = sym at ∙ rw same h.posts_there in cc) in
    record {
      posts = posts';
      posts_there = rw is (subst (λ (k : ℕ). slice_get (slice_set s.posts rank posts') k ≡ Some posts') same (slice_get-set_same s.posts rank posts posts' at));
      in_queues = keeps same (rw old h.in_queues);
    })
    (λ apart. record { posts = h.posts; posts_there = rw is (slice_get-set_other s.posts rank origin posts' apart ∙ h.posts_there); in_queues = h.in_queues })

-- a segment told to a rank leaves what stands in lanes
at_completion-stands : {K : Kind → Bool} (t : State) (ranks me : ℕ) (p : Posts) (call : Call) (reply : Reply) (all : List Posts) (origin queue target m : ℕ) → t.posts ≡ registering ranks me p call reply all → {limits : Limits} {memories : List Memory} {groups : List Group}
    → Stands K (record { limits = limits; posts = all; memories = memories; groups = groups }) origin queue target m → Stands K t origin queue target m
at_completion-stands {K} t ranks me p call reply all origin queue target m is h = go (registered-get ranks me p call reply all origin)
  where
    go : IsTold all (registering ranks me p call reply all) origin → Stands K t origin queue target m
    go (inl same) = record { posts = h.posts; posts_there = rw is (same ∙ h.posts_there); in_queues = h.in_queues }
    go (inr (x, known, before, now)) =
        let same : x ≡ h.posts = (let some : ◌≡◌ {A = Option Posts} (Some x) (Some h.posts) = sym before ∙ h.posts_there in cc) in
        record { posts = record x { segments = record x.segments { known = known } }; posts_there = rw is now; in_queues = rw same h.in_queues }

found-replaced : {K : Kind → Bool} (posts : Posts) (changed replaced number : ℕ) (at : EntryPosition) (lane' : List Entry) (change : Queue → Queue) (queue target m : ℕ)
    → IsFound posts changed replaced number at
    → ((q : Queue) → (change q).lanes ≡ slice_set q.lanes replaced lane') → (changed ≡ queue → replaced ≡ target → HasEntry K at.lane m → HasEntry K lane' m) → InQueues K posts.queues queue target m
    → InQueues K (changed_at posts.queues changed change) queue target m
found-replaced posts changed replaced number at lane' change queue target m is lanes keeps h =
    queues-changed posts.queues changed change queue target m
    (λ q here b i.
    let same : q ≡ at.queue = (let some : ◌≡◌ {A = Option Queue} (Some q) (Some at.queue) = sym here ∙ is.in_posts in cc) in
    let there : slice_get q.lanes replaced ≡ Some at.lane = rw same is.in_queue in
    let r = lane-replaced q replaced at.lane lane' target m there (keeps b) i in
    record { lane = r.lane; lane_there = rw (lanes q) r.lane_there; has = r.has }) h

-- an entry that failed stands still
failed-keeps : {K : Kind → Bool} (posts : Posts) (changed replaced number : ℕ) (at : EntryPosition) (queue target m : ℕ) → IsFound posts changed replaced number at
    → InQueues K posts.queues queue target m → InQueues K (counted (failed_with posts changed replaced at)).queues queue target m
failed-keeps posts changed replaced number at queue target m is i =
    found-replaced posts changed replaced number at (with_phase at.lane at.position at.entry phases.Failed) (queue_with_failed replaced at) queue target m is (λ q. refl)
    (λ b c. entry-phase at.lane at.position at.entry phases.Failed m is.in_lane) i

-- a put of that number in that lane
abbrev IsThis : (origin origin' queue queue' target target' m m' : ℕ) → Type 0 → Type 0
IsThis origin origin' queue queue' target target' m m' P = origin' ≡ origin → queue' ≡ queue → target' ≡ target → m' ≡ m → P

this-or-not : {P : Type 0} (origin origin' queue queue' target target' m m' : ℕ) → IsThis origin origin' queue queue' target target' m m' P
    → (IsThis origin origin' queue queue' target target' m m' ⊥ → P) → P
this-or-not origin origin' queue queue' target target' m m' this other =
    same-or-not origin' origin
    (λ a. same-or-not queue' queue
    (λ b. same-or-not target' target
    (λ c. same-or-not m' m
    (λ d. this a b c d)
    (λ differs. other (λ a b c d. differs d)))
    (λ differs. other (λ a b c d. differs c)))
    (λ differs. other (λ a b c d. differs b)))
    (λ differs. other (λ a b c d. differs a))

-- an event on a group leaves what stands in lanes
on_group-stands : {K : Kind → Bool} (s t : State) (me : ℕ) (posts after : Posts) (origin queue target m : ℕ) → IsMet s t me posts after → Stands K s origin queue target m → Stands K t origin queue target m
on_group-stands {K} s t me posts after origin queue target m met stands =
    posts-replaced s me posts after origin queue target m met.there t met.leaves (λ same i. subst (λ (qs : List Queue). InQueues K qs queue target m) (sym met.keeps.queues) i) stands

called-keeps : {K : Kind → Bool} (s t : State) (c : CallerId) (call : Call) (reply : Reply) (origin queue target m : ℕ) → (row_of call).group ≡ None → is_purge_of origin queue (Called c call reply) ≡ false
    → step s (Called c call reply) ≡ Ok t → Stands K s origin queue target m → (Called c call reply ≡ Put origin queue target m Applied) ⊎ Stands K t origin queue target m
called-keeps s t c call reply origin queue target m plain unpurged h stands =
    let made = step-called s t c call reply plain h in
    let f = made.3 in
    let all = slice_set s.posts c.rank made.2.posts in
    inr (at_completion-stands t s.limits.ranks c.rank made.0 call reply all origin queue target m (ap (λ (x : State). x.posts) f.leaves)
    (posts-replaced s c.rank made.0 made.2.posts origin queue target m f.posts_there (record s { posts = all }) refl
    (λ same i. rw f.is.leaves (idle-keeps (is_idle reply) made.0 (posts_effect s.limits c.rank made.0 c.thread call) queue target m i
    (λ awake. done-keeps s.limits c.rank made.0 c.thread call queue target m (not-purged s.limits c made.0 made.1 call reply origin queue same unpurged awake (same_reply-same _ _ f.is.answered)) i))) stands))

-- an entry that stands is put, or still stands, unless its queue is purged
step-keeps : {K : Kind → Bool} (s t : State) (e : Event) (origin queue target m : ℕ) → is_purge_of origin queue e ≡ false → step s e ≡ Ok t → Stands K s origin queue target m
    → (e ≡ Put origin queue target m Applied) ⊎ Stands K t origin queue target m
step-keeps s t (Joined c id args) origin queue target m unpurged h stands = inr (on_group-stands s t c.rank _ _ origin queue target m (on_group-joined s t c id args h).2 stands)
step-keeps {K} s t (Called c call reply) origin queue target m unpurged h stands = by-group (row_of call).group refl
  where
    by-group : (o : Option ℕ) → (row_of call).group ≡ o → (Called c call reply ≡ Put origin queue target m Applied) ⊎ Stands K t origin queue target m
    by-group (Some id) named = inr (on_group-stands s t c.rank _ _ origin queue target m (on_group-called s t c id call reply named h).2 stands)
    by-group None plain = called-keeps s t c call reply origin queue target m plain unpurged h stands
step-keeps s t (Take origin' queue' target' number Failed) origin queue target m unpurged h stands =
    let made = step-take s t origin' queue' target' number Failed h in
    let f = made.4 in
    let at = made.3 in
    inr (posts-replaced s origin' made.0 made.2 origin queue target m f.posts_there t (ap (λ (x : State). x.posts) f.leaves)
    (λ same i. rw f.is.leaves (failed-keeps made.0 queue' target' number at queue target m f.is.is i)) stands)
step-keeps s t (Take origin' queue' target' number Applied) origin queue target m unpurged h stands =
    let made = step-take s t origin' queue' target' number Applied h in
    let f = made.4 in
    let at = made.3 in
    let phase = phases.Carried (source_bytes made.1 at.entry.kind) in
    let lane = with_phase at.lane at.position at.entry phase in
    inr (posts-replaced s origin' made.0 made.2 origin queue target m f.posts_there t (ap (λ (x : State). x.posts) f.leaves)
    (λ same i. rw f.is.leaves (found-replaced made.0 queue' target' number at lane (λ (q : Queue). record q { lanes = slice_set q.lanes target' lane }) queue target m f.is.is (λ q. refl)
    (λ b c. entry-phase at.lane at.position at.entry phase m f.is.is.in_lane) i)) stands)
step-keeps s t (Put origin' queue' target' number Failed) origin queue target m unpurged h stands =
    let made = step-put s t origin' queue' target' number Failed h in
    let f = made.4 in
    let at = made.3 in
    inr (posts-replaced s origin' made.0 made.2.posts origin queue target m f.posts_there t (ap (λ (x : State). x.posts) f.leaves)
    (λ same i. rw f.is.leaves (failed-keeps made.0 queue' target' number at queue target m f.is.is i)) stands)
step-keeps s t (Put origin' queue' target' number Applied) origin queue target m unpurged h stands =
    let made = step-put s t origin' queue' target' number Applied h in
    let f = made.4 in
    let at = made.3 in
    this-or-not origin origin' queue queue' target target' m number
    (λ a b c d. inl (rw (a, b, c, d) refl))
    (λ apart.
    inr (posts-replaced s origin' made.0 made.2.posts origin queue target m f.posts_there t (ap (λ (x : State). x.posts) f.leaves)
    (λ a i. rw f.is.leaves (found-replaced made.0 queue' target' number at (remove at.lane at.position) (λ (q : Queue). record q { lanes = slice_set q.lanes target' (remove at.lane at.position) }) queue target m f.is.is (λ q. refl)
    (λ b c has. stays at.entry number (found-number at.lane number at.position at.entry f.is.is.numbered f.is.is.in_lane) (apart a b c) (entry-removed at.lane at.position at.entry m f.is.is.in_lane has)) i)) stands))
  where
    stays : {P : Type 0} (x : Entry) (k : ℕ) → x.number ≡ k → (k ≡ m → ⊥) → (x.number ≡ m) ⊎ P → P
    stays x k is differs (inl same) = absurd (differs (sym is ∙ same))
    stays x k is differs (inr has) = has

either-false : (a b : Bool) → (a || b) ≡ false → (a ≡ false) × (b ≡ false)
either-false true b h = absurd (let no : ⊥ = cc in no)
either-false false b h = (refl, h)

-- in each list of events that are steps, none of them a purge of its queue, an entry that stood at first is put, or still
-- stands
after-keeps : {K : Kind → Bool} (s t : State) (events : List Event) (origin queue target m : ℕ) → list_any (is_purge_of origin queue) events ≡ false → after s events ≡ Ok t → Stands K s origin queue target m
    → ((k : ℕ) × (slice_get events k ≡ Some (Put origin queue target m Applied))) ⊎ Stands K t origin queue target m
after-keeps {K} s t [] origin queue target m unpurged h stands = inr (let same : s ≡ t = cc in rw (sym same) stands)
after-keeps {K} s t (e ∷ events) origin queue target m unpurged h stands =
    let first = after-first s t e events h in
    let none = either-false (is_purge_of origin queue e) (list_any (is_purge_of origin queue) events) unpurged in
    go (step-keeps s first.0 e origin queue target m none.0 first.1 stands) (after-keeps first.0 t events origin queue target m none.1 first.2)
  where
    further : {u : State} → ((k : ℕ) × (slice_get events k ≡ Some (Put origin queue target m Applied))) ⊎ Stands K u origin queue target m
        → ((k : ℕ) × (slice_get (e ∷ events) k ≡ Some (Put origin queue target m Applied))) ⊎ Stands K u origin queue target m
    further (inl found) = inl (suc found.0, found.1)
    further (inr still) = inr still

    go : {u v : State} → (e ≡ Put origin queue target m Applied) ⊎ Stands K u origin queue target m
        → (Stands K u origin queue target m → ((k : ℕ) × (slice_get events k ≡ Some (Put origin queue target m Applied))) ⊎ Stands K v origin queue target m)
        → ((k : ℕ) × (slice_get (e ∷ events) k ≡ Some (Put origin queue target m Applied))) ⊎ Stands K v origin queue target m
    go (inl is) rest = inl (0, ap (λ (x : Event). Some x) is)
    go (inr still) rest = further (rest still)

-- where an entry with a number stands
record IsAt (s : State) (origin queue target number : ℕ) (e : Entry) : Type 0 where
  posts : Posts
  at : EntryPosition
  posts_there : slice_get s.posts origin ≡ Some posts
  found : find_entry posts queue target number whys.Put ≡ Ok at
  is : at.entry ≡ e

standing-at : (s : State) (origin queue target number : ℕ) (e : Entry) → entry_after s origin queue target number ≡ Some e → IsAt s origin queue target number e
standing-at s origin queue target number e h = with-posts (slice_get s.posts origin) refl
  where
    with-found : (posts : Posts) → slice_get s.posts origin ≡ Some posts → (r : Result EntryPosition Why) → find_entry posts queue target number whys.Put ≡ r → IsAt s origin queue target number e
    with-found posts hp (Ok at) hf =
        let some : ◌≡◌ {A = Option Entry} (Some at.entry) (Some e) = rw (hp, hf) at h in
        record { posts = posts; at = at; posts_there = hp; found = hf; is = (let same : at.entry ≡ e = cc in same) }
    with-found posts hp (Err why) hf = absurd (let none : ◌≡◌ {A = Option Entry} None (Some e) = rw (hp, hf) at h in let no : ⊥ = cc in no)

    with-posts : (o : Option Posts) → slice_get s.posts origin ≡ o → IsAt s origin queue target number e
    with-posts None hp = absurd (let none : ◌≡◌ {A = Option Entry} None (Some e) = rw hp at h in let no : ⊥ = cc in no)
    with-posts (Some posts) hp = with-found posts hp (find_entry posts queue target number whys.Put) refl

entry-stands : (K : Kind → Bool) (s : State) (origin queue target m : ℕ) (e : Entry) → entry_after s origin queue target m ≡ Some e → K e.kind ≡ true → Stands K s origin queue target m
entry-stands K s origin queue target m e h kind =
    let i = standing-at s origin queue target m e h in
    let f = find_entry-ok i.posts queue target m _ i.at i.found in
    record {
      posts = i.posts;
      posts_there = i.posts_there;
      in_queues = record {
        q = i.at.queue;
        queue_there = f.in_posts;
        in_queue = record {
          lane = i.at.lane;
          lane_there = f.in_queue;
          has = record { place = i.at.position; entry = i.at.entry; there = f.in_lane; kind = rw i.is kind; numbered = found-number i.at.lane m i.at.position i.at.entry f.numbered f.in_lane };
        };
      };
    }

-- entries of one kind wait for the earlier ones of another
abbrev Waits : (Kind → Bool) → (Kind → Bool) → Type 0
Waits K N = (lane : List Entry) (e : Entry) → N e.kind ≡ true → may_put lane e ≡ true → has_earlier K lane e.number ≡ true → ⊥

notify-waits : Waits is_write_kind is_notify_kind
notify-waits lane e kind put earlier = go e.kind kind ((both (is_carried e) (may_put_kind lane e.number e.kind) put).1)
  where
    go : (k : Kind) → is_notify_kind k ≡ true → may_put_kind lane e.number k ≡ true → ⊥
    go (Write own target) is h = cc
    go (Read own target) is h = cc
    go (Notify target value) is h = let none : not true ≡ true = rw earlier at h in cc
    go (ReadNote own) is h = cc

read-note-waits : Waits is_read_kind is_read_note_kind
read-note-waits lane e kind put earlier = go e.kind kind ((both (is_carried e) (may_put_kind lane e.number e.kind) put).1)
  where
    go : (k : Kind) → is_read_note_kind k ≡ true → may_put_kind lane e.number k ≡ true → ⊥
    go (Write own target) is h = cc
    go (Read own target) is h = cc
    go (Notify target value) is h = cc
    go (ReadNote own) is h = let none : not true ≡ true = rw earlier at h in cc

-- while an entry stands, none of its lane that waits for it is put with a greater number
no-put : (K N : Kind → Bool) → Waits K N → (t u : State) (origin queue target m n : ℕ) (e : Entry) → Stands K t origin queue target m → entry_after t origin queue target n ≡ Some e → N e.kind ≡ true → m < n
    → step t (Put origin queue target n Applied) ≡ Ok u → ⊥
no-put K N waits t u origin queue target m n e stands h kind less put =
    let made = step-put t u origin queue target n Applied put in
    let f = made.4 in
    let i = standing-at t origin queue target n e h in
    let fi = find_entry-ok i.posts queue target n _ i.at i.found in
    let posts : i.posts ≡ made.0 = (let some : ◌≡◌ {A = Option Posts} (Some i.posts) (Some made.0) = sym i.posts_there ∙ f.posts_there in cc) in
    let found : find_entry made.0 queue target n whys.Put ≡ Ok i.at = rw (sym posts) i.found in
    let same : i.at ≡ made.3 = (let ok : ◌≡◌ {A = Result EntryPosition Why} (Ok i.at) (Ok made.3) = sym found ∙ found-again made.0 queue target n made.3 _ f.is.is in cc) in
    let entry : made.3.entry ≡ e = ap (λ (x : EntryPosition). x.entry) (sym same) ∙ i.is in
    let has = stands.in_queues.in_queue.has in
    let posts' : stands.posts ≡ made.0 = (let some : ◌≡◌ {A = Option Posts} (Some stands.posts) (Some made.0) = sym stands.posts_there ∙ f.posts_there in cc) in
    let queue' : stands.in_queues.q ≡ made.3.queue = (let some : ◌≡◌ {A = Option Queue} (Some stands.in_queues.q) (Some made.3.queue) = sym stands.in_queues.queue_there ∙ rw posts' f.is.is.in_posts in cc) in
    let lane' : stands.in_queues.in_queue.lane ≡ made.3.lane = (let some : ◌≡◌ {A = Option (List Entry)} (Some stands.in_queues.in_queue.lane) (Some made.3.lane) = sym stands.in_queues.in_queue.lane_there ∙ rw queue' f.is.is.in_queue in cc) in
    let number = found-number made.3.lane n made.3.position made.3.entry f.is.is.numbered f.is.is.in_lane in
    let earlier : has_earlier K made.3.lane made.3.entry.number ≡ true =
    entry-earlier K made.3.lane has.place has.entry made.3.entry.number (subst (λ (l : List Entry). slice_get l has.place ≡ Some has.entry) lane' has.there) has.kind
    (rw (has.numbered, number) less) in
    waits made.3.lane made.3.entry (rw entry kind) f.is.permitted earlier

order-of : (K N : Kind → Bool) → Waits K N → (w : ShapeValue) (earlier later rest : List Event) (origin queue target m n : ℕ) → is_legal w (earlier ++ later ++ Put origin queue target n Applied ∷ rest) ≡ true
    → IsInLane (λ e. K e.kind) w earlier origin queue target m → IsInLane (λ e. N e.kind) w (earlier ++ later) origin queue target n → m < n
    → list_any (is_purge_of origin queue) later ≡ false
    → (place : ℕ) × (slice_get later place ≡ Some (Put origin queue target m Applied))
order-of K N waits w earlier later rest origin queue target m n legal first note less unpurged =
    let end = leads (reached w (earlier ++ later ++ Put origin queue target n Applied ∷ rest)) legal in
    let whole = after-both (opening w) end.0 (earlier ++ later) (Put origin queue target n Applied ∷ rest) end.1 in
    let part = after-both (opening w) whole.0 earlier later whole.1 in
    let third = after-first whole.0 end.0 (Put origin queue target n Applied) rest whole.2 in
    let before : first.state ≡ part.0 = (let ok : ◌≡◌ {A = Result State Why} (Ok first.state) (Ok part.0) = sym first.leads ∙ part.1 in cc) in
    let middle : note.state ≡ whole.0 = (let ok : ◌≡◌ {A = Result State Why} (Ok note.state) (Ok whole.0) = sym note.leads ∙ whole.1 in cc) in
    let stood = entry-stands K first.state origin queue target m first.entry first.stands first.kind in
    go part.0 whole.0 third.0 (after-keeps part.0 whole.0 later origin queue target m unpurged part.2 (subst (λ (x : State). Stands K x origin queue target m) before stood))
    (subst (λ (x : State). entry_after x origin queue target n ≡ Some note.entry) middle note.stands) third.1
  where
    go : (s t u : State) → ((k : ℕ) × (slice_get later k ≡ Some (Put origin queue target m Applied))) ⊎ Stands K t origin queue target m
        → entry_after t origin queue target n ≡ Some note.entry → step t (Put origin queue target n Applied) ≡ Ok u
        → (place : ℕ) × (slice_get later place ≡ Some (Put origin queue target m Applied))
    go s t u (inl found) stands put = found
    go s t u (inr still) stands put = absurd (no-put K N waits t u origin queue target m n note.entry still stands note.kind less put)

pub order : (w : ShapeValue) (earlier later rest : List Event) (origin queue target m n : ℕ) → is_legal w (earlier ++ later ++ Put origin queue target n Applied ∷ rest) ≡ true
    → IsWriteInLane w earlier origin queue target m → IsNotificationInLane w (earlier ++ later) origin queue target n → m < n
    → list_any (is_purge_of origin queue) later ≡ false
    → (place : ℕ) × (slice_get later place ≡ Some (Put origin queue target m Applied))
order w earlier later rest origin queue target m n legal write note less unpurged = order-of is_write_kind is_notify_kind notify-waits w earlier later rest origin queue target m n legal write note less unpurged

pub read-order : (w : ShapeValue) (earlier later rest : List Event) (origin queue target m n : ℕ) → is_legal w (earlier ++ later ++ Put origin queue target n Applied ∷ rest) ≡ true
    → IsReadInLane w earlier origin queue target m → IsReadNoteInLane w (earlier ++ later) origin queue target n → m < n
    → list_any (is_purge_of origin queue) later ≡ false
    → (place : ℕ) × (slice_get later place ≡ Some (Put origin queue target m Applied))
read-order w earlier later rest origin queue target m n legal read note less unpurged = order-of is_read_kind is_read_note_kind read-note-waits w earlier later rest origin queue target m n legal read note less unpurged
