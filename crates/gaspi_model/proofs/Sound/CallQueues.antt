-- Calls keep the queues of a rank sound.
use Rattle.std.proofs.Common.{◌≡◌, ℕ, ◌+◌, ◌≤◌, Bool, true, false, List, length, Option, None, Some, Result, Ok, refl, sym, ◌∙◌, ◌⊎◌, inl, inr, if◌then◌else◌}
use Rattle.std.specs.List.{slice_get, list_any}
use Rattle.std.proofs.lemmas.Bool.{leb-true}
use Rattle.gaspi_types.specs.Lanes.{has_awaited, posted_entries}
use Rattle.gaspi_types.specs.Replies.{is_idle}
use Rattle.gaspi_types.specs.declared.entries.Entry.{Entry}
use Rattle.gaspi_types.specs.declared.entries.Kind.{Kind}
use Rattle.gaspi_types.specs.declared.shapes.Limits.{Limits}
use Rattle.gaspi_types.specs.declared.calls.Call.{Call}
use Rattle.gaspi_types.specs.declared.calls.Call.TheVariants.{Wait, Purge}
use Rattle.gaspi_types.specs.declared.calls.queues.Wait as wait
use Rattle.gaspi_types.specs.CallRows.{row_of}
use Rattle.gaspi_types.specs.declared.call_rows.Posting.{Posting}
use Rattle.gaspi_types.specs.declared.replies.Reply.{Reply}
use Rattle.gaspi_types.specs.declared.replies.Reply.TheVariants as replies
use Rattle.gaspi_types.specs.declared.replies.Refusal.{Refusal}
use Rattle.gaspi_types.specs.declared.replies.Refusal.TheVariants.{BadQueue, QueueBroken}
use Rattle.gaspi_model.specs.Posting.{with_post}
use Rattle.gaspi_types.specs.Tables.{changed_at}
use Rattle.gaspi_types.specs.Queues.{with_entries}
use Rattle.gaspi_model.specs.PostCalls.{post_request_result}
use Rattle.gaspi_model.specs.QueueCalls.{wait_result, emptied}
use Rattle.gaspi_model.specs.Calls.{posts_effect, plain_effect, posts_after, answer, call_result, plain_result, requested_kinds, recorded_reply}
use Rattle.gaspi_model.specs.Sound.{AreRising, IsSoundQueue}
use Rattle.gaspi_types.specs.declared.entries.Queue.{Queue}
use Rattle.gaspi_model.specs.declared.states.Posts.{Posts}
use Rattle.gaspi_model.specs.declared.states.Memory.{Memory}
use Rattle.gaspi_types.proofs.Chains.{found_then, absent_then}
use Rattle.gaspi_model.proofs.FoundReplies.{found-reply}
use Rattle.gaspi_types.proofs.Items.{slice_get-set}
use Rattle.gaspi_model.proofs.Sound.Accounts.{post-ok}
use Rattle.gaspi_model.proofs.Sound.OpenCounts.{queue-posted, queue-waited, queue-purged}

-- all queues are sound
abbrev pub AllSound : ℕ → List Queue → Type 0
AllSound depth queues = (queue : ℕ) (q : Queue) → slice_get queues queue ≡ Some q → IsSoundQueue depth q

pub queues-changed : (depth : ℕ) (queues : List Queue) (changed : ℕ) (change : Queue → Queue) → AllSound depth queues
    → ((q : Queue) → slice_get queues changed ≡ Some q → IsSoundQueue depth (change q)) → AllSound depth (changed_at queues changed change)
queues-changed depth queues changed change all one queue q h = go (slice_get queues changed) refl
  where
    parts : (x : Queue) → slice_get queues changed ≡ Some x → ((queue ≡ changed) × (q ≡ change x)) ⊎ (slice_get queues queue ≡ Some q) → IsSoundQueue depth q
    parts x at (inl here) = rw here.1 (one x at)
    parts x at (inr there) = all queue q there

    go : (o : Option Queue) → slice_get queues changed ≡ o → IsSoundQueue depth q
    go None at = all queue q (rw at at h)
    go (Some x) at = parts x at (slice_get-set queues changed queue (change x) q (rw at at h))

-- what a wait that is done found
wait-done : (posts : Posts) (call : wait.Wait) (reply : Reply) (q : Queue) → wait_result posts call ≡ Ok (Some reply) → slice_get posts.queues call.queue ≡ Some q → list_any has_awaited q.lanes ≡ false
wait-done posts call reply q h at =
    found_then (slice_get posts.queues call.queue) BadQueue _ (Some reply) h (λ x hx h1.
    absent_then x.broken QueueBroken _ (Some reply) h1 (λ whole h2.
    let same : x ≡ q = (let some : ◌≡◌ {A = Option Queue} (Some x) (Some q) = sym hx ∙ at in cc) in
    rw (sym same) (go x (list_any has_awaited x.lanes) refl h2)))
  where
    go : (x : Queue) (b : Bool) → list_any has_awaited x.lanes ≡ b → ◌≡◌ {A = Result (Option Reply) Refusal} (Ok (if list_any has_awaited x.lanes then None else Some replies.Done)) (Ok (Some reply))
        → list_any has_awaited x.lanes ≡ false
    go x false is h = is
    go x true is h = absurd (let none : ◌≡◌ {A = Result (Option Reply) Refusal} (Ok None) (Ok (Some reply)) = rw is at h in let no : ⊥ = cc in no)

-- each queue has lanes that rise below a number
abbrev RiseBelow : ℕ → List Queue → Type 0
RiseBelow next queues = (k : ℕ) (q : Queue) → slice_get queues k ≡ Some q → (target : ℕ) (lane : List Entry) → slice_get q.lanes target ≡ Some lane → AreRising next lane

post-queues : (limits : Limits) (posts : Posts) (rank queue : ℕ) (asked : Result (List Kind) Refusal) (reply : Reply) → post_request_result limits posts rank queue asked ≡ Ok (Some reply)
    → AllSound limits.depth posts.queues → RiseBelow posts.next posts.queues → AllSound limits.depth (with_post posts queue rank asked).queues
post-queues limits posts rank queue asked reply h all rise =
    let posted = post-ok limits posts rank queue asked (Some reply) h in
    let p = posted.2 in
    rw p.asks (queues-changed limits.depth posts.queues queue (with_entries rank (posted_entries posts.next posted.1)) all
    (λ q at.
    let same : posted.0 ≡ q = (let some : ◌≡◌ {A = Option Queue} (Some posted.0) (Some q) = sym p.in_posts ∙ at in cc) in
    let room : q.open_count + length posted.1 ≤ limits.depth = rw (sym same) (leb-true _ _ p.room) in
    queue-posted limits.depth posts.next q rank posted.1 (all queue q at) (rise queue q at) room))

plain-queues : (limits : Limits) (me : ℕ) (posts : Posts) (memory : Memory) (thread : ℕ) (call : Call) (reply : Reply) → plain_result limits me posts memory call ≡ Ok (Some reply)
    → AllSound limits.depth posts.queues → AllSound limits.depth (plain_effect posts thread call).queues
plain-queues limits me posts memory thread (Wait call) reply h all =
    queues-changed limits.depth posts.queues call.queue (λ (q : Queue). record q { open_count = 0 }) all
    (λ q at. queue-waited limits.depth q (all call.queue q at) (wait-done posts call reply q h at))
plain-queues limits me posts memory thread (Purge call) reply h all =
    queues-changed limits.depth posts.queues call.queue emptied all (λ q at. queue-purged limits.depth q)
plain-queues limits me posts memory thread other reply h all = all

done-queues : (limits : Limits) (me : ℕ) (posts : Posts) (memory : Memory) (thread : ℕ) (call : Call) (reply : Reply) → call_result limits me posts memory call ≡ Ok (Some reply)
    → AllSound limits.depth posts.queues → RiseBelow posts.next posts.queues → AllSound limits.depth (posts_effect limits me posts thread call).queues
done-queues limits me posts memory thread call reply h all rise = go (row_of call).posting refl
  where
    go : (o : Option Posting) → (row_of call).posting ≡ o → AllSound limits.depth (posts_effect limits me posts thread call).queues
    go None none = rw none (plain-queues limits me posts memory thread call reply (rw none at h) all)
    go (Some to) post = rw post (post-queues limits posts to.rank to.queue (requested_kinds limits me posts call) reply (rw post at h) all rise)

-- the queues after a call that is recorded with the reply that it has
pub called-queues : (limits : Limits) (me : ℕ) (posts : Posts) (memory : Memory) (thread : ℕ) (call : Call) (reply : Reply)
    → reply ≡ recorded_reply (answer limits me posts memory thread call) → AllSound limits.depth posts.queues → RiseBelow posts.next posts.queues
    → AllSound limits.depth (posts_after limits me posts thread call reply).queues
called-queues limits me posts memory thread call reply is all rise = go (is_idle reply) refl
  where
    go : (b : Bool) → is_idle reply ≡ b → AllSound limits.depth (posts_after limits me posts thread call reply).queues
    go true idle = rw idle all
    go false idle = rw idle (done-queues limits me posts memory thread call reply (found-reply limits me posts memory thread call reply is idle) all rise)
