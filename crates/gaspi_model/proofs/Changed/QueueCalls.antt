-- What a purge, the size of a queue and the state vector answer, and leave.
use Rattle.std.proofs.Common.{◌≡◌, ℕ, false, List, Option, Some, Ok, refl, sym, ap, ◌∙◌, None}
use Rattle.std.specs.List.{slice_get, slice_set}
use Rattle.std.specs.Int.{bit_at}
use Rattle.std.proofs.lemmas.List.{length-map}
use Rattle.gaspi_types.specs.CallRows.{row_of}
use Rattle.gaspi_types.specs.Masks.{bit_of, mask_of, is_marked}
use Rattle.gaspi_types.specs.Replies.{is_idle}
use Rattle.gaspi_types.specs.Footprints.{footprint_of}
use Rattle.gaspi_types.specs.declared.calls.Call.{Call}
use Rattle.gaspi_types.specs.declared.calls.Call.TheVariants as calls
use Rattle.gaspi_types.specs.declared.calls.queues.Purge as purge
use Rattle.gaspi_types.specs.declared.calls.queues.Qsize as qsize
use Rattle.gaspi_types.specs.declared.entries.Queue.{Queue}
use Rattle.gaspi_types.specs.declared.events.Event.TheVariants.{Called}
use Rattle.gaspi_types.specs.declared.replies.Reply.{Reply}
use Rattle.gaspi_types.specs.declared.replies.Reply.TheVariants as replies
use Rattle.gaspi_types.specs.declared.shapes.CallerId.{CallerId}
use Rattle.gaspi_types.specs.declared.footprints.DeclaredFootprint.{DeclaredFootprint}
use Rattle.gaspi_types.specs.declared.footprints.DeclaredFootprint.TheVariants as touches
use Rattle.gaspi_model.specs.Calls.{call_result, posts_after, memory_after, memory_effect}
use Rattle.gaspi_model.specs.Changes.{IsPurgeDone, IsSizeAnswered, IsStateAnswered, is_corrupt}
use Rattle.gaspi_model.specs.Posting.{counted}
use Rattle.gaspi_model.specs.QueueCalls.{purge_result, qsize_result, emptied, without_entries}
use Rattle.gaspi_model.specs.Sound.{IsSound}
use Rattle.gaspi_model.specs.Step.{step, call_message}
use Rattle.gaspi_types.specs.declared.inboxes.Message.{Message}
use Rattle.gaspi_model.specs.Transfers.{PostsAndMemory}
use Rattle.gaspi_model.specs.declared.states.Posts.{Posts}
use Rattle.gaspi_model.specs.declared.states.Memory.{Memory}
use Rattle.gaspi_model.specs.declared.states.State.{State}
use Rattle.gaspi_types.proofs.Chains.{found_then, same_Ok}
use Rattle.gaspi_types.proofs.Items.{set-there, changed_at-found}
use Rattle.gaspi_types.proofs.MaskBits.{mask-bit}
use Rattle.gaspi_model.proofs.FoundReplies.{found-reply}
use Rattle.gaspi_model.proofs.Same.{same_reply-same}
use Rattle.gaspi_model.proofs.Changed.OwnCalls.{same-value}
use Rattle.gaspi_model.proofs.Sound.OpenCounts.{emptied-lane}
use Rattle.gaspi_model.proofs.Sound.Registered.{registering, registered_at}
use Rattle.gaspi_model.proofs.OnPostsAndMemory.{memory_rank, sound-called}

-- a call on its rank's posts alone that was answered neither with a refusal nor with a timeout
pub record IsPostsWorked (s t : State) (c : CallerId) (call : Call) (reply : Reply) (posts : Posts) (memory : Memory) : Type 0 where
  pub posts_there : slice_get s.posts c.rank ≡ Some posts
  pub finds : call_result s.limits c.rank posts memory call ≡ Ok (Some reply)
  pub leaves : t ≡ record s { posts = slice_set s.posts c.rank (posts_after s.limits c.rank posts c.thread call reply) }

pub posts-on_memory : (s t : State) (c : CallerId) (call : Call) (reply : Reply) → (row_of call).group ≡ None → (row_of call).footprint ≡ touches.Nothing → is_idle reply ≡ false
    → ((posts : Posts) (brought : Option Message) (memory : Memory) → memory_effect s.limits posts brought memory call ≡ memory) → IsSound s → step s (Called c call reply) ≡ Ok t
    → (posts : Posts) × (memory : Memory) × IsPostsWorked s t c call reply posts memory
posts-on_memory s t c call reply plain alone awake unmoved sound h =
    let made = sound-called s t c call reply plain sound h in
    let m = made.3 in
    let place = memory_rank s.limits c.rank call in
    let same : registering s.limits.ranks c.rank made.0 call reply (slice_set s.posts c.rank made.2.posts) ≡ slice_set s.posts c.rank made.2.posts =
    ap (λ (declaration : DeclaredFootprint). registered_at (footprint_of s.limits.ranks c.rank declaration) c.rank made.0 call reply (slice_set s.posts c.rank made.2.posts)) alone in
    let left : memory_after s.limits made.0 (call_message s c.rank call) made.1 call reply ≡ made.1 = rw awake (unmoved made.0 (call_message s c.rank call) made.1) in
    let kept : made.2.memory ≡ made.1 = ap (λ (w : PostsAndMemory). w.memory) m.is.leaves ∙ left in
    let memories : slice_set s.memories place made.2.memory ≡ s.memories = ap (slice_set s.memories place) kept ∙ set-there s.memories place made.1 m.memory_there in (
      made.0,
      made.1,
      record {
        posts_there = m.posts_there;
        finds = found-reply s.limits c.rank made.0 made.1 c.thread call reply (same_reply-same _ _ m.is.answered) awake;
        leaves = m.leaves
            ∙ ap (λ (x : List Posts). record s { posts = x; memories = slice_set s.memories place made.2.memory }) same
            ∙ ap (λ (x : List Memory). record s { posts = slice_set s.posts c.rank made.2.posts; memories = x }) memories
            ∙ ap (λ (w : PostsAndMemory). record s { posts = slice_set s.posts c.rank w.posts }) m.is.leaves;
      },
    )

purge-found : (posts : Posts) (call : purge.Purge) → purge_result posts call ≡ Ok (Some replies.Done) → (q : Queue) × (slice_get posts.queues call.queue ≡ Some q)
purge-found posts call h = found_then (slice_get posts.queues call.queue) _ _ (Some replies.Done) h (λ q there h1. (q, there))

pub purge-done : (s t : State) (c : CallerId) (call : purge.Purge) → IsSound s → step s (Called c (calls.Purge call) replies.Done) ≡ Ok t → IsPurgeDone s t c.rank call.queue
purge-done s t c call sound h =
    let made = posts-on_memory s t c (calls.Purge call) replies.Done refl refl refl (λ posts brought memory. refl) sound h in
    let m = made.2 in
    let found = purge-found made.0 call m.finds in
    record {
      posts = made.0;
      q = found.0;
      q' = emptied found.0;
      posts_there = m.posts_there;
      queue_there = found.1;
      opened = refl;
      whole = refl;
      lanes = length-map found.0.lanes without_entries;
      empty = λ target lane there. emptied-lane found.0.lanes target lane there;
      after = m.leaves
          ∙ ap (λ (x : List Queue). record s { posts = slice_set s.posts c.rank (record (counted made.0) { queues = x }) }) (changed_at-found made.0.queues call.queue found.0 emptied found.1);
    }

qsize-found : (posts : Posts) (call : qsize.Qsize) (value : ℕ) → qsize_result posts call ≡ Ok (Some (replies.Value value))
    → (q : Queue) × (slice_get posts.queues call.queue ≡ Some q) × (value ≡ q.open_count)
qsize-found posts call value h =
    found_then (slice_get posts.queues call.queue) _ _ (Some (replies.Value value)) h (λ q there h1. (q, there, sym (same-value _ value (same_Ok _ _ h1))))

pub sized : (s t : State) (c : CallerId) (call : qsize.Qsize) (value : ℕ) → IsSound s → step s (Called c (calls.Qsize call) (replies.Value value)) ≡ Ok t
    → IsSizeAnswered s t c.rank call.queue value
sized s t c call value sound h =
    let made = posts-on_memory s t c (calls.Qsize call) (replies.Value value) refl refl refl (λ posts brought memory. refl) sound h in
    let m = made.2 in
    let found = qsize-found made.0 call value m.finds in
    record {
      posts = made.0;
      q = found.0;
      posts_there = m.posts_there;
      queue_there = found.1;
      answers = found.2;
      counted = record { posts = made.0; there = m.posts_there; after = m.leaves };
    }

same-mask : (a b : ℕ) → ◌≡◌ {A = Option Reply} (Some (replies.Mask a)) (Some (replies.Mask b)) → b ≡ a
same-mask a b h = cc

pub state-answered : (s t : State) (c : CallerId) (mask : ℕ) → IsSound s → step s (Called c calls.State (replies.Mask mask)) ≡ Ok t → IsStateAnswered s t c.rank mask
state-answered s t c mask sound h =
    let made = posts-on_memory s t c calls.State (replies.Mask mask) refl refl refl (λ posts brought memory. refl) sound h in
    let m = made.2 in
    let is : mask ≡ mask_of made.0.corrupt = same-mask (mask_of made.0.corrupt) mask (same_Ok _ _ m.finds) in (
      (λ rank. ap (λ (n : ℕ). bit_at n rank) is ∙ mask-bit made.0.corrupt rank ∙ marks made.0 m.posts_there rank),
      record { posts = made.0; there = m.posts_there; after = m.leaves },
    )
  where
    marks : (posts : Posts) → slice_get s.posts c.rank ≡ Some posts → (rank : ℕ) → bit_of (is_marked (slice_get posts.corrupt rank)) ≡ bit_of (is_corrupt s c.rank rank)
    marks posts there rank = rw there refl
