-- What calls do to queues beside their posts.
use Rattle.std.proofs.Common.{◌≡◌, ℕ, Bool, true, false, List, None, Some, if◌then◌else◌, ◌⊎◌, inl, inr, refl, ap}
use Rattle.gaspi_types.specs.CallRows.{row_of}
use Rattle.gaspi_types.specs.Replies.{is_idle}
use Rattle.gaspi_types.specs.declared.calls.Call.{Call}
use Rattle.gaspi_types.specs.declared.calls.Call.TheVariants.{Wait, Purge, End}
use Rattle.gaspi_types.specs.declared.replies.Reply.{Reply}
use Rattle.gaspi_types.specs.declared.shapes.Limits.{Limits}
use Rattle.gaspi_model.specs.Calls.{posts_effect, peer_effect, peer_after}
use Rattle.gaspi_model.specs.QueueCalls.{emptied, purged}
use Rattle.gaspi_types.specs.Tables.{changed_at}
use Rattle.plain_calls.specs.NumberBounds.{purged_queue}
use Rattle.gaspi_types.specs.declared.entries.Queue.{Queue}
use Rattle.gaspi_model.specs.declared.states.Posts.{Posts}

-- queues stay, but that the open count of one is cleared
abbrev pub AreClosed : List Queue → List Queue → Type 0
AreClosed old new = (new ≡ old) ⊎ ((queue : ℕ) × (new ≡ changed_at old queue (λ (q : Queue). record q { open_count = 0 })))

-- a call that posts nothing and purges nothing does no more to the queues of its rank
pub plain_queues : (limits : Limits) (me : ℕ) (posts : Posts) (thread : ℕ) (call : Call) → (row_of call).posting ≡ None → purged_queue call ≡ None
    → AreClosed posts.queues (posts_effect limits me posts thread call).queues
plain_queues limits me posts thread (Wait call) is none = inr (call.queue, refl)
plain_queues limits me posts thread (Purge call) is none = absurd (let no : ⊥ = cc in no)
plain_queues limits me posts thread call is none = inl (cc)

-- a purge empties its queue
pub purge_queues : (limits : Limits) (me : ℕ) (posts : Posts) (thread : ℕ) (call : Call) (queue : ℕ) → purged_queue call ≡ Some queue
    → posts_effect limits me posts thread call ≡ purged posts queue
purge_queues limits me posts thread (Purge call) queue is = (let same : call.queue ≡ queue = cc in ap (purged posts) same)
purge_queues limits me posts thread call queue is = absurd (let no : ⊥ = cc in no)

-- so a call that posts nothing changes at most one queue
pub one_queue : (limits : Limits) (me : ℕ) (posts : Posts) (thread : ℕ) (call : Call) → (row_of call).posting ≡ None
    → ((posts_effect limits me posts thread call).queues ≡ posts.queues)
    ⊎ ((queue : ℕ) × (change : Queue → Queue) × ((posts_effect limits me posts thread call).queues ≡ changed_at posts.queues queue change))
one_queue limits me posts thread (Wait call) is = inr (call.queue, (λ (q : Queue). record q { open_count = 0 }), refl)
one_queue limits me posts thread (Purge call) is = inr (call.queue, emptied, refl)
one_queue limits me posts thread call is = inl (cc)

-- what a peer is told changes none of its queues
pub peer_queues : (me : ℕ) (posts : Posts) (call : Call) (reply : Reply) (peer : Posts) → (peer_after me posts call reply peer).queues ≡ peer.queues
peer_queues me posts call reply peer = by_idle (is_idle reply) (of_call call)
  where
    of_call : (call : Call) → (peer_effect me posts call peer).queues ≡ peer.queues
    of_call End = refl
    of_call call = refl

    by_idle : (idle : Bool) → (peer_effect me posts call peer).queues ≡ peer.queues → (if idle then peer else peer_effect me posts call peer).queues ≡ peer.queues
    by_idle true kept = refl
    by_idle false kept = kept
