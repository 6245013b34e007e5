-- Inboxes stay sound: none has more than INBOX messages, and each message came from a rank.
use Rattle.std.proofs.Common.{◌≡◌, ℕ, zero, suc, ◌<◌, Bool, true, false, ◌==◌, nat_lt, List, [], ◌∷◌, length, Option, Some, Ok, refl, sym, ap, ◌∙◌, arith, ◌⊎◌, inl, inr, subst, length-append}
use Rattle.std.specs.List.{slice_get, slice_set}
use Rattle.std.proofs.lemmas.Bool.{ltb-true, leb-true}
use Rattle.std.proofs.lemmas.Option.{slice_get_within}
use Rattle.gaspi_types.specs.Inboxes.{is_passive_size, has_room, deposited}
use Rattle.gaspi_types.specs.Kinds.{destination_of}
use Rattle.gaspi_types.specs.Replies.{is_idle}
use Rattle.gaspi_types.specs.Segments.{extents_of}
use Rattle.gaspi_types.specs.SegmentBytes.{range_of}
use Rattle.gaspi_types.specs.SegmentTables.{extent_in}
use Rattle.gaspi_types.specs.declared.calls.Call.{Call}
use Rattle.gaspi_types.specs.declared.calls.Call.TheVariants.{Alloc, Delete, Store, Reset, PassiveSend, PassiveReceive, FetchAdd, CompareSwap}
use Rattle.gaspi_types.specs.declared.calls.passive.PassiveSend as send
use Rattle.gaspi_types.specs.declared.entries.Destination.{Destination}
use Rattle.gaspi_types.specs.declared.entries.Destination.TheVariants.{Range, Slot}
use Rattle.gaspi_types.specs.declared.events.Outcome.{Outcome}
use Rattle.gaspi_types.specs.declared.events.Outcome.TheVariants.{Applied, Failed}
use Rattle.gaspi_types.specs.declared.inboxes.Message.{Message}
use Rattle.gaspi_types.specs.declared.segments.Extent.{Extent}
use Rattle.gaspi_types.specs.declared.shapes.CallerId.{CallerId}
use Rattle.gaspi_types.specs.declared.shapes.Limits.{Limits}
use Rattle.gaspi_types.specs.declared.replies.Reply.{Reply}
use Rattle.gaspi_types.proofs.Items.{slice_get-set, there-within, append-parts}
use Rattle.gaspi_types.proofs.Written.{segment-behind, range_of-length}
use Rattle.gaspi_model.specs.Calls.{call_result, memory_effect, memory_after}
use Rattle.gaspi_model.specs.Memories.{bytes_of}
use Rattle.gaspi_model.specs.PassiveCalls.{message_of, send_effect}
use Rattle.gaspi_model.specs.Sound.{IsSound, IsSoundInbox}
use Rattle.gaspi_model.specs.Step.{call_message}
use Rattle.gaspi_model.specs.Transfers.{EntryPosition, PostsAndMemory, memory_with_put, carried_bytes}
use Rattle.gaspi_model.specs.declared.states.Posts.{Posts}
use Rattle.gaspi_model.specs.declared.states.Memory.{Memory}
use Rattle.gaspi_model.specs.declared.states.State.{State}
use Rattle.gaspi_model.proofs.FoundReplies.{found-reply}
use Rattle.gaspi_model.proofs.Made.{IsPut}
use Rattle.gaspi_model.proofs.PassiveFinds.{IsPassiveRange, send-found, receive-found}
use Rattle.gaspi_model.proofs.Same.{same_reply-same}
use Rattle.gaspi_model.proofs.OnPostsAndMemory.{memory_rank, IsCalledThere}

pub empty-inbox : (limits : Limits) → IsSoundInbox limits []
empty-inbox limits = record {
  few = omega arith;
  senders = λ place m at. absurd (let no : ⊥ = cc in no);
  sizes = λ place m at. absurd (let no : ⊥ = cc in no);
}

deposited-sound : (limits : Limits) (inbox : List Message) (message : Message) → has_room limits.inbox inbox ≡ true → message.sender < limits.ranks → is_passive_size (length message.bytes) ≡ true
    → IsSoundInbox limits inbox → IsSoundInbox limits (deposited inbox message)
deposited-sound limits inbox message room from sized sound = record {
  few = (let less = ltb-true (length inbox) limits.inbox room in let more = length-append inbox (message ∷ []) in omega arith);
  senders = λ place m at. sender m (append-parts inbox (message ∷ []) place m at);
  sizes = λ place m at. size m (append-parts inbox (message ∷ []) place m at);
}
  where
    last : (m : Message) (j : ℕ) → slice_get (message ∷ []) j ≡ Some m → m ≡ message
    last m zero at = (let is : m ≡ message = cc in is)
    last m (suc j) at = absurd (let no : ⊥ = cc in no)

    sender : (m : Message) → ((j : ℕ) × (slice_get inbox j ≡ Some m)) ⊎ ((j : ℕ) × (slice_get (message ∷ []) j ≡ Some m)) → m.sender < limits.ranks
    sender m (inl was) = sound.senders was.0 m was.1
    sender m (inr is) = rw (last m is.0 is.1) from

    size : (m : Message) → ((j : ℕ) × (slice_get inbox j ≡ Some m)) ⊎ ((j : ℕ) × (slice_get (message ∷ []) j ≡ Some m)) → is_passive_size (length m.bytes) ≡ true
    size m (inl was) = sound.sizes was.0 m was.1
    size m (inr is) = rw (last m is.0 is.1) sized

rest-sound : (limits : Limits) (message : Message) (rest : List Message) → IsSoundInbox limits (message ∷ rest) → IsSoundInbox limits rest
rest-sound limits message rest sound = record {
  few = (let few = sound.few in omega arith);
  senders = λ place m at. sound.senders (suc place) m at;
  sizes = λ place m at. sound.sizes (suc place) m at;
}

-- the own memory of a caller whose posts are there
pub own-there : (s : State) (me : ℕ) (posts : Posts) → IsSound s → slice_get s.posts me ≡ Some posts → (own : Memory) × (slice_get s.memories me ≡ Some own)
own-there s me posts sound at =
    let within = slice_get_within s.posts me posts at in
    there-within s.memories me (let ranks = sound.ranks in let memories = sound.memories in omega arith)

-- a send that names a rank brings its message from the own memory
pub send-brought : (s : State) (me : ℕ) (call : send.PassiveSend) (own : Memory) → nat_lt call.rank s.limits.ranks ≡ true → slice_get s.memories me ≡ Some own
    → call_message s me (PassiveSend call) ≡ Some (message_of me own call)
send-brought s me call own ranked at = go (call.rank == me) refl
  where
    go : (b : Bool) → (call.rank == me) ≡ b → call_message s me (PassiveSend call) ≡ Some (message_of me own call)
    go true is = rw (is, at) refl
    go false is = rw (is, ranked, at) refl

-- so many bytes stand in a range of an own segment
pub passive-bytes : (posts : Posts) (own : Memory) (segment offset size : ℕ) → posts.segments.own ≡ extents_of own.segments → IsPassiveRange posts.segments.own segment offset size
    → length (range_of (bytes_of own segment) offset size) ≡ size
passive-bytes posts own segment offset size agrees range =
    let behind = segment-behind own.segments segment range.mine (subst (λ (table : List (Option Extent)). extent_in table segment ≡ Some range.mine) agrees range.there) in
    let bytes : bytes_of own segment ≡ behind.0.bytes = rw behind.1 refl in
    let sized : length behind.0.bytes ≡ range.mine.size = ap (λ (x : Extent). x.size) behind.2 in
    let within = leb-true _ _ range.within in
    range_of-length (bytes_of own segment) offset size (let same = ap length bytes in omega arith)

-- the inbox of the memory that a call works on, after it
plain-inbox : (s : State) (me : ℕ) (posts : Posts) (memory : Memory) (call : Call) (reply : Reply) → IsSound s → slice_get s.posts me ≡ Some posts
    → call_result s.limits me posts memory call ≡ Ok (Some reply) → IsSoundInbox s.limits memory.inbox
    → IsSoundInbox s.limits (memory_effect s.limits posts (call_message s me call) memory call).inbox
plain-inbox s me posts memory (Alloc call) reply sound at h inbox = inbox
plain-inbox s me posts memory (Delete call) reply sound at h inbox = inbox
plain-inbox s me posts memory (Store call) reply sound at h inbox = inbox
plain-inbox s me posts memory (Reset call) reply sound at h inbox = inbox
plain-inbox s me posts memory (PassiveSend call) reply sound at h inbox =
    let found = send-found s.limits posts memory call reply h in
    let own = own-there s me posts sound at in
    let brought = send-brought s me call own.0 found.ranked own.1 in
    let within = slice_get_within s.posts me posts at in
    let sized : is_passive_size (length (message_of me own.0 call).bytes) ≡ true =
    ap is_passive_size (passive-bytes posts own.0 call.seg call.offset call.size (sound.coherent.own me posts own.0 at own.1) found.range) ∙ found.range.sized in
    subst (λ (b : Option Message). IsSoundInbox s.limits (send_effect b memory).inbox) (sym brought)
    (deposited-sound s.limits memory.inbox (message_of me own.0 call) found.room (let ranks = sound.ranks in omega arith) sized inbox)
plain-inbox s me posts memory (PassiveReceive call) reply sound at h inbox =
    let found = receive-found posts memory call reply h in
    rw found.inbox (rest-sound s.limits found.message found.rest (rw found.inbox at inbox))
plain-inbox s me posts memory (FetchAdd call) reply sound at h inbox = inbox
plain-inbox s me posts memory (CompareSwap call) reply sound at h inbox = inbox
plain-inbox s me posts memory other reply sound at h inbox = inbox

pub called-inbox : (s t : State) (c : CallerId) (call : Call) (reply : Reply) (posts : Posts) (memory : Memory) (after : PostsAndMemory) → IsSound s → IsCalledThere s t c call reply posts memory after
    → IsSoundInbox s.limits after.memory.inbox
called-inbox s t c call reply posts memory after sound m =
    let inbox = sound.inboxes (memory_rank s.limits c.rank call) memory m.memory_there in
    rw m.is.leaves (go inbox (is_idle reply) refl)
  where
    go : IsSoundInbox s.limits memory.inbox → (b : Bool) → is_idle reply ≡ b → IsSoundInbox s.limits (memory_after s.limits posts (call_message s c.rank call) memory call reply).inbox
    go inbox true idle = rw idle inbox
    go inbox false awake =
        rw awake (plain-inbox s c.rank posts memory call reply sound m.posts_there
        (found-reply s.limits c.rank posts memory c.thread call reply (same_reply-same _ _ m.is.answered) awake) inbox)

-- a put keeps it
pub put-same-inbox : (memory : Memory) (destination : Destination) (bytes : List ℕ) → (memory_with_put memory destination bytes).inbox ≡ memory.inbox
put-same-inbox memory (Range range) bytes = refl
put-same-inbox memory (Slot slot value) bytes = refl

pub put-inbox : (limits : Limits) (posts : Posts) (memory : Memory) (queue target number : ℕ) (outcome : Outcome) (after : PostsAndMemory) (at : EntryPosition) → IsPut posts memory queue target number outcome after at
    → IsSoundInbox limits memory.inbox → IsSoundInbox limits after.memory.inbox
put-inbox limits posts memory queue target number Applied after at h inbox =
    rw h.leaves (subst (IsSoundInbox limits) (sym (put-same-inbox memory (destination_of at.entry.kind) (carried_bytes at.entry.phase))) inbox)
put-inbox limits posts memory queue target number Failed after at h inbox = rw h.leaves inbox

-- every memory, with one of them replaced
pub inboxes-set : (limits : Limits) (memories : List Memory) (rank : ℕ) (memory : Memory)
    → ((r : ℕ) (m : Memory) → slice_get memories r ≡ Some m → IsSoundInbox limits m.inbox) → IsSoundInbox limits memory.inbox
    → (r : ℕ) (m : Memory) → slice_get (slice_set memories rank memory) r ≡ Some m → IsSoundInbox limits m.inbox
inboxes-set limits memories rank memory all inbox r m at = parts (slice_get-set memories rank r memory m at)
  where
    parts : ((r ≡ rank) × (m ≡ memory)) ⊎ (slice_get memories r ≡ Some m) → IsSoundInbox limits m.inbox
    parts (inl here) = rw here.1 inbox
    parts (inr there) = all r m there
