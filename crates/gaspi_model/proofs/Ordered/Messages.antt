-- What a rank receives is a prefix of what is sent to it, and what stands in its inbox is the rest.
use Rattle.std.proofs.Common.{◌≡◌, ℕ, zero, suc, ◌≤◌, Bool, true, false, ◌==◌, nat_lt, inl, inr, if◌then◌else◌, List, [], ◌∷◌, ◌++◌, length, take, Option, None, Some, Ok, refl, sym, ap, ◌∙◌, subst, arith, append_assoc}
use Rattle.std.specs.List.{slice_get, slice_set, range_with_len}
use Rattle.std.proofs.lemmas.Bool.{eqb-true, eqb-false}
use Rattle.gaspi_types.specs.Kinds.{destination_of}
use Rattle.gaspi_types.specs.Replies.{is_idle}
use Rattle.gaspi_types.specs.SegmentBytes.{range_of}
use Rattle.gaspi_types.specs.Segments.{bytes_in}
use Rattle.gaspi_types.specs.declared.segments.Segment.{Segment}
use Rattle.gaspi_model.specs.Changes.{IsSendDone, IsReceiveDone, put_rank}
use Rattle.gaspi_types.specs.World.{ShapeValue, IsShape}
use Rattle.gaspi_types.specs.CallRows.{row_of}
use Rattle.gaspi_types.specs.Footprints.{footprint_of}
use Rattle.gaspi_types.specs.declared.calls.Call.{Call}
use Rattle.gaspi_types.specs.declared.calls.Call.TheVariants as calls
use Rattle.gaspi_types.specs.declared.collectives.Coll.{Coll}
use Rattle.gaspi_types.specs.declared.collectives.Coll.TheVariants as colls
use Rattle.gaspi_types.specs.declared.groups.Args.{Args}
use Rattle.gaspi_types.specs.declared.footprints.DeclaredFootprint.{DeclaredFootprint}
use Rattle.gaspi_types.specs.declared.footprints.Footprint.TheVariants.{Alone, Group, GroupAndMemory}
use Rattle.gaspi_model.specs.CollectiveCalls.{made_memory}
use Rattle.gaspi_types.specs.declared.calls.Call.TheVariants.{Alloc, Delete, Store, Reset, PassiveSend, PassiveReceive, FetchAdd, CompareSwap}
use Rattle.gaspi_types.specs.declared.calls.passive.PassiveSend as send
use Rattle.gaspi_types.specs.declared.calls.passive.PassiveReceive as receive
use Rattle.gaspi_types.specs.declared.inboxes.Message.{Message}
use Rattle.gaspi_types.specs.declared.events.Event.{Event}
use Rattle.gaspi_types.specs.declared.events.Event.TheVariants.{Called, Joined, Take, Put}
use Rattle.gaspi_types.specs.declared.events.Outcome.{Outcome}
use Rattle.gaspi_types.specs.declared.events.Outcome.TheVariants.{Applied, Failed}
use Rattle.gaspi_types.specs.declared.replies.Reply.{Reply}
use Rattle.gaspi_types.specs.declared.replies.Reply.TheVariants as replies
use Rattle.gaspi_types.specs.declared.shapes.CallerId.{CallerId}
use Rattle.gaspi_types.specs.declared.shapes.Limits.{Limits}
use Rattle.gaspi_types.proofs.Items.{slice_get-set_same, slice_get-set_other, same-or-not, map-at, behind-of-joined}
use Rattle.gaspi_model.specs.Calls.{memory_effect, memory_after}
use Rattle.gaspi_model.specs.Messages.{inbox_of, sent_by, received_by, collected_from, sent_in, received_in, IsEarliest}
use Rattle.gaspi_model.specs.Parts.{memory_or_none}
use Rattle.gaspi_model.specs.PassiveCalls.{message_of}
use Rattle.gaspi_model.specs.Sound.{IsSound}
use Rattle.gaspi_model.specs.State.{opening, opening_memory}
use Rattle.gaspi_model.specs.Step.{step, join_footprint, call_message, after, reached, is_legal}
use Rattle.gaspi_model.specs.Transfers.{EntryPosition, PostsAndMemory, carried_bytes}
use Rattle.gaspi_model.specs.declared.states.Posts.{Posts}
use Rattle.gaspi_model.specs.declared.states.Memory.{Memory}
use Rattle.gaspi_model.specs.declared.states.State.{State}
use Rattle.gaspi_model.proofs.FoundReplies.{found-reply}
use Rattle.gaspi_model.proofs.Histories.{after-first, after-joined, after-limits, leads, reached-sound}
use Rattle.gaspi_model.proofs.IdleSteps.{only-counted}
use Rattle.gaspi_model.proofs.GroupSteps.{IsOnGroup, join-footprint, step-completed, step-joined}
use Rattle.gaspi_model.proofs.Made.{IsPut, memory_at, memories_at, step-take}
use Rattle.gaspi_model.proofs.PassiveFinds.{send-found, receive-found}
use Rattle.gaspi_model.proofs.Same.{same_reply-same}
use Rattle.gaspi_model.proofs.Changed.Messages.{message-sent, message-received}
use Rattle.gaspi_model.proofs.Sound.Inboxes.{put-same-inbox}
use Rattle.gaspi_model.proofs.Sound.Opening.{opens}
use Rattle.gaspi_model.proofs.Sound.Steps.{steps}
use Rattle.gaspi_model.proofs.OnPostsAndMemory.{memory_rank, sound-called, sound-put}

append-nil : {A : Type 0} (xs : List A) → xs ++ [] ≡ xs
append-nil [] = refl
append-nil (x ∷ xs) = ap (λ (rest : List _). x ∷ rest) (append-nil xs)

-- where the memory of a rank is replaced by one with the same inbox, every inbox is the same
kept-inbox : (memories : List Memory) (place : ℕ) (old new : Memory) (rank : ℕ) → slice_get memories place ≡ Some old → new.inbox ≡ old.inbox
    → (memory_or_none (slice_get (slice_set memories place new) rank)).inbox ≡ (memory_or_none (slice_get memories rank)).inbox
kept-inbox memories place old new rank there same =
    same-or-not place rank
    (λ here. subst (λ (k : ℕ). (memory_or_none (slice_get (slice_set memories place new) k)).inbox ≡ (memory_or_none (slice_get memories k)).inbox) here
    (ap (λ (o : Option Memory). (memory_or_none o).inbox) (slice_get-set_same memories place old new there) ∙ same ∙ sym (ap (λ (o : Option Memory). (memory_or_none o).inbox) there)))
    (λ apart. ap (λ (o : Option Memory). (memory_or_none o).inbox) (slice_get-set_other memories place rank new apart))

-- a call that is neither a send nor a receive keeps the inbox of the memory that it works on
abbrev is_passive : Call → Bool
is_passive (PassiveSend call) = true
is_passive (PassiveReceive call) = true
is_passive call = false

plain-keeps : (limits : Limits) (posts : Posts) (brought : Option Message) (memory : Memory) (call : Call) → is_passive call ≡ false → (memory_effect limits posts brought memory call).inbox ≡ memory.inbox
plain-keeps limits posts brought memory (PassiveSend call) is = absurd (let no : ⊥ = cc in no)
plain-keeps limits posts brought memory (PassiveReceive call) is = absurd (let no : ⊥ = cc in no)
plain-keeps limits posts brought memory (Alloc call) is = refl
plain-keeps limits posts brought memory (Delete call) is = refl
plain-keeps limits posts brought memory (Store call) is = refl
plain-keeps limits posts brought memory (Reset call) is = refl
plain-keeps limits posts brought memory (FetchAdd call) is = refl
plain-keeps limits posts brought memory (CompareSwap call) is = refl
plain-keeps limits posts brought memory other is = refl

-- a collective that is answered touches no memory, and a join no inbox
completed-inbox : (s t : State) (c : CallerId) (id : ℕ) (call : Call) (reply : Reply) (rank : ℕ) → (row_of call).group ≡ Some id → step s (Called c call reply) ≡ Ok t → inbox_of t rank ≡ inbox_of s rank
completed-inbox s t c id call reply rank named h = ap (λ (x : State). inbox_of x rank) (step-completed s t c id call reply named h).2.leaves

made-inbox : (limits : Limits) (posts : Posts) (memory : Memory) (coll : Coll) → (made_memory limits posts memory coll).inbox ≡ memory.inbox
made-inbox limits posts memory colls.Barrier = refl
made-inbox limits posts memory (colls.Allreduce op t n) = refl
made-inbox limits posts memory (colls.Create seg size) = refl
made-inbox limits posts memory (colls.Commit mask) = refl

-- the inboxes where the own memory, if it is touched, is replaced by one with the same inbox
footprint-inbox : (all : List Memory) (me id : ℕ) (declaration : DeclaredFootprint) (memory : Memory) (rank ranks : ℕ) → IsOnGroup declaration id
    → memory.inbox ≡ (memory_at (footprint_of ranks me declaration) me all).inbox
    → (memory_or_none (slice_get (memories_at (footprint_of ranks me declaration) me memory all) rank)).inbox ≡ (memory_or_none (slice_get all rank)).inbox
footprint-inbox all me id declaration memory rank ranks (inl is) same = rw is (go (nat_lt id 8))
  where
    go : (b : Bool) → (memory_or_none (slice_get (memories_at (if b then Group id else Alone) me memory all) rank)).inbox ≡ (memory_or_none (slice_get all rank)).inbox
    go true = refl
    go false = refl
footprint-inbox all me id declaration memory rank ranks (inr is) same = rw is (go (nat_lt id 8) (subst (λ (x : DeclaredFootprint). memory.inbox ≡ (memory_at (footprint_of ranks me x) me all).inbox) is same))
  where
    there : (o : Option Memory) → slice_get all me ≡ o → memory.inbox ≡ (memory_or_none (slice_get all me)).inbox
        → (memory_or_none (slice_get (slice_set all me memory) rank)).inbox ≡ (memory_or_none (slice_get all rank)).inbox
    there (Some old) at inbox = same-or-not me rank
        (λ same. let now = subst (λ (k : ℕ). slice_get (slice_set all me memory) k ≡ Some memory) same (slice_get-set_same all me old memory at) in
        let before = subst (λ (k : ℕ). slice_get all k ≡ Some old) same at in
        let old_inbox : memory.inbox ≡ old.inbox = inbox ∙ ap (λ (o : Option Memory). (memory_or_none o).inbox) at in
        ap (λ (o : Option Memory). (memory_or_none o).inbox) now ∙ old_inbox ∙ sym (ap (λ (o : Option Memory). (memory_or_none o).inbox) before))
        (λ apart. ap (λ (o : Option Memory). (memory_or_none o).inbox) (slice_get-set_other all me rank memory apart))
    there None at inbox = ap (λ (ms : List Memory). (memory_or_none (slice_get ms rank)).inbox) (none-set all me at)
      where
        none-set : (xs : List Memory) (k : ℕ) → slice_get xs k ≡ None → slice_set xs k memory ≡ xs
        none-set [] k at = refl
        none-set (y ∷ xs) zero at = absurd (let no : ⊥ = cc in no)
        none-set (y ∷ xs) (suc k) at = ap (λ (rest : List Memory). y ∷ rest) (none-set xs k at)

    go : (b : Bool) → memory.inbox ≡ (memory_at (if b then GroupAndMemory id else Alone) me all).inbox
        → (memory_or_none (slice_get (memories_at (if b then GroupAndMemory id else Alone) me memory all) rank)).inbox ≡ (memory_or_none (slice_get all rank)).inbox
    go true inbox = there (slice_get all me) refl inbox
    go false inbox = refl

joined-inbox : (s t : State) (c : CallerId) (id : ℕ) (args : Args) (rank : ℕ) → step s (Joined c id args) ≡ Ok t → inbox_of t rank ≡ inbox_of s rank
joined-inbox s t c id args rank h =
    let made = step-joined s t c id args h in
    let m = made.2 in
    ap (λ (x : State). inbox_of x rank) m.leaves
    ∙ footprint-inbox s.memories c.rank id (join_footprint id args.coll) _ rank s.limits.ranks (join-footprint id args.coll) (made-inbox s.limits made.0 _ args.coll)

other-keeps : (s t : State) (c : CallerId) (call : Call) (reply : Reply) (rank : ℕ) → (row_of call).group ≡ None → IsSound s → step s (Called c call reply) ≡ Ok t → is_passive call ≡ false → inbox_of t rank ≡ inbox_of s rank
other-keeps s t c call reply rank ungrouped sound h plain =
    let made = sound-called s t c call reply ungrouped sound h in
    let m = made.3 in
    let left : made.2.memory.inbox ≡ made.1.inbox = ap (λ (w : PostsAndMemory). w.memory.inbox) m.is.leaves ∙ go made.0 made.1 (call_message s c.rank call) (is_idle reply) refl in
    ap (λ (x : State). inbox_of x rank) m.leaves ∙ kept-inbox s.memories (memory_rank s.limits c.rank call) made.1 made.2.memory rank m.memory_there left
  where
    go : (posts : Posts) (memory : Memory) (brought : Option Message) (b : Bool) → is_idle reply ≡ b → (memory_after s.limits posts brought memory call reply).inbox ≡ memory.inbox
    go posts memory brought true idle = rw idle refl
    go posts memory brought false awake = rw awake (plain-keeps s.limits posts brought memory call plain)

idle-keeps : (s t : State) (c : CallerId) (call : Call) (reply : Reply) (rank : ℕ) → is_idle reply ≡ true → step s (Called c call reply) ≡ Ok t → inbox_of t rank ≡ inbox_of s rank
idle-keeps s t c call reply rank idle h = ap (λ (x : State). inbox_of x rank) (only-counted s t c call reply idle h).after

-- so does a send that is not done, and a receive that answers no rank
send-keeps : (s t : State) (c : CallerId) (call : send.PassiveSend) (reply : Reply) (rank : ℕ) → IsSound s → step s (Called c (PassiveSend call) reply) ≡ Ok t → (reply ≡ replies.Done → ⊥)
    → inbox_of t rank ≡ inbox_of s rank
send-keeps s t c call reply rank sound h apart = go (is_idle reply) refl
  where
    go : (b : Bool) → is_idle reply ≡ b → inbox_of t rank ≡ inbox_of s rank
    go true idle = idle-keeps s t c (PassiveSend call) reply rank idle h
    go false awake =
        let made = sound-called s t c (PassiveSend call) reply refl sound h in
        let finds = found-reply s.limits c.rank made.0 made.1 c.thread (PassiveSend call) reply (same_reply-same _ _ made.3.is.answered) awake in
        absurd (apart (send-found s.limits made.0 made.1 call reply finds).done)

receive-keeps : (s t : State) (c : CallerId) (call : receive.PassiveReceive) (reply : Reply) (rank : ℕ) → IsSound s → step s (Called c (PassiveReceive call) reply) ≡ Ok t
    → ((sender : ℕ) → reply ≡ replies.Id sender → ⊥) → inbox_of t rank ≡ inbox_of s rank
receive-keeps s t c call reply rank sound h apart = go (is_idle reply) refl
  where
    go : (b : Bool) → is_idle reply ≡ b → inbox_of t rank ≡ inbox_of s rank
    go true idle = idle-keeps s t c (PassiveReceive call) reply rank idle h
    go false awake =
        let made = sound-called s t c (PassiveReceive call) reply refl sound h in
        let finds = found-reply s.limits c.rank made.0 made.1 c.thread (PassiveReceive call) reply (same_reply-same _ _ made.3.is.answered) awake in
        let found = receive-found made.0 made.1 call reply finds in
        absurd (apart found.message.sender found.answers)

-- What stood in an inbox before an event, followed by what the event sends there, is what it receives, followed by what stands
-- there afterwards.
abbrev Flows : State → State → Event → ℕ → Type 0
Flows s t e rank = inbox_of s rank ++ sent_by s e rank ≡ received_by s e rank ++ inbox_of t rank

none-flows : (before after : List Message) → after ≡ before → before ++ [] ≡ after
none-flows before after same = append-nil before ∙ sym same

sent-flows : (s t : State) (c : CallerId) (call : send.PassiveSend) (rank : ℕ) → IsSendDone s t c.rank call.rank call.seg call.offset call.size → Flows s t (Called c (PassiveSend call) replies.Done) rank
sent-flows s t c call rank sent = go (call.rank == rank) refl
  where
    message : Message
    message = record { sender = c.rank; bytes = range_of sent.item.bytes call.offset call.size }

    new : Memory
    new = record sent.peer { inbox = sent.peer.inbox ++ message ∷ [] }

    same : message_of c.rank (memory_or_none (slice_get s.memories c.rank)) call ≡ message
    same = ap (λ (o : Option Memory). message_of c.rank (memory_or_none o) call) sent.own_there
        ∙ ap (λ (o : Option Segment). let m : Message = record { sender = c.rank; bytes = range_of (bytes_in o) call.offset call.size } in m) sent.item_there

    later : inbox_of t rank ≡ (memory_or_none (slice_get (slice_set s.memories call.rank new) rank)).inbox
    later = ap (λ (x : State). inbox_of x rank) sent.after

    go : (b : Bool) → (call.rank == rank) ≡ b → Flows s t (Called c (PassiveSend call) replies.Done) rank
    go true is =
        let here = eqb-true call.rank rank is in
        let before : inbox_of s rank ≡ sent.peer.inbox = subst (λ (k : ℕ). inbox_of s k ≡ sent.peer.inbox) here (ap (λ (o : Option Memory). (memory_or_none o).inbox) sent.peer_there) in
        let now = subst (λ (k : ℕ). (memory_or_none (slice_get (slice_set s.memories call.rank new) k)).inbox ≡ new.inbox) here
        (ap (λ (o : Option Memory). (memory_or_none o).inbox) (slice_get-set_same s.memories call.rank sent.peer new sent.peer_there)) in
        rw is (ap (λ (m : Message). inbox_of s rank ++ m ∷ []) same ∙ ap (λ (x : List Message). x ++ message ∷ []) before ∙ sym (later ∙ now))
    go false is =
        let apart = λ (e : call.rank ≡ rank). eqb-false call.rank rank is e in
        rw is (none-flows (inbox_of s rank) (inbox_of t rank) (later ∙ ap (λ (o : Option Memory). (memory_or_none o).inbox) (slice_get-set_other s.memories call.rank rank new apart)))

received-flows : (s t : State) (c : CallerId) (call : receive.PassiveReceive) (sender rank : ℕ) → IsReceiveDone s t c.rank call.seg call.offset call.size sender
    → Flows s t (Called c (PassiveReceive call) (replies.Id sender)) rank
received-flows s t c call sender rank got = go (c.rank == rank) refl
  where
    later : inbox_of t rank ≡ (memory_or_none (slice_get (slice_set s.memories c.rank got.new) rank)).inbox
    later = ap (λ (x : State). inbox_of x rank) got.after

    go : (b : Bool) → (c.rank == rank) ≡ b → Flows s t (Called c (PassiveReceive call) (replies.Id sender)) rank
    go true is =
        let here = eqb-true c.rank rank is in
        let before : inbox_of s rank ≡ got.message ∷ got.rest =
        subst (λ (k : ℕ). inbox_of s k ≡ got.message ∷ got.rest) here (ap (λ (o : Option Memory). (memory_or_none o).inbox) got.old_there ∙ got.first) in
        let now : inbox_of t rank ≡ got.rest = later ∙ subst (λ (k : ℕ). (memory_or_none (slice_get (slice_set s.memories c.rank got.new) k)).inbox ≡ got.rest) here
        (ap (λ (o : Option Memory). (memory_or_none o).inbox) (slice_get-set_same s.memories c.rank got.old got.new got.old_there) ∙ ap (λ (x : Memory). x.inbox) got.kept) in
        let taken : take 1 (inbox_of s rank) ≡ got.message ∷ [] = ap (take 1) before in
        rw is (append-nil (inbox_of s rank) ∙ before ∙ ap (λ (x : List Message). got.message ∷ x) (sym now) ∙ ap (λ (x : List Message). x ++ inbox_of t rank) (sym taken))
    go false is =
        let apart = λ (e : c.rank ≡ rank). eqb-false c.rank rank is e in
        rw is (none-flows (inbox_of s rank) (inbox_of t rank) (later ∙ ap (λ (o : Option Memory). (memory_or_none o).inbox) (slice_get-set_other s.memories c.rank rank got.new apart)))

send-flows : (s t : State) (c : CallerId) (call : send.PassiveSend) (reply : Reply) (rank : ℕ) → IsSound s → step s (Called c (PassiveSend call) reply) ≡ Ok t → Flows s t (Called c (PassiveSend call) reply) rank
send-flows s t c call replies.Done rank sound h = sent-flows s t c call rank (message-sent s t c call sound h)
send-flows s t c call reply rank sound h =
    none-flows (inbox_of s rank) (inbox_of t rank) (send-keeps s t c call reply rank sound h (λ is. let no : ⊥ = cc in no))

receive-flows : (s t : State) (c : CallerId) (call : receive.PassiveReceive) (reply : Reply) (rank : ℕ) → IsSound s → step s (Called c (PassiveReceive call) reply) ≡ Ok t
    → Flows s t (Called c (PassiveReceive call) reply) rank
receive-flows s t c call (replies.Id sender) rank sound h = received-flows s t c call sender rank (message-received s t c call sender sound h)
receive-flows s t c call reply rank sound h =
    none-flows (inbox_of s rank) (inbox_of t rank) (receive-keeps s t c call reply rank sound h (λ sender is. let no : ⊥ = cc in no))

put-keeps : (posts : Posts) (memory : Memory) (queue target number : ℕ) (outcome : Outcome) (after : PostsAndMemory) (at : EntryPosition) → IsPut posts memory queue target number outcome after at
    → after.memory.inbox ≡ memory.inbox
put-keeps posts memory queue target number Applied after at h =
    ap (λ (w : PostsAndMemory). w.memory.inbox) h.leaves ∙ put-same-inbox memory (destination_of at.entry.kind) (carried_bytes at.entry.phase)
put-keeps posts memory queue target number Failed after at h = ap (λ (w : PostsAndMemory). w.memory.inbox) h.leaves

flows : (s t : State) (e : Event) (rank : ℕ) → IsSound s → step s e ≡ Ok t → Flows s t e rank
flows s t (Called c (PassiveSend call) reply) rank sound h = send-flows s t c call reply rank sound h
flows s t (Called c (PassiveReceive call) reply) rank sound h = receive-flows s t c call reply rank sound h
flows s t (Called c (calls.Commit call) reply) rank sound h = none-flows (inbox_of s rank) (inbox_of t rank) (completed-inbox s t c call.group (calls.Commit call) reply rank refl h)
flows s t (Called c (calls.Barrier call) reply) rank sound h = none-flows (inbox_of s rank) (inbox_of t rank) (completed-inbox s t c call.group (calls.Barrier call) reply rank refl h)
flows s t (Called c (calls.Allreduce call) reply) rank sound h = none-flows (inbox_of s rank) (inbox_of t rank) (completed-inbox s t c call.group (calls.Allreduce call) reply rank refl h)
flows s t (Called c (calls.Create call) reply) rank sound h = none-flows (inbox_of s rank) (inbox_of t rank) (completed-inbox s t c call.group (calls.Create call) reply rank refl h)
flows s t (Called c call reply) rank sound h = none-flows (inbox_of s rank) (inbox_of t rank) (other-keeps s t c call reply rank refl sound h refl)
flows s t (Joined c id args) rank sound h = none-flows (inbox_of s rank) (inbox_of t rank) (joined-inbox s t c id args rank h)
flows s t (Take origin queue target number outcome) rank sound h =
    none-flows (inbox_of s rank) (inbox_of t rank) (ap (λ (x : State). inbox_of x rank) (step-take s t origin queue target number outcome h).4.leaves)
flows s t (Put origin queue target number outcome) rank sound h =
    let made = sound-put s t origin queue target number outcome sound h in
    let m = made.4 in
    none-flows (inbox_of s rank) (inbox_of t rank)
    (ap (λ (x : State). inbox_of x rank) m.leaves
    ∙ kept-inbox s.memories (put_rank origin target made.3.entry.kind) made.1 made.2.memory rank m.memory_there (put-keeps made.0 made.1 queue target number outcome made.2 made.3 m.is))

-- the same of events one after another
collected-step : (brings : State → Event → List Message) (s t : State) (e : Event) (events : List Event) → step s e ≡ Ok t → collected_from brings s (e ∷ events) ≡ brings s e ++ collected_from brings t events
collected-step brings s t e events h = rw h refl

all-flow : (s u : State) (events : List Event) (rank : ℕ) → IsSound s → after s events ≡ Ok u → inbox_of s rank ++ sent_in s events rank ≡ received_in s events rank ++ inbox_of u rank
all-flow s u [] rank sound h = (let same : s ≡ u = cc in append-nil (inbox_of s rank) ∙ ap (λ (x : State). inbox_of x rank) same)
all-flow s u (e ∷ events) rank sound h =
    let first = after-first s u e events h in
    let t = first.0 in
    let one = flows s t e rank sound first.1 in
    let rest = all-flow t u events rank (steps s t e sound first.1) first.2 in
    let sends = collected-step (λ at x. sent_by at x rank) s t e events first.1 in
    let receives = collected-step (λ at x. received_by at x rank) s t e events first.1 in
    ap (λ (x : List Message). inbox_of s rank ++ x) sends
    ∙ sym (append_assoc (inbox_of s rank) (sent_by s e rank) (sent_in t events rank))
    ∙ ap (λ (x : List Message). x ++ sent_in t events rank) one
    ∙ append_assoc (received_by s e rank) (inbox_of t rank) (sent_in t events rank)
    ∙ ap (λ (x : List Message). received_by s e rank ++ x) rest
    ∙ sym (append_assoc (received_by s e rank) (received_in t events rank) (inbox_of u rank))
    ∙ ap (λ (x : List Message). x ++ inbox_of u rank) (sym receives)

opening-inbox : (w : ShapeValue) (rank : ℕ) → inbox_of (opening w) rank ≡ []
opening-inbox w rank = go (slice_get (opening w).memories rank) refl
  where
    go : (o : Option Memory) → slice_get (opening w).memories rank ≡ o → inbox_of (opening w) rank ≡ []
    go None at = ap (λ (o : Option Memory). (memory_or_none o).inbox) at
    go (Some m) at =
        let from = map-at (opening_memory w) (range_with_len 0 w.limits.ranks) rank m at in
        ap (λ (o : Option Memory). (memory_or_none o).inbox) at ∙ ap (λ (x : Memory). x.inbox) from.2

pub messages-flow : (w : ShapeValue) (history : List Event) (s : State) (rank : ℕ) → IsShape w → reached w history ≡ Ok s
    → sent_in (opening w) history rank ≡ received_in (opening w) history rank ++ inbox_of s rank
messages-flow w history s rank world h =
    ap (λ (x : List Message). x ++ sent_in (opening w) history rank) (sym (opening-inbox w rank)) ∙ all-flow (opening w) s history rank (opens w world) h

-- an inbox has at most as many messages as the limits of the world say
pub few-messages : (w : ShapeValue) (history : List Event) (s : State) (rank : ℕ) → IsShape w → reached w history ≡ Ok s → length (inbox_of s rank) ≤ w.limits.inbox
few-messages w history s rank world h = go (slice_get s.memories rank) refl
  where
    go : (o : Option Memory) → slice_get s.memories rank ≡ o → length (inbox_of s rank) ≤ w.limits.inbox
    go None at = (let none : length (inbox_of s rank) ≡ 0 = ap (λ (o : Option Memory). length (memory_or_none o).inbox) at in omega arith)
    go (Some m) at =
        let some : length (inbox_of s rank) ≡ length m.inbox = ap (λ (o : Option Memory). length (memory_or_none o).inbox) at in
        let few = ((reached-sound w history s world h).inboxes rank m at).few in
        let same : s.limits.inbox ≡ w.limits.inbox = ap (λ (l : Limits). l.inbox) (after-limits (opening w) s history h) in
        omega arith

pub earliest-received : (w : ShapeValue) (history : List Event) (s : State) (c : CallerId) (call : receive.PassiveReceive) (sender : ℕ) → IsShape w → reached w history ≡ Ok s
    → is_legal w (history ++ Called c (PassiveReceive call) (replies.Id sender) ∷ []) ≡ true → IsEarliest w history s c.rank sender
earliest-received w history s c call sender world h legal =
    let event : Event = Called c (PassiveReceive call) (replies.Id sender) in
    let end = leads (reached w (history ++ event ∷ [])) legal in
    let from : after s (event ∷ []) ≡ Ok end.0 = sym (after-joined (opening w) s history (event ∷ []) h) ∙ end.1 in
    let last = after-first s end.0 event [] from in
    let got = message-received s last.0 c call sender (reached-sound w history s world h) last.1 in
    let inbox : inbox_of s c.rank ≡ got.message ∷ got.rest = ap (λ (o : Option Memory). (memory_or_none o).inbox) got.old_there ∙ got.first in
    let received = received_in (opening w) history c.rank in
    record {
      message = got.message;
      rest = got.rest;
      first = inbox;
      earliest = ap (λ (x : List Message). slice_get x (length received)) (messages-flow w history s c.rank world h)
          ∙ behind-of-joined received (inbox_of s c.rank) 0 (length received) (omega arith)
          ∙ ap (λ (x : List Message). slice_get x 0) inbox;
      answers = got.answers;
    }
