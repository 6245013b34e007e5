-- What a send and a receive leave.
use Rattle.std.proofs.Common.{◌≡◌, ℕ, ◌+◌, Bool, true, false, ◌==◌, nat_lt, List, [], ◌∷◌, ◌++◌, length, Option, Ok, refl, sym, ap, ◌∙◌, arith, if◌then◌else◌}
use Rattle.std.specs.List.{slice_get, slice_set}
use Rattle.std.proofs.lemmas.Bool.{ltb-true, leb-true, eqb-true}
use Rattle.gaspi_types.specs.Segments.{bytes_in}
use Rattle.gaspi_types.specs.SegmentBytes.{range_of, with_range}
use Rattle.gaspi_types.specs.Footprints.{footprint_of}
use Rattle.gaspi_types.specs.declared.calls.Call.{Call}
use Rattle.gaspi_types.specs.declared.calls.Call.TheVariants as calls
use Rattle.gaspi_types.specs.declared.calls.passive.PassiveSend as send
use Rattle.gaspi_types.specs.declared.calls.passive.PassiveReceive as receive
use Rattle.gaspi_types.specs.declared.events.Event.TheVariants.{Called}
use Rattle.gaspi_types.specs.declared.inboxes.Message.{Message}
use Rattle.gaspi_types.specs.declared.replies.Reply.{Reply}
use Rattle.gaspi_types.specs.declared.replies.Reply.TheVariants as replies
use Rattle.gaspi_types.specs.declared.segments.Extent.{Extent}
use Rattle.gaspi_types.specs.declared.shapes.CallerId.{CallerId}
use Rattle.gaspi_types.specs.declared.footprints.DeclaredFootprint.TheVariants as touches
use Rattle.gaspi_types.specs.declared.footprints.Footprint.TheVariants.{Alone, OwnMemory, BothMemories}
use Rattle.gaspi_types.proofs.Written.{segment-written}
use Rattle.gaspi_model.specs.Changes.{IsSendDone, IsReceiveDone}
use Rattle.gaspi_model.specs.Memories.{bytes_of, with_bytes}
use Rattle.gaspi_model.specs.PassiveCalls.{send_effect, receive_effect}
use Rattle.gaspi_model.specs.Posting.{counted}
use Rattle.gaspi_model.specs.Sound.{IsSound}
use Rattle.gaspi_model.specs.Step.{step}
use Rattle.gaspi_model.specs.Transfers.{PostsAndMemory}
use Rattle.gaspi_model.specs.declared.states.Posts.{Posts}
use Rattle.gaspi_model.specs.declared.states.Memory.{Memory}
use Rattle.gaspi_model.specs.declared.states.State.{State}
use Rattle.gaspi_model.proofs.FoundReplies.{found-reply}
use Rattle.gaspi_model.proofs.PassiveFinds.{send-found, receive-found}
use Rattle.gaspi_model.proofs.Same.{same_reply-same}
use Rattle.gaspi_model.proofs.Changed.OwnCalls as own_calls
use Rattle.gaspi_model.proofs.Sound.Inboxes.{own-there, send-brought}
use Rattle.gaspi_model.proofs.Sound.Registered.{registered_at}
use Rattle.gaspi_model.proofs.OnPostsAndMemory.{memory_place, memory_rank, sound-called}

-- a send works on the memory of the rank that it names
send-on_memory : (ranks rank me : ℕ) → nat_lt rank ranks ≡ true → memory_place (footprint_of ranks me (touches.BothMemories rank)) me ≡ rank
send-on_memory ranks rank me less = go (rank == me) refl
  where
    go : (b : Bool) → (rank == me) ≡ b → memory_place (footprint_of ranks me (touches.BothMemories rank)) me ≡ rank
    go true is = rw is (sym (eqb-true rank me is))
    go false is = rw (is, less) refl

-- and tells nothing
send-tells_none : (ranks rank me : ℕ) (p : Posts) (call : Call) (reply : Reply) (all : List Posts) → registered_at (footprint_of ranks me (touches.BothMemories rank)) me p call reply all ≡ all
send-tells_none ranks rank me p call reply all = go (rank == me) (nat_lt rank ranks)
  where
    go : (b c : Bool) → registered_at (if b then OwnMemory else (if c then BothMemories rank else Alone)) me p call reply all ≡ all
    go true c = refl
    go false true = refl
    go false false = refl

pub message-sent : (s t : State) (c : CallerId) (call : send.PassiveSend) → IsSound s → step s (Called c (calls.PassiveSend call) replies.Done) ≡ Ok t
    → IsSendDone s t c.rank call.rank call.seg call.offset call.size
message-sent s t c call sound h =
    let made = sound-called s t c (calls.PassiveSend call) replies.Done refl sound h in
    let m = made.3 in
    let posts = made.0 in
    let peer = made.1 in
    let finds = found-reply s.limits c.rank posts peer c.thread (calls.PassiveSend call) replies.Done (same_reply-same _ _ m.is.answered) refl in
    let found = send-found s.limits posts peer call replies.Done finds in
    let worked : memory_rank s.limits c.rank (calls.PassiveSend call) ≡ call.rank = send-on_memory s.limits.ranks call.rank c.rank found.ranked in
    let own = own-there s c.rank posts sound m.posts_there in
    let item = own_calls.own-there s c.rank posts own.0 call.seg found.range.mine sound m.posts_there own.1 found.range.there in
    let bytes : bytes_of own.0 call.seg ≡ item.0.bytes = ap bytes_in item.1 in
    let size : length item.0.bytes ≡ found.range.mine.size = ap (λ (x : Extent). x.size) item.2 in
    let less = leb-true (call.offset + call.size) found.range.mine.size found.range.within in
    record {
      posts = posts;
      own = own.0;
      item = item.0;
      peer = peer;
      posts_there = m.posts_there;
      own_there = own.1;
      item_there = item.1;
      within = omega arith;
      peer_there = ap (slice_get s.memories) (sym worked) ∙ m.memory_there;
      room = ltb-true (length peer.inbox) s.limits.inbox found.room;
      after = m.leaves
          ∙ ap (λ (x : List Posts). record s { posts = x; memories = slice_set s.memories (memory_rank s.limits c.rank (calls.PassiveSend call)) made.2.memory })
          (send-tells_none s.limits.ranks call.rank c.rank posts (calls.PassiveSend call) replies.Done (slice_set s.posts c.rank made.2.posts))
          ∙ ap (λ (k : ℕ). record s { posts = slice_set s.posts c.rank made.2.posts; memories = slice_set s.memories k made.2.memory }) worked
          ∙ ap (λ (w : PostsAndMemory). record s { posts = slice_set s.posts c.rank w.posts; memories = slice_set s.memories call.rank w.memory }) m.is.leaves
          ∙ ap (λ (o : Option Message). record s { posts = slice_set s.posts c.rank (counted posts); memories = slice_set s.memories call.rank (send_effect o peer) })
          (send-brought s c.rank call own.0 found.ranked own.1)
          ∙ ap (λ (b : List ℕ). record s {
            posts = slice_set s.posts c.rank (counted posts);
            memories = slice_set s.memories call.rank (record peer { inbox = peer.inbox ++ record { sender = c.rank; bytes = range_of b call.offset call.size } ∷ [] });
          }) bytes;
    }

same-id : (a b : ℕ) → replies.Id a ≡ replies.Id b → a ≡ b
same-id a b h = cc

pub message-received : (s t : State) (c : CallerId) (call : receive.PassiveReceive) (sender : ℕ) → IsSound s → step s (Called c (calls.PassiveReceive call) (replies.Id sender)) ≡ Ok t
    → IsReceiveDone s t c.rank call.seg call.offset call.size sender
message-received s t c call sender sound h =
    let made = own_calls.own-on_memory s t c (calls.PassiveReceive call) (replies.Id sender) refl refl refl sound h in
    let m = made.2 in
    let posts = made.0 in
    let memory = made.1 in
    let found = receive-found posts memory call (replies.Id sender) m.finds in
    let item = own_calls.own-there s c.rank posts memory call.seg found.range.mine sound m.posts_there m.memory_there found.range.there in
    let size : length item.0.bytes ≡ found.range.mine.size = ap (λ (x : Extent). x.size) item.2 in
    let less = leb-true (call.offset + call.size) found.range.mine.size found.range.within in
    let fits = found.fits in
    let new : Memory = record (with_bytes memory call.seg (with_range (bytes_of memory call.seg) call.offset found.message.bytes)) { inbox = found.rest } in
    let left : receive_effect memory call ≡ new = rw found.inbox refl in
    record {
      posts = posts;
      old = memory;
      new = new;
      item = item.0;
      message = found.message;
      rest = found.rest;
      posts_there = m.posts_there;
      old_there = m.memory_there;
      item_there = item.1;
      within = omega arith;
      first = found.inbox;
      fits = fits;
      answers = same-id sender found.message.sender found.answers;
      kept = refl;
      segments = segment-written memory.segments call.seg call.offset found.message.bytes item.0 item.1 (omega arith);
      after = m.leaves ∙ ap (λ (x : Memory). record s { posts = slice_set s.posts c.rank (counted posts); memories = slice_set s.memories c.rank x }) left;
    }
