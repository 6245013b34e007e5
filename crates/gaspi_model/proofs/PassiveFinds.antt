-- What a send and a receive have found that are done.
use Rattle.std.proofs.Common.{◌≡◌, ℕ, ◌≤◌, true, false, Bool, nat_lt, nat_le, List, [], ◌∷◌, length, Option, None, Some, Ok, refl, sym, subst, if◌then◌else◌}
use Rattle.std.proofs.lemmas.Bool.{leb-true}
use Rattle.std.specs.Option.{option_map}
use Rattle.gaspi_types.specs.Inboxes.{is_passive_size, passive_checks, has_room, first_within}
use Rattle.gaspi_types.specs.SegmentBytes.{is_within}
use Rattle.gaspi_types.specs.SegmentTables.{extent_in}
use Rattle.gaspi_types.specs.declared.calls.passive.PassiveSend as send
use Rattle.gaspi_types.specs.declared.calls.passive.PassiveReceive as receive
use Rattle.gaspi_types.specs.declared.inboxes.Message.{Message}
use Rattle.gaspi_types.specs.declared.segments.Extent.{Extent}
use Rattle.gaspi_types.specs.declared.shapes.Limits.{Limits}
use Rattle.gaspi_types.specs.declared.replies.Refusal.TheVariants.{NoSegment, BadSize, BadRank}
use Rattle.gaspi_types.specs.declared.replies.Reply.{Reply}
use Rattle.gaspi_types.specs.declared.replies.Reply.TheVariants as replies
use Rattle.gaspi_types.proofs.Chains.{bind_then, check_then, found_then, check_holds, same_Ok}
use Rattle.gaspi_model.specs.PassiveCalls.{send_result, receive_result}
use Rattle.gaspi_model.specs.declared.states.Posts.{Posts}
use Rattle.gaspi_model.specs.declared.states.Memory.{Memory}

-- a range of an own segment for a message
pub record IsPassiveRange (own : List (Option Extent)) (segment offset size : ℕ) : Type 0 where
  pub mine : Extent
  pub there : extent_in own segment ≡ Some mine
  pub sized : is_passive_size size ≡ true
  pub within : is_within offset size mine.size ≡ true

passive-range : (own : List (Option Extent)) (segment offset size : ℕ) (u : Unit {0}) → passive_checks own segment offset size ≡ Ok u → IsPassiveRange own segment offset size
passive-range own segment offset size u h =
    found_then (extent_in own segment) NoSegment _ u h (λ mine there h1.
    check_then (is_passive_size size) BadSize _ u h1 (λ sized h2.
    record { mine = mine; there = there; sized = sized; within = check_holds _ _ u h2 }))

-- a send that is done: the rank is there, its range lies in an own segment, and the inbox has room
pub record IsSendFound (limits : Limits) (posts : Posts) (memory : Memory) (call : send.PassiveSend) (reply : Reply) : Type 0 where
  pub ranked : nat_lt call.rank limits.ranks ≡ true
  pub range : IsPassiveRange posts.segments.own call.seg call.offset call.size
  pub room : has_room limits.inbox memory.inbox ≡ true
  pub done : reply ≡ replies.Done

pub send-found : (limits : Limits) (posts : Posts) (memory : Memory) (call : send.PassiveSend) (reply : Reply) → send_result limits posts memory call ≡ Ok (Some reply)
    → IsSendFound limits posts memory call reply
send-found limits posts memory call reply h =
    check_then (nat_lt call.rank limits.ranks) BadRank _ (Some reply) h (λ ranked h1.
    bind_then (passive_checks posts.segments.own call.seg call.offset call.size) _ (Some reply) h1 (λ u fits h2.
    let found = by-room (has_room limits.inbox memory.inbox) (same_Ok _ _ h2) in
    record { ranked = ranked; range = passive-range posts.segments.own call.seg call.offset call.size u fits; room = found.0; done = found.1 }))
  where
    by-room : (b : Bool) → (if b then Some replies.Done else None) ≡ Some reply → (b ≡ true) × (reply ≡ replies.Done)
    by-room true same = (refl, (let is : reply ≡ replies.Done = cc in is))
    by-room false same = absurd (let no : ⊥ = cc in no)

-- a receive that is done: its range lies in an own segment, and the first message is short enough; it answers the sender
pub record IsReceiveFound (posts : Posts) (memory : Memory) (call : receive.PassiveReceive) (reply : Reply) : Type 0 where
  pub range : IsPassiveRange posts.segments.own call.seg call.offset call.size
  pub message : Message
  pub rest : List Message
  pub inbox : memory.inbox ≡ message ∷ rest
  pub fits : length message.bytes ≤ call.size
  pub answers : reply ≡ replies.Id message.sender

pub receive-found : (posts : Posts) (memory : Memory) (call : receive.PassiveReceive) (reply : Reply) → receive_result posts memory call ≡ Ok (Some reply)
    → IsReceiveFound posts memory call reply
receive-found posts memory call reply h =
    bind_then (passive_checks posts.segments.own call.seg call.offset call.size) _ (Some reply) h (λ u fits h1.
    bind_then (first_within call.size memory.inbox) _ (Some reply) h1 (λ first is h2.
    by-inbox (passive-range posts.segments.own call.seg call.offset call.size u fits) memory.inbox refl first is (same_Ok _ _ h2)))
  where
    by-inbox : IsPassiveRange posts.segments.own call.seg call.offset call.size → (inbox : List Message) → memory.inbox ≡ inbox → (first : Option Message) → first_within call.size inbox ≡ Ok first
        → option_map (λ (m : Message). replies.Id m.sender) first ≡ Some reply → IsReceiveFound posts memory call reply
    by-inbox range [] at first is same = absurd (let none : ◌≡◌ {A = Option Message} None first = same_Ok _ _ is in let no : ⊥ = cc in no)
    by-inbox range (message ∷ rest) at first is same =
        check_then (nat_le (length message.bytes) call.size) _ _ first is (λ short h3.
        let one : Some message ≡ first = same_Ok _ _ h3 in
        let answered : ◌≡◌ {A = Option Reply} (Some (replies.Id message.sender)) (Some reply) =
        subst (λ (o : Option Message). option_map (λ (m : Message). replies.Id m.sender) o ≡ Some reply) (sym one) same in
        record { range = range; message = message; rest = rest; inbox = at; fits = leb-true _ _ short; answers = (let is : reply ≡ replies.Id message.sender = cc in is) })
