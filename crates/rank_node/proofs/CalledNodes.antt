-- The nodes that are lent for a call that is no collective stand for the state after it.
use Rattle.std.proofs.Common.{◌≡◌, ℕ, ◌<◌, Bool, true, false, ◌==◌, nat_lt, List, [], ◌∷◌, ◌++◌, length, Option, None, Some, Ok, refl, sym, ap, ◌∙◌, subst, arith}
use Rattle.std.specs.List.{slice_get, slice_set}
use Rattle.gaspi_types.specs.CallRows.{row_of}
use Rattle.gaspi_types.specs.Inboxes.{is_passive_size}
use Rattle.gaspi_types.specs.Replies.{is_idle, same_reply}
use Rattle.gaspi_types.specs.World.{are_limits}
use Rattle.gaspi_types.specs.declared.calls.Call.{Call}
use Rattle.gaspi_types.specs.declared.calls.Call.TheVariants.{PassiveSend}
use Rattle.gaspi_types.specs.declared.calls.passive.PassiveSend as send
use Rattle.gaspi_types.specs.declared.events.Event.TheVariants.{Called}
use Rattle.gaspi_types.specs.declared.inboxes.Message.{Message}
use Rattle.gaspi_types.specs.declared.replies.Reply.{Reply}
use Rattle.gaspi_types.specs.declared.shapes.CallerId.{CallerId}
use Rattle.gaspi_types.specs.declared.shapes.Limits.{Limits}
use Rattle.gaspi_types.specs.declared.footprints.Footprint.{Footprint}
use Rattle.gaspi_types.specs.declared.footprints.Footprint.TheVariants.{Alone, OwnMemory, PeerMemory, BothMemories, PeerPosts, Group, GroupAndMemory}
use Rattle.gaspi_types.proofs.Items.{slice_get-set_same, behind-of-joined}
use Rattle.gaspi_model.specs.Calls.{call_result, answer, recorded_reply, memory_after, memory_effect, peer_after}
use Rattle.gaspi_model.specs.PassiveCalls.{sent_message, send_effect}
use Rattle.gaspi_model.specs.Sound.{IsSound, IsSoundPosts}
use Rattle.gaspi_model.specs.Step.{step, call_message}
use Rattle.gaspi_model.specs.Transfers.{PostsAndMemory}
use Rattle.gaspi_model.specs.declared.states.Posts.{Posts}
use Rattle.gaspi_model.specs.declared.states.Memory.{Memory}
use Rattle.gaspi_model.specs.declared.states.State.{State}
use Rattle.gaspi_model.proofs.FoundReplies.{found-reply}
use Rattle.gaspi_model.proofs.PassiveFinds.{send-found}
use Rattle.gaspi_model.proofs.Same.{same_reply-same}
use Rattle.gaspi_model.proofs.Sound.Steps.{steps, called-events, depth-few}
use Rattle.gaspi_model.proofs.Sound.Registered.{registered_at, changed_at-get, peer-touched, with_footprint-registers}
use Rattle.gaspi_model.proofs.OnPostsAndMemory.{IsCalledThere, sound-called, memory_place, memory_rank}
use Rattle.plain_calls.proofs.CallBounds.{found_by}
use Rattle.rank_node.specs.Effects.{MayAffectPosts, MayAffectMemory, IsMadeByCall}
use Rattle.rank_node.specs.Lending.{Lends, IsNodeOf, IsPeer, IsStepOn, MayStepBetween, footprint_peer, call_footprint}
use Rattle.rank_node.specs.Rooms.{IsReservedForRecord}
use Rattle.rank_node.specs.declared.nodes.Node.{Node}
use Rattle.rank_node.specs.declared.nodes.GroupNode.{GroupNode}
use Rattle.rank_node.specs.declared.rooms.Room.{Room}
use Rattle.rank_node.proofs.Granted.{may-affect, may-affect-memory, made-there}
use Rattle.rank_node.proofs.PlainNodes.{on_memory, looks-at}

pub same-some : {A : Type 0} (o : Option A) (x y : A) → o ≡ Some x → o ≡ Some y → x ≡ y
same-some o x y a b = let both : ◌≡◌ {A = Option _} (Some x) (Some y) = sym a ∙ b in cc

-- The message that a call brings, which is not refused: that of the own memory.
brought-is : (s : State) (me : ℕ) (call : Call) (own : Memory) → slice_get s.memories me ≡ Some own → ((x : send.PassiveSend) → call ≡ PassiveSend x → nat_lt x.rank s.limits.ranks ≡ true)
    → call_message s me call ≡ sent_message me own call
brought-is s me (PassiveSend x) own there ranked = go (x.rank == me) refl
  where
    go : (b : Bool) → (x.rank == me) ≡ b → call_message s me (PassiveSend x) ≡ sent_message me own (PassiveSend x)
    go true is = rw (is, there) refl
    go false is = rw (is, ranked x refl, there) refl
brought-is s me call own there ranked = refl

-- what a call leaves in the memory that it works on, by the message of the own memory
pub memory-same : (s : State) (c : CallerId) (call : Call) (reply : Reply) (posts : Posts) (own memory : Memory) → slice_get s.memories c.rank ≡ Some own
    → same_reply reply (recorded_reply (answer s.limits c.rank posts memory c.thread call)) ≡ true
    → memory_after s.limits posts (call_message s c.rank call) memory call reply ≡ memory_after s.limits posts (sent_message c.rank own call) memory call reply
memory-same s c call reply posts own memory there answered = go (is_idle reply) refl
  where
    go : (b : Bool) → is_idle reply ≡ b
        → memory_after s.limits posts (call_message s c.rank call) memory call reply ≡ memory_after s.limits posts (sent_message c.rank own call) memory call reply
    go true idle = rw idle refl
    go false awake =
        let finds = found-reply s.limits c.rank posts memory c.thread call reply (same_reply-same _ _ answered) awake in
        rw awake (ap (λ (b : Option Message). memory_effect s.limits posts b memory call) (brought-is s c.rank call own there (λ x is. ranked x is finds)))
      where
        ranked : (x : send.PassiveSend) → call ≡ PassiveSend x → call_result s.limits c.rank posts memory call ≡ Ok (Some reply) → nat_lt x.rank s.limits.ranks ≡ true
        ranked x is finds =
            let here : call_result s.limits c.rank posts memory (PassiveSend x) ≡ Ok (Some reply) = subst (λ (k : Call). call_result s.limits c.rank posts memory k ≡ Ok (Some reply)) is finds in
            (send-found s.limits posts memory x reply here).ranked

-- The posts of the owner, and of a peer, after a call of some footprint.

own-registered : (r : Footprint) (me : ℕ) (p : Posts) (call : Call) (reply : Reply) (all : List Posts) (x : Posts) → ((rank : ℕ) → r ≡ PeerPosts rank → (rank == me) ≡ false)
    → slice_get all me ≡ Some x → slice_get (registered_at r me p call reply all) me ≡ Some x
own-registered Alone me p call reply all x apart at = at
own-registered OwnMemory me p call reply all x apart at = at
own-registered (PeerMemory rank) me p call reply all x apart at = at
own-registered (BothMemories rank) me p call reply all x apart at = at
own-registered (PeerPosts rank) me p call reply all x apart at = changed_at-get all rank me (peer_after me p call reply) ∙ rw (apart rank refl) at
own-registered (Group id) me p call reply all x apart at = at
own-registered (GroupAndMemory id) me p call reply all x apart at = at

-- of a peer: what the call leaves there, where it reaches its posts, and else as they were
peer-registered : (r : Footprint) (me rank : ℕ) (p : Posts) (call : Call) (reply : Reply) (all : List Posts) (x : Posts) → footprint_peer r ≡ Some rank → slice_get all rank ≡ Some x
    → ((k : ℕ) → r ≡ PeerPosts k → ⊥) → slice_get (registered_at r me p call reply all) rank ≡ Some x
peer-registered Alone me rank p call reply all x is at never = at
peer-registered OwnMemory me rank p call reply all x is at never = at
peer-registered (PeerMemory k) me rank p call reply all x is at never = at
peer-registered (BothMemories k) me rank p call reply all x is at never = at
peer-registered (PeerPosts k) me rank p call reply all x is at never = absurd (never k refl)
peer-registered (Group id) me rank p call reply all x is at never = at
peer-registered (GroupAndMemory id) me rank p call reply all x is at never = at

on_memory-rank : (s : State) (me : ℕ) (r : Footprint) (own : Node) (peer : Option Node) → IsNodeOf s me own → IsPeer s me (footprint_peer r) peer → ((rank : ℕ) → r ≡ PeerPosts rank → ⊥)
    → slice_get s.memories (memory_place r me) ≡ Some (on_memory own peer).memory
on_memory-rank s me Alone own None mine theirs never = mine.memory.memory
on_memory-rank s me OwnMemory own None mine theirs never = mine.memory.memory
on_memory-rank s me (Group id) own None mine theirs never = mine.memory.memory
on_memory-rank s me (GroupAndMemory id) own None mine theirs never = mine.memory.memory
on_memory-rank s me (PeerMemory rank) own None mine theirs never = absurd theirs
on_memory-rank s me (BothMemories rank) own None mine theirs never = absurd theirs
on_memory-rank s me (PeerPosts rank) own None mine theirs never = absurd theirs
on_memory-rank s me Alone own (Some p) mine theirs never = absurd theirs
on_memory-rank s me OwnMemory own (Some p) mine theirs never = absurd theirs
on_memory-rank s me (Group id) own (Some p) mine theirs never = absurd theirs
on_memory-rank s me (GroupAndMemory id) own (Some p) mine theirs never = absurd theirs
on_memory-rank s me (PeerMemory rank) own (Some p) mine theirs never = theirs.node.memory.memory
on_memory-rank s me (BothMemories rank) own (Some p) mine theirs never = theirs.node.memory.memory
on_memory-rank s me (PeerPosts rank) own (Some p) mine theirs never = absurd (never rank refl)

-- The step of such a call, of the posts that the owner's node has.
pub called-on : (s t : State) (c : CallerId) (call : Call) (reply : Reply) (own : Node) → (row_of call).group ≡ None → IsSound s → IsNodeOf s c.rank own → step s (Called c call reply) ≡ Ok t
    → (memory : Memory) × (after : PostsAndMemory) × IsCalledThere s t c call reply own.posts.posts memory after
called-on s t c call reply own plain sound mine h =
    let made = sound-called s t c call reply plain sound h in
    let same = same-some (slice_get s.posts c.rank) made.0 own.posts.posts made.3.posts_there mine.posts.posts in
    (made.1, made.2, subst (λ (p : Posts). IsCalledThere s t c call reply p made.1 made.2) same made.3)

-- its owner's posts after it
pub own-after : (s t : State) (c : CallerId) (call : Call) (reply : Reply) (posts : Posts) (memory : Memory) (after : PostsAndMemory) → IsCalledThere s t c call reply posts memory after
    → slice_get t.posts c.rank ≡ Some after.posts
own-after s t c call reply posts memory after is =
    ap (λ (x : State). slice_get x.posts c.rank) is.leaves
    ∙ own-registered (call_footprint s.limits c.rank call) c.rank posts call reply (slice_set s.posts c.rank after.posts) after.posts (λ rank at. (peer-touched s.limits.ranks c.rank rank (row_of call).footprint at).1)
    (slice_get-set_same s.posts c.rank posts after.posts is.posts_there)

-- and the memory that it works on
pub memory-after : (s t : State) (c : CallerId) (call : Call) (reply : Reply) (posts : Posts) (memory : Memory) (after : PostsAndMemory) → IsCalledThere s t c call reply posts memory after
    → slice_get t.memories (memory_rank s.limits c.rank call) ≡ Some after.memory
memory-after s t c call reply posts memory after is =
    ap (λ (x : State). slice_get x.memories (memory_rank s.limits c.rank call)) is.leaves
    ∙ slice_get-set_same s.memories (memory_rank s.limits c.rank call) memory after.memory is.memory_there

-- the message that a send deposits is a message by its size
sized : (s t : State) (c : CallerId) (x : send.PassiveSend) (reply : Reply) (posts : Posts) (own memory : Memory) (after : PostsAndMemory) → IsSound t → is_idle reply ≡ false
    → slice_get s.memories c.rank ≡ Some own → IsCalledThere s t c (PassiveSend x) reply posts memory after
    → (m : Message) → sent_message c.rank own (PassiveSend x) ≡ Some m → is_passive_size (length m.bytes) ≡ true
sized s t c x reply posts own memory after sound awake there is m brings =
    let left : after.memory ≡ record memory { inbox = memory.inbox ++ m ∷ [] } =
    ap (λ (w : PostsAndMemory). w.memory) is.is.leaves ∙ memory-same s c (PassiveSend x) reply posts own memory there is.is.answered ∙ by-awake in
    let inbox = sound.inboxes (memory_rank s.limits c.rank (PassiveSend x)) after.memory (memory-after s t c (PassiveSend x) reply posts memory after is) in
    inbox.sizes (length memory.inbox) m (ap (λ (k : Memory). slice_get k.inbox (length memory.inbox)) left ∙ behind-of-joined memory.inbox (m ∷ []) 0 (length memory.inbox) (omega arith))
  where
    by-awake : memory_after s.limits posts (sent_message c.rank own (PassiveSend x)) memory (PassiveSend x) reply ≡ record memory { inbox = memory.inbox ++ m ∷ [] }
    by-awake = rw awake (ap (λ (o : Option Message). send_effect o memory) brings)

-- What recording a call asks of the nodes.
pub record Granted (own : Node) (peer : Option Node) (call : Call) (reply : Reply) (room : Room) : Type 0 where
  pub event : own.posts.posts.events < own.posts.limits.events
  pub posts : is_idle reply ≡ false → MayAffectPosts own.posts (row_of call).posting call room.entries
  pub memory : is_idle reply ≡ false → MayAffectMemory (on_memory own peer) call room.made room.message
  pub made : is_idle reply ≡ false → IsMadeByCall own.posts call room.made

pub granted : (s t : State) (c : CallerId) (call : Call) (reply : Reply) (own : Node) (peer : Option Node) (group : Option GroupNode) (room : Room) → (row_of call).group ≡ None
    → IsStepOn s t (Called c call reply) own peer group → IsReservedForRecord own.posts own.memory call room → Granted own peer call reply room
granted s t c call reply own peer group room plain is reserved =
    let mine = is.lends.own_node in
    let found = called-on s t c call reply own plain is.sound mine is.is_step in
    go found.0 found.1 found.2 (steps s t (Called c call reply) is.sound is.is_step)
  where
    go : (memory : Memory) (after : PostsAndMemory) → IsCalledThere s t c call reply own.posts.posts memory after → IsSound t → Granted own peer call reply room
    go memory after there sound = record {
      event = event;
      posts = λ awake. may-affect own.posts memory c.thread call reply room.entries limited sound_posts (found_by own.posts.limits own.posts.me own.posts.posts memory c.thread call reply answered awake) reserved.entries;
      memory = λ awake. in-memory awake (call_footprint s.limits c.rank call) refl peer is.lends;
      made = λ awake. made-there own.posts memory call reply room.made (finds awake) reserved.made;
    }
      where
        mine : IsNodeOf s c.rank own
        mine = is.lends.own_node

        limited : are_limits own.posts.limits ≡ true
        limited = subst (λ (l : Limits). are_limits l ≡ true) (sym mine.posts.limits) is.sound.limits

        sound_posts : IsSoundPosts own.posts.limits own.posts.posts
        sound_posts = subst (λ (l : Limits). IsSoundPosts l own.posts.posts) (sym mine.posts.limits) (is.sound.posts c.rank own.posts.posts mine.posts.posts)

        answered : same_reply reply (recorded_reply (answer own.posts.limits own.posts.me own.posts.posts memory c.thread call)) ≡ true
        answered =
            subst (λ (n : ℕ). same_reply reply (recorded_reply (answer own.posts.limits n own.posts.posts memory c.thread call)) ≡ true) (sym mine.posts.me)
            (subst (λ (l : Limits). same_reply reply (recorded_reply (answer l c.rank own.posts.posts memory c.thread call)) ≡ true) (sym mine.posts.limits) there.is.answered)

        finds : is_idle reply ≡ false → call_result own.posts.limits own.posts.me own.posts.posts memory call ≡ Ok (Some reply)
        finds awake = found-reply own.posts.limits own.posts.me own.posts.posts memory c.thread call reply (same_reply-same _ _ answered) awake

        event : own.posts.posts.events < own.posts.limits.events
        event =
            let room = (sound.posts c.rank after.posts (own-after s t c call reply own.posts.posts memory after there)).room in
            let count = called-events s.limits c.rank own.posts.posts (call_message s c.rank call) memory c.thread call reply after (depth-few s.limits is.sound.limits) (is.sound.posts c.rank own.posts.posts mine.posts.posts) there.is in
            let kept : t.limits.events ≡ s.limits.events = ap (λ (x : State). x.limits.events) there.leaves in
            let same = ap (λ (l : Limits). l.events) mine.posts.limits in
            omega arith

        sizes : is_idle reply ≡ false → (x : Message) → room.message ≡ Some x → is_passive_size (length x.bytes) ≡ true
        sizes awake x at = of-call call refl
          where
            brings : sent_message c.rank own.memory.memory call ≡ Some x
            brings = ap (λ (n : ℕ). sent_message n own.memory.memory call) (sym mine.posts.me) ∙ sym reserved.message ∙ at

            of-call : (k : Call) → call ≡ k → is_passive_size (length x.bytes) ≡ true
            of-call (PassiveSend y) same =
                sized s t c y reply own.posts.posts own.memory.memory memory after sound awake mine.memory.memory
                (subst (λ (k : Call). IsCalledThere s t c k reply own.posts.posts memory after) same there) x (subst (λ (k : Call). sent_message c.rank own.memory.memory k ≡ Some x) same brings)
            of-call k same = absurd (let none : sent_message c.rank own.memory.memory k ≡ Some x = subst (λ (k : Call). sent_message c.rank own.memory.memory k ≡ Some x) same brings in let no : ⊥ = cc in no)

        in-memory : is_idle reply ≡ false → (r : Footprint) → call_footprint s.limits c.rank call ≡ r → (peer : Option Node) → Lends s c.rank r own peer group
            → MayAffectMemory (on_memory own peer) call room.made room.message
        in-memory awake (PeerPosts rank) at peer lends =
            let touched = peer-touched s.limits.ranks c.rank rank (row_of call).footprint at in
            let registers = with_footprint-registers call rank touched.0 in
            subst (λ (k : Call). MayAffectMemory (on_memory own peer) k room.made room.message) (sym registers.1) tt
        in-memory awake r at peer lends = elsewhere (on_memory-rank s c.rank r own peer lends.own_node lends.peer_node (λ rank is. other rank is))
          where
            other : (rank : ℕ) → r ≡ PeerPosts rank → ⊥
            other rank is = cc

            elsewhere : slice_get s.memories (memory_place r c.rank) ≡ Some (on_memory own peer).memory → MayAffectMemory (on_memory own peer) call room.made room.message
            elsewhere here =
                let there_is : slice_get s.memories (memory_rank s.limits c.rank call) ≡ Some (on_memory own peer).memory = ap (λ (x : Footprint). slice_get s.memories (memory_place x c.rank)) at ∙ here in
                let same = same-some (slice_get s.memories (memory_rank s.limits c.rank call)) memory (on_memory own peer).memory there.memory_there there_is in
                let capacity = (looks-at s c.rank r own peer group is.sound lends).capacity in
                may-affect-memory own.posts (on_memory own peer) call reply room.made room.message capacity
                (subst (λ (m : Memory). call_result own.posts.limits own.posts.me own.posts.posts m call ≡ Ok (Some reply)) same (finds awake)) reserved.made (sizes awake)

pub granted-between : (c : CallerId) (call : Call) (reply : Reply) (own : Node) (peer : Option Node) (room : Room) → (row_of call).group ≡ None → MayStepBetween (Called c call reply) own peer
    → IsReservedForRecord own.posts own.memory call room → Granted own peer call reply room
granted-between c call reply own peer room plain may reserved = granted may.0 may.1 c call reply own peer may.2 room plain may.3 reserved
