-- After a call that is no collective the nodes stand for the state after it.
use Rattle.std.proofs.Common.{◌≡◌, ℕ, Bool, true, false, cond, ◌==◌, nat_lt, List, Option, None, Some, refl, sym, ap, ◌∙◌, subst}
use Rattle.std.specs.List.{slice_get, slice_set}
use Rattle.std.specs.Option.{option_map}
use Rattle.std.proofs.lemmas.Bool.{eq-eqb, eqb-false}
use Rattle.gaspi_types.specs.CallRows.{row_of}
use Rattle.gaspi_types.specs.Replies.{is_idle}
use Rattle.gaspi_types.specs.Footprints.{footprint_of}
use Rattle.gaspi_types.specs.declared.calls.Call.{Call}
use Rattle.gaspi_types.specs.declared.calls.Call.TheVariants.{Register}
use Rattle.gaspi_types.specs.declared.calls.segments.Register as register
use Rattle.gaspi_types.specs.declared.events.Event.TheVariants.{Called}
use Rattle.gaspi_types.specs.declared.inboxes.Message.{Message}
use Rattle.gaspi_types.specs.declared.replies.Reply.{Reply}
use Rattle.gaspi_types.specs.declared.shapes.CallerId.{CallerId}
use Rattle.gaspi_types.specs.declared.shapes.Limits.{Limits}
use Rattle.gaspi_types.specs.declared.footprints.Footprint.{Footprint}
use Rattle.gaspi_types.specs.declared.footprints.Footprint.TheVariants.{Alone, OwnMemory, PeerMemory, BothMemories, PeerPosts, Group, GroupAndMemory}
use Rattle.gaspi_types.proofs.Items.{slice_get-set_other}
use Rattle.gaspi_model.specs.Calls.{posts_after, memory_after, peer_after, peer_effect}
use Rattle.gaspi_model.specs.PassiveCalls.{sent_message}
use Rattle.gaspi_model.specs.Step.{call_message}
use Rattle.gaspi_model.specs.Transfers.{PostsAndMemory}
use Rattle.gaspi_model.specs.declared.states.Posts.{Posts}
use Rattle.gaspi_model.specs.declared.states.Memory.{Memory}
use Rattle.gaspi_model.specs.declared.states.State.{State}
use Rattle.gaspi_model.proofs.Sound.Registered.{registered_at, changed_at-get, peer-touched, with_footprint-registers}
use Rattle.gaspi_model.proofs.OnPostsAndMemory.{IsCalledThere, memory_place, memory_rank}
use Rattle.rank_node.specs.Effects.{with_posts, recorded_posts, recorded_memory}
use Rattle.rank_node.specs.Lending.{Lends, IsNodeOf, IsPostsOf, IsPeer, IsPeerNode, IsGroupAt, IsStepOn, IsLeft, footprint_peer, footprint_group, call_footprint}
use Rattle.rank_node.specs.Rooms.{IsReservedForRecord}
use Rattle.rank_node.specs.Values.{PostsValue, MemoryValue}
use Rattle.rank_node.specs.declared.nodes.Node.{Node}
use Rattle.rank_node.specs.declared.nodes.GroupNode.{GroupNode}
use Rattle.rank_node.specs.declared.rooms.Room.{Room}
use Rattle.rank_node.proofs.CalledNodes.{same-some, called-on, own-after, memory-after, memory-same}

-- the owner's posts
left-posts : (s t : State) (c : CallerId) (call : Call) (reply : Reply) (place : ℕ) (old own : PostsValue) (memory : Memory) (after : PostsAndMemory) → IsPostsOf s c.rank old
    → IsCalledThere s t c call reply old.posts memory after → own ≡ recorded_posts old place c call reply → IsPostsOf t c.rank own
left-posts s t c call reply place old own memory after mine there is = record {
  limits = ap (λ (p : PostsValue). p.limits) is ∙ mine.limits ∙ sym (ap (λ (x : State). x.limits) there.leaves);
  me = ap (λ (p : PostsValue). p.me) is ∙ mine.me;
  posts = own-after s t c call reply old.posts memory after there ∙ ap (λ (p : Posts). Some p) (ap (λ (w : PostsAndMemory). w.posts) there.is.leaves
      ∙ ap (λ (l : Limits). posts_after l c.rank old.posts c.thread call reply) (sym mine.limits)
      ∙ ap (λ (n : ℕ). posts_after old.limits n old.posts c.thread call reply) (sym mine.me)
      ∙ sym (ap (λ (p : PostsValue). p.posts) is));
}

-- the memory that was worked on, as the call leaves it by the message that was reserved
left-memory : (s t : State) (c : CallerId) (call : Call) (reply : Reply) (old : Node) (room : Room) (memory : Memory) (after : PostsAndMemory) (worked new : MemoryValue) → IsNodeOf s c.rank old
    → IsReservedForRecord old.posts old.memory call room → IsCalledThere s t c call reply old.posts.posts memory after → memory ≡ worked.memory → new ≡ recorded_memory old.posts room.message worked call reply
    → slice_get t.memories (memory_rank s.limits c.rank call) ≡ Some new.memory
left-memory s t c call reply old room memory after worked new mine reserved there same is =
    memory-after s t c call reply old.posts.posts memory after there ∙ ap (λ (m : Memory). Some m) (ap (λ (w : PostsAndMemory). w.memory) there.is.leaves
    ∙ memory-same s c call reply old.posts.posts old.memory.memory memory mine.memory.memory there.is.answered
    ∙ ap (λ (n : ℕ). memory_after s.limits old.posts.posts (sent_message n old.memory.memory call) memory call reply) (sym mine.posts.me)
    ∙ ap (λ (b : Option Message). memory_after s.limits old.posts.posts b memory call reply) (sym reserved.message)
    ∙ ap (λ (l : Limits). memory_after l old.posts.posts room.message memory call reply) (sym mine.posts.limits)
    ∙ ap (λ (m : Memory). memory_after old.posts.limits old.posts.posts room.message m call reply) same
    ∙ sym (ap (λ (m : MemoryValue). m.memory) is))

left-capacity : (s t : State) (p : PostsValue) (message : Option Message) (call : Call) (reply : Reply) (old new : MemoryValue) → old.capacity ≡ s.limits.inbox → t.limits ≡ s.limits
    → new ≡ recorded_memory p message old call reply → new.capacity ≡ t.limits.inbox
left-capacity s t p message call reply old new is kept same = ap (λ (m : MemoryValue). m.capacity) same ∙ is ∙ sym (ap (λ (l : Limits). l.inbox) kept)

-- groups stay
left-group : (s t : State) (id : Option ℕ) (group : Option GroupNode) → t.groups ≡ s.groups → IsGroupAt s id group → IsGroupAt t id group
left-group s t None None same is = is
left-group s t None (Some g) same is = is
left-group s t (Some id) None same is = is
left-group s t (Some id) (Some g) same is = record { group = is.group; there = ap (λ (x : List _). slice_get x id) same ∙ is.there; stands = is.stands }

-- a call of its own node alone
pub left-alone : (s t : State) (c : CallerId) (call : Call) (reply : Reply) (place : ℕ) (old own : Node) (group : Option GroupNode) (room : Room) → (row_of call).group ≡ None
    → IsStepOn s t (Called c call reply) old None group → IsReservedForRecord old.posts old.memory call room
    → own.posts ≡ recorded_posts old.posts place c call reply → own.memory ≡ recorded_memory old.posts room.message old.memory call reply
    → IsLeft s t (Called c call reply) place old own None None group
left-alone s t c call reply place old own group room plain is reserved posts memory =
    let found = called-on s t c call reply old plain is.sound is.lends.own_node is.is_step in
    go found.0 found.1 found.2
  where
    mine : IsNodeOf s c.rank old
    mine = is.lends.own_node

    go : (m : Memory) (after : PostsAndMemory) → IsCalledThere s t c call reply old.posts.posts m after → IsLeft s t (Called c call reply) place old own None None group
    go m after there = record {
      lends = record {
        own_node = record {
          posts = left-posts s t c call reply place old.posts own.posts m after mine.posts there posts;
          memory = record {
            capacity = left-capacity s t old.posts room.message call reply old.memory own.memory mine.memory.capacity kept memory;
            memory = by-footprint (call_footprint s.limits c.rank call) refl is.lends;
          };
        };
        peer_node = no-peer (call_footprint s.limits c.rank call) is.lends;
        group_node = left-group s t (footprint_group (call_footprint s.limits c.rank call)) group (ap (λ (x : State). x.groups) there.leaves) is.lends.group_node;
      };
      journal = ap (λ (p : PostsValue). p.journal) posts;
      peer_journal = refl;
    }
      where
        kept : t.limits ≡ s.limits
        kept = ap (λ (x : State). x.limits) there.leaves

        no-peer : (r : Footprint) → Lends s c.rank r old None group → IsPeer t c.rank (footprint_peer r) None
        no-peer Alone lends = tt
        no-peer OwnMemory lends = tt
        no-peer (Group id) lends = tt
        no-peer (GroupAndMemory id) lends = tt
        no-peer (PeerMemory rank) lends = absurd lends.peer_node
        no-peer (BothMemories rank) lends = absurd lends.peer_node
        no-peer (PeerPosts rank) lends = absurd lends.peer_node

        at-own : memory_rank s.limits c.rank call ≡ c.rank → slice_get t.memories c.rank ≡ Some own.memory.memory
        at-own here =
            let there_is : slice_get s.memories (memory_rank s.limits c.rank call) ≡ Some old.memory.memory = ap (λ (n : ℕ). slice_get s.memories n) here ∙ mine.memory.memory in
            let same = same-some (slice_get s.memories (memory_rank s.limits c.rank call)) m old.memory.memory there.memory_there there_is in
            ap (λ (n : ℕ). slice_get t.memories n) (sym here) ∙ left-memory s t c call reply old room m after old.memory own.memory mine reserved there same memory

        by-footprint : (r : Footprint) → call_footprint s.limits c.rank call ≡ r → Lends s c.rank r old None group → slice_get t.memories c.rank ≡ Some own.memory.memory
        by-footprint Alone at lends = at-own (ap (λ (r : Footprint). memory_place r c.rank) at)
        by-footprint OwnMemory at lends = at-own (ap (λ (r : Footprint). memory_place r c.rank) at)
        by-footprint (Group id) at lends = at-own (ap (λ (r : Footprint). memory_place r c.rank) at)
        by-footprint (GroupAndMemory id) at lends = at-own (ap (λ (r : Footprint). memory_place r c.rank) at)
        by-footprint (PeerMemory rank) at lends = absurd lends.peer_node
        by-footprint (BothMemories rank) at lends = absurd lends.peer_node
        by-footprint (PeerPosts rank) at lends = absurd lends.peer_node

-- the footprint of a call in a world of so many ranks
abbrev footprint_for : ℕ → ℕ → Call → Footprint
footprint_for ranks me call = footprint_of ranks me (row_of call).footprint

-- A call that reaches another rank's memory tells that rank nothing.
not-register : (ranks me : ℕ) (x : register.Register) (r : Footprint) → footprint_for ranks me (Register x) ≡ r → ((rank : ℕ) → r ≡ PeerPosts rank → ⊥) → (r ≡ Alone)
not-register ranks me x r at never = go (x.rank == me) (nat_lt x.rank ranks) refl refl
  where
    go : (a b : Bool) → (x.rank == me) ≡ a → nat_lt x.rank ranks ≡ b → r ≡ Alone
    go true b is less = sym at ∙ rw is refl
    go false true is less = absurd (never x.rank (sym at ∙ rw (is, less) refl))
    go false false is less = sym at ∙ rw (is, less) refl

tells-nothing : (ranks me : ℕ) (r : Footprint) (posts : Posts) (call : Call) (reply : Reply) (peer : Posts) → footprint_for ranks me call ≡ r → ((rank : ℕ) → r ≡ PeerPosts rank → ⊥) → (r ≡ Alone → ⊥)
    → peer_after me posts call reply peer ≡ peer
tells-nothing ranks me r posts call reply peer at never some = go (is_idle reply) refl
  where
    done : (k : Call) → call ≡ k → peer_effect me posts k peer ≡ peer
    done (Register x) same = absurd (some (not-register ranks me x r (subst (λ (k : Call). footprint_for ranks me k ≡ r) same at) never))
    done k same = refl

    go : (b : Bool) → is_idle reply ≡ b → peer_after me posts call reply peer ≡ peer
    go true idle = rw idle refl
    go false awake = rw awake (done call refl)

-- a call of another rank's node besides
pub left-between : (s t : State) (c : CallerId) (call : Call) (reply : Reply) (place : ℕ) (old own p q : Node) (group : Option GroupNode) (room : Room) → (row_of call).group ≡ None
    → IsStepOn s t (Called c call reply) old (Some p) group → IsReservedForRecord old.posts old.memory call room
    → own.posts ≡ recorded_posts old.posts place c call reply → own.memory ≡ old.memory
    → q.memory ≡ recorded_memory old.posts room.message p.memory call reply → q.posts ≡ with_posts p.posts (peer_after old.posts.me old.posts.posts call reply p.posts.posts)
    → IsLeft s t (Called c call reply) place old own (Some p) (Some q) group
left-between s t c call reply place old own p q group room plain is reserved posts memory theirs told =
    let found = called-on s t c call reply old plain is.sound is.lends.own_node is.is_step in
    go found.0 found.1 found.2
  where
    mine : IsNodeOf s c.rank old
    mine = is.lends.own_node

    go : (m : Memory) (after : PostsAndMemory) → IsCalledThere s t c call reply old.posts.posts m after → IsLeft s t (Called c call reply) place old own (Some p) (Some q) group
    go m after there = record {
      lends = by-footprint (call_footprint s.limits c.rank call) refl is.lends;
      journal = ap (λ (x : PostsValue). x.journal) posts;
      peer_journal = ap (λ (x : PostsValue). Some x.journal) told;
    }
      where
        kept : t.limits ≡ s.limits
        kept = ap (λ (x : State). x.limits) there.leaves

        own-posts : IsPostsOf t c.rank own.posts
        own-posts = left-posts s t c call reply place old.posts own.posts m after mine.posts there posts

        groups : (r : Footprint) → Lends s c.rank r old (Some p) group → IsGroupAt t (footprint_group r) group
        groups r lends = left-group s t (footprint_group r) group (ap (λ (x : State). x.groups) there.leaves) lends.group_node

        apart-of : (rank : ℕ) → (rank == c.rank) ≡ false → c.rank ≡ rank → ⊥
        apart-of rank is same = eqb-false rank c.rank is (sym same)

        own-capacity : own.memory.capacity ≡ t.limits.inbox
        own-capacity = ap (λ (x : MemoryValue). x.capacity) memory ∙ mine.memory.capacity ∙ sym (ap (λ (l : Limits). l.inbox) kept)

        -- the posts of a peer whose posts are not reached
        same-posts : (rank : ℕ) (r : Footprint) → call_footprint s.limits c.rank call ≡ r → ((k : ℕ) → r ≡ PeerPosts k → ⊥) → (r ≡ Alone → ⊥) → IsPeerNode s c.rank rank p
            → slice_get t.posts rank ≡ slice_get (slice_set s.posts c.rank after.posts) rank → IsPostsOf t rank q.posts
        same-posts rank r at never some peer here = record {
          limits = ap (λ (x : PostsValue). x.limits) told ∙ peer.node.posts.limits ∙ sym kept;
          me = ap (λ (x : PostsValue). x.me) told ∙ peer.node.posts.me;
          posts = here ∙ slice_get-set_other s.posts c.rank rank after.posts (apart-of rank peer.apart) ∙ peer.node.posts.posts
              ∙ ap (λ (x : Posts). Some x) (sym (tells-nothing s.limits.ranks c.rank r old.posts.posts call reply p.posts.posts at never some)
              ∙ ap (λ (n : ℕ). peer_after n old.posts.posts call reply p.posts.posts) (sym mine.posts.me) ∙ sym (ap (λ (x : PostsValue). x.posts) told));
        }

        -- a peer's memory is worked on
        at-peer : (rank : ℕ) (r : Footprint) → call_footprint s.limits c.rank call ≡ r → memory_place r c.rank ≡ rank → ((k : ℕ) → r ≡ PeerPosts k → ⊥) → (r ≡ Alone → ⊥) → IsPeerNode s c.rank rank p
            → slice_get t.posts rank ≡ slice_get (slice_set s.posts c.rank after.posts) rank → IsNodeOf t c.rank own × IsPeerNode t c.rank rank q
        at-peer rank r at place never some peer here =
            let rank_is : memory_rank s.limits c.rank call ≡ rank = ap (λ (x : Footprint). memory_place x c.rank) at ∙ place in
            let there_is : slice_get s.memories (memory_rank s.limits c.rank call) ≡ Some p.memory.memory = ap (λ (n : ℕ). slice_get s.memories n) rank_is ∙ peer.node.memory.memory in
            let same = same-some (slice_get s.memories (memory_rank s.limits c.rank call)) m p.memory.memory there.memory_there there_is in
            let left = left-memory s t c call reply old room m after p.memory q.memory mine reserved there same theirs in
            let unchanged : slice_get t.memories c.rank ≡ slice_get s.memories c.rank =
            ap (λ (x : State). slice_get x.memories c.rank) there.leaves ∙ slice_get-set_other s.memories (memory_rank s.limits c.rank call) c.rank after.memory (λ e. apart-of rank peer.apart (sym e ∙ rank_is)) in (
              record {
                posts = own-posts;
                memory = record { capacity = own-capacity; memory = unchanged ∙ mine.memory.memory ∙ ap (λ (x : MemoryValue). Some x.memory) (sym memory) };
              },
              record {
                apart = peer.apart;
                node = record {
                  posts = same-posts rank r at never some peer here;
                  memory = record {
                    capacity = left-capacity s t old.posts room.message call reply p.memory q.memory peer.node.memory.capacity kept theirs;
                    memory = ap (λ (n : ℕ). slice_get t.memories n) (sym rank_is) ∙ left;
                  };
                };
              },
            )

        by-footprint : (r : Footprint) → call_footprint s.limits c.rank call ≡ r → Lends s c.rank r old (Some p) group → Lends t c.rank r own (Some q) group
        by-footprint Alone at lends = absurd lends.peer_node
        by-footprint OwnMemory at lends = absurd lends.peer_node
        by-footprint (Group id) at lends = absurd lends.peer_node
        by-footprint (GroupAndMemory id) at lends = absurd lends.peer_node
        by-footprint (PeerMemory rank) at lends =
            let both = at-peer rank (PeerMemory rank) at refl (λ k e. cc) (λ e. cc) lends.peer_node (ap (λ (x : State). slice_get x.posts rank) there.leaves ∙ rw at refl) in
            record { own_node = both.0; peer_node = both.1; group_node = groups (PeerMemory rank) lends }
        by-footprint (BothMemories rank) at lends =
            let both = at-peer rank (BothMemories rank) at refl (λ k e. cc) (λ e. cc) lends.peer_node (ap (λ (x : State). slice_get x.posts rank) there.leaves ∙ rw at refl) in
            record { own_node = both.0; peer_node = both.1; group_node = groups (BothMemories rank) lends }
        by-footprint (PeerPosts rank) at lends = record {
          own_node = record {
            posts = own-posts;
            memory = record { capacity = own-capacity; memory = own-memory };
          };
          peer_node = record {
            apart = lends.peer_node.apart;
            node = record {
              posts = record {
                limits = ap (λ (x : PostsValue). x.limits) told ∙ lends.peer_node.node.posts.limits ∙ sym kept;
                me = ap (λ (x : PostsValue). x.me) told ∙ lends.peer_node.node.posts.me;
                posts = peer-posts;
              };
              memory = record { capacity = left-capacity s t old.posts room.message call reply p.memory q.memory lends.peer_node.node.memory.capacity kept theirs; memory = peer-memory };
            };
          };
          group_node = groups (PeerPosts rank) lends;
        }
          where
            registers : (x : register.Register) × (call ≡ Register x) × (x.rank ≡ rank)
            registers = with_footprint-registers call rank (peer-touched s.limits.ranks c.rank rank (row_of call).footprint at).0

            -- such a call leaves a memory as it is
            idle-memory : (b : Option Message) (posts : Posts) (limits : Limits) (memory : Memory) → memory_after limits posts b memory call reply ≡ memory
            idle-memory b posts limits memory = subst (λ (k : Call). memory_after limits posts b memory k reply ≡ memory) (sym registers.1) (either (is_idle reply))
              where
                either : (t : Bool) → cond t memory memory ≡ memory
                either true = refl
                either false = refl

            rank_is : memory_rank s.limits c.rank call ≡ c.rank
            rank_is = ap (λ (x : Footprint). memory_place x c.rank) at

            own-memory : slice_get t.memories c.rank ≡ Some own.memory.memory
            own-memory =
                let here = same-some (slice_get s.memories (memory_rank s.limits c.rank call)) m old.memory.memory there.memory_there (ap (λ (n : ℕ). slice_get s.memories n) rank_is ∙ mine.memory.memory) in
                ap (λ (n : ℕ). slice_get t.memories n) (sym rank_is) ∙ memory-after s t c call reply old.posts.posts m after there
                ∙ ap (λ (x : Memory). Some x) (ap (λ (w : PostsAndMemory). w.memory) there.is.leaves ∙ idle-memory (call_message s c.rank call) old.posts.posts s.limits m ∙ here ∙ ap (λ (x : MemoryValue). x.memory) (sym memory))

            peer-memory : slice_get t.memories rank ≡ Some q.memory.memory
            peer-memory =
                ap (λ (x : State). slice_get x.memories rank) there.leaves
                ∙ slice_get-set_other s.memories (memory_rank s.limits c.rank call) rank after.memory (λ e. apart-of rank lends.peer_node.apart (sym rank_is ∙ e))
                ∙ lends.peer_node.node.memory.memory
                ∙ ap (λ (x : Memory). Some x) (sym (idle-memory room.message old.posts.posts old.posts.limits p.memory.memory) ∙ sym (ap (λ (x : MemoryValue). x.memory) theirs))

            peer-posts : slice_get t.posts rank ≡ Some q.posts.posts
            peer-posts =
                let there_is : slice_get (slice_set s.posts c.rank after.posts) rank ≡ Some p.posts.posts =
                slice_get-set_other s.posts c.rank rank after.posts (apart-of rank lends.peer_node.apart) ∙ lends.peer_node.node.posts.posts in
                let reached : slice_get t.posts rank ≡ slice_get (registered_at (PeerPosts rank) c.rank old.posts.posts call reply (slice_set s.posts c.rank after.posts)) rank =
                ap (λ (x : State). slice_get x.posts rank) there.leaves ∙ ap (λ (x : Footprint). slice_get (registered_at x c.rank old.posts.posts call reply (slice_set s.posts c.rank after.posts)) rank) at in
                let changed : slice_get (registered_at (PeerPosts rank) c.rank old.posts.posts call reply (slice_set s.posts c.rank after.posts)) rank
                ≡ option_map (peer_after c.rank old.posts.posts call reply) (slice_get (slice_set s.posts c.rank after.posts) rank) =
                changed_at-get (slice_set s.posts c.rank after.posts) rank rank (peer_after c.rank old.posts.posts call reply) ∙ rw (eq-eqb rank rank refl) refl in
                reached ∙ changed ∙ ap (option_map (peer_after c.rank old.posts.posts call reply)) there_is
                ∙ ap (λ (x : Posts). Some x) (ap (λ (n : ℕ). peer_after n old.posts.posts call reply p.posts.posts) (sym mine.posts.me) ∙ sym (ap (λ (x : PostsValue). x.posts) told))
