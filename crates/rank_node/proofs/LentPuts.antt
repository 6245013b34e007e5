-- Nodes that are lent stand for the state after a put as they stood for the one before.
use Rattle.std.proofs.Common.{◌≡◌, ℕ, List, Option, None, Some, refl, sym, ap, ◌∙◌, subst}
use Rattle.std.specs.List.{slice_get, slice_set, position_or_len}
use Rattle.std.specs.Option.{IfSome}
use Rattle.gaspi_types.specs.Lanes.{is_carried}
use Rattle.gaspi_types.specs.Footprints.{put_footprint}
use Rattle.gaspi_types.specs.declared.entries.Entry.{Entry}
use Rattle.gaspi_types.specs.declared.events.Outcome.{Outcome}
use Rattle.gaspi_types.specs.declared.events.Transfer.{Transfer}
use Rattle.gaspi_model.specs.Changes.{put_rank}
use Rattle.gaspi_model.specs.Posting.{counted}
use Rattle.gaspi_model.specs.Step.{event_footprint}
use Rattle.gaspi_model.specs.Transfers.{entry_in, put_outcome}
use Rattle.gaspi_model.specs.declared.states.State.{State}
use Rattle.post_queue.specs.LanesStates.{front_carried_of, head_of}
use Rattle.post_queue.specs.Places.{first_carried}
use Rattle.rank_node.specs.Lending.{IsStepOn, IsLeft, IsPeer, footprint_peer, footprint_group}
use Rattle.rank_node.specs.TransferSteps.{chosen_in, IsFirstCarried, MayPut, lent_memory}
use Rattle.rank_node.specs.Transfers.{MayPutNext, lanes_of, put_of, posts_put, memory_left, recorded}
use Rattle.rank_node.specs.Values.{PostsValue, MemoryValue}
use Rattle.rank_node.specs.declared.nodes.Node.{Node}
use Rattle.rank_node.specs.declared.nodes.GroupNode.{GroupNode}
use Rattle.gaspi_types.proofs.Items.{slice_get-set_same, slice_get-set_other}
use Rattle.gaspi_model.proofs.Made.{put-footprint}
use Rattle.gaspi_model.proofs.OnPostsAndMemory.{sound-put}
use Rattle.rank_node.proofs.LentParts.{IsFoundAs, found-as, footprint-as, peer-some, peer-none, apart-not, put-some, put-none, put-no_group, group-none, group-stays}
use Rattle.rank_node.proofs.NextEntries.{if-there, some-and}
use Rattle.rank_node.proofs.Puts.{IsPutLeft, IsPutMade, put-node}

-- the entry of the put
pub entry-of : (p : PostsValue) (t : Transfer) → IsFirstCarried p t → (e : Entry) × (chosen_in first_carried p t ≡ Some e) × (e.number ≡ t.number)
entry-of p t f = some-and (chosen_in first_carried p t) (λ (e : Entry). e.number ≡ t.number) f

found : (s after : State) (outcome : Outcome) (own : Node) (peer : Option Node) (group : Option GroupNode) (t : Transfer) → IsStepOn s after (put_of t outcome) own peer group → (f : IsFirstCarried own.posts t) → IsFoundAs s own.posts t (entry-of own.posts t f).0
found s after outcome own peer group t w f =
    let made = sound-put s after t.origin t.queue t.target t.number outcome w.sound w.is_step in
    let e = entry-of own.posts t f in
    found-as s own.posts t made.0 made.3 (λ (lane : List Entry). position_or_len is_carried lane) e.0 w.sound w.lends.own_node.posts made.4.posts_there made.4.is.is e.1 e.2

put-peer : (s after : State) (outcome : Outcome) (own : Node) (peer : Option Node) (group : Option GroupNode) (t : Transfer) (w : IsStepOn s after (put_of t outcome) own peer group) (f : IsFirstCarried own.posts t)
    → footprint_peer (event_footprint s.limits own.posts.posts (put_of t outcome)) ≡ footprint_peer (put-footprint s.limits.ranks t.origin t.target (entry-of own.posts t f).0.kind)
put-peer s after outcome own peer group t w f = ap footprint_peer (footprint-as s own.posts t (entry-of own.posts t f).0 (found s after outcome own peer group t w f) put_footprint)

put-memory : (s after : State) (outcome : Outcome) (own : Node) (peer : Option Node) (group : Option GroupNode) (t : Transfer) (w : IsStepOn s after (put_of t outcome) own peer group) (f : IsFirstCarried own.posts t)
    → slice_get s.memories (put_rank t.origin t.target (entry-of own.posts t f).0.kind) ≡ Some (lent_memory own peer)
put-memory s after outcome own None group t w f =
    let none = sym (put-peer s after outcome own None group t w f) ∙ peer-none s t.origin (footprint_peer (event_footprint s.limits own.posts.posts (put_of t outcome))) w.lends.peer_node in
    let rank = put-none s.limits.ranks t.origin t.target (entry-of own.posts t f).0.kind (found s after outcome own None group t w f).ranked none in
    ap (slice_get s.memories) rank ∙ w.lends.own_node.memory.memory
put-memory s after outcome own (Some peer) group t w f =
    let theirs = peer-some s t.origin (footprint_peer (event_footprint s.limits own.posts.posts (put_of t outcome))) peer w.lends.peer_node in
    let rank = put-some s.limits.ranks t.origin t.target theirs.0 (entry-of own.posts t f).0.kind (sym (put-peer s after outcome own (Some peer) group t w f) ∙ theirs.1) in
    ap (slice_get s.memories) rank ∙ theirs.2.node.memory.memory

pub put-made : (s after : State) (outcome : Outcome) (own : Node) (peer : Option Node) (group : Option GroupNode) (t : Transfer) → IsStepOn s after (put_of t outcome) own peer group → (f : IsFirstCarried own.posts t)
    → IsPutMade s after own.posts t outcome (lent_memory own peer) (entry-of own.posts t f).0
put-made s after outcome own peer group t w f =
    let e = entry-of own.posts t f in
    put-node s after own.posts t outcome (lent_memory own peer) e.0 w.sound w.lends.own_node.posts e.1 e.2 (put-memory s after outcome own peer group t w f) w.is_step

pub put-can : (own : Node) (peer : Option Node) (group : Option GroupNode) (t : Transfer) → MayPut own peer group t → MayPutNext own.posts t
put-can own peer group t (s, after, outcome, w, f) = (put-made s after outcome own peer group t w f).can

-- what the code ensures of a put: how it ends, that its entry is the head of its lane, and what it leaves
pub record IsPutEnsured (own : Node) (memory memory' : MemoryValue) (posts' : PostsValue) (result : Outcome) (place : ℕ) (t : Transfer) : Type 0 where
  pub ends : IfSome (front_carried_of (lanes_of own.posts) t.queue t.target) (λ (e : Entry). result ≡ put_outcome memory.memory e.kind)
  pub head : IfSome (front_carried_of (lanes_of own.posts) t.queue t.target) (λ (e : Entry). head_of (lanes_of own.posts) t.queue t.target ≡ Some e)
  pub posts : posts' ≡ recorded own.posts (posts_put own.posts.posts t.queue t.target result) place (put_of t result)
  pub memory_is : IfSome (front_carried_of (lanes_of own.posts) t.queue t.target) (λ (e : Entry). memory' ≡ record memory { memory = memory_left memory.memory e result })

-- so it is with the entry of the step
record IsEnsured (s after : State) (own : Node) (memory memory' : MemoryValue) (posts' : PostsValue) (outcome : Outcome) (place : ℕ) (t : Transfer) (e : Entry) : Type 0 where
  left : IsPutLeft s after own.posts t outcome memory.memory e
  posts : posts' ≡ recorded own.posts (posts_put own.posts.posts t.queue t.target outcome) place (put_of t outcome)
  memory_is : memory' ≡ record memory { memory = memory_left memory.memory e outcome }

ensured : (s after : State) (outcome result : Outcome) (own : Node) (memory memory' : MemoryValue) (posts' : PostsValue) (place : ℕ) (t : Transfer) (e : Entry) → IsPutMade s after own.posts t outcome memory.memory e
    → IsPutEnsured own memory memory' posts' result place t → IsEnsured s after own memory memory' posts' outcome place t e
ensured s after outcome result own memory memory' posts' place t e made code =
    let next = front_carried_of (lanes_of own.posts) t.queue t.target in
    let ends = if-there next e (λ (e : Entry). result ≡ put_outcome memory.memory e.kind) made.next code.ends in
    let same : result ≡ outcome = ends ∙ sym made.ends in
    record {
      left = made.left (if-there next e (λ (e : Entry). head_of (lanes_of own.posts) t.queue t.target ≡ Some e) made.next code.head);
      posts = subst (λ (o : Outcome). posts' ≡ recorded own.posts (posts_put own.posts.posts t.queue t.target o) place (put_of t o)) same code.posts;
      memory_is = subst (λ (o : Outcome). memory' ≡ record memory { memory = memory_left memory.memory e o }) same
          (if-there next e (λ (e : Entry). memory' ≡ record memory { memory = memory_left memory.memory e result }) made.next code.memory_is);
    }

pub put-alone : (s after : State) (outcome result : Outcome) (own : Node) (posts' : PostsValue) (memory' : MemoryValue) (group : Option GroupNode) (place : ℕ) (t : Transfer) → IsStepOn s after (put_of t outcome) own None group → IsFirstCarried own.posts t
    → IsPutEnsured own own.memory memory' posts' result place t
    → IsLeft s after (put_of t outcome) place own (record own { posts = posts'; memory = memory' }) None None group
put-alone s after outcome result own posts' memory' group place t w f code =
    let e = (entry-of own.posts t f).0 in
    let none = peer-none s t.origin (footprint_peer (event_footprint s.limits own.posts.posts (put_of t outcome))) w.lends.peer_node in
    let rank = put-none s.limits.ranks t.origin t.target e.kind (found s after outcome own None group t w f).ranked (sym (put-peer s after outcome own None group t w f) ∙ none) in
    let is = ensured s after outcome result own own.memory memory' posts' place t e (put-made s after outcome own None group t w f) code in
    let posts = counted (posts_put own.posts.posts t.queue t.target outcome) in
    let memory = memory_left own.memory.memory e outcome in
    let leaves : after ≡ record s { posts = slice_set s.posts t.origin posts; memories = slice_set s.memories t.origin memory } =
    is.left.leaves ∙ ap (λ (k : ℕ). record s { posts = slice_set s.posts t.origin posts; memories = slice_set s.memories k memory }) rank in
    rw (is.posts, is.memory_is) record {
      lends = record {
        own_node = record {
          posts = record {
            limits = w.lends.own_node.posts.limits ∙ sym (ap (λ (x : State). x.limits) leaves);
            me = w.lends.own_node.posts.me;
            posts = ap (λ (x : State). slice_get x.posts t.origin) leaves ∙ slice_get-set_same s.posts t.origin own.posts.posts posts w.lends.own_node.posts.posts;
          };
          memory = record {
            capacity = w.lends.own_node.memory.capacity ∙ sym (ap (λ (x : State). x.limits.inbox) leaves);
            memory = ap (λ (x : State). slice_get x.memories t.origin) leaves ∙ slice_get-set_same s.memories t.origin own.memory.memory memory w.lends.own_node.memory.memory;
          };
        };
        peer_node = subst (λ (o : Option ℕ). IsPeer after t.origin o None) (sym none) tt;
        group_node = group-stays s after (footprint_group (event_footprint s.limits own.posts.posts (put_of t outcome))) group (ap (λ (x : State). x.groups) leaves) w.lends.group_node;
      };
      journal = refl;
      peer_journal = refl;
    }

pub put-between : (s after : State) (outcome result : Outcome) (own peer : Node) (posts' : PostsValue) (memory' : MemoryValue) (group : Option GroupNode) (place : ℕ) (t : Transfer) → IsStepOn s after (put_of t outcome) own (Some peer) group → IsFirstCarried own.posts t
    → IsPutEnsured own peer.memory memory' posts' result place t
    → IsLeft s after (put_of t outcome) place own (record own { posts = posts' }) (Some peer) (Some (record peer { memory = memory' })) group
put-between s after outcome result own peer posts' memory' group place t w f code =
    let e = (entry-of own.posts t f).0 in
    let theirs = peer-some s t.origin (footprint_peer (event_footprint s.limits own.posts.posts (put_of t outcome))) peer w.lends.peer_node in
    let node = theirs.2.node in
    let rank = put-some s.limits.ranks t.origin t.target theirs.0 e.kind (sym (put-peer s after outcome own (Some peer) group t w f) ∙ theirs.1) in
    let is = ensured s after outcome result own peer.memory memory' posts' place t e (put-made s after outcome own (Some peer) group t w f) code in
    let posts = counted (posts_put own.posts.posts t.queue t.target outcome) in
    let memory = memory_left peer.memory.memory e outcome in
    let leaves : after ≡ record s { posts = slice_set s.posts t.origin posts; memories = slice_set s.memories theirs.0 memory } =
    is.left.leaves ∙ ap (λ (k : ℕ). record s { posts = slice_set s.posts t.origin posts; memories = slice_set s.memories k memory }) rank in
    rw (is.posts, is.memory_is) record {
      lends = record {
        own_node = record {
          posts = record {
            limits = w.lends.own_node.posts.limits ∙ sym (ap (λ (x : State). x.limits) leaves);
            me = w.lends.own_node.posts.me;
            posts = ap (λ (x : State). slice_get x.posts t.origin) leaves ∙ slice_get-set_same s.posts t.origin own.posts.posts posts w.lends.own_node.posts.posts;
          };
          memory = record {
            capacity = w.lends.own_node.memory.capacity ∙ sym (ap (λ (x : State). x.limits.inbox) leaves);
            memory = ap (λ (x : State). slice_get x.memories t.origin) leaves
                ∙ slice_get-set_other s.memories theirs.0 t.origin memory (λ e. apart-not theirs.0 t.origin theirs.2.apart (sym e)) ∙ w.lends.own_node.memory.memory;
          };
        };
        peer_node = subst (λ (o : Option ℕ). IsPeer after t.origin o (Some (record peer { memory = record peer.memory { memory = memory } }))) (sym theirs.1) (record {
          apart = theirs.2.apart;
          node = record {
            posts = record {
              limits = node.posts.limits ∙ sym (ap (λ (x : State). x.limits) leaves);
              me = node.posts.me;
              posts = ap (λ (x : State). slice_get x.posts theirs.0) leaves ∙ slice_get-set_other s.posts t.origin theirs.0 posts (λ e. apart-not theirs.0 t.origin theirs.2.apart e) ∙ node.posts.posts;
            };
            memory = record {
              capacity = node.memory.capacity ∙ sym (ap (λ (x : State). x.limits.inbox) leaves);
              memory = ap (λ (x : State). slice_get x.memories theirs.0) leaves ∙ slice_get-set_same s.memories theirs.0 peer.memory.memory memory node.memory.memory;
            };
          };
        });
        group_node = group-stays s after (footprint_group (event_footprint s.limits own.posts.posts (put_of t outcome))) group (ap (λ (x : State). x.groups) leaves) w.lends.group_node;
      };
      journal = refl;
      peer_journal = refl;
    }

-- how it ends
pub put-ends : (s after : State) (outcome : Outcome) (own : Node) (peer : Option Node) (group : Option GroupNode) (t : Transfer) (e : Entry) → IsStepOn s after (put_of t outcome) own peer group → IsFirstCarried own.posts t
    → front_carried_of (lanes_of own.posts) t.queue t.target ≡ Some e → put_outcome (lent_memory own peer) e.kind ≡ outcome
put-ends s after outcome own peer group t e w f next =
    let at = put-made s after outcome own peer group t w f in
    let same : ◌≡◌ {A = Option Entry} (Some (entry-of own.posts t f).0) (Some e) = sym at.next ∙ next in
    let entry : (entry-of own.posts t f).0 ≡ e = cc in
    ap (λ (x : Entry). put_outcome (lent_memory own peer) x.kind) (sym entry) ∙ sym at.ends

-- no group is lent for it
pub put-ungrouped : (s after : State) (outcome : Outcome) (own : Node) (peer : Option Node) (group : Option GroupNode) (t : Transfer) → IsStepOn s after (put_of t outcome) own peer group → group ≡ None
put-ungrouped s after outcome own peer group t w =
    group-none s (footprint_group (event_footprint s.limits own.posts.posts (put_of t outcome))) group
    (put-no_group s.limits.ranks t.origin t.target (entry_in own.posts.posts t.queue t.target t.number)) w.lends.group_node

pub put-single : (own : Node) (peer : Option Node) (group : Option GroupNode) (t : Transfer) → MayPut own peer group t → MayPut own peer None t
put-single own peer group t (s, after, outcome, w, f) = (s, after, outcome, subst (λ (g : Option GroupNode). IsStepOn s after (put_of t outcome) own peer g) (put-ungrouped s after outcome own peer group t w) w, f)

pub put-grouped : (s after : State) (outcome : Outcome) (own own' : Node) (peer peer' : Option Node) (group : Option GroupNode) (place : ℕ) (t : Transfer) → IsStepOn s after (put_of t outcome) own peer group
    → (IsStepOn s after (put_of t outcome) own peer None → IsLeft s after (put_of t outcome) place own own' peer peer' None) → IsLeft s after (put_of t outcome) place own own' peer peer' group
put-grouped s after outcome own own' peer peer' group place t w left =
    let none = put-ungrouped s after outcome own peer group t w in
    subst (λ (g : Option GroupNode). IsLeft s after (put_of t outcome) place own own' peer peer' g) (sym none) (left (subst (λ (g : Option GroupNode). IsStepOn s after (put_of t outcome) own peer g) none w))
