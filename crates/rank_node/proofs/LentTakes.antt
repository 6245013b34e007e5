-- Nodes that are lent stand for the state after a take as they stood for the one before.
use Rattle.std.proofs.Common.{◌≡◌, ℕ, Option, None, Some, refl, sym, ap, ◌∙◌, subst}
use Rattle.std.specs.List.{slice_get}
use Rattle.std.specs.Option.{IfSome}
use Rattle.gaspi_types.specs.Footprints.{take_footprint}
use Rattle.gaspi_types.specs.declared.entries.Entry.{Entry}
use Rattle.gaspi_types.specs.declared.events.Outcome.{Outcome}
use Rattle.gaspi_types.specs.declared.events.Transfer.{Transfer}
use Rattle.gaspi_model.specs.Changes.{take_rank}
use Rattle.gaspi_model.specs.Posting.{counted}
use Rattle.gaspi_model.specs.Step.{event_footprint}
use Rattle.gaspi_model.specs.Transfers.{entry_in, source_bytes, take_outcome}
use Rattle.gaspi_model.specs.declared.states.State.{State}
use Rattle.post_queue.specs.LanesStates.{front_posted_of}
use Rattle.post_queue.specs.Places.{posted_position, first_posted}
use Rattle.rank_node.specs.Lending.{IsStepOn, IsLeft, footprint_peer, footprint_group}
use Rattle.rank_node.specs.TransferSteps.{chosen_in, IsFirstPosted, MayTake, lent_memory}
use Rattle.rank_node.specs.Transfers.{MayTakeFrom, lanes_of, take_of, posts_taken, recorded}
use Rattle.rank_node.specs.Values.{PostsValue}
use Rattle.rank_node.specs.declared.nodes.Node.{Node}
use Rattle.rank_node.specs.declared.nodes.GroupNode.{GroupNode}
use Rattle.gaspi_types.proofs.Items.{slice_get-set_same}
use Rattle.gaspi_model.proofs.Made.{take-footprint}
use Rattle.gaspi_model.proofs.OnPostsAndMemory.{sound-take}
use Rattle.rank_node.proofs.LentParts.{IsFoundAs, found-as, footprint-as, peer-some, peer-none, peer-stays, take-some, take-none, take-no_group, group-none, group-stays}
use Rattle.rank_node.proofs.NextEntries.{if-there, some-and}
use Rattle.rank_node.proofs.Takes.{IsTakeLeft, take-node}

-- the entry of the take
pub entry-of : (p : PostsValue) (t : Transfer) → IsFirstPosted p t → (e : Entry) × (chosen_in first_posted p t ≡ Some e) × (e.number ≡ t.number)
entry-of p t f = some-and (chosen_in first_posted p t) (λ (e : Entry). e.number ≡ t.number) f

found : (s after : State) (outcome : Outcome) (own : Node) (peer : Option Node) (group : Option GroupNode) (t : Transfer) → IsStepOn s after (take_of t outcome) own peer group → (f : IsFirstPosted own.posts t) → IsFoundAs s own.posts t (entry-of own.posts t f).0
found s after outcome own peer group t w f =
    let made = sound-take s after t.origin t.queue t.target t.number outcome w.sound w.is_step in
    let e = entry-of own.posts t f in
    found-as s own.posts t made.0 made.3 posted_position e.0 w.sound w.lends.own_node.posts made.4.posts_there made.4.is.is e.1 e.2

take-peer : (s after : State) (outcome : Outcome) (own : Node) (peer : Option Node) (group : Option GroupNode) (t : Transfer) (w : IsStepOn s after (take_of t outcome) own peer group) (f : IsFirstPosted own.posts t)
    → footprint_peer (event_footprint s.limits own.posts.posts (take_of t outcome)) ≡ footprint_peer (take-footprint s.limits.ranks t.origin t.target (entry-of own.posts t f).0.kind)
take-peer s after outcome own peer group t w f = ap footprint_peer (footprint-as s own.posts t (entry-of own.posts t f).0 (found s after outcome own peer group t w f) take_footprint)

take-memory : (s after : State) (outcome : Outcome) (own : Node) (peer : Option Node) (group : Option GroupNode) (t : Transfer) (w : IsStepOn s after (take_of t outcome) own peer group) (f : IsFirstPosted own.posts t)
    → slice_get s.memories (take_rank t.origin t.target (entry-of own.posts t f).0.kind) ≡ Some (lent_memory own peer)
take-memory s after outcome own None group t w f =
    let none = sym (take-peer s after outcome own None group t w f) ∙ peer-none s t.origin (footprint_peer (event_footprint s.limits own.posts.posts (take_of t outcome))) w.lends.peer_node in
    let rank = take-none s.limits.ranks t.origin t.target (entry-of own.posts t f).0.kind (found s after outcome own None group t w f).ranked none in
    ap (slice_get s.memories) rank ∙ w.lends.own_node.memory.memory
take-memory s after outcome own (Some peer) group t w f =
    let theirs = peer-some s t.origin (footprint_peer (event_footprint s.limits own.posts.posts (take_of t outcome))) peer w.lends.peer_node in
    let rank = take-some s.limits.ranks t.origin t.target theirs.0 (entry-of own.posts t f).0.kind (sym (take-peer s after outcome own (Some peer) group t w f) ∙ theirs.1) in
    ap (slice_get s.memories) rank ∙ theirs.2.node.memory.memory

pub take-made : (s after : State) (outcome : Outcome) (own : Node) (peer : Option Node) (group : Option GroupNode) (t : Transfer) → IsStepOn s after (take_of t outcome) own peer group → (f : IsFirstPosted own.posts t)
    → IsTakeLeft s after own.posts t outcome (lent_memory own peer) (entry-of own.posts t f).0
take-made s after outcome own peer group t w f =
    let e = entry-of own.posts t f in
    take-node s after own.posts t outcome (lent_memory own peer) e.0 w.sound w.lends.own_node.posts e.1 e.2 (take-memory s after outcome own peer group t w f) w.is_step

pub take-can : (own : Node) (peer : Option Node) (group : Option GroupNode) (t : Transfer) → MayTake own peer group t → MayTakeFrom own.posts (lent_memory own peer) t
take-can own peer group t (s, after, outcome, w, f) = (take-made s after outcome own peer group t w f).can

-- the posts of the origin after it
pub take-left : (s after : State) (outcome : Outcome) (own : Node) (posts' : PostsValue) (peer : Option Node) (group : Option GroupNode) (place : ℕ) (t : Transfer) → IsStepOn s after (take_of t outcome) own peer group → IsFirstPosted own.posts t
    → IfSome (front_posted_of (lanes_of own.posts) t.queue t.target) (λ (e : Entry).
    posts' ≡ recorded own.posts (posts_taken own.posts.posts t.queue t.target (source_bytes (lent_memory own peer) e.kind) (take_outcome (lent_memory own peer) e.kind)) place (take_of t (take_outcome (lent_memory own peer) e.kind)))
    → IsLeft s after (take_of t outcome) place own (record own { posts = posts' }) peer peer group
take-left s after outcome own posts' peer group place t w f new =
    let at = take-made s after outcome own peer group t w f in
    let e = (entry-of own.posts t f).0 in
    let source = lent_memory own peer in
    let posts = counted (posts_taken own.posts.posts t.queue t.target (source_bytes source e.kind) (take_outcome source e.kind)) in
    let is = if-there (front_posted_of (lanes_of own.posts) t.queue t.target) e
    (λ (e : Entry). posts' ≡ recorded own.posts (posts_taken own.posts.posts t.queue t.target (source_bytes source e.kind) (take_outcome source e.kind)) place (take_of t (take_outcome source e.kind))) at.next new in
    rw is record {
      lends = record {
        own_node = record {
          posts = record {
            limits = w.lends.own_node.posts.limits ∙ sym (ap (λ (x : State). x.limits) at.leaves);
            me = w.lends.own_node.posts.me;
            posts = ap (λ (x : State). slice_get x.posts t.origin) at.leaves ∙ slice_get-set_same s.posts t.origin own.posts.posts posts w.lends.own_node.posts.posts;
          };
          memory = record {
            capacity = w.lends.own_node.memory.capacity ∙ sym (ap (λ (x : State). x.limits.inbox) at.leaves);
            memory = ap (λ (x : State). slice_get x.memories t.origin) at.leaves ∙ w.lends.own_node.memory.memory;
          };
        };
        peer_node = peer-stays s after t.origin posts (footprint_peer (event_footprint s.limits own.posts.posts (take_of t outcome))) peer at.leaves w.lends.peer_node;
        group_node = group-stays s after (footprint_group (event_footprint s.limits own.posts.posts (take_of t outcome))) group (ap (λ (x : State). x.groups) at.leaves) w.lends.group_node;
      };
      journal = rw (← at.ends) refl;
      peer_journal = refl;
    }

-- how it ends
pub take-ends : (s after : State) (outcome : Outcome) (own : Node) (peer : Option Node) (group : Option GroupNode) (t : Transfer) (e : Entry) → IsStepOn s after (take_of t outcome) own peer group → IsFirstPosted own.posts t
    → front_posted_of (lanes_of own.posts) t.queue t.target ≡ Some e → take_outcome (lent_memory own peer) e.kind ≡ outcome
take-ends s after outcome own peer group t e w f next =
    let at = take-made s after outcome own peer group t w f in
    let same : ◌≡◌ {A = Option Entry} (Some (entry-of own.posts t f).0) (Some e) = sym at.next ∙ next in
    let entry : (entry-of own.posts t f).0 ≡ e = cc in
    ap (λ (x : Entry). take_outcome (lent_memory own peer) x.kind) (sym entry) ∙ sym at.ends

-- no group is lent for it
pub take-ungrouped : (s after : State) (outcome : Outcome) (own : Node) (peer : Option Node) (group : Option GroupNode) (t : Transfer) → IsStepOn s after (take_of t outcome) own peer group → group ≡ None
take-ungrouped s after outcome own peer group t w =
    group-none s (footprint_group (event_footprint s.limits own.posts.posts (take_of t outcome))) group
    (take-no_group s.limits.ranks t.origin t.target (entry_in own.posts.posts t.queue t.target t.number)) w.lends.group_node

pub take-single : (own : Node) (peer : Option Node) (group : Option GroupNode) (t : Transfer) → MayTake own peer group t → MayTake own peer None t
take-single own peer group t (s, after, outcome, w, f) = (s, after, outcome, subst (λ (g : Option GroupNode). IsStepOn s after (take_of t outcome) own peer g) (take-ungrouped s after outcome own peer group t w) w, f)

pub take-grouped : (s after : State) (outcome : Outcome) (own own' : Node) (peer peer' : Option Node) (group : Option GroupNode) (place : ℕ) (t : Transfer) → IsStepOn s after (take_of t outcome) own peer group
    → (IsStepOn s after (take_of t outcome) own peer None → IsLeft s after (take_of t outcome) place own own' peer peer' None) → IsLeft s after (take_of t outcome) place own own' peer peer' group
take-grouped s after outcome own own' peer peer' group place t w left =
    let none = take-ungrouped s after outcome own peer group t w in
    subst (λ (g : Option GroupNode). IsLeft s after (take_of t outcome) place own own' peer peer' g) (sym none) (left (subst (λ (g : Option GroupNode). IsStepOn s after (take_of t outcome) own peer g) none w))
