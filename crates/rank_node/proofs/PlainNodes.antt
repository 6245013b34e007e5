-- What a look finds on nodes that are lent is what the machine answers.
use Rattle.std.proofs.Common.{◌≡◌, ℕ, ◌≤◌, true, length, Option, None, Some, sym, ap, ◌∙◌, arith}
use Rattle.std.proofs.lemmas.Bool.Decides.{nat_tests}
use Rattle.gaspi_types.specs.World.{are_limits}
use Rattle.gaspi_types.specs.declared.calls.Call.{Call}
use Rattle.gaspi_types.specs.declared.shapes.Limits.{Limits}
use Rattle.gaspi_types.specs.declared.footprints.Footprint.{Footprint}
use Rattle.gaspi_model.specs.Sound.{IsSound}
use Rattle.gaspi_model.specs.declared.states.Posts.{Posts}
use Rattle.gaspi_model.specs.declared.states.State.{State}
use Rattle.rank_node.specs.Lending.{Lends, IsNodeOf, IsPeer, AreLentBetween, footprint_peer, call_footprint}
use Rattle.rank_node.specs.Values.{PostsValue, MemoryValue}
use Rattle.rank_node.specs.declared.nodes.Node.{Node}
use Rattle.rank_node.specs.declared.nodes.GroupNode.{GroupNode}

-- the memory on which a call looks: a peer's, where there is one
abbrev pub on_memory : Node → Option Node → MemoryValue
on_memory own None = own.memory
on_memory own (Some peer) = peer.memory

-- what the look asks of the nodes
pub record LooksAt (p : PostsValue) (m : MemoryValue) : Type 0 where
  pub corrupt : length p.posts.corrupt ≤ 32
  pub capacity : m.capacity ≡ p.limits.inbox
  pub notes : p.limits.notes ≤ 1024

peer-capacity : (s : State) (me : ℕ) (r : Option ℕ) (own : Node) (peer : Option Node) → IsNodeOf s me own → IsPeer s me r peer → (on_memory own peer).capacity ≡ s.limits.inbox
peer-capacity s me r own None mine theirs = mine.memory.capacity
peer-capacity s me None own (Some p) mine theirs = absurd theirs
peer-capacity s me (Some rank) own (Some p) mine theirs = theirs.node.memory.capacity

pub looks-at : (s : State) (me : ℕ) (footprint : Footprint) (own : Node) (peer : Option Node) (group : Option GroupNode) → IsSound s → Lends s me footprint own peer group → LooksAt own.posts (on_memory own peer)
looks-at s me footprint own peer group sound lends =
    let mine = lends.own_node.posts in
    let tables = (sound.posts me own.posts.posts mine.posts).tables in
    let corrupt = tables.corrupt in
    record {
      corrupt = few s.limits sound.limits own.posts.posts corrupt;
      capacity = peer-capacity s me (footprint_peer footprint) own peer lends.own_node lends.peer_node ∙ sym (ap (λ (l : Limits). l.inbox) mine.limits);
      notes = notes s.limits own.posts.limits sound.limits mine.limits;
    }
  where
    few : (l : Limits) → are_limits l ≡ true → (posts : Posts) → length posts.corrupt ≡ l.ranks → length posts.corrupt ≤ 32
    few l within posts count = grind (arith, nat_tests)

    notes : (l k : Limits) → are_limits l ≡ true → k ≡ l → k.notes ≤ 1024
    notes l k within same = let count = ap (λ (x : Limits). x.notes) same in grind (arith, nat_tests)

pub looks-between : (call : Call) (own : Node) (peer : Option Node) → AreLentBetween call own peer → LooksAt own.posts (on_memory own peer)
looks-between call own peer lent = looks-at lent.1.state own.posts.me (call_footprint lent.1.state.limits own.posts.me call) own peer lent.0 lent.1.sound lent.1.lends
