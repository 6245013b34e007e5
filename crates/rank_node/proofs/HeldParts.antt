-- What is said of the nodes in boxes, said of the boxes.
use Rattle.std.proofs.Common.{◌≡◌, ◌⊎◌, inl, inr, ℕ, Box, Global, Option, None, Some, refl, sym, ap, ◌∙◌, subst}
use Rattle.gaspi_types.specs.declared.calls.Call.{Call}
use Rattle.gaspi_types.specs.declared.events.Event.{Event}
use Rattle.gaspi_types.specs.declared.events.Outcome.{Outcome}
use Rattle.gaspi_types.specs.declared.events.Transfer.{Transfer}
use Rattle.gaspi_model.specs.declared.states.State.{State}
use Rattle.rank_node.specs.Fronts.{front_outcome}
use Rattle.rank_node.specs.HeldNodes.{peer_of, group_of, IsSameKind}
use Rattle.rank_node.specs.Lending.{LendsFor, AreLentFor, IsStepOn, IsLeft}
use Rattle.rank_node.specs.TransferSteps.{lent_memory}
use Rattle.rank_node.specs.declared.held_nodes.OtherNode.{OtherNode}
use Rattle.rank_node.specs.declared.held_nodes.OtherNode.TheVariants.{Nothing, Rank, Group}
use Rattle.rank_node.specs.declared.nodes.GroupNode.{GroupNode}
use Rattle.rank_node.specs.declared.nodes.Node.{Node}

-- the other node is not a rank's, and not a group's
abbrev pub IsNoRank : OtherNode → Type 0
IsNoRank o = (o ≡ Nothing) ⊎ ((n : Box GroupNode Global) × (o ≡ Group n))

abbrev pub IsNoGroup : OtherNode → Type 0
IsNoGroup o = (o ≡ Nothing) ⊎ ((n : Box Node Global) × (o ≡ Rank n))

pub no-rank : (o : OtherNode) → IsNoRank o → peer_of o ≡ None
no-rank o (inl is) = rw is refl
no-rank o (inr (n, is)) = rw is refl

pub no-group : (o : OtherNode) → IsNoGroup o → group_of o ≡ None
no-group o (inl is) = rw is refl
no-group o (inr (n, is)) = rw is refl

pub not-rank : (o : OtherNode) → ((n : Box Node Global) → o ≡ Rank n → ⊥) → peer_of o ≡ None
not-rank Nothing not = refl
not-rank (Rank n) not = absurd (not n refl)
not-rank (Group n) not = refl

pub not-group : (o : OtherNode) → ((n : Box GroupNode Global) → o ≡ Group n → ⊥) → group_of o ≡ None
not-group Nothing not = refl
not-group (Rank n) not = refl
not-group (Group n) not = absurd (not n refl)

pub same-kind : (o : OtherNode) → IsSameKind o o
same-kind Nothing = tt
same-kind (Rank n) = tt
same-kind (Group n) = tt

-- the node in the box of a rank, and in that of a group
rank-there : (o : OtherNode) (b : Box Node Global) (n : Node) → o ≡ Rank b → n ≡ b.value → peer_of o ≡ Some n
rank-there o b n is same = ap peer_of is ∙ ap (λ (x : Node). Some x) (sym same)

group-there : (o : OtherNode) (b : Box GroupNode Global) (n : GroupNode) → o ≡ Group b → n ≡ b.value → group_of o ≡ Some n
group-there o b n is same = ap group_of is ∙ ap (λ (x : GroupNode). Some x) (sym same)

-- What a step on the nodes leaves, by the other node: none of a rank, one of a rank, none of a group, one of a group.
pub no_rank-left : (s t : State) (e : Event) (place : ℕ) (own held own' : Node) (o : OtherNode) → held ≡ own → peer_of o ≡ None
    → (IsStepOn s t e held None (group_of o) → IsLeft s t e place held own' None None (group_of o)) → IsStepOn s t e own (peer_of o) (group_of o) → IsLeft s t e place own own' (peer_of o) (peer_of o) (group_of o)
no_rank-left s t e place own held own' o same none left on =
    subst (λ (p : Option Node). IsLeft s t e place own own' p p (group_of o)) (sym none)
    (subst (λ (n : Node). IsLeft s t e place n own' None None (group_of o)) same
    (left (subst (λ (n : Node). IsStepOn s t e n None (group_of o)) (sym same) (subst (λ (p : Option Node). IsStepOn s t e own p (group_of o)) none on))))

pub rank-left : (s t : State) (e : Event) (place : ℕ) (own held own' : Node) (o : OtherNode) (b : Box Node Global) (peer peer' : Node) → held ≡ own → peer ≡ b.value → o ≡ Rank b
    → (IsStepOn s t e held (Some peer) None → IsLeft s t e place held own' (Some peer) (Some peer') None) → IsStepOn s t e own (peer_of o) (group_of o) → IsLeft s t e place own own' (peer_of o) (Some peer') None
rank-left s t e place own held own' o b peer peer' same theirs is left on =
    let there = rank-there o b peer is theirs in
    subst (λ (p : Option Node). IsLeft s t e place own own' p (Some peer') None) (sym there)
    (subst (λ (n : Node). IsLeft s t e place n own' (Some peer) (Some peer') None) same
    (left (subst (λ (n : Node). IsStepOn s t e n (Some peer) None) (sym same)
    (subst (λ (p : Option Node). IsStepOn s t e own p None) there (subst (λ (g : Option GroupNode). IsStepOn s t e own (peer_of o) g) (ap group_of is) on)))))

pub no_group-left : (s t : State) (e : Event) (place : ℕ) (own held own' : Node) (o : OtherNode) → held ≡ own → group_of o ≡ None
    → (IsStepOn s t e held (peer_of o) None → IsLeft s t e place held own' (peer_of o) (peer_of o) None) → IsStepOn s t e own (peer_of o) (group_of o) → IsLeft s t e place own own' (peer_of o) (peer_of o) (group_of o)
no_group-left s t e place own held own' o same none left on =
    subst (λ (g : Option GroupNode). IsLeft s t e place own own' (peer_of o) (peer_of o) g) (sym none)
    (subst (λ (n : Node). IsLeft s t e place n own' (peer_of o) (peer_of o) None) same
    (left (subst (λ (n : Node). IsStepOn s t e n (peer_of o) None) (sym same) (subst (λ (g : Option GroupNode). IsStepOn s t e own (peer_of o) g) none on))))

pub group-left : (s t : State) (e : Event) (place : ℕ) (own held own' : Node) (o : OtherNode) (b : Box GroupNode Global) (n n' : GroupNode) → held ≡ own → n ≡ b.value → o ≡ Group b
    → (IsStepOn s t e held None (Some n) → IsLeft s t e place held own' None None (Some n')) → IsStepOn s t e own (peer_of o) (group_of o) → IsLeft s t e place own own' (peer_of o) None (Some n')
group-left s t e place own held own' o b n n' same theirs is left on =
    let there = group-there o b n is theirs in
    subst (λ (p : Option Node). IsLeft s t e place own own' p None (Some n')) (sym (ap peer_of is))
    (subst (λ (x : Node). IsLeft s t e place x own' None None (Some n')) same
    (left (subst (λ (x : Node). IsStepOn s t e x None (Some n)) (sym same)
    (subst (λ (g : Option GroupNode). IsStepOn s t e own None g) there (subst (λ (p : Option Node). IsStepOn s t e own p (group_of o)) (ap peer_of is) on)))))

-- the nodes that are lent for a collective
pub group-lent : (s : State) (call : Call) (own held : Node) (o : OtherNode) (b : Box GroupNode Global) (n : GroupNode) → held ≡ own → n ≡ b.value → o ≡ Group b
    → LendsFor s call own (peer_of o) (group_of o) → LendsFor s call held None (Some n)
group-lent s call own held o b n same theirs is lends =
    subst (λ (x : Node). LendsFor s call x None (Some n)) (sym same)
    (subst (λ (g : Option GroupNode). LendsFor s call own None g) (group-there o b n is theirs) (subst (λ (p : Option Node). LendsFor s call own p (group_of o)) (ap peer_of is) lends))

pub no_group-lent : (call : Call) (own : Node) (o : OtherNode) → IsNoGroup o → AreLentFor call own (peer_of o) (group_of o) → AreLentFor call own (peer_of o) None
no_group-lent call own o is lent = subst (λ (g : Option GroupNode). AreLentFor call own (peer_of o) g) (no-group o is) lent

-- how a transfer ends
pub rank-outcome : (own held : Node) (o : OtherNode) (b : Box Node Global) (peer : Node) (t : Transfer) (result : Outcome) → held ≡ own → peer ≡ b.value → o ≡ Rank b
    → front_outcome held.posts peer.memory.memory t ≡ Some result → front_outcome own.posts (lent_memory own (peer_of o)) t ≡ Some result
rank-outcome own held o b peer t result same theirs is told =
    subst (λ (p : Option Node). front_outcome own.posts (lent_memory own p) t ≡ Some result) (sym (rank-there o b peer is theirs))
    (subst (λ (n : Node). front_outcome n.posts peer.memory.memory t ≡ Some result) same told)

pub no_rank-outcome : (own held kept : Node) (o : OtherNode) (t : Transfer) (result : Outcome) → held ≡ own → kept ≡ own → IsNoRank o
    → front_outcome held.posts kept.memory.memory t ≡ Some result → front_outcome own.posts (lent_memory own (peer_of o)) t ≡ Some result
no_rank-outcome own held kept o t result same mine is told =
    subst (λ (p : Option Node). front_outcome own.posts (lent_memory own p) t ≡ Some result) (sym (no-rank o is))
    (subst (λ (n : Node). front_outcome own.posts n.memory.memory t ≡ Some result) mine (subst (λ (n : Node). front_outcome n.posts kept.memory.memory t ≡ Some result) same told))
