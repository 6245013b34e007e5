-- Steps on what is lent, by the reference to the group's node.
use Rattle.std.proofs.Common.{◌≡◌, ℕ, Option, None, Some, refl, sym, ap, ◌∙◌, subst, arith}
use Rattle.std.specs.Borrow.{MutBor}
use Rattle.gaspi_types.specs.CallRows.{row_of}
use Rattle.gaspi_types.specs.Footprints.{footprint_of}
use Rattle.gaspi_types.specs.declared.calls.Call.{Call}
use Rattle.gaspi_types.specs.declared.collectives.Coll.{Coll}
use Rattle.gaspi_types.specs.declared.collectives.Coll.TheVariants as colls
use Rattle.gaspi_types.specs.declared.events.Event.{Event}
use Rattle.gaspi_types.specs.declared.events.Event.TheVariants.{Joined}
use Rattle.gaspi_types.specs.declared.groups.Args.{Args}
use Rattle.gaspi_types.specs.declared.shapes.CallerId.{CallerId}
use Rattle.gaspi_types.specs.declared.shapes.Limits.{Limits}
use Rattle.gaspi_types.specs.declared.footprints.DeclaredFootprint.{DeclaredFootprint}
use Rattle.gaspi_model.specs.CollectiveCalls.{joining_call}
use Rattle.gaspi_model.specs.Step.{join_footprint}
use Rattle.gaspi_model.specs.declared.states.State.{State}
use Rattle.gaspi_model.proofs.GroupEffects.{join-step}
use Rattle.gaspi_model.proofs.GroupSteps.{join-footprint}
use Rattle.gaspi_model.proofs.Sound.GroupEvents.{steps-joined}
use Rattle.rank_node.specs.CollectiveSteps.{MayStepOn}
use Rattle.rank_node.specs.Lending.{Lends, LendsFor, AreLentFor, IsStepOn, MayStep, IsLeft, behind}
use Rattle.rank_node.specs.declared.nodes.GroupNode.{GroupNode}
use Rattle.rank_node.specs.declared.nodes.Node.{Node}
use Rattle.rank_node.proofs.LentGroups.{lends-no-group}

pub on-there : (s t : State) (e : Event) (own : Node) (peer : Option Node) (o : Option (MutBor GroupNode)) (r : MutBor GroupNode) → o ≡ Some r → IsStepOn s t e own peer (behind o) → IsStepOn s t e own peer (Some r.now)
on-there s t e own peer o r is on = subst (λ (x : Option (MutBor GroupNode)). IsStepOn s t e own peer (behind x)) is on

pub on-missing : (s t : State) (e : Event) (own : Node) (peer : Option Node) (o : Option (MutBor GroupNode)) → o ≡ None → IsStepOn s t e own peer (behind o) → IsStepOn s t e own peer None
on-missing s t e own peer o is on = subst (λ (x : Option (MutBor GroupNode)). IsStepOn s t e own peer (behind x)) is on

pub step-there : (e : Event) (own : Node) (peer : Option Node) (o : Option (MutBor GroupNode)) (r : MutBor GroupNode) → o ≡ Some r → MayStep e own peer (behind o) → MayStepOn e own (Some r.now)
step-there e own peer o r is may = (may.0, may.1, peer, on-there may.0 may.1 e own peer o r is may.2)

pub step-missing : (e : Event) (own : Node) (peer : Option Node) (o : Option (MutBor GroupNode)) → o ≡ None → MayStep e own peer (behind o) → MayStepOn e own None
step-missing e own peer o is may = (may.0, may.1, peer, on-missing may.0 may.1 e own peer o is may.2)

-- a join is on a group that is there
pub join-there : (c : CallerId) (id : ℕ) (args : Args) (own : Node) → MayStepOn (Joined c id args) own None → ⊥
join-there c id args own may =
    let on = may.3 in
    let over = (lends-no-group may.0 c.rank id (join_footprint id args.coll) own may.2 (join-footprint id args.coll) on.lends).over in
    let within = (join-step may.0 may.1 c id args on.sound on.is_step).5.there.within in
    omega arith

-- After a join the nodes are lent for its call, of a sound state.
joining-footprint : (id : ℕ) (args : Args) → (row_of (joining_call id args)).footprint ≡ join_footprint id args.coll
joining-footprint id args = go args.coll
  where
    go : (coll : Coll) → (row_of (joining_call id (record { coll = coll; values = args.values }))).footprint ≡ join_footprint id coll
    go colls.Barrier = refl
    go (colls.Allreduce op t n) = refl
    go (colls.Create seg size) = refl
    go (colls.Commit mask) = refl

pub joined-lends : (c : CallerId) (id : ℕ) (args : Args) (place : ℕ) (s t : State) (old own : Node) (old_peer peer : Option Node) (old_group group : Option GroupNode) (call : Call)
    → IsStepOn s t (Joined c id args) old old_peer old_group → IsLeft s t (Joined c id args) place old own old_peer peer group → joining_call id args ≡ call → LendsFor t call own peer group
joined-lends c id args place s t old own old_peer peer old_group group call on left is =
    let limits : t.limits ≡ s.limits = ap (λ (x : State). x.limits) (join-step s t c id args on.sound on.is_step).5.leaves in
    let me = left.lends.own_node.posts.me in
    let declaration : join_footprint id args.coll ≡ (row_of call).footprint = sym (joining-footprint id args) ∙ ap (λ (x : Call). (row_of x).footprint) is in
    subst (λ (r : ℕ). Lends t r (footprint_of t.limits.ranks r (row_of call).footprint) own peer group) (sym me)
    (subst (λ (l : Limits). Lends t c.rank (footprint_of l.ranks c.rank (row_of call).footprint) own peer group) (sym limits)
    (subst (λ (x : DeclaredFootprint). Lends t c.rank (footprint_of s.limits.ranks c.rank x) own peer group) declaration left.lends))

pub joined-lent-for : (c : CallerId) (id : ℕ) (args : Args) (place : ℕ) (s t : State) (old own : Node) (old_peer peer : Option Node) (old_group group : Option GroupNode) (call : Call)
    → IsStepOn s t (Joined c id args) old old_peer old_group → IsLeft s t (Joined c id args) place old own old_peer peer group → joining_call id args ≡ call → AreLentFor call own peer group
joined-lent-for c id args place s t old own old_peer peer old_group group call on left is = record {
  state = t;
  sound = steps-joined s t c id args on.sound on.is_step;
  lends = joined-lends c id args place s t old own old_peer peer old_group group call on left is;
}
