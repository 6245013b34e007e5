-- The nodes that are lent for a collective or a join: its rank's, the group's where it is there, and no other.
use Rattle.std.proofs.Common.{◌≡◌, ℕ, ◌<◌, ◌≤◌, Bool, true, false, nat_lt, Option, None, Some, refl, sym, ◌∙◌, subst, inl, inr, if◌then◌else◌}
use Rattle.std.proofs.lemmas.Bool.{ltb-true, ltb-false}
use Rattle.gaspi_types.specs.CallRows.{row_of}
use Rattle.gaspi_types.specs.Footprints.{footprint_of}
use Rattle.gaspi_types.specs.declared.collectives.Coll.{Coll}
use Rattle.gaspi_types.specs.declared.collectives.Coll.TheVariants as colls
use Rattle.gaspi_types.specs.declared.groups.Args.{Args}
use Rattle.gaspi_types.specs.declared.footprints.Footprint.{Footprint}
use Rattle.gaspi_types.specs.declared.footprints.Footprint.TheVariants.{Alone, Group, GroupAndMemory}
use Rattle.gaspi_types.specs.declared.footprints.DeclaredFootprint.{DeclaredFootprint}
use Rattle.gaspi_model.specs.CollectiveCalls.{joining_call}
use Rattle.gaspi_model.specs.declared.states.State.{State}
use Rattle.gaspi_model.proofs.GroupSteps.{IsOnGroup}
use Rattle.rank_node.specs.Lending.{IsNodeOf, IsGroupOf, IsPeer, IsGroupAt, Lends, footprint_peer, footprint_group}
use Rattle.rank_node.specs.declared.nodes.GroupNode.{GroupNode}
use Rattle.rank_node.specs.declared.nodes.Node.{Node}

-- the footprint of a collective on a group with a number below 8, and over it
pub record IsGroupFootprint (footprint : Footprint) (id : ℕ) : Type 0 where
  pub peer : footprint_peer footprint ≡ None
  pub group : footprint_group footprint ≡ Some id

pub record IsOwnFootprint (footprint : Footprint) : Type 0 where
  pub peer : footprint_peer footprint ≡ None
  pub group : footprint_group footprint ≡ None

within-8 : (b : Bool) (footprint : Footprint) (id : ℕ) → b ≡ true → IsGroupFootprint footprint id → IsGroupFootprint (if b then footprint else Alone) id
within-8 true footprint id less is = is
within-8 false footprint id less is = absurd (let no : ⊥ = cc in no)

past-8 : (b : Bool) (footprint : Footprint) → b ≡ false → IsOwnFootprint (if b then footprint else Alone)
past-8 true footprint over = absurd (let no : ⊥ = cc in no)
past-8 false footprint over = record { peer = refl; group = refl }

on-group : (ranks me id : ℕ) (declaration : DeclaredFootprint) → IsOnGroup declaration id → nat_lt id 8 ≡ true → IsGroupFootprint (footprint_of ranks me declaration) id
on-group ranks me id declaration (inl is) less = rw is (within-8 (nat_lt id 8) (Group id) id less (record { peer = refl; group = refl }))
on-group ranks me id declaration (inr is) less = rw is (within-8 (nat_lt id 8) (GroupAndMemory id) id less (record { peer = refl; group = refl }))

off-group : (ranks me id : ℕ) (declaration : DeclaredFootprint) → IsOnGroup declaration id → nat_lt id 8 ≡ false → IsOwnFootprint (footprint_of ranks me declaration)
off-group ranks me id declaration (inl is) over = rw is (past-8 (nat_lt id 8) (Group id) over)
off-group ranks me id declaration (inr is) over = rw is (past-8 (nat_lt id 8) (GroupAndMemory id) over)

-- a group's node is lent
pub record LendsGroup (s : State) (me id : ℕ) (declaration : DeclaredFootprint) (own : Node) (peer : Option Node) (n : GroupNode) : Type 0 where
  pub within : id < 8
  pub footprint : IsGroupFootprint (footprint_of s.limits.ranks me declaration) id
  pub own_node : IsNodeOf s me own
  pub no_peer : IsPeer s me None peer
  pub group_node : IsGroupOf s id n

pub lends-group : (s : State) (me id : ℕ) (declaration : DeclaredFootprint) (own : Node) (peer : Option Node) (n : GroupNode) → IsOnGroup declaration id → Lends s me (footprint_of s.limits.ranks me declaration) own peer (Some n)
    → LendsGroup s me id declaration own peer n
lends-group s me id declaration own peer n on lends = go (nat_lt id 8) refl
  where
    go : (b : Bool) → nat_lt id 8 ≡ b → LendsGroup s me id declaration own peer n
    go true less =
        let is = on-group s.limits.ranks me id declaration on less in
        record {
          within = ltb-true id 8 less;
          footprint = is;
          own_node = lends.own_node;
          no_peer = subst (λ (o : Option ℕ). IsPeer s me o peer) is.peer lends.peer_node;
          group_node = subst (λ (o : Option ℕ). IsGroupAt s o (Some n)) is.group lends.group_node;
        }
    go false over = absurd (subst (λ (o : Option ℕ). IsGroupAt s o (Some n)) (off-group s.limits.ranks me id declaration on over).group lends.group_node)

-- none is
pub record LendsNoGroup (s : State) (me id : ℕ) (declaration : DeclaredFootprint) (own : Node) (peer : Option Node) : Type 0 where
  pub over : 8 ≤ id
  pub footprint : IsOwnFootprint (footprint_of s.limits.ranks me declaration)
  pub own_node : IsNodeOf s me own
  pub no_peer : IsPeer s me None peer

pub lends-no-group : (s : State) (me id : ℕ) (declaration : DeclaredFootprint) (own : Node) (peer : Option Node) → IsOnGroup declaration id → Lends s me (footprint_of s.limits.ranks me declaration) own peer None
    → LendsNoGroup s me id declaration own peer
lends-no-group s me id declaration own peer on lends = go (nat_lt id 8) refl
  where
    go : (b : Bool) → nat_lt id 8 ≡ b → LendsNoGroup s me id declaration own peer
    go true less = absurd (subst (λ (o : Option ℕ). IsGroupAt s o None) (on-group s.limits.ranks me id declaration on less).group lends.group_node)
    go false over =
        let is = off-group s.limits.ranks me id declaration on over in
        record {
          over = ltb-false id 8 over;
          footprint = is;
          own_node = lends.own_node;
          no_peer = subst (λ (o : Option ℕ). IsPeer s me o peer) is.peer lends.peer_node;
        }

-- where no rank's node but the own is lent, none is of any state
no-peer : (s t : State) (me : ℕ) (peer : Option Node) → IsPeer s me None peer → IsPeer t me None peer
no-peer s t me None is = tt
no-peer s t me (Some n) is = absurd is

-- the nodes after a step are lent of the state after it
pub group-lends : (s t : State) (me id : ℕ) (footprint : Footprint) (own : Node) (peer : Option Node) (n : GroupNode) → IsGroupFootprint footprint id → IsPeer s me None peer
    → IsNodeOf t me own → IsGroupOf t id n → Lends t me footprint own peer (Some n)
group-lends s t me id footprint own peer n is none own_is group_is = record {
  own_node = own_is;
  peer_node = subst (λ (o : Option ℕ). IsPeer t me o peer) (sym is.peer) (no-peer s t me peer none);
  group_node = subst (λ (o : Option ℕ). IsGroupAt t o (Some n)) (sym is.group) group_is;
}

pub no-group-lends : (s t : State) (me : ℕ) (footprint : Footprint) (own : Node) (peer : Option Node) → IsOwnFootprint footprint → IsPeer s me None peer → IsNodeOf t me own → Lends t me footprint own peer None
no-group-lends s t me footprint own peer is none own_is = record {
  own_node = own_is;
  peer_node = subst (λ (o : Option ℕ). IsPeer t me o peer) (sym is.peer) (no-peer s t me peer none);
  group_node = subst (λ (o : Option ℕ). IsGroupAt t o None) (sym is.group) tt;
}

-- a collective that joins is on its group
pub joining-named : (id : ℕ) (args : Args) → (row_of (joining_call id args)).group ≡ Some id
joining-named id args = go args.coll
  where
    go : (coll : Coll) → (row_of (joining_call id (record { coll = coll; values = args.values }))).group ≡ Some id
    go colls.Barrier = refl
    go (colls.Allreduce op t n) = refl
    go (colls.Create seg size) = refl
    go (colls.Commit mask) = refl

-- what stands at one place is one thing
pub one-there : {A : Type 0} (o : Option A) (x y : A) → o ≡ Some x → o ≡ Some y → x ≡ y
one-there o x y first second = (let same : Some x ≡ Some y = sym first ∙ second in cc)
