-- Another shard is taken beside that of a rank, or given back.
use Rattle.std.proofs.Common.{◌≡◌, ◌<◌, ◌+◌, ℕ, List, [], ◌∷◌, Option, None, Some, refl, sym, ap, ◌∙◌, subst}
use Rattle.gaspi_types.specs.World.{ShapeValue}
use Rattle.gaspi_types.specs.declared.events.Event.{Event}
use Rattle.gaspi_model.specs.Parties.{party_of}
use Rattle.commit_table.specs.Calls.{Looked, ShardTaken}
use Rattle.commit_table.specs.Views.{held_at, after_take, after_miss, after_give_back}
use Rattle.commit_table.specs.declared.views.PassView.{PassView}
use Rattle.commit_table.specs.declared.views.LockRecord.{LockRecord}
use Rattle.commit_table.proofs.Lists.{held_here, held_else}
use Rattle.rank_node.specs.declared.held_nodes.OtherNode.{OtherNode}
use Rattle.rank_node.specs.declared.held_nodes.OtherNode.TheVariants as others
use Rattle.gaspi_world.specs.ShardProjections as held
use Rattle.gaspi_world.specs.Numbering.{by_ranks}
use Rattle.gaspi_world.specs.ShardMachine.{IsValueAfter}
use Rattle.gaspi_world.proofs.HeldPairs.{here, elsewhere, of-two, not-first, not-second, second-given}
use Rattle.gaspi_world.proofs.HeldShards.{looked-holds, may-give}
use Rattle.gaspi_world.specs.HeldShards.{Holds, other_value, IsOther, IsOtherShard}
use Rattle.gaspi_world.specs.Shards.{node_meaning}
use Rattle.gaspi_world.specs.WorldMachine.{world_machine}
use Rattle.gaspi_world.specs.declared.holding.HeldShards.{HeldShards}
use Rattle.gaspi_world.specs.declared.shards.WorldShard.{WorldShard}
use Rattle.gaspi_world.specs.declared.shards.WorldShard.TheVariants as shards
use Rattle.gaspi_world.proofs.TakenShards.{within-all, holds-are}

module _ {S : Type 0} (w : ShapeValue) (h : HeldShards) (v : PassView S Event) (holds : Holds w h v) (alone : h.other ≡ None) where
  -- the shard of a rank is held alone
  abbrev pub mine : WorldShard
  mine = shards.Rank h.nodes.own

  one : held.Holds (by_ranks w) w (node_meaning w) (party_of w) ((h.own, mine) ∷ []) v
  one = subst (λ (o : Option ℕ). held.Holds (by_ranks w) w (node_meaning w) (party_of w) ((h.own, mine) ∷ other_value o h.nodes.other) v) alone holds.shards

  pub free-other : (j : ℕ) → (j ≡ h.own → ⊥) → held_at v.held j ≡ None
  free-other j apart = one.others j (elsewhere [] h.own j mine apart)

  -- the other was missed
  pub still-held : (u : PassView S Event) (j : ℕ) (records : List LockRecord) → u ≡ after_miss v j records → Holds w h u
  still-held u j records is = subst (λ (k : PassView S Event). Holds w h k) (sym is) (record {
    shards = record {
      legal = holds.shards.legal;
      each = λ i x at. let was = holds.shards.each i x at in record { upto = was.upto; held = was.held; agrees = was.agrees; stands = was.stands };
      within = holds.shards.within;
      others = holds.shards.others;
      own = holds.shards.own;
    };
    fits = holds.fits;
    own = holds.own;
    apart = holds.apart;
  })

  -- it was taken, and a look made
  pub both-held : (u z : PassView S Event) (j number : ℕ) (k seen : List Event) (value : WorldShard) → (j ≡ h.own → ⊥) → j < w.limits.ranks + 8 → u ≡ after_take v j k → ShardTaken (world_machine w) v j value k → Looked (world_machine w) u number seen z
      → held.Holds (by_ranks w) w (node_meaning w) (party_of w) ((h.own, mine) ∷ (j, value) ∷ []) z
  both-held u z j number k seen value apart lt is taken look =
      let before = may-give (by_ranks w) w (node_meaning w) (party_of w) ((h.own, mine) ∷ []) v h.own mine one (here [] h.own h.own mine refl) in
      looked-holds (by_ranks w) w (node_meaning w) (party_of w) ((h.own, mine) ∷ (j, value) ∷ []) u z number seen look
      (of-two (λ i q. (g : List Event) × (held_at u.held i ≡ Some g) × IsValueAfter (by_ranks w) w (node_meaning w) i q g) h.own j mine value
      (before.0, ap (λ (y : PassView S Event). held_at y.held h.own) is ∙ (held_else v.held j h.own (Some k) (λ e. apart (sym e)) ∙ before.1), before.2)
      (k, ap (λ (y : PassView S Event). held_at y.held j) is ∙ held_here v.held j (Some k), taken.stands))
      (of-two (λ i q. i < (by_ranks w).shards) h.own j mine value (within-all w h.own holds.own) lt)
      (λ i at. ap (λ (y : PassView S Event). held_at y.held i) is ∙ (held_else v.held j i (Some k) (not-second h.own j i mine value at) ∙ free-other i (not-first ((j, value) ∷ []) h.own i mine at)))

  -- so both are held
  pub opened : (u z : PassView S Event) (j number : ℕ) (k seen : List Event) (value : WorldShard) (o : OtherNode) → IsOtherShard w h.own (Some j) → u ≡ after_take v j k → ShardTaken (world_machine w) v j value k → Looked (world_machine w) u number seen z
      → other_value (Some j) o ≡ (j, value) ∷ [] → IsOther (Some j) o → Holds w (record { own = h.own; other = Some j; nodes = record { own = h.nodes.own; other = o } }) z
  opened u z j number k seen value o apart is taken look values fits =
      holds-are w (record { own = h.own; other = Some j; nodes = record { own = h.nodes.own; other = o } }) z h.own (Some j) ((h.own, mine) ∷ (j, value) ∷ []) (ap (λ (l : List (ℕ × WorldShard)). (h.own, mine) ∷ l) values) fits refl refl holds.own apart
      (both-held u z j number k seen value apart.1 apart.0 is taken look)

module _ {S : Type 0} (w : ShapeValue) (h : HeldShards) (v : PassView S Event) (holds : Holds w h v) (j : ℕ) (some : h.other ≡ Some j) (node : OtherNode) (same : node ≡ h.nodes.other) where
  -- both are held
  pub fits-other : IsOther (Some j) node
  fits-other = subst (λ (o : Option ℕ). IsOther o node) some (subst (λ (x : OtherNode). IsOther h.other x) (sym same) holds.fits)

  apart-other : IsOtherShard w h.own (Some j)
  apart-other = subst (λ (o : Option ℕ). IsOtherShard w h.own o) some holds.apart

  two : (value : WorldShard) → other_value (Some j) node ≡ (j, value) ∷ [] → held.Holds (by_ranks w) w (node_meaning w) (party_of w) ((h.own, shards.Rank h.nodes.own) ∷ (j, value) ∷ []) v
  two value is = subst (λ (l : List (ℕ × WorldShard)). held.Holds (by_ranks w) w (node_meaning w) (party_of w) ((h.own, shards.Rank h.nodes.own) ∷ l) v) (ap (λ (o : Option ℕ). other_value o h.nodes.other) some ∙ (ap (other_value (Some j)) (sym same) ∙ is)) holds.shards

  -- the other may be given back
  pub may-leave : (value : WorldShard) → other_value (Some j) node ≡ (j, value) ∷ [] → (g : List Event) × (held_at v.held j ≡ Some g) × IsValueAfter (by_ranks w) w (node_meaning w) j value g
  may-leave value is = may-give (by_ranks w) w (node_meaning w) (party_of w) ((h.own, shards.Rank h.nodes.own) ∷ (j, value) ∷ []) v j value (two value is)
      (elsewhere ((j, value) ∷ []) h.own j (shards.Rank h.nodes.own) apart-other.1 ∙ here [] j j value refl)

  -- and then that of the rank is held alone
  pub left-alone : (value : WorldShard) (u : PassView S Event) (o : OtherNode) → other_value (Some j) node ≡ (j, value) ∷ [] → u ≡ after_give_back v j → o ≡ others.Nothing → Holds w (record { own = h.own; other = None; nodes = record { own = h.nodes.own; other = o } }) u
  left-alone value u o is gave nothing =
      holds-are w (record { own = h.own; other = None; nodes = record { own = h.nodes.own; other = o } }) u h.own None ((h.own, shards.Rank h.nodes.own) ∷ []) refl (subst (λ (x : OtherNode). IsOther None x) (sym nothing) tt) refl refl holds.own tt
      (second-given (by_ranks w) w (node_meaning w) (party_of w) v u h.own j (shards.Rank h.nodes.own) value apart-other.1 (two value is) gave)
