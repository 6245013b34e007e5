-- What a pass holds after it took shards and looked.
use Rattle.std.proofs.Common.{◌≡◌, ◌<◌, ◌+◌, ℕ, true, List, [], ◌∷◌, Option, Some, refl, sym, ap, ◌∙◌, subst, arith}
use Rattle.std.specs.List.{slice_get}
use mathlib.Core.Logic.{dite}
use native.Mathlib.Decide.{ℕ_discrete}
use Rattle.gaspi_types.specs.World.{ShapeValue, IsShape}
use Rattle.gaspi_types.specs.declared.events.Event.{Event}
use Rattle.gaspi_types.specs.declared.shapes.Limits.{Limits}
use Rattle.gaspi_types.proofs.Items.{there-within}
use Rattle.gaspi_model.specs.Parties.{party_of}
use Rattle.gaspi_model.specs.Step.{is_legal}
use Rattle.gaspi_model.specs.declared.states.Posts.{Posts}
use Rattle.gaspi_model.proofs.Histories.{reached-sound}
use Rattle.commit_table.specs.Attempts.{IsLookedOnly}
use Rattle.commit_table.specs.Calls.{HoldsNone, Looked, ShardTaken}
use Rattle.commit_table.specs.Views.{held_at, after_take, after_look}
use Rattle.commit_table.specs.declared.views.PassView.{PassView}
use Rattle.commit_table.proofs.Lists.{held_here, held_else}
use Rattle.gaspi_world.specs.ShardProjections as held
use Rattle.gaspi_world.specs.ShardProjections.{value_at}
use Rattle.gaspi_world.specs.Numbering.{by_ranks}
use Rattle.gaspi_world.specs.ShardLaws.{arrives, limits-are}
use Rattle.gaspi_world.specs.ShardMachine.{IsValueAfter, state_after}
use Rattle.gaspi_world.proofs.HeldPairs.{here, elsewhere, not-first}
use Rattle.gaspi_world.proofs.HeldShards.{looked-holds}
use Rattle.gaspi_world.specs.HeldShards.{Holds, values_of, IsOther, IsOtherShard}
use Rattle.gaspi_world.specs.Shards.{node_meaning, IsRankShard}
use Rattle.gaspi_world.specs.WorldMachine.{world_machine}
use Rattle.gaspi_world.specs.declared.holding.HeldShards.{HeldShards}
use Rattle.gaspi_world.specs.declared.shards.WorldShard.{WorldShard}
use Rattle.gaspi_world.specs.declared.shards.WorldShard.TheVariants as shards

module _ (w : ShapeValue) (world : IsShape w) where
  -- the posts of a rank after a legal history
  pub rank-posts : (h : List Event) (rank : ℕ) → is_legal w h ≡ true → rank < w.limits.ranks → (p : Posts) × (slice_get (state_after w h).posts rank ≡ Some p)
  rank-posts h rank legal lt =
      let sound = reached-sound w h (state_after w h) world (arrives w h legal) in
      there-within (state_after w h).posts rank (subst (λ (n : ℕ). rank < n) (sym (sound.ranks ∙ ap (λ (l : Limits). l.ranks) (limits-are w h legal))) lt)

  -- the value of a rank's shard is a rank's node
  pub rank-stands : (x : WorldShard) (h : List Event) (rank : ℕ) → is_legal w h ≡ true → rank < w.limits.ranks → IsValueAfter (by_ranks w) w (node_meaning w) rank x h → IsRankShard x
  rank-stands (shards.Rank node) h rank legal lt has = tt
  rank-stands (shards.Group node) h rank legal lt has = (let p = rank-posts h rank legal lt in absurd (has.posts rank p.0 refl p.1))

module _ {S : Type 0} (w : ShapeValue) where
  -- One shard was taken, and a look made.
  pub one-holds : (v t z : PassView S Event) (own number : ℕ) (g h : List Event) (x : WorldShard) → HoldsNone v → t ≡ after_take v own g → ShardTaken (world_machine w) v own x g → own < w.limits.ranks → Looked (world_machine w) t number h z
      → held.Holds (by_ranks w) w (node_meaning w) (party_of w) ((own, x) ∷ []) z
  one-holds v t z own number g h x free is taken lt l = looked-holds (by_ranks w) w (node_meaning w) (party_of w) ((own, x) ∷ []) t z number h l
      (λ i q at. one i q at)
      (λ i q at. within i q at)
      (λ i at. ap (λ (y : PassView S Event). held_at y.held i) is ∙ (held_else v.held own i (Some g) (not-first [] own i x at) ∙ free i))
    where
      same : (x q : WorldShard) → ◌≡◌ {A = Option WorldShard} (Some x) (Some q) → x ≡ q
      same x q e = cc

      one : (i : ℕ) (q : WorldShard) → value_at ((own, x) ∷ []) i ≡ Some q → (k : List Event) × (held_at t.held i ≡ Some k) × IsValueAfter (by_ranks w) w (node_meaning w) i q k
      one i q at = dite (ℕ_discrete i own)
          (λ e. (
            g,
            ap (λ (y : PassView S Event). held_at y.held i) is ∙ (ap (held_at ((own, Some g) ∷ v.held)) e ∙ held_here v.held own (Some g)),
            subst (λ (j : ℕ). IsValueAfter (by_ranks w) w (node_meaning w) j q g) (sym e) (subst (λ (y : WorldShard). IsValueAfter (by_ranks w) w (node_meaning w) own y g) (same x q (sym (here [] own i x e) ∙ at)) taken.stands),
          ))
          (λ ne. absurd (let none = sym (elsewhere [] own i x ne) ∙ at in let no : ⊥ = cc in no))

      within : (i : ℕ) (q : WorldShard) → value_at ((own, x) ∷ []) i ≡ Some q → i < (by_ranks w).shards
      within i q at = dite (ℕ_discrete i own)
          (λ e. subst (λ (j : ℕ). j < (by_ranks w).shards) (sym e) (omega arith))
          (λ ne. absurd (let none = sym (elsewhere [] own i x ne) ∙ at in let no : ⊥ = cc in no))

  one-after : (v : PassView S Event) (own number : ℕ) (g h : List Event) → Looked (world_machine w) (after_take v own g) number h (after_look (after_take v own g) h) → IsLookedOnly (world_machine w) v (after_look (after_take v own g) h)
  one-after v own number g h l = record { goes_on = l.seen; legal = l.legal; own = l.own; looks = refl; mine = refl; commits = refl; missed = refl; met = refl; party = refl; start = refl }

  pub one-looked : (v t z : PassView S Event) (own number : ℕ) (g h : List Event) → t ≡ after_take v own g → Looked (world_machine w) t number h z → IsLookedOnly (world_machine w) v z
  one-looked v t z own number g h is l =
      let there : Looked (world_machine w) (after_take v own g) number h z = subst (λ (y : PassView S Event). Looked (world_machine w) y number h z) is l in
      subst (λ (y : PassView S Event). IsLookedOnly (world_machine w) v y) (sym there.is) (one-after v own number g h (subst (λ (y : PassView S Event). Looked (world_machine w) (after_take v own g) number h y) there.is there))

-- The shards of an event are held, with what lies there.
pub holds-are : {S : Type 0} (w : ShapeValue) (h : HeldShards) (v : PassView S Event) (own : ℕ) (other : Option ℕ) (values : List (ℕ × WorldShard)) → values_of h ≡ values → IsOther h.other h.nodes.other → h.own ≡ own → h.other ≡ other
    → own < w.limits.ranks → IsOtherShard w own other → held.Holds (by_ranks w) w (node_meaning w) (party_of w) values v → Holds w h v
holds-are w h v own other values are fits own_is other_is lt apart holds = record {
  shards = subst (λ (l : List (ℕ × WorldShard)). held.Holds (by_ranks w) w (node_meaning w) (party_of w) l v) (sym are) holds;
  fits = fits;
  own = subst (λ (n : ℕ). n < w.limits.ranks) (sym own_is) lt;
  apart = subst (λ (o : Option ℕ). IsOtherShard w h.own o) (sym other_is) (subst (λ (n : ℕ). IsOtherShard w n other) (sym own_is) apart);
}

-- the shard of a rank is one that there is
pub within-all : (w : ShapeValue) (own : ℕ) → own < w.limits.ranks → own < w.limits.ranks + 8
within-all w own lt = omega arith
