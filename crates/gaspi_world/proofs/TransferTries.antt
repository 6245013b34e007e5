-- A try to take the shards of the next transfer of a rank, step by step.
use Rattle.std.proofs.Common.{◌≡◌, ◌≢◌, ◌<◌, ◌+◌, ℕ, Bool, true, false, not, Box, Global, List, [], ◌∷◌, Option, None, Some, inr, refl, sym, ap, ◌∙◌, subst}
use Rattle.std.specs.List.{list_any}
use mathlib.Core.Logic.{dite}
use native.Mathlib.Decide.{ℕ_discrete}
use Rattle.gaspi_types.specs.World.{ShapeValue, IsShape}
use Rattle.gaspi_types.specs.declared.entries.Entry.{Entry}
use Rattle.gaspi_types.specs.declared.events.Event.{Event}
use Rattle.gaspi_types.specs.declared.events.Transfer.{Transfer}
use Rattle.gaspi_model.specs.Parties.{party_of}
use Rattle.gaspi_model.specs.State.{is_running}
use Rattle.gaspi_model.specs.Step.{is_legal}
use Rattle.gaspi_model.proofs.Histories.{reached-sound}
use Rattle.commit_table.specs.Attempts.{IsLookedOnly}
use Rattle.commit_table.specs.Calls.{HoldsNone, Looked, MissWitness, ShardTaken}
use Rattle.commit_table.specs.Views.{held_at, after_take, after_miss, after_give_back}
use Rattle.commit_table.specs.declared.views.PassView.{PassView}
use Rattle.commit_table.specs.declared.views.LockRecord.{LockRecord}
use Rattle.commit_table.proofs.Lists.{held_here, held_else}
use Rattle.rank_node.specs.Fronts.{IsFront, front_entry, transfer_footprint}
use Rattle.rank_node.specs.Lending.{IsNodeOf, IsPostsOf}
use Rattle.rank_node.specs.declared.held_nodes.OtherNode.TheVariants as others
use Rattle.rank_node.specs.declared.nodes.Node.{Node}
use Rattle.gaspi_world.specs.ShardProjections.{TookBoth}
use Rattle.gaspi_world.specs.Numbering.{by_ranks}
use Rattle.gaspi_world.specs.RankJournals.{journal_of}
use Rattle.gaspi_world.specs.RankShards.{rank_other}
use Rattle.gaspi_world.specs.ShardLaws.{arrives, limits-are, parts-moved}
use Rattle.gaspi_world.specs.ShardMachine.{IsValueAfter, state_after}
use Rattle.gaspi_world.proofs.HeldPairs.{low-first, both-looked}
use Rattle.gaspi_world.specs.HeldShards.{values_of, IsOther, IsOtherShard}
use Rattle.gaspi_world.specs.Transfers.{MayTransfer, HasNoEnabledTransfer, HasActive, HaveEnded, IsFrontHeld, Tries}
use Rattle.gaspi_world.specs.Shards.{node_meaning}
use Rattle.gaspi_world.specs.WorldMachine.{world_machine}
use Rattle.gaspi_world.specs.declared.holding.HeldShards.{HeldShards}
use Rattle.gaspi_world.specs.declared.shards.WorldShard.{WorldShard}
use Rattle.gaspi_world.specs.declared.shards.WorldShard.TheVariants as shards
use Rattle.gaspi_world.specs.declared.transfers.Tried.TheVariants as tries
use Rattle.gaspi_world.proofs.HeldNodes.{own-node}
use Rattle.gaspi_world.proofs.TakenShards.{one-holds, one-looked, holds-are, within-all}
use Rattle.gaspi_world.proofs.TransferMisses.{missed-looking}
use Rattle.post_queue.specs.MovableLanes.{is_movable_lane}
use Rattle.gaspi_model.specs.declared.states.State.{State}
use Rattle.gaspi_world.proofs.Transferring.{FrontLaws, NoneLaw, by-me, front-listed, front-among, front-other, has-active, have-ended, no-transfer}

-- the shard was taken of the origin, in which a rank's node lies
pub shard_taken-rank : {S : Type 0} (w : ShapeValue) (v : PassView S Event) (own origin : ℕ) (x y : WorldShard) (g : List Event) → own ≡ origin → y ≡ x → ShardTaken (world_machine w) v own x g → ShardTaken (world_machine w) v origin y g
shard_taken-rank w v own origin x y g same is taken = subst (λ (n : ℕ). ShardTaken (world_machine w) v n y g) same (subst (λ (z : WorldShard). ShardTaken (world_machine w) v own z g) (sym is) taken)

pub took-of : {S : Type 0} (v t : PassView S Event) (own origin : ℕ) (g : List Event) → own ≡ origin → t ≡ after_take v own g → t ≡ after_take v origin g
took-of {S} v t own origin g same is = is ∙ ap (λ (n : ℕ). after_take v n g) same

pub gave-of : {S : Type 0} (x z : PassView S Event) (own origin : ℕ) → own ≡ origin → z ≡ after_give_back x own → z ≡ after_give_back x origin
gave-of {S} x z own origin same is = is ∙ ap (λ (n : ℕ). after_give_back x n) same

-- the front that was found is one of the node in the box
pub front-of-node : (n : Node) (node : Box Node Global) (t : Transfer) → n ≡ node.value → IsFront n.posts t → IsFront node.value.posts t
front-of-node n node t is front = subst (λ (m : Node). IsFront m.posts t) is front

pub none-of-node : (n : Node) (node : Box Node Global) → n ≡ node.value → ((queue target : ℕ) → is_movable_lane n.posts.posts.queues queue target ≡ false) → (queue target : ℕ) → is_movable_lane node.value.posts.posts.queues queue target ≡ false
none-of-node n node is none = subst (λ (m : Node). (queue target : ℕ) → is_movable_lane m.posts.posts.queues queue target ≡ false) is none

pub ended-of-node : (n : Node) (node : Box Node Global) (ended : Bool) → n ≡ node.value → ended ≡ not (list_any is_running n.posts.posts.threads) → ended ≡ not (list_any is_running node.value.posts.posts.threads)
ended-of-node n node ended is told = told ∙ ap (λ (m : Node). not (list_any is_running m.posts.posts.threads)) is

pub posts-of-node : (n : Node) (node : Box Node Global) (s : State) (rank : ℕ) → n ≡ node.value → IsNodeOf s rank node.value → IsPostsOf s n.posts.me n.posts
posts-of-node n node s rank is here = subst (λ (m : Node). IsPostsOf s m.posts.me m.posts) (sym is) (by-me s rank node.value.posts here.posts)

pub return-of : {S : Type 0} (w : ShapeValue) (x : PassView S Event) (own origin : ℕ) (node : Box Node Global) → own ≡ origin → (k : List Event) × (held_at x.held origin ≡ Some k) × IsValueAfter (by_ranks w) w (node_meaning w) origin (shards.Rank node) k
    → (k : List Event) × (held_at x.held own ≡ Some k) × IsValueAfter (by_ranks w) w (node_meaning w) own (shards.Rank node) k
return-of w x own origin node same may = subst (λ (n : ℕ). (k : List Event) × (held_at x.held n ≡ Some k) × IsValueAfter (by_ranks w) w (node_meaning w) n (shards.Rank node) k) (sym same) may

-- and its other shard is that of its entry
pub other-of-node : (n : Node) (node : Box Node Global) (t : Transfer) (e : Entry) (ranks many : ℕ) (other : Option ℕ) → n ≡ node.value → ranks ≡ many → front_entry node.value.posts t ≡ Some e
    → ((d : Entry) → front_entry n.posts t ≡ Some d → other ≡ rank_other ranks (transfer_footprint ranks t d.kind)) → other ≡ rank_other many (transfer_footprint many t e.kind)
other-of-node n node t e ranks many other is same next told =
    subst (λ (k : ℕ). other ≡ rank_other k (transfer_footprint k t e.kind)) same (told e (ap (λ (m : Node). front_entry m.posts t) is ∙ next))

abbrev first-value : List (ℕ × WorldShard) → WorldShard → WorldShard
first-value [] default = default
first-value (x ∷ list) default = x.1

same-rank : (a b : Box Node Global) → shards.Rank a ≡ shards.Rank b → a ≡ b
same-rank a b e = cc

-- the front of a lane of the node that is held
pub front-held : (w : ShapeValue) (t : Transfer) (e : Entry) (h : HeldShards) (node : Box Node Global) (own : ℕ) (other : Option ℕ) (rest : List (ℕ × WorldShard)) → IsFront node.value.posts t → front_entry node.value.posts t ≡ Some e
    → other ≡ rank_other w.limits.ranks (transfer_footprint w.limits.ranks t e.kind) → values_of h ≡ (own, shards.Rank node) ∷ rest → h.own ≡ own → h.other ≡ other → t.origin ≡ own → IsFrontHeld w t h
front-held w t e h node own other rest front next footprint values own_is other_is origin =
    let same : node ≡ h.nodes.own = sym (same-rank h.nodes.own node (ap (λ (l : List (ℕ × WorldShard)). first-value l (shards.Rank node)) values)) in
    record {
      front = subst (λ (n : Box Node Global). IsFront n.value.posts t) same front;
      own = own_is ∙ sym origin;
      other = λ d at.
          other_is ∙ (footprint ∙ ap (λ (k : Entry). rank_other w.limits.ranks (transfer_footprint w.limits.ranks t k.kind)) (one e d (sym (subst (λ (n : Box Node Global). front_entry n.value.posts t ≡ Some e) same next) ∙ at)));
    }
  where
    one : (a b : Entry) → ◌≡◌ {A = Option Entry} (Some a) (Some b) → a ≡ b
    one a b e = cc

module _ {S : Type 0} (w : ShapeValue) (world : IsShape w) (origin : ℕ) (rank : origin < w.limits.ranks) (v t : PassView S Event) (g : List Event) (node : Box Node Global) (is : t ≡ after_take v origin g)
    (taken : ShardTaken (world_machine w) v origin (shards.Rank node) g) where
  -- the node is the rank's after each legal history for which it stands
  node-at : (h : List Event) → is_legal w h ≡ true → IsValueAfter (by_ranks w) w (node_meaning w) origin (shards.Rank node) h → IsNodeOf (state_after w h) origin node.value
  node-at h legal stands =
      (own-node w (state_after w h) (reached-sound w h (state_after w h) world (arrives w h legal)) (limits-are w h legal) origin (record { own = node; other = others.Nothing }) (λ r. journal_of r h) rank stands).0

  pub node-shard_taken : IsNodeOf (state_after w g) origin node.value
  node-shard_taken = node-at g taken.legal taken.stands

  pub held-shard_taken : held_at t.held origin ≡ Some g
  held-shard_taken = ap (λ (y : PassView S Event). held_at y.held origin) is ∙ held_here v.held origin (Some g)

  -- and after a look
  node-looked : (u z : PassView S Event) (number : ℕ) (h : List Event) → held_at u.held origin ≡ Some g → Looked (world_machine w) u number h z → IsNodeOf (state_after w h) origin node.value
  node-looked u z number h held l =
      let agree = (l.held origin g held).1 in
      node-at h l.legal (parts-moved (by_ranks w) w (node_meaning w) origin (shards.Rank node) (state_after w g) (state_after w h) (λ r. journal_of r g) (λ r. journal_of r h) agree.state agree.journals taken.stands)

  free-else : (i : ℕ) → HoldsNone v → i ≢ origin → held_at t.held i ≡ None
  free-else i free ne = ap (λ (y : PassView S Event). held_at y.held i) is ∙ (held_else v.held origin i (Some g) ne ∙ free i)

  -- the shard may be given back after a look
  pub may-return : (u x : PassView S Event) (number : ℕ) (h : List Event) → held_at u.held origin ≡ Some g → Looked (world_machine w) u number h x → (k : List Event) × (held_at x.held origin ≡ Some k) × IsValueAfter (by_ranks w) w (node_meaning w) origin (shards.Rank node) k
  may-return u x number h held l = (g, ap (λ (y : PassView S Event). held_at y.held origin) l.is ∙ held, taken.stands)

  left-after : (x : PassView S Event) → IsLookedOnly (world_machine w) v x → IsLookedOnly (world_machine w) v (after_give_back x origin)
  left-after x l = record { goes_on = l.goes_on; legal = l.legal; own = l.own; looks = l.looks; mine = l.mine; commits = l.commits; missed = l.missed; met = l.met; party = l.party; start = l.start }

  -- There was no transfer, and the shard was given back.
  pub still : (x z : PassView S Event) (number : ℕ) (h : List Event) (ended : Bool) → HoldsNone v → Looked (world_machine w) t number h x → z ≡ after_give_back x origin → ended ≡ not (list_any is_running node.value.posts.posts.threads)
      → NoneLaw → ((queue target : ℕ) → is_movable_lane node.value.posts.posts.queues queue target ≡ false) → Tries w origin v (tries.Still ended) z
  still x z number h ended free l last told law none = by (list_any is_running node.value.posts.posts.threads) refl ended told
    where
      here : IsNodeOf (state_after w h) origin node.value
      here = node-looked t x number h held-shard_taken l

      seen : h ≡ z.seen
      seen = sym (ap (λ (y : PassView S Event). y.seen) last ∙ ap (λ (y : PassView S Event). y.seen) l.is)

      all-free : HoldsNone z
      all-free i = dite (ℕ_discrete i origin)
          (λ e. ap (λ (y : PassView S Event). held_at y.held i) last ∙ (ap (held_at ((origin, None) ∷ x.held)) e ∙ held_here x.held origin None))
          (λ ne. ap (λ (y : PassView S Event). held_at y.held i) last ∙ (held_else x.held origin i None ne ∙ (ap (λ (y : PassView S Event). held_at y.held i) l.is ∙ free-else i free ne)))

      only : IsLookedOnly (world_machine w) v z
      only = subst (λ (y : PassView S Event). IsLookedOnly (world_machine w) v y) (sym last) (left-after x (one-looked w v t x origin number g h is l))

      by : (b : Bool) → list_any is_running node.value.posts.posts.threads ≡ b → (ended : Bool) → ended ≡ not (list_any is_running node.value.posts.posts.threads) → Tries w origin v (tries.Still ended) z
      by true any true told = absurd (let never : true ≡ not true = told ∙ ap not any in let no : ⊥ = cc in no)
      by true any false told = (all-free, only, subst (λ (y : List Event). HasNoEnabledTransfer w y origin) seen (no-transfer w h l.legal origin node.value.posts here.posts law none), subst (λ (y : List Event). HasActive w y origin) seen (has-active w h l.legal origin node.value.posts here.posts any))
      by false any true told = (all-free, only, subst (λ (y : List Event). HasNoEnabledTransfer w y origin) seen (no-transfer w h l.legal origin node.value.posts here.posts law none), subst (λ (y : List Event). HaveEnded w y origin) seen (have-ended w h l.legal origin node.value.posts here.posts any))
      by false any false told = absurd (let never : false ≡ not false = told ∙ ap not any in let no : ⊥ = cc in no)

  module _ (laws : FrontLaws) (f : Transfer) (e : Entry) (front : IsFront node.value.posts f) (next : front_entry node.value.posts f ≡ Some e) where
    pub of-origin : f.origin ≡ origin
    of-origin = front.mine ∙ node-shard_taken.posts.me

    pub other-fits : IsOtherShard w origin (rank_other w.limits.ranks (transfer_footprint w.limits.ranks f e.kind))
    other-fits = front-other w origin f e rank of-origin

    pub other-within : (j : ℕ) → Some j ≡ rank_other w.limits.ranks (transfer_footprint w.limits.ranks f e.kind) → (j < w.limits.ranks + 8) × (j ≡ origin → ⊥)
    other-within j other = subst (λ (o : Option ℕ). IsOtherShard w origin o) (sym other) other-fits

    pub other-free : (j : ℕ) → HoldsNone v → Some j ≡ rank_other w.limits.ranks (transfer_footprint w.limits.ranks f e.kind) → held_at t.held j ≡ None
    other-free j free other = free-else j free (other-within j other).1

    -- The other shard was missed.
    pub busy : (u x z : PassView S Event) (number j : ℕ) (h : List Event) (records : List LockRecord) → HoldsNone v → Some j ≡ rank_other w.limits.ranks (transfer_footprint w.limits.ranks f e.kind) → u ≡ after_miss t j records → MissWitness t j records
        → Looked (world_machine w) u number h x → z ≡ after_give_back x origin → Tries w origin v tries.Busy z
    busy u x z number j h records free other miss met l last =
        let held : held_at u.held origin ≡ Some g = ap (λ (y : PassView S Event). held_at y.held origin) miss ∙ held-shard_taken in
        let here = node-looked u x number h held l in
        let listed = front-listed w world laws h l.legal node.value.posts f front origin here.posts in
        let may : MayTransfer w origin h j = record {
          state = state_after w h;
          reached_is = arrives w h l.legal;
          transfer = f;
          place = listed.0;
          listed = listed.1;
          origin_is = of-origin;
          among = front-among w world laws h l.legal node.value.posts f front origin e j here.posts next (sym other);
        } in
        (all-free, inr (missed-looking (world_machine w) (MayTransfer w origin) v t u x z origin j number g h records is miss met l last may))
      where
        all-free : HoldsNone z
        all-free i = dite (ℕ_discrete i origin)
            (λ e. ap (λ (y : PassView S Event). held_at y.held i) last ∙ (ap (held_at ((origin, None) ∷ x.held)) e ∙ held_here x.held origin None))
            (λ ne. ap (λ (y : PassView S Event). held_at y.held i) last ∙ (held_else x.held origin i None ne ∙ (ap (λ (y : PassView S Event). held_at y.held i) l.is ∙ (ap (λ (y : PassView S Event). held_at y.held i) miss ∙ free-else i free ne))))

    -- It has none.
    pub ready-one : (x : PassView S Event) (number : ℕ) (h : List Event) (held : HeldShards) → HoldsNone v → None ≡ rank_other w.limits.ranks (transfer_footprint w.limits.ranks f e.kind) → Looked (world_machine w) t number h x
        → values_of held ≡ (origin, shards.Rank node) ∷ [] → IsOther held.other held.nodes.other → held.own ≡ origin → held.other ≡ None → Tries w origin v (tries.Ready f held) x
    ready-one x number h held free other l values fits own none = (
      holds-are w held x origin None ((origin, shards.Rank node) ∷ []) values fits own none rank tt (one-holds w v t x origin number g h (shards.Rank node) free is taken rank l),
      one-looked w v t x origin number g h is l,
      front-held w f e held node origin None [] front next other values own none of-origin,
      of-origin,
    )

    -- Both were taken.
    pub ready-both : (u x : PassView S Event) (number j : ℕ) (k h : List Event) (value : WorldShard) (held : HeldShards) → HoldsNone v → Some j ≡ rank_other w.limits.ranks (transfer_footprint w.limits.ranks f e.kind) → u ≡ after_take t j k → ShardTaken (world_machine w) t j value k
        → Looked (world_machine w) u number h x → values_of held ≡ (origin, shards.Rank node) ∷ (j, value) ∷ [] → IsOther held.other held.nodes.other → held.own ≡ origin → held.other ≡ Some j → Tries w origin v (tries.Ready f held) x
    ready-both u x number j k h value held free other also second l values fits own some =
        let may = other-within j other in
        let both : TookBoth (world_machine w) v origin j (shards.Rank node) value u = record {
          first = g;
          second = k;
          is = also ∙ ap (λ (y : PassView S Event). after_take y j k) is;
          low_stands = taken.stands;
          high_stands = second.stands;
          low_legal = taken.legal;
          high_legal = second.legal;
          seen = taken.seen;
        } in (
          holds-are w held x origin (Some j) ((origin, shards.Rank node) ∷ (j, value) ∷ []) values fits own some rank may
              (low-first (by_ranks w) w (node_meaning w) (party_of w) v u x origin j number h (shards.Rank node) value free (λ same. may.1 (sym same)) (within-all w origin rank) may.0 both l),
          both-looked (by_ranks w) w (node_meaning w) (party_of w) v u x origin j number h (shards.Rank node) value both l,
          front-held w f e held node origin (Some j) ((j, value) ∷ []) front next other values own some of-origin,
          of-origin,
        )
