-- A pass that holds the nodes of an event commits it, makes its step on them, and holds them then with what the step left.
use Rattle.std.proofs.Common.{◌≡◌, ◌<◌, ℕ, inl, inr, Bool, true, false, cond, eqb, List, [], ◌∷◌, ◌++◌, Option, None, Some, refl, sym, ap, ◌∙◌, subst}
use Rattle.std.specs.List.{slice_get}
use Rattle.std.proofs.lemmas.Bool.{eqb-true}
use Rattle.gaspi_types.specs.CallRows.{row_of}
use Rattle.gaspi_types.specs.World.{ShapeValue, IsShape}
use Rattle.gaspi_types.specs.declared.calls.Call.{Call}
use Rattle.gaspi_types.specs.declared.events.Event.{Event}
use Rattle.gaspi_types.specs.declared.events.Event.TheVariants.{Called, Joined}
use Rattle.gaspi_types.specs.declared.groups.Args.{Args}
use Rattle.gaspi_types.specs.declared.replies.Reply.{Reply}
use Rattle.gaspi_types.specs.declared.shapes.CallerId.{CallerId}
use Rattle.gaspi_types.specs.declared.shapes.Limits.{Limits}
use Rattle.gaspi_types.specs.declared.footprints.Footprint.{Footprint}
use Rattle.gaspi_model.specs.CollectiveCalls.{joining_call}
use Rattle.gaspi_model.specs.Parties.{party_of, caller_party, number_of}
use Rattle.gaspi_model.specs.Sound.{IsSound}
use Rattle.gaspi_model.specs.Step.{is_legal, owner_of, event_footprint, join_footprint}
use Rattle.gaspi_model.specs.declared.states.Posts.{Posts}
use Rattle.gaspi_model.specs.declared.states.State.{State}
use Rattle.gaspi_model.proofs.Histories.{reached-sound}
use Rattle.commit_table.specs.Calls.{Committed}
use Rattle.commit_table.specs.declared.views.PassView.{PassView}
use Rattle.rank_node.specs.HeldNodes.{peer_of, group_of, IsSameKind}
use Rattle.rank_node.specs.Lending.{IsNodeOf, Lends, IsStepOn, IsLeft}
use Rattle.rank_node.specs.declared.held_nodes.HeldNodes.{HeldNodes}
use Rattle.rank_node.specs.declared.held_nodes.OtherNode.{OtherNode}
use Rattle.rank_node.specs.declared.held_nodes.OtherNode.TheVariants as others
use Rattle.gaspi_world.specs.ShardProjections.{value_at, AreShardsOf, HaveStepped}
use Rattle.gaspi_world.specs.Numbering.{by_ranks}
use Rattle.gaspi_world.specs.RankJournals.{journal_of}
use Rattle.gaspi_world.specs.RankShards.{IsEither, rank_other, call_other, event-either, either-event, join-other}
use Rattle.gaspi_world.specs.ShardLaws.{agree-self, arrives, limits-are, last-step}
use Rattle.gaspi_world.specs.ShardMachine.{HasParts, state_after}
use Rattle.gaspi_world.proofs.HeldPairs.{here, elsewhere}
use Rattle.gaspi_world.proofs.HeldShards.{stands-too, still-holds}
use Rattle.gaspi_world.specs.Callers.{IsPassOf}
use Rattle.gaspi_world.specs.HeldShards.{Holds, AgreesOn, values_of, other_value, IsOther, IsOtherShard}
use Rattle.gaspi_world.specs.Shards.{node_meaning}
use Rattle.gaspi_world.specs.WorldMachine.{world_machine}
use Rattle.gaspi_world.specs.declared.holding.HeldShards.{HeldShards}
use Rattle.gaspi_world.specs.declared.shards.WorldShard.{WorldShard}
use Rattle.gaspi_world.specs.declared.shards.WorldShard.TheVariants as shards
use Rattle.gaspi_world.proofs.HeldNodes.{IsFootprint, footprint-is, own-node, other-node, have-stepped}

-- The shards that are held are the owner's and the other one.
other-there : (j : ℕ) (o : OtherNode) → IsOther (Some j) o → (x : WorldShard) × (value_at (other_value (Some j) o) j ≡ Some x)
other-there j others.Nothing is = absurd is
other-there j (others.Rank n) is = (shards.Rank n, here [] j j (shards.Rank n) refl)
other-there j (others.Group n) is = (shards.Group n, here [] j j (shards.Group n) refl)

either-value : (own : ℕ) (x : WorldShard) (o : Option ℕ) (other : OtherNode) (i : ℕ) → IsOther o other → IsEither own o i → (y : WorldShard) × (value_at ((own, x) ∷ other_value o other) i ≡ Some y)
either-value own x None other i fits is = (x, here (other_value None other) own i x is)
either-value own x (Some j) other i fits (inl is) = (x, here (other_value (Some j) other) own i x is)
either-value own x (Some j) other i fits (inr is) = go (eqb i own) refl
  where
    go : (b : Bool) → eqb i own ≡ b → (y : WorldShard) × (value_at ((own, x) ∷ other_value (Some j) other) i ≡ Some y)
    go true same = (x, here (other_value (Some j) other) own i x (eqb-true i own same))
    go false apart =
        let there = other-there j other fits in
        (there.0, ap (λ (b : Bool). cond b (Some x) (value_at (other_value (Some j) other) i)) apart ∙ (ap (value_at (other_value (Some j) other)) is ∙ there.1))

value-either : (own : ℕ) (x : WorldShard) (o : Option ℕ) (other : OtherNode) (i : ℕ) (y : WorldShard) → value_at ((own, x) ∷ other_value o other) i ≡ Some y → IsEither own o i
value-either own x o other i y at = go (eqb i own) refl at
  where
    first : (o : Option ℕ) → i ≡ own → IsEither own o i
    first None is = is
    first (Some j) is = inl is

    second : (j k : ℕ) (z : WorldShard) → cond (eqb i k) (Some z) None ≡ Some y → i ≡ k
    second j k z there = pick (eqb i k) refl there
      where
        pick : (b : Bool) → eqb i k ≡ b → cond b (Some z) None ≡ Some y → i ≡ k
        pick true same there = eqb-true i k same
        pick false same there = absurd (let no : ⊥ = cc in no)

    later : (o : Option ℕ) (other : OtherNode) → value_at (other_value o other) i ≡ Some y → IsEither own o i
    later None other there = absurd (let no : ⊥ = cc in no)
    later (Some j) others.Nothing there = absurd (let no : ⊥ = cc in no)
    later (Some j) (others.Rank n) there = inr (second j j (shards.Rank n) there)
    later (Some j) (others.Group n) there = inr (second j j (shards.Group n) there)

    go : (b : Bool) → eqb i own ≡ b → cond b (Some x) (value_at (other_value o other) i) ≡ Some y → IsEither own o i
    go true same there = first o (eqb-true i own same)
    go false apart there = later o other there

either-along : (own own' : ℕ) (o o' : Option ℕ) (i : ℕ) → own ≡ own' → o ≡ o' → IsEither own o i → IsEither own' o' i
either-along own own' o o' i a b is = subst (λ (p : Option ℕ). IsEither own' p i) b (subst (λ (n : ℕ). IsEither n o i) a is)

module _ {S : Type 0} (w : ShapeValue) (world : IsShape w) (h : HeldShards) (v : PassView S Event) (holds : Holds w h v) where
  legal : is_legal w v.seen ≡ true
  legal = holds.shards.legal

  -- Where a history agrees with what was seen on the shards that are held, what lies there stands for it.
  pub agrees-self : AgreesOn w h v v.seen
  agrees-self i x at = agree-self (by_ranks w) w i v.seen

  parts-at : (k : List Event) → AgreesOn w h v k → (i : ℕ) (x : WorldShard) → value_at (values_of h) i ≡ Some x → HasParts (by_ranks w) w (node_meaning w) i x (state_after w k) (λ rank. journal_of rank k)
  parts-at k agree i x at = stands-too (by_ranks w) w (node_meaning w) (party_of w) (values_of h) v k i x holds.shards at (agree i x at)

  pub sound-at : (k : List Event) → is_legal w k ≡ true → IsSound (state_after w k)
  sound-at k is = reached-sound w k (state_after w k) world (arrives w k is)

  -- the owner's node
  pub own-at : (k : List Event) → is_legal w k ≡ true → AgreesOn w h v k → IsNodeOf (state_after w k) h.own h.nodes.own.value
  own-at k is agree =
      (own-node w (state_after w k) (sound-at k is) (limits-are w k is) h.own h.nodes (λ rank. journal_of rank k) holds.own (parts-at k agree h.own (shards.Rank h.nodes.own) (here (other_value h.other h.nodes.other) h.own h.own (shards.Rank h.nodes.own) refl))).0

  -- the nodes are lent for an event that reaches the other shard
  pub lends-at : (k : List Event) (footprint : Footprint) → is_legal w k ≡ true → AgreesOn w h v k → IsFootprint w.limits.ranks h.own footprint → h.other ≡ rank_other w.limits.ranks footprint
      → Lends (state_after w k) h.own footprint h.nodes.own.value (peer_of h.nodes.other) (group_of h.nodes.other)
  lends-at k footprint is agree reached other =
      let parts : (j : ℕ) (x : WorldShard) → value_at (other_value (rank_other w.limits.ranks footprint) h.nodes.other) j ≡ Some x → HasParts (by_ranks w) w (node_meaning w) j x (state_after w k) (λ rank. journal_of rank k) =
      λ j x at. parts-at k agree j x (behind j x (subst (λ (o : Option ℕ). value_at (other_value o h.nodes.other) j ≡ Some x) (sym other) at)) in
      let rest = other-node w (state_after w k) (sound-at k is) (limits-are w k is) h.own footprint h.nodes.other (λ rank. journal_of rank k) reached (subst (λ (o : Option ℕ). IsOther o h.nodes.other) other holds.fits) parts in
      record { own_node = own-at k is agree; peer_node = rest.0; group_node = rest.1 }
    where
      apart-at : (o : Option ℕ) (x : WorldShard) → ((j : ℕ) → o ≡ Some j → j ≡ h.own → ⊥) → value_at (other_value o h.nodes.other) h.own ≡ Some x → ⊥
      apart-at o x apart at = go o h.nodes.other apart at
        where
          key : (j : ℕ) (z : WorldShard) → (j ≡ h.own → ⊥) → value_at ((j, z) ∷ []) h.own ≡ Some x → ⊥
          key j z ne there = (let none = elsewhere [] j h.own z (λ e. ne (sym e)) in let no : ⊥ = cc in no)

          go : (o : Option ℕ) (n : OtherNode) → ((j : ℕ) → o ≡ Some j → j ≡ h.own → ⊥) → value_at (other_value o n) h.own ≡ Some x → ⊥
          go None n apart there = let no : ⊥ = cc in no
          go (Some j) others.Nothing apart there = let no : ⊥ = cc in no
          go (Some j) (others.Rank n) apart there = key j (shards.Rank n) (apart j refl) there
          go (Some j) (others.Group n) apart there = key j (shards.Group n) (apart j refl) there

      others-apart : (j : ℕ) → h.other ≡ Some j → j ≡ h.own → ⊥
      others-apart j is_other same = go h.other holds.apart is_other
        where
          go : (o : Option ℕ) → IsOtherShard w h.own o → o ≡ Some j → ⊥
          go None fits there = let no : ⊥ = cc in no
          go (Some i) fits there = let e : i ≡ j = cc in fits.1 (e ∙ same)

      behind : (j : ℕ) (x : WorldShard) → value_at (other_value h.other h.nodes.other) j ≡ Some x → value_at (values_of h) j ≡ Some x
      behind j x at = go (eqb j h.own) refl
        where
          go : (b : Bool) → eqb j h.own ≡ b → cond b (Some (shards.Rank h.nodes.own)) (value_at (other_value h.other h.nodes.other) j) ≡ Some x
          go false apart = at
          go true same = absurd (apart-at h.other x others-apart (subst (λ (n : ℕ). value_at (other_value h.other h.nodes.other) n ≡ Some x) (eqb-true j h.own same) at))

  -- The shards that are held are those of an event of that reach.
  pub shards-of : (e : Event) → h.own ≡ owner_of e → h.other ≡ rank_other w.limits.ranks (event_footprint w.limits h.nodes.own.value.posts.posts e) → AreShardsOf (by_ranks w) w e v.seen (values_of h)
  shards-of e own other =
      let posts = h.nodes.own.value.posts.posts in
      let there = subst (λ (n : ℕ). slice_get (state_after w v.seen).posts n ≡ Some posts) own (own-at v.seen legal agrees-self).posts.posts in
      record {
        has = λ i among. either-value h.own (shards.Rank h.nodes.own) h.other h.nodes.other i holds.fits (either-along (owner_of e) h.own _ h.other i (sym own) (sym other) (event-either w v.seen e posts i legal there among));
        only = λ i x at. either-event w v.seen e posts i legal there (either-along h.own (owner_of e) h.other _ i own other (value-either h.own (shards.Rank h.nodes.own) h.other h.nodes.other i x at));
      }

  -- An event that may follow what was seen is a step on the nodes.
  pub step-on : (e : Event) → h.own ≡ owner_of e → IsFootprint w.limits.ranks h.own (event_footprint w.limits h.nodes.own.value.posts.posts e) → h.other ≡ rank_other w.limits.ranks (event_footprint w.limits h.nodes.own.value.posts.posts e)
      → is_legal w (v.seen ++ e ∷ []) ≡ true → IsStepOn (state_after w v.seen) (state_after w (v.seen ++ e ∷ [])) e h.nodes.own.value (peer_of h.nodes.other) (group_of h.nodes.other)
  step-on e own reached other may =
      let footprint = event_footprint w.limits h.nodes.own.value.posts.posts e in
      let lends = lends-at v.seen footprint legal agrees-self reached other in
      record {
        sound = sound-at v.seen legal;
        lends = subst (λ (l : Limits). Lends (state_after w v.seen) (owner_of e) (event_footprint l h.nodes.own.value.posts.posts e) h.nodes.own.value (peer_of h.nodes.other) (group_of h.nodes.other)) (sym (limits-are w v.seen legal))
            (subst (λ (n : ℕ). Lends (state_after w v.seen) n footprint h.nodes.own.value (peer_of h.nodes.other) (group_of h.nodes.other)) own lends);
        is_step = last-step w v.seen e may;
      }

  -- After the commit and its step the nodes are held.
  pub committed-holds : (e : Event) (place : ℕ) (k : List Event) (u : PassView S Event) (new : HeldNodes) → h.own ≡ owner_of e → IsFootprint w.limits.ranks h.own (event_footprint w.limits h.nodes.own.value.posts.posts e)
      → h.other ≡ rank_other w.limits.ranks (event_footprint w.limits h.nodes.own.value.posts.posts e) → IsSameKind new.other h.nodes.other
      → ((s t : State) → IsStepOn s t e h.nodes.own.value (peer_of h.nodes.other) (group_of h.nodes.other) → IsLeft s t e place h.nodes.own.value new.own.value (peer_of h.nodes.other) (peer_of new.other) (group_of new.other))
      → Committed (world_machine w) v e place k u → Holds w (record { own = h.own; other = h.other; nodes = new }) u
  committed-holds e place k u new own reached other kind left c =
      let footprint = event_footprint w.limits h.nodes.own.value.posts.posts e in
      let below : owner_of e < w.limits.ranks = subst (λ (n : ℕ). n < w.limits.ranks) own holds.own in
      let reached_by = subst (λ (n : ℕ). IsFootprint w.limits.ranks n footprint) own reached in
      let fits = subst (λ (o : Option ℕ). IsOther o h.nodes.other) other holds.fits in
      let stepped = have-stepped w e place h.nodes new footprint refl reached_by fits kind below left in
      let there = subst (λ (o : Option ℕ). HaveStepped (by_ranks w) w (node_meaning w) e place ((owner_of e, shards.Rank h.nodes.own) ∷ other_value o h.nodes.other) ((owner_of e, shards.Rank new.own) ∷ other_value o new.other)) (sym other) stepped in
      let steps : HaveStepped (by_ranks w) w (node_meaning w) e place (values_of h) (values_of (record { own = h.own; other = h.other; nodes = new })) =
      subst (λ (n : ℕ). HaveStepped (by_ranks w) w (node_meaning w) e place ((n, shards.Rank h.nodes.own) ∷ other_value h.other h.nodes.other) ((n, shards.Rank new.own) ∷ other_value h.other new.other)) (sym own) there in
      record {
        shards = still-holds (by_ranks w) w (node_meaning w) (party_of w) (values_of h) (values_of (record { own = h.own; other = h.other; nodes = new })) v u e place k world holds.shards (shards-of e own other) c steps;
        fits = same-fits h.other h.nodes.other new.other kind holds.fits;
        own = holds.own;
        apart = holds.apart;
      }
    where
      same-fits : (o : Option ℕ) (a b : OtherNode) → IsSameKind b a → IsOther o a → IsOther o b
      same-fits None others.Nothing others.Nothing same is = tt
      same-fits None others.Nothing (others.Rank n) same is = absurd same
      same-fits None others.Nothing (others.Group n) same is = absurd same
      same-fits None (others.Rank n) b same is = absurd is
      same-fits None (others.Group n) b same is = absurd is
      same-fits (Some j) others.Nothing b same is = absurd is
      same-fits (Some j) (others.Rank n) others.Nothing same is = absurd same
      same-fits (Some j) (others.Rank n) (others.Rank m) same is = tt
      same-fits (Some j) (others.Rank n) (others.Group m) same is = absurd same
      same-fits (Some j) (others.Group n) others.Nothing same is = absurd same
      same-fits (Some j) (others.Group n) (others.Rank m) same is = absurd same
      same-fits (Some j) (others.Group n) (others.Group m) same is = tt

-- a caller's pass may commit the caller's calls and joins
pub own-party : {S : Type 0} (w : ShapeValue) (c : CallerId) (v : PassView S Event) → IsPassOf w c v → (p : ℕ) → caller_party w.callers c ≡ Some p → v.party ≡ Some p
own-party w c v pass p is =
    let mine : caller_party w.callers c ≡ Some (number_of w.callers c) = rw pass.0 refl in
    pass.1 ∙ (sym mine ∙ is)

-- what a call reaches, and what a join reaches
pub call-footprint : (w : ShapeValue) (own : ℕ) (c : CallerId) (call : Call) (reply : Reply) (posts : Posts) → own ≡ c.rank → IsFootprint w.limits.ranks own (event_footprint w.limits posts (Called c call reply))
call-footprint w own c call reply posts is = subst (λ (n : ℕ). IsFootprint w.limits.ranks n (event_footprint w.limits posts (Called c call reply))) (sym is) (footprint-is w.limits.ranks c.rank (row_of call).footprint)

pub join-footprint : (w : ShapeValue) (own : ℕ) (c : CallerId) (id : ℕ) (args : Args) (posts : Posts) → own ≡ c.rank → IsFootprint w.limits.ranks own (event_footprint w.limits posts (Joined c id args))
join-footprint w own c id args posts is = subst (λ (n : ℕ). IsFootprint w.limits.ranks n (event_footprint w.limits posts (Joined c id args))) (sym is) (footprint-is w.limits.ranks c.rank (join_footprint id args.coll))

-- a join has its call's shards
pub join-touches-own : (w : ShapeValue) (c : CallerId) (id : ℕ) (args : Args) (posts : Posts) (o : Option ℕ) → o ≡ call_other w c (joining_call id args) → o ≡ rank_other w.limits.ranks (event_footprint w.limits posts (Joined c id args))
join-touches-own w c id args posts o is = is ∙ sym (join-other w c id args (joining_call id args) posts refl)
