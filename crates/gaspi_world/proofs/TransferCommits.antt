-- The commit of a transfer that is the front of its lane.
use Rattle.std.proofs.Common.{◌≡◌, ℕ, Bool, true, false, eq-eqb, List, [], ◌∷◌, ◌++◌, length, Option, None, Some, IsOk, refl, sym, ap, ◌∙◌, subst, if◌then◌else◌, is_ok}
use Rattle.gaspi_types.specs.World.{ShapeValue, IsShape}
use Rattle.gaspi_types.specs.declared.events.Event.{Event}
use Rattle.gaspi_types.specs.declared.events.Outcome.{Outcome}
use Rattle.gaspi_types.specs.declared.events.Outcome.TheVariants.{Applied}
use Rattle.gaspi_types.specs.declared.events.Transfer.{Transfer}
use Rattle.gaspi_types.specs.declared.shapes.Limits.{Limits}
use Rattle.gaspi_model.specs.Parties.{party_of}
use Rattle.gaspi_model.specs.Step.{step, is_legal, owner_of, event_footprint, declared_footprint}
use Rattle.gaspi_model.specs.declared.states.State.{State}
use Rattle.gaspi_model.proofs.Histories.{reached-sound}
use Rattle.gaspi_model.specs.Sound.{IsSound}
use Rattle.commit_table.specs.Attempts.{IsLookedOnly, IsCommittedOnce}
use Rattle.commit_table.specs.Calls.{MayCommit, Committed}
use Rattle.commit_table.specs.Views.{mine_after, after_give_back}
use Rattle.commit_table.specs.declared.views.PassView.{PassView}
use Rattle.commit_table.specs.declared.views.LockOp.{LockOp}
use Rattle.commit_table.proofs.Lists.{prefix_trans, prefix_length}
use Rattle.rank_node.specs.HeldNodes.{peer_of, group_of, IsSameKind}
use Rattle.rank_node.specs.Lending.{Lends, IsStepOn, IsLeft}
use Rattle.rank_node.specs.TransferSteps.{MayTake, MayPut, IsFirstPosted, IsFirstCarried, LendsForTransfer}
use Rattle.rank_node.specs.Transfers.{take_of, put_of, event_of}
use Rattle.rank_node.specs.declared.held_nodes.HeldNodes.{HeldNodes}
use Rattle.gaspi_world.specs.Numbering.{by_ranks}
use Rattle.gaspi_world.specs.RankShards.{rank_other}
use Rattle.gaspi_world.specs.ShardLaws.{arrives, limits-are, goes-on}
use Rattle.gaspi_world.specs.ShardMachine.{state_after}
use Rattle.gaspi_world.proofs.HeldShards.{may-commit, added}
use Rattle.gaspi_world.specs.HeldShards.{Holds, IsCommitted, values_of, left_by}
use Rattle.gaspi_world.specs.Transfers.{is_transfer_of, IsFrontHeld, IsMovedBehind, Transfers}
use Rattle.gaspi_world.specs.Shards.{node_meaning}
use Rattle.gaspi_world.specs.WorldMachine.{world_machine}
use Rattle.gaspi_world.specs.declared.holding.HeldShards.{HeldShards}
use Rattle.gaspi_world.specs.declared.moving.Moving.TheVariants as moves
use Rattle.gaspi_world.proofs.CommittedNodes.{agrees-self, own-at, lends-at, shards-of, step-on, committed-holds}
use Rattle.gaspi_world.proofs.HeldNodes.{IsFootprint, footprint-is}
use Rattle.gaspi_world.proofs.Transferring.{FrontLaws, ok-state, owner-origin, front-footprint, event-put, event-take}

-- a transfer has no party, and is one of its origin
no-party : (w : ShapeValue) (t : Transfer) (outcome : Outcome) → party_of w (event_of t outcome) ≡ None
no-party w t outcome = go t.put
  where
    go : (b : Bool) → party_of w (if b then put_of t outcome else take_of t outcome) ≡ None
    go true = refl
    go false = refl

is-transfer : (t : Transfer) (outcome : Outcome) → is_transfer_of t.origin (event_of t outcome) ≡ true
is-transfer t outcome = go t.put
  where
    go : (b : Bool) → is_transfer_of t.origin (if b then put_of t outcome else take_of t outcome) ≡ true
    go true = eq-eqb t.origin t.origin refl
    go false = eq-eqb t.origin t.origin refl

module _ {S : Type 0} (w : ShapeValue) (world : IsShape w) (laws : FrontLaws) (h : HeldShards) (v : PassView S Event) (holds : Holds w h v) (t : Transfer) (front : IsFrontHeld w t h) where
  legal : is_legal w v.seen ≡ true
  legal = holds.shards.legal

  pub sound-seen : IsSound (state_after w v.seen)
  sound-seen = reached-sound w v.seen (state_after w v.seen) world (arrives w v.seen legal)

  own-is : (outcome : Outcome) → h.own ≡ owner_of (event_of t outcome)
  own-is outcome = front.own ∙ sym (owner-origin t outcome)

  reached : (outcome : Outcome) → IsFootprint w.limits.ranks h.own (event_footprint w.limits h.nodes.own.value.posts.posts (event_of t outcome))
  reached outcome =
      subst (λ (n : ℕ). IsFootprint w.limits.ranks n (event_footprint w.limits h.nodes.own.value.posts.posts (event_of t outcome))) (sym (own-is outcome))
      (footprint-is w.limits.ranks (owner_of (event_of t outcome)) (declared_footprint h.nodes.own.value.posts.posts (event_of t outcome)))

  other-is : (outcome : Outcome) → h.other ≡ rank_other w.limits.ranks (event_footprint w.limits h.nodes.own.value.posts.posts (event_of t outcome))
  other-is outcome =
      let here = (own-at w world h v holds v.seen legal (agrees-self w world h v holds)).posts in
      front.other front.front.entry front.front.next
      ∙ ap (rank_other w.limits.ranks) (sym (front-footprint w world laws v.seen legal h.nodes.own.value.posts t front.front h.own front.front.entry outcome here front.front.next))

  -- the nodes are lent for it, however it ends
  pub lends-front : LendsForTransfer (state_after w v.seen) t h.nodes.own.value (peer_of h.nodes.other) (group_of h.nodes.other)
  lends-front =
      let lends = lends-at w world h v holds v.seen (event_footprint w.limits h.nodes.own.value.posts.posts (event_of t Applied)) legal (agrees-self w world h v holds) (reached Applied) (other-is Applied) in
      subst (λ (l : Limits). Lends (state_after w v.seen) t.origin (event_footprint l h.nodes.own.value.posts.posts (event_of t Applied)) h.nodes.own.value (peer_of h.nodes.other) (group_of h.nodes.other)) (sym (limits-are w v.seen legal))
      (subst (λ (n : ℕ). Lends (state_after w v.seen) n (event_footprint w.limits h.nodes.own.value.posts.posts (event_of t Applied)) h.nodes.own.value (peer_of h.nodes.other) (group_of h.nodes.other)) front.own lends)

  module _ (outcome : Outcome) (is_step : IsOk (step (state_after w v.seen) (event_of t outcome))) where
    may-follow : is_legal w (v.seen ++ event_of t outcome ∷ []) ≡ true
    may-follow = let next = ok-state (step (state_after w v.seen) (event_of t outcome)) is_step in ap is_ok (goes-on w v.seen (event_of t outcome) next.0 legal next.1)

    -- It may be committed.
    pub may-commit-front : MayCommit (world_machine w) v (event_of t outcome)
    may-commit-front = may-commit (by_ranks w) w (node_meaning w) (party_of w) (values_of h) v (event_of t outcome) holds.shards (shards-of w world h v holds (event_of t outcome) (own-is outcome) (other-is outcome)) may-follow
        (λ p its. absurd (let none = no-party w t outcome in let no : ⊥ = cc in no))

    steps : IsStepOn (state_after w v.seen) (state_after w (v.seen ++ event_of t outcome ∷ [])) (event_of t outcome) h.nodes.own.value (peer_of h.nodes.other) (group_of h.nodes.other)
    steps = step-on w world h v holds (event_of t outcome) (own-is outcome) (reached outcome) (other-is outcome) may-follow

    pub may-put : t.put ≡ true → IsFirstCarried h.nodes.own.value.posts t → MayPut h.nodes.own.value (peer_of h.nodes.other) (group_of h.nodes.other) t
    may-put put first = (
      state_after w v.seen,
      state_after w (v.seen ++ event_of t outcome ∷ []),
      outcome,
      subst (λ (e : Event). IsStepOn (state_after w v.seen) (state_after w (v.seen ++ event_of t outcome ∷ [])) e h.nodes.own.value (peer_of h.nodes.other) (group_of h.nodes.other)) (event-put t outcome put) steps,
      first,
    )

    pub may-take : t.put ≡ false → IsFirstPosted h.nodes.own.value.posts t → MayTake h.nodes.own.value (peer_of h.nodes.other) (group_of h.nodes.other) t
    may-take put first = (
      state_after w v.seen,
      state_after w (v.seen ++ event_of t outcome ∷ []),
      outcome,
      subst (λ (e : Event). IsStepOn (state_after w v.seen) (state_after w (v.seen ++ event_of t outcome ∷ [])) e h.nodes.own.value (peer_of h.nodes.other) (group_of h.nodes.other)) (event-take t outcome put) steps,
      first,
    )

    -- It was committed, and recorded.
    as-committed : (made : Event) (place : ℕ) (k : List Event) (u : PassView S Event) → made ≡ event_of t outcome → Committed (world_machine w) v made place k u → Committed (world_machine w) v (event_of t outcome) place k u
    as-committed made place k u is c = subst (λ (e : Event). Committed (world_machine w) v e place k u) is c

    pub committed-front : (made e : Event) (place : ℕ) (k : List Event) (u : PassView S Event) (new : HeldNodes) → made ≡ event_of t outcome → event_of t outcome ≡ e → IsSameKind new.other h.nodes.other → Committed (world_machine w) v made place k u
        → ((s after : State) → IsStepOn s after e h.nodes.own.value (peer_of h.nodes.other) (group_of h.nodes.other)
        → IsLeft s after e place h.nodes.own.value new.own.value (peer_of h.nodes.other) (peer_of new.other) (group_of new.other)) → Holds w (record { own = h.own; other = h.other; nodes = new }) u
    committed-front made e place k u new is same kind c left =
        let left_by_event : (s after : State) → IsStepOn s after (event_of t outcome) h.nodes.own.value (peer_of h.nodes.other) (group_of h.nodes.other)
        → IsLeft s after (event_of t outcome) place h.nodes.own.value new.own.value (peer_of h.nodes.other) (peer_of new.other) (group_of new.other) =
        subst (λ (x : Event). (s after : State) → IsStepOn s after x h.nodes.own.value (peer_of h.nodes.other) (group_of h.nodes.other) → IsLeft s after x place h.nodes.own.value new.own.value (peer_of h.nodes.other) (peer_of new.other) (group_of new.other)) (sym same) left in
        committed-holds w world h v holds (event_of t outcome) place k u new (own-is outcome) (reached outcome) (other-is outcome) kind left_by_event (as-committed made place k u is c)

    pub moved-behind : (made : Event) (place : ℕ) (k : List Event) (u : PassView S Event) → made ≡ event_of t outcome → Committed (world_machine w) v made place k u → IsMovedBehind w t.origin v u
    moved-behind made place k u is c = (event_of t outcome, is-transfer t outcome, added (by_ranks w) w (node_meaning w) (party_of w) v u (event_of t outcome) place k (as-committed made place k u is c))

-- A transfer that was committed after one look, whatever others committed between, is recorded.
module _ {S : Type 0} (w : ShapeValue) where
  moved-once : (h : HeldShards) (v u z : PassView S Event) (e : Event) (held : List (ℕ × Option (List Event))) (records : List (ℕ × LockOp)) → IsLookedOnly (world_machine w) v u → (a : IsCommitted w u e z) → Holds w h z
      → IsCommittedOnce (world_machine w) v e (length a.before) (record z { held = held; lock_operations = records })
  moved-once h v u z e held records look a holds = record {
    before = a.before;
    seen = a.seen;
    legal = subst (λ (y : List Event). is_legal w y ≡ true) a.seen holds.shards.legal;
    goes_on = prefix_trans v.seen u.seen a.before look.goes_on a.later;
    place_is = refl;
    own = holds.shards.own;
    mine = a.mine ∙ ap (λ (l : List Event). mine_after (party_of w e) l e) look.mine;
    commits = a.commits ∙ ap (λ (l : List ℕ). l ++ length a.before ∷ []) look.commits;
    looks = (length u.seen, a.looks ∙ look.looks, prefix_length v.seen u.seen look.goes_on, prefix_length u.seen a.before a.later);
    missed = a.missed ∙ look.missed;
    met = a.met ∙ look.met;
    party = a.party_is ∙ look.party;
    start = a.start ∙ look.start;
  }

  pub moved-left : (h : HeldShards) (v u z n : PassView S Event) (origin own : ℕ) (other : Option ℕ) → IsLookedOnly (world_machine w) v u → IsMovedBehind w origin u z → Holds w h z → n ≡ left_by own other z → Transfers w origin v moves.Moved n
  moved-left h v u z n origin own other look (e, is, a) holds left =
      (e, length a.before, is, subst (λ (y : PassView S Event). IsCommittedOnce (world_machine w) v e (length a.before) y) (sym left) (go other))
    where
      go : (other : Option ℕ) → IsCommittedOnce (world_machine w) v e (length a.before) (left_by own other z)
      go None = moved-once h v u z e (after_give_back z own).held (after_give_back z own).lock_operations look a holds
      go (Some j) = moved-once h v u z e (after_give_back (after_give_back z j) own).held (after_give_back (after_give_back z j) own).lock_operations look a holds
