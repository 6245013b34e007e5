-- A rank has joined a group as often as it has completed a collective there, and once more where one is pending.
use Rattle.std.proofs.Common.{◌≡◌, ℕ, ◌+◌, ◌<◌, true, List, Option, None, Some, Ok, refl, ap, ◌∙◌, arith}
use Rattle.std.specs.List.{slice_get}
use Rattle.gaspi_types.specs.Tables.{item_at}
use Rattle.gaspi_types.specs.World.{ShapeValue, IsShape}
use Rattle.gaspi_types.specs.declared.events.Event.{Event}
use Rattle.gaspi_types.specs.declared.groups.PendingCollective.{PendingCollective}
use Rattle.gaspi_types.specs.declared.shapes.Limits.{Limits}
use Rattle.gaspi_types.proofs.Items.{there-within}
use Rattle.gaspi_model.specs.Contributions.{pending_count}
use Rattle.gaspi_model.specs.State.{opening}
use Rattle.gaspi_model.specs.Step.{reached, is_legal}
use Rattle.gaspi_model.specs.Rounds.{completions_on, joins_on}
use Rattle.gaspi_model.specs.declared.states.Posts.{Posts}
use Rattle.gaspi_model.specs.declared.states.State.{State}
use Rattle.gaspi_model.proofs.Histories.{after-limits, leads, reached-sound}
use Rattle.gaspi_model.proofs.Ordered.Collectives.{joins-counted}
use Rattle.gaspi_model.specs.ContributionCounts.{IsPendingAfter, ContributesOnce}

waiting-counted : (w : ShapeValue) (history : List Event) (rank id : ℕ) → IsShape w → id < 8 → (p : IsPendingAfter w history rank id) → joins_on rank id history ≡ completions_on rank id history + 1
waiting-counted w history rank id world few p =
    joins-counted w history p.state rank id p.posts world p.leads p.posts_there few ∙ ap (λ (o : Option PendingCollective). completions_on rank id history + pending_count o) p.pending_there

idle-counted : (w : ShapeValue) (history : List Event) (rank id : ℕ) → IsShape w → is_legal w history ≡ true → rank < w.limits.ranks → id < 8 → (IsPendingAfter w history rank id → ⊥)
    → joins_on rank id history ≡ completions_on rank id history
idle-counted w history rank id world legal ranked few none =
    let end = leads (reached w history) legal in
    let sound = reached-sound w history end.0 world end.1 in
    let ranks : end.0.limits.ranks ≡ w.limits.ranks = ap (λ (l : Limits). l.ranks) (after-limits (opening w) end.0 history end.1) in
    let there = there-within end.0.posts rank (let many = sound.ranks in omega arith) in
    go end.0 there.0 end.1 there.1 (item_at there.0.pending id) refl (joins-counted w history end.0 rank id there.0 world end.1 there.1 few)
  where
    go : (s : State) (posts : Posts) → reached w history ≡ Ok s → slice_get s.posts rank ≡ Some posts → (o : Option PendingCollective) → item_at posts.pending id ≡ o
        → joins_on rank id history ≡ completions_on rank id history + pending_count (item_at posts.pending id) → joins_on rank id history ≡ completions_on rank id history
    go s posts leads_there there None at counted =
        let none_more : pending_count (item_at posts.pending id) ≡ 0 = ap pending_count at in
        omega arith
    go s posts leads_there there (Some p) at counted =
        absurd (none (record { state = s; posts = posts; pending = p; leads = leads_there; posts_there = there; pending_there = at }))

pub contributes-once : (w : ShapeValue) (history : List Event) → IsShape w → is_legal w history ≡ true → ContributesOnce w history
contributes-once w history world legal = record {
  idle = λ rank id ranked few none. idle-counted w history rank id world legal ranked few none;
  pending = λ rank id ranked few p. waiting-counted w history rank id world few p;
}
