-- The end of a world: what its passes saw and did.
use Rattle.std.proofs.Common.{◌≡◌, ℕ, zero, suc, List, [], ◌∷◌, map, Option, Some, sym, ap, ◌∙◌}
use Rattle.std.specs.List.{slice_get}
use Rattle.gaspi_types.specs.World.{ShapeValue, IsShape}
use Rattle.gaspi_types.specs.declared.events.Event.{Event}
use Rattle.gaspi_model.specs.Parties.{number_of}
use Rattle.commit_table.specs.Calls.{PassValue, Closed}
use Rattle.commit_table.specs.declared.views.PassView.{PassView}
use Rattle.gaspi_world.specs.Closing.{HaveSeen, HaveDone}
use Rattle.gaspi_world.specs.WorldMachine.{world_machine}
use Rattle.gaspi_world.proofs.OwnEvents.{mine-events}

-- a value that was mapped
mapped : {A B : Type 0} (f : A → B) (xs : List A) (k : ℕ) (x : A) → slice_get xs k ≡ Some x → slice_get (map f xs) k ≡ Some (f x)
mapped f [] k x at = absurd (let no : ⊥ = cc in no)
mapped {A} {B} f (y ∷ ys) zero x at = (let same : y ≡ x = cc in ap (λ (z : A). (let o : Option B = Some (f z) in o)) same)
mapped f (y ∷ ys) (suc k) x at = mapped f ys k x at

module _ {S : Type 0} (w : ShapeValue) (h : List Event) (passes : List (PassValue S Event)) (known : List (PassView S Event)) (closed : Closed (world_machine w) h known) (are : known ≡ map (λ (p : PassValue S Event). p.known) passes) where
  known-at : (k : ℕ) (p : PassValue S Event) → slice_get passes k ≡ Some p → slice_get known k ≡ Some p.known
  known-at k p at = ap (λ (l : List (PassView S Event)). slice_get l k) are ∙ mapped (λ (q : PassValue S Event). q.known) passes k p at

  pub seen-all : HaveSeen h passes
  seen-all k p at = closed.seen k p.known (known-at k p at)

  pub done-all : IsShape w → HaveDone w h passes
  done-all world c k p at pass =
      sym (mine-events w c h world pass.0) ∙ closed.own k p.known (known-at k p at) (number_of w.callers c) pass.1
