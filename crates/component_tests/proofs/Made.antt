-- The passes of a world as it was made.
use Rattle.std.proofs.Common.{◌≡◌, ℕ, ◌+◌, ◌<◌, List, [], ◌∷◌, ◌++◌, length, Option, Some, sym, ◌∙◌, refl, subst, arith}
use Rattle.std.proofs.lemmas.Option.{slice_get_within}
use Rattle.std.specs.List.{slice_get}
use Rattle.gaspi_types.specs.World.{ShapeValue}
use Rattle.gaspi_types.specs.declared.events.Event.{Event}
use Rattle.gaspi_types.specs.declared.shapes.CallerId.{CallerId}
use Rattle.commit_table.specs.Calls.{TableValue, PassValue, IsOf, HoldsNone}
use Rattle.commit_table.specs.Views.{new_pass}
use Rattle.gaspi_world.specs.Callers.{IsPassOf}
use Rattle.gaspi_world.specs.Calling.{MayCall}
use Rattle.gaspi_world.specs.declared.starts.Start.{Start}

-- each pass of a world without workers is that of a caller
pub made-callers : (t : TableValue Start) (w : ShapeValue) (n : ℕ) (ps : List (PassValue Start Event)) → t.start.shape ≡ w → length ps ≡ n + 0 → ((k : ℕ) → k < n + 0 → slice_get ps k ≡ Some (record { table = t.table; known = new_pass t.start (Some k) [] }))
    → ((k : ℕ) → k < n → (c : CallerId) × IsPassOf {S = Start} {E = Event} w c (new_pass t.start (Some k) [])) → (k : ℕ) (p : PassValue Start Event) → slice_get ps k ≡ Some p → MayCall t p
made-callers t w n ps began count made callers k p at =
    let less = slice_get_within ps k p at in
    let new : PassValue Start Event = record { table = t.table; known = new_pass t.start (Some k) [] } in
    let both : ◌≡◌ {A = Option (PassValue Start Event)} (Some new) (Some p) = sym (made k (omega arith)) ∙ at in
    let same : new ≡ p = cc in
    let caller = callers k (omega arith) in
    subst (MayCall t) same ((refl, refl), (λ i. refl), (caller.0, subst (λ (v : ShapeValue). IsPassOf {S = Start} {E = Event} v caller.0 (new_pass t.start (Some k) [])) (sym began) caller.1))

-- a pass that was made has done nothing yet
pub made-alone : (t : TableValue Start) (n : ℕ) (ps : List (PassValue Start Event)) → length ps ≡ n → ((k : ℕ) → k < n → slice_get ps k ≡ Some (record { table = t.table; known = new_pass t.start (Some k) [] }))
    → (k : ℕ) (p : PassValue Start Event) → slice_get ps k ≡ Some p → IsOf t p × HoldsNone p.known
made-alone t n ps count made k p at =
    let less = slice_get_within ps k p at in
    let new : PassValue Start Event = record { table = t.table; known = new_pass t.start (Some k) [] } in
    let both : ◌≡◌ {A = Option (PassValue Start Event)} (Some new) (Some p) = sym (made k (omega arith)) ∙ at in
    let same : new ≡ p = cc in
    subst (λ (q : PassValue Start Event). IsOf t q × HoldsNone q.known) same ((refl, refl), (λ i. refl))

-- the last of a list
pub at-end : {A : Type 0} (xs : List A) (x : A) → slice_get (xs ++ x ∷ []) (length xs) ≡ Some x
at-end [] x = refl
at-end (y ∷ xs) x = at-end xs x
