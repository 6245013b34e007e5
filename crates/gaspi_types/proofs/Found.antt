-- What a search has found passes its test.
use Rattle.std.proofs.Common.{◌≡◌, Bool, true, false, cond, List, [], ◌∷◌, Some, refl, subst}
use Rattle.std.specs.List.{find}
use Rattle.std.proofs.lemmas.Option.{same_Some}

pub found_passes : {A : Type 0} (p : A → Bool) (xs : List A) (x : A) → find p xs ≡ Some x → p x ≡ true
found_passes {A} p [] x h = absurd (let no : ⊥ = cc in no)
found_passes {A} p (y ∷ xs) x h = go (p y) refl h (λ e. found_passes p xs x e)
  where
    go : (b : Bool) → p y ≡ b → cond b (Some y) (find p xs) ≡ Some x → (find p xs ≡ Some x → p x ≡ true) → p x ≡ true
    go true here same later = subst (λ (z : A). p z ≡ true) (same_Some y x same) here
    go false here same later = later same
