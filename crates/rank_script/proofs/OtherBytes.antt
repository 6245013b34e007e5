-- A list folded to whether one of its items passes a test.
use Rattle.std.proofs.Common.{◌≡◌, Bool, true, false, ◌||◌, List, [], ◌∷◌, refl}
use Rattle.std.specs.List.{fold, list_any}

any-so-far : {X : Type 0} (test : X → Bool) (found : Bool) (xs : List X) → fold (λ found x. found || test x) found xs ≡ (found || list_any test xs)
any-so-far test true [] = refl
any-so-far test false [] = refl
any-so-far test true (x ∷ xs) = any-so-far test true xs
any-so-far test false (x ∷ xs) = any-so-far test (test x) xs

pub list_any-fold : {X : Type 0} (test : X → Bool) (xs : List X) → fold (λ found x. found || test x) false xs ≡ list_any test xs
list_any-fold test xs = any-so-far test false xs
