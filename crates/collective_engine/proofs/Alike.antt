-- Members who have given the same come to the same.
use Rattle.std.proofs.Common.{◌≡◌, ℕ, ℤ, Bool, ◌&&◌, List, [], ◌∷◌, Option, is_some, refl, ◌∙◌, ap}
use Rattle.std.specs.List.{AllByRecursion}
use Rattle.gaspi_types.specs.Collectives.{combined, is_full, or_later, first_contribution, values_in, reduced_onto, reduced_values, generation_in, made_by}
use Rattle.gaspi_types.specs.declared.collectives.NumType.{NumType}
use Rattle.gaspi_types.specs.declared.collectives.Op.{Op}
use Rattle.gaspi_types.specs.declared.groups.Contribution.{Contribution}
use Rattle.gaspi_types.specs.declared.groups.MemberSegment.{MemberSegment}

module _ (given other : ℕ → Option Contribution) where
  pub full-alike : (xs : List ℕ) → AllByRecursion (λ m. given m ≡ other m) xs → is_full given xs ≡ is_full other xs
  full-alike [] all = refl
  full-alike (m ∷ xs) all = ap (λ (o : Option Contribution). is_some o && is_full given xs) all.0 ∙ ap (λ (b : Bool). is_some (other m) && b) (full-alike xs all.1)

  pub first-alike : (xs : List ℕ) → AllByRecursion (λ m. given m ≡ other m) xs → first_contribution given xs ≡ first_contribution other xs
  first-alike [] all = refl
  first-alike (m ∷ xs) all = ap (λ (o : Option Contribution). or_later o (first_contribution given xs)) all.0 ∙ ap (or_later (other m)) (first-alike xs all.1)

  pub made-alike : (xs : List ℕ) → AllByRecursion (λ m. given m ≡ other m) xs → made_by given xs ≡ made_by other xs
  made-alike [] all = refl
  made-alike (m ∷ xs) all = ap (λ (o : Option Contribution). record { rank = m; generation = generation_in o } ∷ made_by given xs) all.0 ∙ ap (λ (rest : List MemberSegment). record { rank = m; generation = generation_in (other m) } ∷ rest) (made-alike xs all.1)

  pub reduction_of-alike : (op : Op) (t : NumType) (total : List ℤ) (xs : List ℕ) → AllByRecursion (λ m. given m ≡ other m) xs → reduced_onto given op t total xs ≡ reduced_onto other op t total xs
  reduction_of-alike op t total [] all = refl
  reduction_of-alike op t total (m ∷ xs) all =
      ap (λ (o : Option Contribution). reduced_onto given op t (combined op t total (values_in o)) xs) all.0 ∙ reduction_of-alike op t (combined op t total (values_in (other m))) xs all.1

  pub reduced-alike : (op : Op) (t : NumType) (xs : List ℕ) → AllByRecursion (λ m. given m ≡ other m) xs → reduced_values given op t xs ≡ reduced_values other op t xs
  reduced-alike op t [] all = refl
  reduced-alike op t (m ∷ xs) all =
      ap (λ (o : Option Contribution). reduced_onto given op t (values_in o) xs) all.0 ∙ reduction_of-alike op t (values_in (other m)) xs all.1

  -- it is enough for being full that the same have given
  pub full-counted : (xs : List ℕ) → AllByRecursion (λ m. is_some (given m) ≡ is_some (other m)) xs → is_full given xs ≡ is_full other xs
  full-counted [] all = refl
  full-counted (m ∷ xs) all = ap (λ (b : Bool). b && is_full given xs) all.0 ∙ ap (λ (b : Bool). is_some (other m) && b) (full-counted xs all.1)
