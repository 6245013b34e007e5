-- The fields of a refusal as a list.
use Rattle.std.specs.Prelude.{ℕ, List, [], ◌∷◌}
use Rattle.gaspi_model.specs.declared.comparisons.Fields.{Fields}
use Rattle.gaspi_model.specs.declared.comparisons.Fields.TheVariants.{Nothing, One, Two, Three, Four}

-- these numbers, in order
abbrev pub listed : Fields → List ℕ
listed Nothing = []
listed (One m) = m ∷ []
listed (Two m n) = m ∷ n ∷ []
listed (Three l m n) = l ∷ m ∷ n ∷ []
listed (Four k l m n) = k ∷ l ∷ m ∷ n ∷ []
