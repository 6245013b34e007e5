-- Words added behind a text. (own choice)
use Rattle.std.specs.Prelude.{ℕ, ℤ, List, ◌∷◌}
use Rattle.std.specs.List.{flat_map}
use Rattle.std.specs.Fmt.{decimal, signed_decimal}

-- each word behind one space
abbrev pub spaced : List (List ℕ) → List ℕ
spaced words = flat_map (λ word. 32 ∷ word) words

-- the same of numbers
abbrev pub spaced_numbers : List ℕ → List ℕ
spaced_numbers numbers = flat_map (λ n. 32 ∷ decimal n) numbers

-- and of elements
abbrev pub spaced_elements : List ℤ → List ℕ
spaced_elements elements = flat_map (λ z. 32 ∷ signed_decimal z) elements
