-- The words of types and operations, and numbers of a type as words of a text. (own choice)
use Rattle.std.specs.Prelude.{ℕ, ℤ, pos, neg_ℤ, ◌==◌, List, [], ◌∷◌, Option, Some, None, find, if◌then◌else◌, codes}
use Rattle.std.specs.Option.{option_map}
use Rattle.std.specs.Str.{bytes_eq}
use Rattle.gaspi_types.specs.NumberTypes.{is_in_type}
use Rattle.gaspi_types.specs.declared.collectives.NumType.{NumType}
use Rattle.gaspi_types.specs.declared.collectives.NumType.TheVariants.{Int, Uint, Long, Ulong, Float, Double}
use Rattle.gaspi_types.specs.declared.collectives.Op.{Op}
use Rattle.gaspi_types.specs.declared.collectives.Op.TheVariants.{Min, Max, Sum}
use Rattle.call_texts.specs.Numbers.{number_of}
use Rattle.call_texts.specs.Steps.{◌>>=◌}

-- The words of types and operations.

-- the word of a type
abbrev pub type_word : NumType → List ℕ
type_word Int = codes "INT"
type_word Uint = codes "UINT"
type_word Long = codes "LONG"
type_word Ulong = codes "ULONG"
type_word Float = codes "FLOAT"
type_word Double = codes "DOUBLE"

-- the word of an operation
abbrev pub op_word : Op → List ℕ
op_word Min = codes "MIN"
op_word Max = codes "MAX"
op_word Sum = codes "SUM"

-- the type or operation with a word

-- the type with a word
unfoldable pub type_of : List ℕ → Option NumType
type_of word = find (λ t. bytes_eq (type_word t) word) (Int ∷ Uint ∷ Long ∷ Ulong ∷ Float ∷ Double ∷ [])

-- the operation with a word
unfoldable pub op_of : List ℕ → Option Op
op_of word = find (λ op. bytes_eq (op_word op) word) (Min ∷ Max ∷ Sum ∷ [])

-- Elements: the numbers of a list.

-- a number with an optional `-` before it
unfoldable pub signed_of : List ℕ → Option ℤ
signed_of [] = None
signed_of (byte ∷ bytes) =
    if byte == 45 then option_map (λ n. neg_ℤ (pos n)) (number_of bytes) else option_map pos (number_of (byte ∷ bytes))

-- an element of a type
unfoldable pub element_of : NumType → List ℕ → Option ℤ
element_of t word = do
  z ← signed_of word
  if is_in_type t z then Some z else None

-- all words as elements
abbrev pub elements_of : NumType → List (List ℕ) → Option (List ℤ)
elements_of t [] = Some []
elements_of t (word ∷ words) = do
  z ← element_of t word
  rest ← elements_of t words
  Some (z ∷ rest)
