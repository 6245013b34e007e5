-- Numbers of a type. (GASPI: collectives)
use Rattle.std.specs.Prelude.{◌≡◌, ℤ, pos, negsuc, int_le, Bool, true, ◌&&◌, List}
use Rattle.std.specs.List.{AllByRecursion}
use Rattle.gaspi_types.specs.declared.collectives.NumType.{NumType}
use Rattle.gaspi_types.specs.declared.collectives.NumType.TheVariants.{Int, Uint, Long, Ulong, Float, Double}

-- the range of a type; numbers of FLOAT and DOUBLE are those of LONG

-- the least number of a type
abbrev pub lowest : NumType → ℤ
lowest Int = negsuc 2147483647
lowest Uint = pos 0
lowest Long = negsuc 9223372036854775807
lowest Ulong = pos 0
lowest Float = negsuc 9223372036854775807
lowest Double = negsuc 9223372036854775807

-- the greatest number of a type
abbrev pub highest : NumType → ℤ
highest Int = pos 2147483647
highest Uint = pos 4294967295
highest Long = pos 9223372036854775807
highest Ulong = pos 18446744073709551615
highest Float = pos 9223372036854775807
highest Double = pos 9223372036854775807

-- whether a number is in the range of a type
abbrev pub is_in_type : NumType → ℤ → Bool
is_in_type t z = int_le (lowest t) z && int_le z (highest t)

-- all numbers are in the type's range
abbrev pub AreInType : NumType → List ℤ → Type 0
AreInType t items = AllByRecursion (λ z. is_in_type t z ≡ true) items

-- a type and numbers, which are in its range where they are those of a reply
pub record TypedNumbers : Type 0 where
  pub num_type : NumType
  pub items : List ℤ
