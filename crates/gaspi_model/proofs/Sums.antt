-- Sums in the bits of a type.
use Rattle.std.proofs.Common.{◌≡◌, ◌+◌, ◌%◌, ◌^◌, ℤ, pos, negsuc, ◌+ℤ◌, true, FitsSigned, to_z, of_z, w32, w64, refl, ◌∙◌, arith, inl, inr, ◌⊎◌}
use Rattle.std.specs.Int.{Width, w128, int_wrap, int_rem_euclid}
use mir.Val.{bits}
use Rattle.std.specs.Int.RustNames.{unsigned_abs}
use Rattle.std.proofs.lemmas.Int.{ints, to_z-of_z, wrapping_add_is}
use Rattle.gaspi_types.specs.Collectives.{wrapped}
use Rattle.gaspi_types.specs.NumberTypes.{is_in_type}
use Rattle.gaspi_types.specs.declared.collectives.NumType.{NumType}
use Rattle.gaspi_types.specs.declared.collectives.NumType.TheVariants.{Int, Uint, Long, Ulong, Float, Double}

pub fits_int : (a : ℤ) → is_in_type Int a ≡ true → FitsSigned w32 a
fits_int a h = grind (arith, ints)

pub fits_long : (a : ℤ) → is_in_type Long a ≡ true → FitsSigned w64 a
fits_long a h = grind (arith, ints)

pub signed : (w : Width) (a b r : ℤ) → FitsSigned w128 a → FitsSigned w128 b → FitsSigned w128 r → FitsSigned w a → FitsSigned w b
    → r ≡ to_z w ((of_z w (to_z w128 (of_z w128 a)) + of_z w (to_z w128 (of_z w128 b))) % 2 ^ bits w) → to_z w128 (of_z w128 r) ≡ int_wrap w (a +ℤ b)
signed w a b r fa fb fr ga gb h =
    let first = to_z-of_z w128 a fa in
    let second = to_z-of_z w128 b fb in
    to_z-of_z w128 r fr ∙ (rw (first, second) at h) ∙ wrapping_add_is w a b ga gb

-- the types that have the numbers of LONG
pub long_sum : (t : NumType) (a b r : ℤ) → (t ≡ Long) ⊎ ((t ≡ Float) ⊎ (t ≡ Double)) → FitsSigned w128 a → FitsSigned w128 b → FitsSigned w128 r → is_in_type t a ≡ true → is_in_type t b ≡ true
    → r ≡ to_z w64 ((of_z w64 (to_z w128 (of_z w128 a)) + of_z w64 (to_z w128 (of_z w128 b))) % 18446744073709551616) → to_z w128 (of_z w128 r) ≡ wrapped t (a +ℤ b)
long_sum t a b r (inl is) fa fb fr ga gb h = rw is (signed w64 a b r fa fb fr (fits_long a (rw is at ga)) (fits_long b (rw is at gb)) h)
long_sum t a b r (inr (inl is)) fa fb fr ga gb h = rw is (signed w64 a b r fa fb fr (fits_long a (rw is at ga)) (fits_long b (rw is at gb)) h)
long_sum t a b r (inr (inr is)) fa fb fr ga gb h = rw is (signed w64 a b r fa fb fr (fits_long a (rw is at ga)) (fits_long b (rw is at gb)) h)

-- the sum of numbers that are not negative
sum_int : (a b : ℤ) → is_in_type Uint a ≡ true → is_in_type Uint b ≡ true → pos ((unsigned_abs a + unsigned_abs b) % 4294967296) ≡ int_rem_euclid (a +ℤ b) (pos 4294967296)
sum_int (pos m) (pos n) ga gb = refl
sum_int (negsuc m) b ga gb = absurd (let no : ⊥ = cc in no)
sum_int (pos m) (negsuc n) ga gb = absurd (let no : ⊥ = cc in no)

sum_long : (a b : ℤ) → is_in_type Ulong a ≡ true → is_in_type Ulong b ≡ true → pos ((unsigned_abs a + unsigned_abs b) % 18446744073709551616) ≡ int_rem_euclid (a +ℤ b) (pos 18446744073709551616)
sum_long (pos m) (pos n) ga gb = refl
sum_long (negsuc m) b ga gb = absurd (let no : ⊥ = cc in no)
sum_long (pos m) (negsuc n) ga gb = absurd (let no : ⊥ = cc in no)

pub unsigned_int : (a b r : ℤ) → FitsSigned w128 a → FitsSigned w128 b → FitsSigned w128 r → is_in_type Uint a ≡ true → is_in_type Uint b ≡ true
    → r ≡ pos ((unsigned_abs (to_z w128 (of_z w128 a)) + unsigned_abs (to_z w128 (of_z w128 b))) % 4294967296) → to_z w128 (of_z w128 r) ≡ int_rem_euclid (a +ℤ b) (pos 4294967296)
unsigned_int a b r fa fb fr ga gb h =
    let first = to_z-of_z w128 a fa in
    let second = to_z-of_z w128 b fb in
    to_z-of_z w128 r fr ∙ (rw (first, second) at h) ∙ sum_int a b ga gb

pub unsigned_long : (a b r : ℤ) → FitsSigned w128 a → FitsSigned w128 b → FitsSigned w128 r → is_in_type Ulong a ≡ true → is_in_type Ulong b ≡ true
    → r ≡ pos ((unsigned_abs (to_z w128 (of_z w128 a)) + unsigned_abs (to_z w128 (of_z w128 b))) % 18446744073709551616) → to_z w128 (of_z w128 r) ≡ int_rem_euclid (a +ℤ b) (pos 18446744073709551616)
unsigned_long a b r fa fb fr ga gb h =
    let first = to_z-of_z w128 a fa in
    let second = to_z-of_z w128 b fb in
    to_z-of_z w128 r fr ∙ (rw (first, second) at h) ∙ sum_long a b ga gb

-- numbers of every type have room in 128 bits
pub fits_wide : (t : NumType) (z : ℤ) → is_in_type t z ≡ true → FitsSigned w128 z
fits_wide Int z h = grind (arith, ints)
fits_wide Uint z h = grind (arith, ints)
fits_wide Long z h = grind (arith, ints)
fits_wide Ulong z h = grind (arith, ints)
fits_wide Float z h = grind (arith, ints)
fits_wide Double z h = grind (arith, ints)
