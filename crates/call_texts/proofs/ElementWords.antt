-- Types, operations and elements as words, read back, and what words spell of them.
use Rattle.std.proofs.Common.{◌≡◌, ℕ, ℤ, pos, negsuc, ◌^◌, ◌<◌, true, false, ◌==◌, List, [], ◌∷◌, length, map, suc, Some, lit<, refl, sym, ap, subst, ◌∙◌, arith}
use Rattle.std.specs.Char.{is_ascii_digit}
use Rattle.std.specs.Fmt.{decimal, signed_decimal}
use Rattle.std.specs.List.{list_all, AllByRecursion}
use Rattle.std.specs.Option.{option_map}
use Rattle.std.proofs.lemmas.Bool.Decides.{nat_tests}
use Rattle.std.proofs.lemmas.Fmt.{digits_decimal}
use Rattle.std.proofs.lemmas.List.Elements.{All-cons}
use Rattle.std.proofs.lemmas.Option.{option_and_then_some, cond_some, same_Some}
use Rattle.gaspi_types.specs.NumberTypes.{is_in_type, AreInType}
use Rattle.gaspi_types.specs.declared.collectives.NumType.{NumType}
use Rattle.gaspi_types.specs.declared.collectives.NumType.TheVariants.{Int, Uint, Long, Ulong, Float, Double}
use Rattle.gaspi_types.specs.declared.collectives.Op.{Op}
use Rattle.gaspi_types.specs.declared.collectives.Op.TheVariants.{Min, Max, Sum}
use Rattle.call_texts.specs.Elements.{type_word, op_word, type_of, op_of, signed_of, element_of, elements_of}
use Rattle.call_texts.specs.Numbers.{number_of}
use Rattle.call_texts.specs.Words.{is_plain, IsPlainWord}
use Rattle.call_texts.proofs.NumberWords.{digit_words, number_of-decimal}
use Rattle.call_texts.proofs.PlainWords.{number_word, fixed_word}

-- Types and operations.

pub type_of-word : (t : NumType) → type_of (type_word t) ≡ Some t
unfolding type_of
type_of-word Int = refl
type_of-word Uint = refl
type_of-word Long = refl
type_of-word Ulong = refl
type_of-word Float = refl
type_of-word Double = refl

pub op_of-word : (op : Op) → op_of (op_word op) ≡ Some op
unfolding op_of
op_of-word Min = refl
op_of-word Max = refl
op_of-word Sum = refl

pub type_plain : (t : NumType) → IsPlainWord (type_word t)
unfolding is_plain
type_plain Int = fixed_word (type_word Int) (lit< tt) refl
type_plain Uint = fixed_word (type_word Uint) (lit< tt) refl
type_plain Long = fixed_word (type_word Long) (lit< tt) refl
type_plain Ulong = fixed_word (type_word Ulong) (lit< tt) refl
type_plain Float = fixed_word (type_word Float) (lit< tt) refl
type_plain Double = fixed_word (type_word Double) (lit< tt) refl

pub op_plain : (op : Op) → IsPlainWord (op_word op)
unfolding is_plain
op_plain Min = fixed_word (op_word Min) (lit< tt) refl
op_plain Max = fixed_word (op_word Max) (lit< tt) refl
op_plain Sum = fixed_word (op_word Sum) (lit< tt) refl

-- Numbers of a type have digits that are read as 64 bits.

unfoldable IsWide : ℤ → Type 0
IsWide (pos n) = n < 2 ^ 64
IsWide (negsuc n) = suc n < 2 ^ 64

wide_in_type : (t : NumType) (z : ℤ) → is_in_type t z ≡ true → IsWide z
unfolding IsWide
wide_in_type Int (pos n) h = grind (arith, nat_tests)
wide_in_type Int (negsuc n) h = grind (arith, nat_tests)
wide_in_type Uint (pos n) h = grind (arith, nat_tests)
wide_in_type Uint (negsuc n) h = grind (arith, nat_tests)
wide_in_type Long (pos n) h = grind (arith, nat_tests)
wide_in_type Long (negsuc n) h = grind (arith, nat_tests)
wide_in_type Ulong (pos n) h = grind (arith, nat_tests)
wide_in_type Ulong (negsuc n) h = grind (arith, nat_tests)
wide_in_type Float (pos n) h = grind (arith, nat_tests)
wide_in_type Float (negsuc n) h = grind (arith, nat_tests)
wide_in_type Double (pos n) h = grind (arith, nat_tests)
wide_in_type Double (negsuc n) h = grind (arith, nat_tests)

-- What is written is read back.

-- a word of digits has no sign
signed_of-digits : (word : List ℕ) → list_all is_ascii_digit word ≡ true → signed_of word ≡ option_map pos (number_of word)
unfolding signed_of number_of
signed_of-digits [] digits = refl
signed_of-digits (byte ∷ bytes) digits =
    let other : (byte == 45) ≡ false = grind (arith, nat_tests) in
    rw other refl

signed_of-decimal : (z : ℤ) → IsWide z → signed_of (signed_decimal z) ≡ Some z
unfolding IsWide signed_of
signed_of-decimal (pos n) wide = signed_of-digits (decimal n) (digits_decimal digit_words n wide) ∙ rw (number_of-decimal n wide) refl
signed_of-decimal (negsuc n) wide = rw (number_of-decimal (suc n) wide) refl

element_of-decimal : (t : NumType) (z : ℤ) → is_in_type t z ≡ true → element_of t (signed_decimal z) ≡ Some z
unfolding element_of
element_of-decimal t z h = rw (signed_of-decimal z (wide_in_type t z h), h) refl

pub elements_of-decimals : (t : NumType) (items : List ℤ) → AreInType t items → elements_of t (map signed_decimal items) ≡ Some items
elements_of-decimals t [] h = refl
elements_of-decimals t (z ∷ items) h = rw (element_of-decimal t z h.0, elements_of-decimals t items h.1) refl

-- What is written are plain words.

signed_plain : (z : ℤ) → IsWide z → IsPlainWord (signed_decimal z)
unfolding IsWide is_plain
signed_plain (pos n) wide = number_word n wide
signed_plain (negsuc n) wide =
    record { filled = omega arith; plain = All-cons (λ byte. is_plain byte ≡ true) 45 (decimal (suc n)) refl (number_word (suc n) wide).plain }

pub elements_plain : (t : NumType) (items : List ℤ) → AreInType t items → AllByRecursion IsPlainWord (map signed_decimal items)
elements_plain t [] h = tt
elements_plain t (z ∷ items) h = (signed_plain z (wide_in_type t z h.0), elements_plain t items h.1)

-- What words spell is in the type's range, and as much as they.

element_of-range : (t : NumType) (word : List ℕ) (z : ℤ) → element_of t word ≡ Some z → is_in_type t z ≡ true
unfolding element_of
element_of-range t word z is =
    option_and_then_some _ (signed_of word) z is (λ y spelled found.
    let passed = cond_some (is_in_type t y) y z found in
    subst (λ (x : ℤ). is_in_type t x ≡ true) passed.1 passed.0)

pub elements_of-range : (t : NumType) (words : List (List ℕ)) (items : List ℤ) → elements_of t words ≡ Some items → AreInType t items
elements_of-range t [] items is = subst (λ (zs : List ℤ). AreInType t zs) (same_Some [] items is) tt
elements_of-range t (word ∷ words) items is =
    option_and_then_some _ (element_of t word) items is (λ z spelled found.
    option_and_then_some _ (elements_of t words) items found (λ rest read same.
    subst (λ (zs : List ℤ). AreInType t zs) (same_Some (z ∷ rest) items same) (element_of-range t word z spelled, elements_of-range t words rest read)))

pub elements_of-length : (t : NumType) (words : List (List ℕ)) (items : List ℤ) → elements_of t words ≡ Some items → length items ≡ length words
elements_of-length t [] items is = ap length (sym (same_Some [] items is))
elements_of-length t (word ∷ words) items is =
    option_and_then_some _ (element_of t word) items is (λ z spelled found.
    option_and_then_some _ (elements_of t words) items found (λ rest read same.
    subst (λ (zs : List ℤ). length zs ≡ length (word ∷ words)) (same_Some (z ∷ rest) items same) (ap suc (elements_of-length t words rest read))))
