-- The words that are written are of bytes behind the space.
use Rattle.std.proofs.Common.{◌≡◌, ℕ, ◌^◌, ◌<◌, true, List, [], ◌∷◌, ◌++◌, length, refl, arith, length-append, append_assoc}
use Rattle.std.specs.Char.{is_ascii_digit}
use Rattle.std.specs.Fmt.{decimal}
use Rattle.std.specs.List.{AllByRecursion, AllPass, list_all}
use Rattle.std.proofs.lemmas.Bool.Decides.{nat_tests}
use Rattle.std.proofs.lemmas.List.Elements.{All-cons, All-append, All-weaker}
use Rattle.std.proofs.lemmas.List.Sums.{AllPass-from_list_all}
use Rattle.hex.specs.Hex.{IsBytes}
use Rattle.gaspi_types.specs.declared.shapes.CallerId.{CallerId}
use Rattle.call_texts.specs.Hex.{hex_text}
use Rattle.call_texts.specs.Numbers.{is_numeral}
use Rattle.call_texts.specs.Words.{is_plain, IsPlainWord}
use Rattle.gaspi_texts.specs.CallLaws.{CallLaws}
use Rattle.gaspi_texts.specs.EventText.{caller_word}
use Rattle.gaspi_texts.proofs.WordTexts.{is_graphic, IsGraphic}

pub fixed_word : (word : List ℕ) → 0 < length word → list_all is_graphic word ≡ true → IsGraphic word
fixed_word word filled pass = record { filled = filled; graphic = AllPass-from_list_all is_graphic word pass }

-- plain words are such words
plain_graphic : (byte : ℕ) → is_plain byte ≡ true → is_graphic byte ≡ true
unfolding is_plain is_graphic
plain_graphic byte pass = grind (arith, nat_tests)

pub plain_word : (word : List ℕ) → IsPlainWord word → IsGraphic word
plain_word word h =
    record { filled = h.filled; graphic = All-weaker (λ byte. is_plain byte ≡ true) (λ byte. is_graphic byte ≡ true) plain_graphic word h.plain }

pub plain_words : (words : List (List ℕ)) → AllByRecursion IsPlainWord words → AllByRecursion IsGraphic words
plain_words [] h = tt
plain_words (word ∷ words) h = (plain_word word h.0, plain_words words h.1)

-- a word of digits
digit_graphic : (byte : ℕ) → is_ascii_digit byte ≡ true → is_graphic byte ≡ true
unfolding is_graphic
digit_graphic byte pass = grind (arith, nat_tests)

numeral_filled : (word : List ℕ) → is_numeral word ≡ true → 0 < length word
numeral_filled word pass = grind (arith, nat_tests)

numeral_digits : (word : List ℕ) → is_numeral word ≡ true → list_all is_ascii_digit word ≡ true
numeral_digits word pass = grind (arith, nat_tests)

pub both_graphic : (words others : List (List ℕ)) → AllByRecursion IsGraphic words → AllByRecursion IsGraphic others → AllByRecursion IsGraphic (words ++ others)
both_graphic [] others first second = second
both_graphic (word ∷ words) others first second = (first.0, both_graphic words others first.1 second)

pub caller_word-parts : (c : CallerId) → caller_word c ≡ decimal c.rank ++ (46 ∷ decimal c.thread)
caller_word-parts c = append_assoc (decimal c.rank) (46 ∷ []) (decimal c.thread)

module _ (laws : CallLaws) where
  are_digits : (n : ℕ) → n < 2 ^ 64 → list_all is_ascii_digit (decimal n) ≡ true
  are_digits n small = numeral_digits (decimal n) (laws.number_plain n small)

  pub digits_pass : (n : ℕ) → n < 2 ^ 64 → AllPass is_ascii_digit (decimal n)
  digits_pass n small = AllPass-from_list_all is_ascii_digit (decimal n) (are_digits n small)

  number_graphic : (n : ℕ) → n < 2 ^ 64 → AllPass is_graphic (decimal n)
  number_graphic n small =
      All-weaker (λ byte. is_ascii_digit byte ≡ true) (λ byte. is_graphic byte ≡ true) digit_graphic (decimal n) (digits_pass n small)

  pub number_word : (n : ℕ) → n < 2 ^ 64 → IsGraphic (decimal n)
  number_word n small = record { filled = numeral_filled (decimal n) (laws.number_plain n small); graphic = number_graphic n small }

  pub small_word : (n : ℕ) → n < 2 ^ 32 → IsGraphic (decimal n)
  small_word n small = number_word n (omega arith)

  pub hex_word : (bytes : List ℕ) → IsBytes bytes → IsGraphic (hex_text bytes)
  hex_word bytes small = plain_word (hex_text bytes) (laws.bytes_plain bytes small)

  pub caller_graphic : (c : CallerId) → c.rank < 16 → c.thread < 4 → IsGraphic (caller_word c)
  unfolding is_graphic
  caller_graphic c rank thread =
      rw (caller_word-parts c) (record {
        filled = omega (arith, length-append (decimal c.rank) (46 ∷ decimal c.thread));
        graphic = All-append (λ byte. is_graphic byte ≡ true) (decimal c.rank) (46 ∷ decimal c.thread) (number_graphic c.rank (omega arith))
            (All-cons (λ byte. is_graphic byte ≡ true) 46 (decimal c.thread) refl (number_graphic c.thread (omega arith)));
      })
