-- The words of calls are plain.
use Rattle.std.proofs.Common.{◌≡◌, ℕ, ◌^◌, ◌<◌, ◌/◌, ◌%◌, true, false, ◌==◌, nat_lt, List, [], ◌∷◌, length, slice_index, suc, lit<, refl, arith}
use Rattle.std.specs.Char.{is_ascii_digit}
use Rattle.std.specs.Fmt.{decimal}
use Rattle.std.specs.List.{AllPass, list_all}
use Rattle.std.proofs.lemmas.Bool.Decides.{nat_tests}
use Rattle.std.proofs.lemmas.Fmt.{decimal_nonempty, digits_decimal}
use Rattle.std.proofs.lemmas.List.Elements.{All-nil, All-cons, All-weaker}
use Rattle.std.proofs.lemmas.List.Sums.{AllPass-from_list_all}
use Rattle.hex.specs.Hex.{encode_with, encode_lower, lower_digits, IsBytes}
use Rattle.hex.proofs.HexLemmas.{length-encode_with}
use Rattle.call_texts.specs.Hex.{hex_text, no_bytes}
use Rattle.call_texts.specs.Numbers.{is_numeral}
use Rattle.call_texts.specs.Words.{is_plain, IsPlainWord}
use Rattle.call_texts.proofs.HexWords.{hex_text-filled}
use Rattle.call_texts.proofs.NumberWords.{digit_words}

pub decimal-numeral : (n : ℕ) → n < 2 ^ 64 → is_numeral (decimal n) ≡ true
decimal-numeral n small =
    let filled = decimal_nonempty n small in
    let some : nat_lt 0 (length (decimal n)) ≡ true = grind (arith, nat_tests) in
    rw (some, digits_decimal digit_words n small) refl

digit_plain : (byte : ℕ) → is_ascii_digit byte ≡ true → is_plain byte ≡ true
unfolding is_plain
digit_plain byte pass = rw pass refl

pub number_word : (n : ℕ) → n < 2 ^ 64 → IsPlainWord (decimal n)
number_word n small =
    record {
      filled = decimal_nonempty n small;
      plain = All-weaker (λ byte. is_ascii_digit byte ≡ true) (λ byte. is_plain byte ≡ true) digit_plain (decimal n) (AllPass-from_list_all is_ascii_digit (decimal n) (digits_decimal digit_words n small));
    }

pub small_word : (n : ℕ) → n < 2 ^ 32 → IsPlainWord (decimal n)
small_word n small = number_word n (omega arith)

pub fixed_word : (word : List ℕ) → 0 < length word → list_all is_plain word ≡ true → IsPlainWord word
fixed_word word filled pass = record { filled = filled; plain = AllPass-from_list_all is_plain word pass }

-- bytes in hex: `-`, or two digits for each
digit-plain : AllPass is_plain lower_digits
unfolding is_plain
digit-plain = AllPass-from_list_all is_plain lower_digits refl

digits-plain : (bytes : List ℕ) → IsBytes bytes → AllPass is_plain (encode_lower bytes)
unfolding encode_with
digits-plain [] small = All-nil (λ byte. is_plain byte ≡ true)
digits-plain (byte ∷ bytes) small =
    let fits : byte < 256 = small 0 in
    let high = slice_index lower_digits (byte / 16) in
    let low = slice_index lower_digits (byte % 16) in
    All-cons (λ b. is_plain b ≡ true) high (low ∷ encode_lower bytes) (digit-plain (byte / 16) 0 (omega arith))
    (All-cons (λ b. is_plain b ≡ true) low (encode_lower bytes) (digit-plain (byte % 16) 0 (omega arith)) (digits-plain bytes (λ k. small (suc k))))

pub hex_word : (bytes : List ℕ) → IsBytes bytes → IsPlainWord (hex_text bytes)
unfolding hex_text is_plain
hex_word [] small = fixed_word no_bytes (lit< tt) refl
hex_word (byte ∷ bytes) small =
    let filled : (length (byte ∷ bytes) == 0) ≡ false = grind (arith, nat_tests) in
    rw (hex_text-filled (byte ∷ bytes) filled) (record {
      filled = omega (arith, length-encode_with lower_digits (byte ∷ bytes));
      plain = digits-plain (byte ∷ bytes) small;
    })
