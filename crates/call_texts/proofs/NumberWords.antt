-- Words of decimal digits, and what `parse` reads of them.
use Rattle.std.proofs.Common.{◌≡◌, ℕ, ◌+◌, ◌-◌, ◌*◌, ◌^◌, ◌<◌, ◌≤◌, true, false, nat_lt, nat_le, List, [], ◌∷◌, ◌++◌, length, take, drop, get_or, Some, None, take-append-drop, refl, sym, ap, ◌∙◌, arith, rules}
use Rattle.std.specs.Char.{is_ascii_digit}
use Rattle.std.specs.Char.{digit_value}
use Rattle.std.specs.List.{AllPass, list_all}
use Rattle.std.specs.Str.Parse.{digits_value, digits_value_after}
use Rattle.std.proofs.lemmas.Bool.{and_right}
use Rattle.std.proofs.lemmas.Int.Digits.{digits_value_more}
use Rattle.std.proofs.lemmas.List.Sums.{list_all-from_AllPass}
use Rattle.std.proofs.lemmas.Str.Parse.{IsNumeralModel, numerals_by_value}
use Rattle.std.specs.Fmt.{decimal}
use Rattle.std.proofs.lemmas.Fmt.{decimal_nonempty, digits_decimal, digits_value-decimal}
use Rattle.std.proofs.lemmas.Bool.Decides.{nat_tests}
use Rattle.call_texts.specs.Numbers.{is_numeral, number_up_to, number_of, value_of}

-- the words of digits are those that std's lemmas speak of
pub digit_words : IsNumeralModel (λ ds. list_all is_ascii_digit ds ≡ true) (digits_value 10)
digit_words = numerals_by_value _ (search rules)

grows : (n : ℕ) (word : List ℕ) → n ≤ digits_value_after 10 n word
grows n [] = omega arith
grows n (c ∷ word) = omega (arith, grows (n * 10 + digit_value c) word)

value-behind : (n : ℕ) (word other : List ℕ) → digits_value_after 10 n (word ++ other) ≡ digits_value_after 10 (digits_value_after 10 n word) other
value-behind n [] other = refl
value-behind n (c ∷ word) other = value-behind (n * 10 + digit_value c) word other

-- the digits in front are worth no more than all of them
pub prefix-value : (word : List ℕ) (i : ℕ) → digits_value 10 (take i word) ≤ digits_value 10 word
prefix-value word i =
    let whole = ap (digits_value 10) (sym (take-append-drop i word)) ∙ value-behind 0 (take i word) (drop i word) in
    rw whole (grows _ (drop i word))

-- one digit more
pub next-value : (word : List ℕ) (i n : ℕ) → i < length word → is_ascii_digit (get_or word i 0) ≡ true → n ≡ digits_value 10 (take i word)
    → digits_value 10 (take (i + 1) word) ≡ n * 10 + (get_or word i 0 - 48)
next-value word i n inside digit value =
    let worth : digit_value (get_or word i 0) ≡ get_or word i 0 - 48 = grind (arith, nat_tests) in
    rw (digits_value_more 10 word i inside, worth, value)

-- a number that is too large in front is too large as a whole
pub number_of-large : (word : List ℕ) (i : ℕ) → 2 ^ 64 ≤ digits_value 10 (take i word) → number_of word ≡ None
unfolding number_of
number_of-large word i large =
    let whole = prefix-value word i in
    let over : nat_le (digits_value 10 word) 18446744073709551615 ≡ false = grind (arith, nat_tests) in
    rw (and_right (is_numeral word) _ over) refl

-- a numeral within a limit is read
number_up_to-numeral : (limit n : ℕ) (word : List ℕ) → list_all is_ascii_digit word ≡ true → 0 < length word → digits_value 10 word ≡ n → n ≤ limit → number_up_to limit word ≡ Some n
number_up_to-numeral limit n word digits filled value within =
    let some : nat_lt 0 (length word) ≡ true = grind (arith, nat_tests) in
    let low : nat_le n limit ≡ true = grind (arith, nat_tests) in
    rw (value, digits, some, low) refl

-- digits alone, some of them, are a number
pub number_of-numeral : (word : List ℕ) (n : ℕ) → AllPass is_ascii_digit word → 0 < length word → n ≡ digits_value 10 word → n < 2 ^ 64 → Some n ≡ number_of word
unfolding number_of
number_of-numeral word n digits filled value within =
    sym (number_up_to-numeral 18446744073709551615 n word (list_all-from_AllPass is_ascii_digit word digits) filled (sym value) (omega arith))

pub number_of-decimal : (n : ℕ) → n < 2 ^ 64 → number_of (decimal n) ≡ Some n
unfolding number_of
number_of-decimal n h =
    number_up_to-numeral 18446744073709551615 n (decimal n) (digits_decimal digit_words n h) (decimal_nonempty n h) (digits_value-decimal digit_words n h) (omega arith)

pub value_of-decimal : (n : ℕ) → n < 2 ^ 32 → value_of (decimal n) ≡ Some n
unfolding value_of
value_of-decimal n h =
    number_up_to-numeral 4294967295 n (decimal n) (digits_decimal digit_words n (omega arith)) (decimal_nonempty n (omega arith)) (digits_value-decimal digit_words n (omega arith)) (omega arith)
