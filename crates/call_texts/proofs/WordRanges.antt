-- The numbers and bytes that words spell are in range.
use Rattle.std.proofs.Common.{◌≡◌, ℕ, ◌^◌, ◌<◌, ◌≤◌, Bool, true, false, cond, ◌&&◌, ◌==◌, nat_le, List, [], length, Some, None, Result, Ok, Err, refl, subst, arith}
use Rattle.std.specs.Result.{result_ok}
use Rattle.std.specs.Str.{bytes_eq}
use Rattle.std.specs.Str.Parse.{digits_value}
use Rattle.std.proofs.lemmas.Bool.Decides.{nat_tests}
use Rattle.std.proofs.lemmas.Option.{cond_some, same_Some, none-some}
use Rattle.hex.specs.Hex.{decode_of, IsBytes}
use Rattle.hex.specs.declared.error.FromHexError.{FromHexError}
use Rattle.hex.proofs.HexLemmas.{decode_of-ok}
use Rattle.call_texts.specs.Hex.{no_bytes, bytes_of}
use Rattle.call_texts.specs.Numbers.{number_up_to, is_numeral, number_of, value_of}

number_up_to-range : (limit : ℕ) (word : List ℕ) (n : ℕ) → number_up_to limit word ≡ Some n → n ≤ limit
number_up_to-range limit word n is =
    let found = cond_some (is_numeral word && nat_le (digits_value 10 word) limit) (digits_value 10 word) n is in
    let within : digits_value 10 word ≤ limit = grind (arith, nat_tests, found.0) in
    omega (arith, within, found.1)

pub number_of-range : (word : List ℕ) (n : ℕ) → number_of word ≡ Some n → n < 2 ^ 64
unfolding number_of
number_of-range word n is = omega (arith, number_up_to-range 18446744073709551615 word n is)

pub value_of-range : (word : List ℕ) (n : ℕ) → value_of word ≡ Some n → n < 2 ^ 32
unfolding value_of
value_of-range word n is = omega (arith, number_up_to-range 4294967295 word n is)

no_bytes-range : IsBytes []
no_bytes-range i = omega arith

found-range : (word : List ℕ) (b c : Bool) (r : Result (List ℕ) FromHexError) (bytes : List ℕ) → decode_of word ≡ r
    → cond b (Some []) (cond c None (result_ok r)) ≡ Some bytes → IsBytes bytes
found-range word true c r bytes read is = subst (λ (found : List ℕ). IsBytes found) (same_Some [] bytes is) no_bytes-range
found-range word false true r bytes read is = absurd (none-some bytes is)
found-range word false false (Ok found) bytes read is =
    subst (λ (some : List ℕ). IsBytes some) (same_Some found bytes is) (decode_of-ok word found read).3
found-range word false false (Err fault) bytes read is = absurd (none-some bytes is)

pub bytes_of-range : (word bytes : List ℕ) → bytes_of word ≡ Some bytes → IsBytes bytes
unfolding bytes_of
bytes_of-range word bytes is = found-range word (bytes_eq word no_bytes) (length word == 0) (decode_of word) bytes refl is
