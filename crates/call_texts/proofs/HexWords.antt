-- Bytes in hex, read back.
use Rattle.std.proofs.Common.{◌≡◌, ℕ, ◌+◌, ◌*◌, Bool, true, false, cond, ◌==◌, List, [], ◌∷◌, length, Some, None, Result, Ok, Decides, refl, ap, ◌∙◌, arith}
use Rattle.std.specs.Result.{result_ok}
use Rattle.std.specs.Str.{bytes_eq}
use Rattle.std.proofs.lemmas.Bool.Decides.{nat_tests}
use Rattle.std.proofs.lemmas.Slice.Eq.{bytes_eq-Decides}
use Rattle.hex.specs.Hex.{decode_of, encode_lower, lower_digits, IsBytes}
use Rattle.hex.specs.declared.error.FromHexError.{FromHexError}
use Rattle.hex.proofs.HexLemmas.{decode_of-encode_lower, length-encode_with}
use Rattle.call_texts.specs.Hex.{no_bytes, bytes_of, hex_text}

-- a test that decides what does not hold fails
pub fails : (b : Bool) (P : Type 0) → Decides b P → (P → ⊥) → b ≡ false
fails true P decides never = absurd (never (decides.0 refl))
fails false P decides never = refl

-- behind two tests that fail stands what was decoded
decoded : (b c : Bool) (r : Result (List ℕ) FromHexError) (bytes : List ℕ) → b ≡ false → c ≡ false → r ≡ Ok bytes
    → cond b (Some []) (cond c None (result_ok r)) ≡ Some bytes
decoded b c r bytes first second read = rw (first, second, read) refl

-- a text of more than one digit that decodes is read
bytes_of-decoded : (text bytes : List ℕ) (n : ℕ) → length text ≡ 2 * (n + 1) → decode_of text ≡ Ok bytes → bytes_of text ≡ Some bytes
unfolding bytes_of
bytes_of-decoded text bytes n long read =
    let other : bytes_eq text no_bytes ≡ false = fails (bytes_eq text no_bytes) (text ≡ no_bytes) (bytes_eq-Decides text no_bytes) (λ e. omega (arith, ap length e)) in
    let filled : (length text == 0) ≡ false = grind (arith, nat_tests) in
    decoded (bytes_eq text no_bytes) (length text == 0) (decode_of text) bytes other filled read

bytes_of-no_bytes : bytes_of (hex_text []) ≡ Some []
unfolding bytes_of hex_text
bytes_of-no_bytes = refl

pub hex_text-filled : (bytes : List ℕ) → (length bytes == 0) ≡ false → hex_text bytes ≡ encode_lower bytes
unfolding hex_text
hex_text-filled bytes filled = rw filled refl

pub bytes_of-hex_text : (bytes : List ℕ) → IsBytes bytes → bytes_of (hex_text bytes) ≡ Some bytes
bytes_of-hex_text [] h = bytes_of-no_bytes
bytes_of-hex_text (byte ∷ bytes) h =
    let filled : (length (byte ∷ bytes) == 0) ≡ false = grind (arith, nat_tests) in
    ap bytes_of (hex_text-filled (byte ∷ bytes) filled)
    ∙ bytes_of-decoded (encode_lower (byte ∷ bytes)) (byte ∷ bytes) (length bytes) (omega (arith, length-encode_with lower_digits (byte ∷ bytes))) (decode_of-encode_lower (byte ∷ bytes) h)
