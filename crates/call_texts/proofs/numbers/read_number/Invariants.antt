use Rattle.std.proofs.Common.{◌≡◌, ◌^◌, ◌<◌, true, take, All}
use Rattle.std.specs.Char.{is_ascii_digit}
use Rattle.std.specs.Str.Parse.{digits_value}
use Rattle.call_texts.proofs.numbers.read_number.Given as goal

abbrev pub invariant-loop-byte : goal.invariant-loop-byte
invariant-loop-byte l = (All (λ b. is_ascii_digit b ≡ true) (take l.byte-index l.word)) × (l.number ≡ digits_value 10 (take l.byte-index l.word)) × (l.number < 2 ^ 64)
